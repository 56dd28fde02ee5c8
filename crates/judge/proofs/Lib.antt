mod Naming
mod Sheets
mod Telling
