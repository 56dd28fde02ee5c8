-- The newest edition, as a register holds it.
use Rattle.std.specs.Prelude.{◌≡◌, List, Some, None}
use Rattle.std.specs.declared.option.Option as std
use Rattle.std.proofs.Math.Option.{Option, none, some}
use Rattle.rows.specs.Sheet.{Sheet}
use Rattle.sheet.specs.declared.sound.SoundSheet.{SoundSheet}
use Rattle.sheet.specs.Held.{rows_of}
use Rattle.law.specs.Calls.{newest}

-- The rows of the sheet, where there is one.
abbrev pub rows_held : std.Option SoundSheet → Option Sheet
rows_held None = none
rows_held (Some sheet) = some (rows_of sheet)

-- The sheet is that of the last edition, and there is none where there is no edition.
abbrev pub IsNewest : std.Option SoundSheet → List Sheet → Type 0
IsNewest sheet editions = newest editions ≡ rows_held sheet
