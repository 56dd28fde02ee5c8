-- What a passed check gives.
use Rattle.std.specs.Prelude.{◌≡◌, ◌≤◌, List, length, take}
use Rattle.rows.specs.Sheet.{Sheet}
use Rattle.rows.specs.Raw.{RawRow}
use Rattle.rows.specs.Checking.{Passes}
use Rattle.rows.specs.Parts.{Numbers}
use Rattle.rows.specs.declared.read.ReadSheet.{ReadSheet}
use Rattle.rows.specs.declared.checked.CheckedRows.{CheckedRows}

-- The raw rows of a read sheet.
abbrev pub raws_of : ReadSheet → List RawRow
raws_of r = take r.count r.rows

-- The rows that were checked.
abbrev pub rows_in : CheckedRows → Sheet
rows_in c = take c.count c.rows

-- The raw rows are those of the sound sheet, and its places are numbered.
pub record Checked (raws : List RawRow) (c : CheckedRows) : Type 0 where
  pub short : c.count ≤ 128
  pub passes : Passes raws (rows_in c)
  pub numbered : Numbers (rows_in c) c.numbers
  pub long : length c.numbers ≡ 128
