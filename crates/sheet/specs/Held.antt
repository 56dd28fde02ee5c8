-- What sound sheets hold.
use Rattle.forest.specs.Refusals.{number_of}
use Rattle.std.specs.Prelude.{◌≡◌, List, [], ◌∷◌, Ok, Err, Result}
use Rattle.rows.specs.Sheet.{Sheet}
use Rattle.rows.specs.declared.row.Row.TheVariants.{Empty as empty, Def as def}
use Rattle.rows.specs.declared.raw.RawRow.{RawRow}
use Rattle.rows.specs.Checking.{Due, Passes}
use Rattle.rows.specs.Checked.{rows_in}
use Rattle.forest.specs.declared.fault.Fault.{Fault}
use Rattle.sheet.specs.declared.sound.SoundSheet.{SoundSheet}

-- The rows of a sound sheet.
abbrev pub rows_of : SoundSheet → Sheet
rows_of s = rows_in s.checked

-- The sheet that admits only the empty forest.
abbrev pub only_empty : Sheet
only_empty = empty ∷ (def 0 ∷ [])

-- The answer to checking a read sheet: the rows of the sheet held are now those that were read, and sound;
-- or a refusal is due, which the fault tells by number and place, and the sheet held is as it was.
abbrev pub Checking : List RawRow → (before after : SoundSheet) → Result (Unit {0}) Fault → Type 0
Checking raws before after (Ok done) = Passes raws (rows_of after)
Checking raws before after (Err fault) = Due raws (number_of fault.refusal) fault.place × (after ≡ before)
