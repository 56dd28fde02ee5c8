-- The answer to whether a record belongs to a sheet, and how the record is gone through.
use Rattle.forest.specs.Refusals.{number_of}
use Rattle.std.specs.Prelude.{ℕ, Bool, T, ◌↔◌, List, [], ◌∷◌, ◌++◌, Ok, Err, Result}
use Rattle.forest.specs.declared.fault.Fault.{Fault}
use Rattle.forest.specs.Forest.{Forest}
use Rattle.forest.specs.Reading.{Token, closing, walk, StandsFor, Due}
use Rattle.forest.specs.Events.{ToCome}
use Rattle.rows.specs.Sheet.{Sheet}
use Rattle.sheet.specs.Meaning.{OfSheet}
use Rattle.sheet.specs.Standing.{IsStanding}

-- The body stands for a forest, and the answer is yes exactly if that belongs to the sheet;
-- or a refusal of the body is due, which the fault tells by number and place.
abbrev pub Belonging : Sheet → List ℕ → Result Bool Fault → Type 0
Belonging s body (Ok answer) = (f : Forest) × StandsFor body f × (T answer ↔ OfSheet s f)
Belonging s body (Err fault) = Due body (number_of fault.refusal) fault.place

-- After a forest comes nothing, or the closing of the node whose content it is and then what comes after that.
pub data EndsWith : (behind after : List Token) → Type 0 where
  at_end : EndsWith [] []
  at_closing : {ts : List Token} → EndsWith (closing ∷ ts) ts

-- Up to the end of the forest whose tokens come first the events were taken, and the number is its standing.
abbrev pub GoneThrough : Sheet → List ℕ → (from to : ℕ) → ℕ → Type 0
GoneThrough s body from to m = (f : Forest) (behind after : List Token) → EndsWith behind after
    → ToCome body from (walk f ++ behind) → IsStanding s m f × ToCome body to after
