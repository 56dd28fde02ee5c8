-- The answers of the calls that read, case by case.
use Rattle.std.specs.Prelude.{◌≡◌, ℕ, ◌+◌, ◌≤◌, List, [], ◌∷◌, length, drop, Some, None, Ok, Err, Option, Result}
use Rattle.forest.specs.declared.event.Event.{Event}
use Rattle.forest.specs.declared.event.Event.TheVariants.{Opening, Text, Closing}
use Rattle.forest.specs.declared.fault.Fault.{Fault}
use Rattle.forest.specs.Refusals.{number_of}
use Rattle.forest.specs.Forest.{Forest, Label}
use Rattle.forest.specs.Forest as forests
use Rattle.forest.specs.Reading.{Token, opening, chars, closing, written, all_written, StandsFor, Due}

-- The answer to reading a body: it stands for a record, or a refusal is due, which the fault tells by number and place.
abbrev pub Reading : {A : Type 0} → List ℕ → Result A Fault → Type 0
Reading body (Ok read) = (f : Forest) × StandsFor body f
Reading body (Err fault) = Due body (number_of fault.refusal) fault.place

-- The event shows the token that begins at the offset. The bytes of a text begin two bytes later.
abbrev pub Shows : Event → Token → ℕ → Type 0
Shows (Opening label) t at = t ≡ opening label
Shows (Text bytes offset) t at = (t ≡ chars bytes.now) × (offset ≡ at + 2)
Shows Closing t at = t ≡ closing

-- Labels are labels and texts are texts.
abbrev pub Tokens : List Token → Type 0
Tokens [] = Unit {0}
Tokens (opening l ∷ ts) = Label l × Tokens ts
Tokens (chars t ∷ ts) = forests.Text t × Tokens ts
Tokens (closing ∷ ts) = Tokens ts

-- The tokens that are still to come where the body was handed out up to the offset.
pub record ToCome (body : List ℕ) (at : ℕ) (ts : List Token) : Type 0 where
  pub inside : at ≤ length body
  pub tokens : Tokens ts
  pub are_written : drop at body ≡ all_written ts

-- What is handed out next, and up to where the body is handed out then: the first token that is still to come;
-- nothing where none is.
abbrev pub Handed : List ℕ → ℕ → List Token → Option Event → ℕ → Type 0
Handed body at [] None next = next ≡ at
Handed body at [] (Some event) next = ⊥
Handed body at (t ∷ ts) None next = ⊥
Handed body at (t ∷ ts) (Some event) next = Shows event t at × (next ≡ at + length (written t)) × ToCome body next ts
