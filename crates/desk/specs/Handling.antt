-- What becomes of the entry at the front of an input, by a register.
use Rattle.forest.specs.Refusals.{number_of}
use Rattle.std.specs.Prelude.{◌≡◌, ℕ, List, [], ◌∷◌, Ok, Err, codes, Result}
use Rattle.forest.specs.declared.fault.Fault.{Fault}
use Rattle.rows.specs.Checking as checking
use Rattle.rows.specs.Raw.{Body, laid}
use Rattle.rows.specs.declared.raw.RawRow.{RawRow}
use Rattle.rows.specs.Sheet.{Sheet}
use Rattle.measure.specs.Lengths.{length_costs}
use Rattle.law.specs.declared.Declined.{Declined}
use Rattle.law.specs.declared.Declined.TheVariants.{Refused, Loses}
use Rattle.law.specs.Calls.{Held, Lent, lent, Proposed, Filed}
use Rattle.register.specs.Holding.{held}
use Rattle.survey.specs.declared.types.Sort.{Sort}
use Rattle.stream.specs.declared.buffer.LineBuffer.{LineBuffer}
use Rattle.stream.specs.Line.{Field, word, number, loss_if, Says}
use Rattle.stream.specs.Stream as stream
use Rattle.stream.specs.Stream.{Kind, a_sheet, a_record, Front}
use Rattle.desk.specs.declared.entries.Desk.{Desk}
use Rattle.desk.specs.declared.progress.Progress.{Progress}
use Rattle.desk.specs.declared.progress.Progress.TheVariants.{Done, Stopped, More}

-- What a line says after the entry's number.
abbrev pub refusal : ℕ → ℕ → List Field
refusal n p = word (codes "refused") ∷ (number n ∷ (number p ∷ []))

abbrev pub of_filing : Result ℕ Fault → List Field
of_filing (Ok k) = word (codes "record") ∷ (number k ∷ [])
of_filing (Err f) = refusal (number_of f.refusal) f.place

-- A loss is told by its number, cost and length, and by its bytes at the front of the show buffer, if they are shown.
abbrev pub of_proposal : Result ℕ (Declined ℕ) → (show : List ℕ) → List Field
of_proposal (Ok k) show = word (codes "edition") ∷ (number k ∷ [])
of_proposal (Err (Refused f)) show = refusal (number_of f.refusal) f.place
of_proposal (Err (Loses l)) show =
    word (codes "refused") ∷ (number 36 ∷ (number l.cost ∷ (number l.length ∷ (loss_if l.shown l.length show ∷ []))))

-- What becomes of an entry of this kind and body while the register holds s: what its line says, what is held then, and
-- what is left of the lent list and buffer. A sheet is checked and proposed with the length measure, a record is filed.
pub data Outcome {L : Type 0} (s : Held) (given : Lent L) : Kind → (body : List ℕ) → List Field → (s' : Held) → (left : Lent L) → Type 0 where
  no_rows : {body : List ℕ} → (Body body → ⊥) → Outcome s given a_sheet body (refusal 9 0) s given
  not_sound : {raws : List RawRow} {body : List ℕ} {n p : ℕ} → body ≡ laid raws → Body body → checking.Due raws n p
      → Outcome s given a_sheet body (refusal n p) s given
  proposed : {raws : List RawRow} {body : List ℕ} {sheet : Sheet} {answer : Result ℕ (Declined ℕ)} {left : Lent L} {s' : Held}
      → body ≡ laid raws → Body body → checking.Passes raws sheet → Proposed length_costs s sheet given answer left s'
      → Outcome s given a_sheet body (of_proposal answer left.show) s' left
  filed : {body : List ℕ} {answer : Result ℕ Fault} {s' : Held} → Filed s body answer s'
      → Outcome s given a_record body (of_filing answer) s' given

-- How the reading of a stream goes on: it is over; it stops; or the rest of the input comes next.
pub data Ending : Type 0 where
  over : Ending
  stops : Ending
  goes_on : (rest : List ℕ) → Ending

abbrev pub ending : Progress → Ending
ending Done = over
ending Stopped = stops
ending (More rest) = goes_on rest.now

-- What becomes of the front of an input: at its end nothing is made or changed; refusal 1 or 2 makes its line and stops;
-- an entry makes its line, and the rest comes next.
pub data Handled {L : Type 0} (s : Held) (given : Lent L) (before : LineBuffer) (number : ℕ)
    : (input : List ℕ) → Ending → (s' : Held) → (left : Lent L) → (after : LineBuffer) → Type 0 where
  at_end : Handled s given before number [] over s given before
  refused : {input : List ℕ} {n p : ℕ} {after : LineBuffer} → Front input (stream.refused n p) → Says after number (refusal n p)
      → Handled s given before number input stops s given after
  told : {input body rest : List ℕ} {kind : Kind} {fs : List Field} {s' : Held} {left : Lent L} {after : LineBuffer}
      → Front input (stream.entry kind body rest) → Outcome s given kind body fs s' left → Says after number fs
      → Handled s given before number input (goes_on rest) s' left after

-- What a desk's register holds, and what the desk lends it.
abbrev pub holds : Desk → Held
holds d = held d.register.now

abbrev pub lends : Desk → Lent (Sort ℕ)
lends d = lent d.list.now d.show.now

-- The desk still has the references that it was made of.
abbrev pub SameReferences : Desk → Desk → Type 0
SameReferences d e = (e.register.ghost_name ≡ d.register.ghost_name) × (e.list.ghost_name ≡ d.list.ghost_name)
    × (e.show.ghost_name ≡ d.show.ghost_name) × (e.line.ghost_name ≡ d.line.ghost_name)
