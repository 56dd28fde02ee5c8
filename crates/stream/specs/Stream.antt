-- Streams: what stands at the front of an input.
use Rattle.forest.specs.Refusals.{number_of}
use Rattle.std.specs.Prelude.{◌≡◌, ℕ, ◌+◌, ◌*◌, ◌<◌, List, [], ◌∷◌, ◌++◌, length, Some, None, Ok, Err, Option, Result}
use Rattle.forest.specs.declared.fault.Fault.{Fault}
use Rattle.stream.specs.declared.entry.Taken.{Taken}
use Rattle.stream.specs.declared.entry.Entry.{Entry}
use Rattle.stream.specs.declared.entry.Entry.TheVariants.{Sheet, Record}

-- What an entry holds.
pub data Kind : Type 0 where
  a_sheet : Kind
  a_record : Kind

-- The two bytes that an entry of the kind begins with.
abbrev pub Mark : Kind → ℕ → ℕ → Type 0
Mark a_sheet a b = (a ≡ 0x54) × (b ≡ 0x53)
Mark a_record a b = (a ≡ 0x52) × (b ≡ 0x43)

-- What may be answered of an input.
pub data Answer : Type 0 where
  at_end : Answer
  entry : (kind : Kind) (body rest : List ℕ) → Answer
  refused : (number place : ℕ) → Answer

-- At the front of the input stands what the answer says.
pub data Front : List ℕ → Answer → Type 0 where
  nothing : Front [] at_end
  whole : (k : Kind) {a b h l : ℕ} {body rest : List ℕ} → Mark k a b → length body ≡ h * 256 + l
      → Front (a ∷ (b ∷ (h ∷ (l ∷ (body ++ rest))))) (entry k body rest)
  in_mark : {a : ℕ} → Front (a ∷ []) (refused 1 0)
  in_length : (k : Kind) {a b : ℕ} {s : List ℕ} → Mark k a b → length s < 2 → Front (a ∷ (b ∷ s)) (refused 1 0)
  in_body : (k : Kind) {a b h l : ℕ} {s : List ℕ} → Mark k a b → length s < h * 256 + l
      → Front (a ∷ (b ∷ (h ∷ (l ∷ s)))) (refused 1 0)
  no_mark : {a b : ℕ} {s : List ℕ} → ((k : Kind) → Mark k a b → ⊥) → Front (a ∷ (b ∷ s)) (refused 2 0)

-- Every input has just one answer.
abbrev pub JustOneFront : Type 0
JustOneFront = (s : List ℕ) → (x : Answer) × Front s x × ((y : Answer) → Front s y → y ≡ x)

-- An entry's kind and its body.
abbrev pub kind_of : Entry → Kind
kind_of (Sheet b) = a_sheet
kind_of (Record b) = a_record

abbrev pub body_of : Entry → List ℕ
body_of (Sheet b) = b.now
body_of (Record b) = b.now

-- The answer that a result of the call stands for.
abbrev pub answer : Result (Option Taken) Fault → Answer
answer (Ok None) = at_end
answer (Ok (Some t)) = entry (kind_of t.entry) (body_of t.entry) t.rest.now
answer (Err f) = refused (number_of f.refusal) f.place
