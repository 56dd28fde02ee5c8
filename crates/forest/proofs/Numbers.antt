-- Refusals of one number are one.
use Rattle.std.proofs.Common.{◌≡◌, ◌==◌, ◌∙◌, ℕ, ap, cond, refl, sym}
use Rattle.forest.specs.Refusals.{number_of, fault, told}
use Rattle.forest.specs.declared.fault.Fault.{Fault}
use Rattle.forest.specs.declared.fault.Refusal.{Refusal}
use Rattle.forest.specs.declared.fault.Refusal.TheVariants.{EntryCutShort, NoMark, RecordTooLong, TreeCutShort, NoTree, LabelZero, Unbalanced, NestedTooDeep, SheetSize, NoRow, PartNotBelow, NotOnceAPart, NoDefinition, TooManyPlaces, ListSize, TooManySorts, EditionsFull, NoEdition, NotOfNewest, RecordsFull, NoRecord, BufferTooShort}

-- the refusal of a number, and the last where there is none
abbrev of_number : ℕ → Refusal
of_number n =
    cond (n == 1) EntryCutShort (
    cond (n == 2) NoMark (
    cond (n == 3) RecordTooLong (
    cond (n == 4) TreeCutShort (
    cond (n == 5) NoTree (
    cond (n == 6) LabelZero (
    cond (n == 7) Unbalanced (
    cond (n == 8) NestedTooDeep (
    cond (n == 9) SheetSize (
    cond (n == 10) NoRow (
    cond (n == 11) PartNotBelow (
    cond (n == 12) NotOnceAPart (
    cond (n == 13) NoDefinition (
    cond (n == 14) TooManyPlaces (
    cond (n == 20) ListSize (
    cond (n == 21) TooManySorts (
    cond (n == 30) EditionsFull (
    cond (n == 31) NoEdition (
    cond (n == 32) NotOfNewest (
    cond (n == 33) RecordsFull (
    cond (n == 34) NoRecord (
    BufferTooShort)))))))))))))))))))))

of_its_number : (r : Refusal) → of_number (number_of r) ≡ r
of_its_number EntryCutShort = refl
of_its_number NoMark = refl
of_its_number RecordTooLong = refl
of_its_number TreeCutShort = refl
of_its_number NoTree = refl
of_its_number LabelZero = refl
of_its_number Unbalanced = refl
of_its_number NestedTooDeep = refl
of_its_number SheetSize = refl
of_its_number NoRow = refl
of_its_number PartNotBelow = refl
of_its_number NotOnceAPart = refl
of_its_number NoDefinition = refl
of_its_number TooManyPlaces = refl
of_its_number ListSize = refl
of_its_number TooManySorts = refl
of_its_number EditionsFull = refl
of_its_number NoEdition = refl
of_its_number NotOfNewest = refl
of_its_number RecordsFull = refl
of_its_number NoRecord = refl
of_its_number BufferTooShort = refl

pub same_refusal : (r s : Refusal) → number_of r ≡ number_of s → r ≡ s
same_refusal r s e = sym (of_its_number r) ∙ (ap of_number e ∙ of_its_number s)

-- faults that tell the same are one
pub same_fault : (f g : Fault) → told f ≡ told g → f ≡ g
same_fault f g e = ap (λ (r : Refusal). fault r f.place) (same_refusal f.refusal g.refusal (ap (λ (p : ℕ × ℕ). p.0) e)) ∙ ap (λ (n : ℕ). fault g.refusal n) (ap (λ (p : ℕ × ℕ). p.1) e)
