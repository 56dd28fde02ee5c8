-- What the inner functions of a register promise. Nothing on this page is needed to read what its calls promise.
use Rattle.std.specs.Prelude.{◌≡◌, ℕ, ◌+◌, ◌<◌, ◌≤◌, List, [], ◌∷◌, length, Some, None, Result}
use Rattle.std.proofs.Math.Option.{Option, none, some}
use Rattle.std.specs.Borrow.{Bor}
use Rattle.std.specs.declared.option.Option as std
use Rattle.forest.specs.declared.fault.Fault.{Fault}
use Rattle.rows.specs.Sheet.{Sheet}
use Rattle.measure.specs.Measure.{Costs}
use Rattle.law.specs.declared.Declined.{Declined}
use Rattle.law.specs.Calls.{Kept, Held, Lent, Check, Decided, ThereIs, RecordOfNewest, free_rows, free_bytes, unless, reading, judging_checks, LeftAlone}

-- There is room for one more edition, or for one more record.
abbrev pub TakesEdition : Held → ℕ → Type 0
TakesEdition s n = (length s.editions < 16) × (n ≤ free_rows s)

abbrev pub TakesRecord : Held → ℕ → Type 0
TakesRecord s n = (length s.kept < 256) × (n ≤ free_bytes s)

-- The body stands for a record of the newest edition.
abbrev pub admission_checks : Option Sheet → List ℕ → List (Check Fault)
admission_checks x body = unless 31 (ThereIs x) ∷ (reading body ∷ (unless 32 (RecordOfNewest x body) ∷ []))

abbrev pub Admitting : Option Sheet → List ℕ → Result (Unit {0}) Fault → Type 0
Admitting x body answer = Decided (admission_checks x body) answer (λ _. Unit {0})

-- A record is kept where there is room for it.
abbrev pub Keeping : Held → List ℕ → Result ℕ Fault → Type 0
Keeping s body answer = Decided (unless 33 (TakesRecord s (length body)) ∷ []) answer (λ k. k ≡ length s.kept + 1)

-- The record that was asked for, where there is one.
abbrev pub Finding : Option Kept → std.Option (Bor (List ℕ) × ℕ) → Type 0
Finding o None = o ≡ none
Finding o (Some r) = o ≡ some (record { bytes = r.0.now; edition = r.1 })

-- A proposal is judged if there is an edition.
abbrev pub Judging : {C L : Type 0} → Costs C → Sheet → Lent L → Lent L → Option Sheet → Result (Unit {0}) (Declined C) → Type 0
Judging costs sheet given left x answer = Decided (judging_checks costs sheet given left x) answer (λ _. LeftAlone costs sheet given left x)
