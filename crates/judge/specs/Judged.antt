-- What the judge answers, each case by its number and values.
use Rattle.forest.specs.Refusals.{number_of, told}
use Rattle.std.specs.Prelude.{◌≡◌, ℕ, ◌<◌, ◌≤◌, ◌⊎◌, List, Ok, Err, Result}
use Rattle.forest.specs.declared.fault.Fault.{Fault}
use Rattle.rows.specs.Sheet.{Sheet}
use Rattle.measure.specs.Measure.{Costs}
use Rattle.loss.specs.declared.verdict.Verdict.{Verdict}
use Rattle.loss.specs.declared.verdict.Verdict.TheVariants.{AllAdmitted, Lost}
use Rattle.judge.specs.Judging.{MoreSorts, AllKept, Told}

-- A working list has 1 to 1,024 elements.
abbrev pub Fit : ℕ → Type 0
Fit n = (0 < n) × (n ≤ 1024)

-- Over a working list of n elements: the answer, and what the show buffer holds before and after.
abbrev pub Judged : {C : Type 0} → Costs C → (old new : Sheet) → (n : ℕ) → Result (Verdict C) Fault → (show show' : List ℕ) → Type 0
Judged costs old new n (Ok AllAdmitted) show show' = Fit n × (MoreSorts old new n → ⊥) × AllKept old new × (show' ≡ show)
Judged costs old new n (Ok (Lost l)) show show' = Fit n × (MoreSorts old new n → ⊥) × Told costs old new l.cost l.length l.shown show show'
Judged costs old new n (Err f) show show' =
    (((told f ≡ (20, 0)) × (Fit n → ⊥)) ⊎ ((told f ≡ (21, 0)) × Fit n × MoreSorts old new n)) × (show' ≡ show)

-- The working list stays as it was where refusal 20 is due.
abbrev pub Unbegun : {C L : Type 0} → Result (Verdict C) Fault → (list list' : L) → Type 0
Unbegun (Ok v) list list' = Unit {0}
Unbegun (Err f) list list' = number_of f.refusal ≡ 20 → list' ≡ list
