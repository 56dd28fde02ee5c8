-- What a judgement by sorts answers, each case by its number and values.
use Rattle.forest.specs.Refusals.{told}
use Rattle.std.specs.Prelude.{◌≡◌, ℕ, ◌<◌, ◌≤◌, min, Bool, ◌⊎◌, List, length, Ok, Err, Result}
use Rattle.forest.specs.declared.fault.Fault.{Fault}
use Rattle.forest.specs.Forest.{Forest, bytes_of}
use Rattle.measure.specs.Measure.{Costs, cost_of}
use Rattle.measure.specs.Lengths.{ceiling}
use Rattle.survey.specs.declared.types.Standings.{Standings}
use Rattle.survey.specs.Sorting.{Model}
use Rattle.survey.specs.Survey.{TooMany}
use Rattle.writer.specs.Shows.{Put}
use Rattle.loss.specs.Losing.{Sides}
use Rattle.loss.specs.declared.verdict.Verdict.{Verdict}
use Rattle.loss.specs.declared.verdict.Verdict.TheVariants.{AllAdmitted, Lost}

-- The most elements that a working list has.
abbrev pub most : ℕ
most = 1024

-- There are no n forests and one more, no two of one sort.
abbrev pub Few : Model → ℕ → Type 0
Few s n = (forest : ℕ → Forest) → ((i : ℕ) → i ≤ n → s.counts (forest i))
    → ((i j : ℕ) → i ≤ n → j ≤ n → (σ : Standings) → s.has (forest i) σ → s.has (forest j) σ → i ≡ j) → ⊥

-- A lost forest than which no lost forest costs less, its cost, its length up to the ceiling, and whether it is shown.
pub record CheapestLost {C : Type 0} (s : Model) (sides : Sides) (m : Costs C) (before after : List ℕ) (cost : C) (size : ℕ) (shown : Bool) : Type 0 where
  pub forest : Forest
  pub counted : s.counts forest
  pub is_lost : sides.lost forest
  pub least : (g : Forest) → s.counts g → sides.lost g → m.le (cost_of m.rules forest) (cost_of m.rules g)
  pub cost_is : cost ≡ cost_of m.rules forest
  pub size_is : size ≡ min (length (bytes_of forest)) ceiling
  pub put : Put forest before after shown

-- The answer, with what the show buffer held before and holds after it.
abbrev pub Answered : {C : Type 0} → Model → Sides → Costs C → (before after : List ℕ) → Verdict C → Type 0
Answered s sides m before after AllAdmitted = ((f : Forest) → s.counts f → sides.kept f) × (after ≡ before)
Answered s sides m before after (Lost l) = CheapestLost s sides m before after l.cost l.length l.shown

-- Refusal 20: a list of 0 or above 1,024 elements, which stays as it is. Refusal 21: more sorts than elements.
pub data RefusalDue {L : Type 0} (s : Model) (n : ℕ) (list list' : L) : ℕ × ℕ → Type 0 where
  no_list : (n ≡ 0) ⊎ (most < n) → list' ≡ list → RefusalDue s n list list' (20, 0)
  too_many : 0 < n → n ≤ most → TooMany s n → RefusalDue s n list list' (21, 0)

-- Where neither is due, the answer; the other way round, a refusal leaves the show buffer.
abbrev pub Judged : {C L : Type 0} → Model → Sides → Costs C → (n : ℕ) → (list list' : L) → (before after : List ℕ) → Result (Verdict C) Fault → Type 0
Judged s sides m n list list' before after (Ok v) = (0 < n) × (n ≤ most) × Few s n × Answered s sides m before after v
Judged s sides m n list list' before after (Err f) = RefusalDue s n list list' (told f) × (after ≡ before)
