-- The length of a forest: how many bytes it is written with, up to a ceiling.
use Rattle.std.specs.Prelude.{◌≡◌, ℕ, ◌+◌, ◌≤◌, min, length}
use Rattle.forest.specs.Forest.{Forest, bytes_of}
use Rattle.measure.specs.Measure.{Ranking, Costs, Rules, cost_of}

-- No number that a cost has, and no told length, goes above it.
abbrev pub ceiling : ℕ
ceiling = 1000000000

abbrev pub length_ranking : Ranking ℕ
length_ranking = record { ranks = λ _. Unit {0}; le = λ a b. a ≤ b }

abbrev pub length_rules : Rules ℕ
length_rules = record {
  of_nil = 0;
  of_text = λ n rest. min (2 + n + rest) ceiling;
  of_node = λ content rest. min (4 + content + rest) ceiling;
}

abbrev pub length_costs : Costs ℕ
length_costs = record { good = λ c. c ≤ ceiling; le = λ a b. a ≤ b; rules = length_rules }

abbrev pub length_of : Forest → ℕ
length_of f = cost_of length_rules f

-- The length of a forest is the number of bytes it is written with, or the ceiling where there are more.
abbrev pub LengthCountsBytes : Type 0
LengthCountsBytes = (f : Forest) → length_of f ≡ min (length (bytes_of f)) ceiling
