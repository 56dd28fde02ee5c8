-- The filling of a forest: how many texts it holds, and then how long it is.
use Rattle.std.specs.Prelude.{◌≡◌, ◌⊎◌, cond, ℕ, ◌+◌, ◌≤◌, ◌<◌, min, leb}
use Rattle.measure.specs.Measure.{Ranking, Costs, Rules}
use Rattle.measure.specs.Lengths.{ceiling}

-- The texts decide, and the length breaks ties.
abbrev pub no_fuller : ℕ × ℕ → ℕ × ℕ → Type 0
no_fuller a b = (a.0 < b.0) ⊎ ((a.0 ≡ b.0) × (a.1 ≤ b.1))

abbrev pub filling_ranking : Ranking (ℕ × ℕ)
filling_ranking = record { ranks = λ _. Unit {0}; le = no_fuller }

-- Once the texts reach the ceiling, both numbers are the ceiling.
abbrev pub capped : ℕ → ℕ → ℕ × ℕ
capped texts size = cond (leb ceiling texts) (ceiling, ceiling) (texts, min size ceiling)

-- No number is above the ceiling, and with texts at the ceiling so is the length.
abbrev pub is_filling : ℕ × ℕ → Type 0
is_filling c = (c.0 ≤ ceiling) × (c.1 ≤ ceiling) × (c.0 ≡ ceiling → c.1 ≡ ceiling)

abbrev pub filling_rules : Rules (ℕ × ℕ)
filling_rules = record {
  of_nil = (0, 0);
  of_text = λ n rest. capped (1 + rest.0) (2 + n + rest.1);
  of_node = λ content rest. capped (content.0 + rest.0) (4 + content.1 + rest.1);
}

abbrev pub filling_costs : Costs (ℕ × ℕ)
filling_costs = record { good = is_filling; le = no_fuller; rules = filling_rules }
