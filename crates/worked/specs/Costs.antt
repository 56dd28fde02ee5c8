-- Costs of records, costs at the ceiling, the order of fillings, and measures that break one law each.
use Rattle.std.specs.Prelude.{◌≡◌, ℕ, ◌+◌, ◌<◌, ◌≤◌, cond, ◌==◌}
use Rattle.measure.specs.Measure.{Ordered, Rules, Lawful}
use Rattle.measure.specs.Lengths.{length_rules}
use Rattle.measure.specs.Fillings.{filling_rules, no_fuller}
use Rattle.worked.specs.Examples.{Costs, two_texts, both}
use Rattle.worked.specs.Standings.{n1_text}

-- By the two measures, of records with more than one tree.
pub record Priced : Type 0 where
  pub length_of_two_texts : Costs length_rules two_texts 4
  pub filling_of_two_texts : Costs filling_rules two_texts (2, 4)
  pub length_of_both : Costs length_rules both 16
  pub filling_of_both : Costs filling_rules both (2, 16)
  pub filling_of_node : Costs filling_rules n1_text (1, 6)

-- No number goes above 1,000,000,000; once the texts reach it, both numbers are it.
pub record AtCeiling : Type 0 where
  pub text_below : length_rules.of_text 7 999999990 ≡ 999999999
  pub text_at : length_rules.of_text 8 999999990 ≡ 1000000000
  pub text_above : length_rules.of_text 9 999999990 ≡ 1000000000
  pub node_below : length_rules.of_node 900000000 99999995 ≡ 999999999
  pub node_at : length_rules.of_node 900000000 99999996 ≡ 1000000000
  pub node_above : length_rules.of_node 900000000 99999997 ≡ 1000000000
  pub filling_below : filling_rules.of_text 7 (999999998, 999999990) ≡ (999999999, 999999999)
  pub filling_length_above : filling_rules.of_text 9 (999999998, 999999990) ≡ (999999999, 1000000000)
  pub filling_texts_at : filling_rules.of_text 0 (999999999, 5) ≡ (1000000000, 1000000000)
  pub filling_node_below : filling_rules.of_node (900000000, 20) (99999999, 10) ≡ (999999999, 34)
  pub filling_node_at : filling_rules.of_node (900000000, 20) (100000000, 10) ≡ (1000000000, 1000000000)

-- The texts decide, and the length breaks ties.
pub record TextsFirst : Type 0 where
  pub fewer_texts : no_fuller (1, 100) (2, 3)
  pub more_texts : no_fuller (2, 3) (1, 100) → ⊥
  pub shorter : no_fuller (2, 3) (2, 4)
  pub longer : no_fuller (2, 4) (2, 3) → ⊥
  pub same : no_fuller (2, 3) (2, 3)

-- Every number is a cost, and the order is that of numbers, unless said otherwise.
abbrev pub All : ℕ → Type 0
All c = Unit {0}

abbrev pub AtMost : ℕ → ℕ → Type 0
AtMost a b = a ≤ b

-- One text more, and both counts added: lawful.
abbrev pub counting : Rules ℕ
counting = record { of_nil = 0; of_text = λ n r. r + 1; of_node = λ c r. c + r }

-- An order, and measures, that keep all laws but one.
pub record BreaksALaw : Type 0 where
  pub keeps_all : Ordered All AtMost × Lawful All AtMost counting
  pub not_total : Ordered All (λ a b. a ≡ b) → ⊥
  pub not_transitive : Ordered All (λ a b. a ≤ b + 1) → ⊥
  pub nil_no_cost : Lawful (λ c. 0 < c) AtMost counting → ⊥
  pub text_no_cost : Lawful (λ c. c ≡ 0) AtMost counting → ⊥
  pub node_no_cost : Lawful (λ c. c ≤ 1) AtMost (record { of_nil = 0; of_text = λ n r. 1; of_node = λ c r. 2 }) → ⊥
  pub empty_text_dearer : Lawful All AtMost (record { of_nil = 0; of_text = λ n r. cond (n == 0) (r + 1) r; of_node = λ c r. c + r }) → ⊥
  pub text_below_rest : Lawful All AtMost (record { of_nil = 0; of_text = λ n r. 0; of_node = λ c r. c + r }) → ⊥
  pub node_below_rest : Lawful All AtMost (record { of_nil = 0; of_text = λ n r. r + 1; of_node = λ c r. c }) → ⊥
  pub node_below_content : Lawful All AtMost (record { of_nil = 0; of_text = λ n r. r + 1; of_node = λ c r. r }) → ⊥
  pub dearer_text_for_less : Lawful All AtMost (record { of_nil = 0; of_text = λ n r. cond (r == 0) 5 r; of_node = λ c r. c + r }) → ⊥
  pub dearer_node_for_less : Lawful All AtMost (record { of_nil = 0; of_text = λ n r. r + 1; of_node = λ c r. cond (c + r == 0) 5 (c + r) }) → ⊥
