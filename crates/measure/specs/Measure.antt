-- Measures: an order of costs, the costs of the three forms of a forest, and the laws that a measure keeps.
use Rattle.std.specs.Prelude.{◌⊎◌, ℕ, length}
use Rattle.forest.specs.Forest.{Forest, nil, text, node}

-- An order: which values it ranks, and of which two the first is at most the second.
pub record Ranking (C : Type 0) : Type 1 where
  pub ranks : C → Type 0
  pub le : C → C → Type 0

-- Of two ranked values one is at most the other, and 'at most' carries over.
pub record Ordered {C : Type 0} (good : C → Type 0) (le : C → C → Type 0) : Type 0 where
  pub total : (a b : C) → good a → good b → le a b ⊎ le b a
  pub trans : (a b c : C) → good a → good b → good c → le a b → le b c → le a c

-- What the empty forest costs, a text of so many bytes before a rest, a node with its content before a rest.
pub record Rules (C : Type 0) : Type 0 where
  pub of_nil : C
  pub of_text : ℕ → C → C
  pub of_node : C → C → C

-- A measure: which values are costs, its order of them, and the three costs.
pub record Costs (C : Type 0) : Type 1 where
  pub good : C → Type 0
  pub le : C → C → Type 0
  pub rules : Rules C

-- The cost of a forest, from its last tree backwards. Labels and the bytes of a text do not enter.
abbrev pub cost_of : {C : Type 0} → Rules C → Forest → C
cost_of m nil = m.of_nil
cost_of m (text bytes rest) = m.of_text (length bytes) (cost_of m rest)
cost_of m (node label content rest) = m.of_node (cost_of m content) (cost_of m rest)

-- The laws of a measure, beside those of its order.
pub record Lawful {C : Type 0} (good : C → Type 0) (le : C → C → Type 0) (m : Rules C) : Type 0 where
  -- Given costs, each of the three is a cost.
  pub good_nil : good m.of_nil
  pub good_text : (n : ℕ) (r : C) → good r → good (m.of_text n r)
  pub good_node : (c r : C) → good c → good r → good (m.of_node c r)
  -- A text costs no less than an empty text before the same rest.
  pub least_text : (n : ℕ) (r : C) → good r → le (m.of_text 0 r) (m.of_text n r)
  -- A whole costs no less than its rest, and no less than the content of the node it begins with.
  pub text_rest : (n : ℕ) (r : C) → good r → le r (m.of_text n r)
  pub node_rest : (c r : C) → good c → good r → le r (m.of_node c r)
  pub node_content : (c r : C) → good c → good r → le c (m.of_node c r)
  -- A content or rest that costs no more gives a whole that costs no more.
  pub mono_text : (n : ℕ) (r s : C) → good r → good s → le r s → le (m.of_text n r) (m.of_text n s)
  pub mono_node : (c d r s : C) → good c → good d → good r → good s → le c d → le r s → le (m.of_node c r) (m.of_node d s)

-- The measure's order and the order below it say the same of any two costs.
pub record Tied {C : Type 0} (o : Ranking C) (m : Costs C) : Type 0 where
  pub down : (a b : C) → m.good a → m.good b → m.le a b → o.le a b
  pub up : (a b : C) → m.good a → m.good b → o.le a b → m.le a b
