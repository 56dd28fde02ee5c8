-- What the laws of a measure give of the cost of a forest, and of its own order.
use Rattle.std.proofs.Common.{length, inl, inr}
use Rattle.forest.specs.Forest.{Forest, nil, text, node}
use Rattle.measure.specs.Measure.{Ranking, Ordered, Costs, Rules, Lawful, Tied, cost_of}

module _ {C : Type 0} {good : C → Type 0} {le : C → C → Type 0} {m : Rules C} (laws : Lawful good le m) where
  pub cost_good : (f : Forest) → good (cost_of m f)
  cost_good nil = laws.good_nil
  cost_good (text bytes rest) = laws.good_text (length bytes) _ (cost_good rest)
  cost_good (node label content rest) = laws.good_node _ _ (cost_good content) (cost_good rest)

module _ {C : Type 0} (o : Ranking C) (m : Costs C) (ordered : Ordered o.ranks o.le) (ranked : (c : C) → m.good c → o.ranks c) (tied : Tied o m) where
  -- The measure's own order is one, on its costs.
  pub own_order : Ordered m.good m.le
  own_order = record {
    total = λ a b p q. elim (ordered.total a b (ranked a p) (ranked b q)) [ inl h ↦ inl (tied.up a b p q h) | inr h ↦ inr (tied.up b a q p h) ];
    trans = λ a b c p q r x y. tied.up a c p r (ordered.trans a b c (ranked a p) (ranked b q) (ranked c r) (tied.down a b p q x) (tied.down b c q r y));
  }
