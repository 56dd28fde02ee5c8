-- The measure with one cost for everything.
use Rattle.measure.specs.Measure.{Ranking, Costs}

module _ {C : Type 0} where
  abbrev pub flat_ranking : Ranking C
  flat_ranking = record { ranks = λ _. Unit {0}; le = λ _ _. Unit {0} }

  abbrev pub flat_costs : C → Costs C
  flat_costs only = record {
    good = λ _. Unit {0};
    le = λ _ _. Unit {0};
    rules = record { of_nil = only; of_text = λ _ _. only; of_node = λ _ _. only };
  }
