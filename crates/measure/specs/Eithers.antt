-- One of two measures, as one measure.
use Rattle.std.specs.Prelude.{◌≡◌, ℕ}
use Rattle.forest.specs.Forest.{Forest}
use Rattle.measure.specs.Measure.{Ranking, Costs, Rules, cost_of}
use Rattle.measure.specs.declared.either.Either.{Either}
use Rattle.measure.specs.declared.either.Either.TheVariants.{One, Other}

module _ {C D : Type 0} where
  -- A value of the first kind of which the first property holds.
  abbrev pub in_one : (C → Type 0) → Either C D → Type 0
  in_one p (One c) = p c
  in_one p (Other d) = ⊥

  abbrev pub in_other : (D → Type 0) → Either C D → Type 0
  in_other p (One c) = ⊥
  in_other p (Other d) = p d

  -- Two values of the first kind, of which the relation holds.
  abbrev pub both_one : (C → C → Type 0) → Either C D → Either C D → Type 0
  both_one le (One a) (One b) = le a b
  both_one le (One a) (Other b) = ⊥
  both_one le (Other a) (One b) = ⊥
  both_one le (Other a) (Other b) = ⊥

  abbrev pub both_other : (D → D → Type 0) → Either C D → Either C D → Type 0
  both_other le (One a) (One b) = ⊥
  both_other le (One a) (Other b) = ⊥
  both_other le (Other a) (One b) = ⊥
  both_other le (Other a) (Other b) = le a b

  -- A value of the other kind is no cost, and stays as it is.
  abbrev pub one_text : Rules C → ℕ → Either C D → Either C D
  one_text r n (One c) = One (r.of_text n c)
  one_text r n (Other c) = Other c

  abbrev pub other_text : Rules D → ℕ → Either C D → Either C D
  other_text r n (One c) = One c
  other_text r n (Other c) = Other (r.of_text n c)

  abbrev pub one_node : Rules C → Either C D → Either C D → Either C D
  one_node r (One c) (One d) = One (r.of_node c d)
  one_node r (One c) (Other d) = One c
  one_node r (Other c) (One d) = Other c
  one_node r (Other c) (Other d) = Other c

  abbrev pub other_node : Rules D → Either C D → Either C D → Either C D
  other_node r (One c) (One d) = One c
  other_node r (One c) (Other d) = One c
  other_node r (Other c) (One d) = Other c
  other_node r (Other c) (Other d) = Other (r.of_node c d)

module _ {A B C D : Type 0} where
  -- The costs, the order and the rules of the measure that it is, each over its own kind.
  abbrev pub either_ranking : (A → Ranking C) → (B → Ranking D) → Either A B → Ranking (Either C D)
  either_ranking p q (One m) = record { ranks = in_one (p m).ranks; le = both_one (p m).le }
  either_ranking p q (Other m) = record { ranks = in_other (q m).ranks; le = both_other (q m).le }

  abbrev pub either_costs : (A → Costs C) → (B → Costs D) → Either A B → Costs (Either C D)
  either_costs p q (One m) = record {
    good = in_one (p m).good;
    le = both_one (p m).le;
    rules = record { of_nil = One (p m).rules.of_nil; of_text = one_text (p m).rules; of_node = one_node (p m).rules };
  }
  either_costs p q (Other m) = record {
    good = in_other (q m).good;
    le = both_other (q m).le;
    rules = record { of_nil = Other (q m).rules.of_nil; of_text = other_text (q m).rules; of_node = other_node (q m).rules };
  }

  -- A forest costs by it what it costs by the measure that it is.
  pub record CostsAlike (p : A → Costs C) (q : B → Costs D) : Type 0 where
    pub as_one : (m : A) (f : Forest) → cost_of (either_costs p q (One m)).rules f ≡ One (cost_of (p m).rules f)
    pub as_other : (m : B) (f : Forest) → cost_of (either_costs p q (Other m)).rules f ≡ Other (cost_of (q m).rules f)
