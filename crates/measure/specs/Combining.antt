-- One of two lawful measures is lawful.
use Rattle.std.specs.Prelude.{◌≡◌, ℕ, length, refl, ◌⊎◌}
use Rattle.std.proofs.Common.{ap, ◌∙◌, inl, inr}
use Rattle.forest.specs.Forest.{Forest, nil, text, node}
use Rattle.measure.specs.Measure.{Ranking, Ordered, Costs, Rules, Lawful, cost_of}
use Rattle.measure.specs.declared.either.Either.{Either}
use Rattle.measure.specs.declared.either.Either.TheVariants.{One, Other}
use Rattle.measure.specs.Eithers.{in_one, in_other, either_ranking, either_costs, CostsAlike}

-- A measure that is carried into another type of costs, where only the carried ones are costs.
module _ {C V : Type 0} {good : C → Type 0} {good' : V → Type 0} (put : C → V) (only : (P : V → Type 0) → ((x : C) → good x → P (put x)) → (v : V) → good' v → P v) where
  both : (P : V → V → Type 0) → ((x y : C) → good x → good y → P (put x) (put y)) → (u v : V) → good' u → good' v → P u v
  both P f u v g h = only (λ u. P u v) (λ x i. only (λ v. P (put x) v) (λ y j. f x y i j) v h) u g

  three : (P : V → V → V → Type 0) → ((x y z : C) → good x → good y → good z → P (put x) (put y) (put z))
      → (u v w : V) → good' u → good' v → good' w → P u v w
  three P f u v w g h k = only (λ u. P u v w) (λ x i. both (λ v w. P (put x) v w) (λ y z j k. f x y z i j k) v w h k) u g

  four : (P : V → V → V → V → Type 0) → ((x y z w : C) → good x → good y → good z → good w → P (put x) (put y) (put z) (put w))
      → (t u v w : V) → good' t → good' u → good' v → good' w → P t u v w
  four P f t u v w g h k l = both (λ t u. P t u v w) (λ x y i j. both (λ v w. P (put x) (put y) v w) (λ z a k l. f x y z a i j k l) v w k l) t u g h

  module _ {le : C → C → Type 0} {le' : V → V → Type 0} (to : (x y : C) → le x y → le' (put x) (put y)) (back : (x y : C) → le' (put x) (put y) → le x y) where
    carried_order : Ordered good le → Ordered good' le'
    carried_order o = record {
      total = both (λ a b. le' a b ⊎ le' b a) (λ x y i j. elim (o.total x y i j) [ inl h ↦ inl (to x y h) | inr h ↦ inr (to y x h) ]);
      trans = three (λ a b c. le' a b → le' b c → le' a c) (λ x y z i j k a b. to x z (o.trans x y z i j k (back x y a) (back y z b)));
    }

    module _ {m : Rules C} {m' : Rules V} (good_put : (x : C) → good x → good' (put x)) (nil_put : m'.of_nil ≡ put m.of_nil)
        (text_put : (n : ℕ) (x : C) → m'.of_text n (put x) ≡ put (m.of_text n x)) (node_put : (x y : C) → m'.of_node (put x) (put y) ≡ put (m.of_node x y)) where
      carried_laws : Lawful good le m → Lawful good' le' m'
      carried_laws w = record {
        good_nil = rw nil_put (good_put _ w.good_nil);
        good_text = λ n. only (λ r. good' (m'.of_text n r)) (λ x i. rw (text_put n x) (good_put _ (w.good_text n x i)));
        good_node = both (λ c r. good' (m'.of_node c r)) (λ x y i j. rw (node_put x y) (good_put _ (w.good_node x y i j)));
        least_text = λ n. only (λ r. le' (m'.of_text 0 r) (m'.of_text n r)) (λ x i. rw (text_put 0 x, text_put n x) (to _ _ (w.least_text n x i)));
        text_rest = λ n. only (λ r. le' r (m'.of_text n r)) (λ x i. rw (text_put n x) (to _ _ (w.text_rest n x i)));
        node_rest = both (λ c r. le' r (m'.of_node c r)) (λ x y i j. rw (node_put x y) (to _ _ (w.node_rest x y i j)));
        node_content = both (λ c r. le' c (m'.of_node c r)) (λ x y i j. rw (node_put x y) (to _ _ (w.node_content x y i j)));
        mono_text = λ n. both (λ r s. le' r s → le' (m'.of_text n r) (m'.of_text n s))
            (λ x y i j a. rw (text_put n x, text_put n y) (to _ _ (w.mono_text n x y i j (back x y a))));
        mono_node = four (λ c d r s. le' c d → le' r s → le' (m'.of_node c r) (m'.of_node d s))
            (λ c d r s i j k l a b. rw (node_put c r, node_put d s) (to _ _ (w.mono_node c d r s i j k l (back c d a) (back r s b))));
      }

-- What a forest costs is carried along.
module _ {C V : Type 0} (put : C → V) (m : Rules C) (m' : Rules V) (nil_put : m'.of_nil ≡ put m.of_nil)
    (text_put : (n : ℕ) (x : C) → m'.of_text n (put x) ≡ put (m.of_text n x)) (node_put : (x y : C) → m'.of_node (put x) (put y) ≡ put (m.of_node x y)) where
  carried_cost : (f : Forest) → cost_of m' f ≡ put (cost_of m f)
  carried_cost nil = nil_put
  carried_cost (text t r) = ap (λ (x : V). m'.of_text (length t) x) (carried_cost r) ∙ text_put _ _
  carried_cost (node l c r) = ap (λ (x : V). m'.of_node x (cost_of m' r)) (carried_cost c) ∙ ap (λ (x : V). m'.of_node (put (cost_of m c)) x) (carried_cost r) ∙ node_put _ _

module _ {C D : Type 0} where
  -- A property of every value of a kind that a property holds of.
  of_one : (good : C → Type 0) (P : Either C D → Type 0) → ((x : C) → good x → P (One x)) → (v : Either C D) → in_one good v → P v
  of_one good P f (One x) h = f x h
  of_one good P f (Other x) h = absurd h

  of_other : (good : D → Type 0) (P : Either C D → Type 0) → ((x : D) → good x → P (Other x)) → (v : Either C D) → in_other good v → P v
  of_other good P f (Other x) h = f x h
  of_other good P f (One x) h = absurd h

module _ {A B C D : Type 0} (p : A → Ranking C) (q : B → Ranking D) (po : (m : A) → Ordered (p m).ranks (p m).le) (qo : (m : B) → Ordered (q m).ranks (q m).le) where
  pub either_ordered : (m : Either A B) → Ordered (either_ranking p q m).ranks (either_ranking p q m).le
  either_ordered (One m) = carried_order One (of_one (p m).ranks) (λ x y h. h) (λ x y h. h) (po m)
  either_ordered (Other m) = carried_order Other (of_other (q m).ranks) (λ x y h. h) (λ x y h. h) (qo m)

module _ {A B C D : Type 0} (p : A → Costs C) (q : B → Costs D) (pw : (m : A) → Lawful (p m).good (p m).le (p m).rules) (qw : (m : B) → Lawful (q m).good (q m).le (q m).rules) where
  pub either_lawful : (m : Either A B) → Lawful (either_costs p q m).good (either_costs p q m).le (either_costs p q m).rules
  either_lawful (One m) = carried_laws One (of_one (p m).good) (λ x y h. h) (λ x y h. h) (λ x h. h) refl (λ n x. refl) (λ x y. refl) (pw m)
  either_lawful (Other m) = carried_laws Other (of_other (q m).good) (λ x y h. h) (λ x y h. h) (λ x h. h) refl (λ n x. refl) (λ x y. refl) (qw m)

module _ {A B C D : Type 0} (p : A → Costs C) (q : B → Costs D) where
  pub costs_alike : CostsAlike p q
  costs_alike = record {
    as_one = λ m. carried_cost One (p m).rules (either_costs p q (One m)).rules refl (λ n x. refl) (λ x y. refl);
    as_other = λ m. carried_cost Other (q m).rules (either_costs p q (Other m)).rules refl (λ n x. refl) (λ x y. refl);
  }
