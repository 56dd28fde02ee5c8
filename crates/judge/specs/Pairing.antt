-- Two sheets sort forests.
use Rattle.std.specs.Prelude.{◌≡◌, ℕ, ◌-◌, ◌<◌, length, slice_index, Contains}
use Rattle.std.proofs.Common.{ap, subst, ◌∙◌, inl, inr, arith}
use Rattle.std.proofs.Math.Logic.{∥∥₁_elim}
use Rattle.std.proofs.Math.Bridge.{le_prop}
use Rattle.forest.specs.Forest.{Label}
use Rattle.sheet.specs.Held.{rows_of}
use Rattle.sheet.proofs.PlaceSets.{set_unique}
use Rattle.survey.specs.declared.types.Standings.{Standings}
use Rattle.survey.specs.Sorting.{Sorts, Like}
use Rattle.judge.specs.declared.pair.Pair.{Pair}
use Rattle.judge.specs.Labels.{Tries, last}
use Rattle.judge.specs.Pairs.{sorting_of}
use Rattle.judge.specs.Trying.{found, place}
use Rattle.judge.specs.Places.{unnamed}

same_sort : (σ τ : Standings) → σ.old ≡ τ.old → σ.new ≡ τ.new → σ ≡ τ
same_sort σ τ p q = ap (λ (x : ℕ). record { old = x; new = σ.new }) p ∙ ap (λ (y : ℕ). record { old = τ.old; new = y }) q

module _ (p : Pair) where
  -- what holds of the labels, of a proposition
  refuted : (P : Type 0) → (Tries (rows_of p.old) (rows_of p.new) p.labels → P → ⊥) → P → ⊥
  refuted P f h = ∥∥₁_elim p.tries (λ a b. absurd a) (λ t. f t h)

  real : (i : ℕ) → i < length p.labels → Label (slice_index p.labels i)
  real i h = (∥∥₁_elim p.tries le_prop (λ t. (t.real i 0 h).0), ∥∥₁_elim p.tries le_prop (λ t. (t.real i 0 h).1))

  there : 0 < length p.labels
  there = ∥∥₁_elim p.tries le_prop (λ t. t.there)

  like_last : (l : ℕ) → (Contains p.labels l → ⊥) → Like (sorting_of p) (last p.labels) l
  like_last l u c ls counted h = (
    unnamed (rows_of p.old) ls.old _ l c (refuted _ (λ t. t.not_old)) (refuted _ (λ t m. u (t.of_old l m))) h.0,
    unnamed (rows_of p.new) ls.new _ l c (refuted _ (λ t. t.not_new)) (refuted _ (λ t m. u (t.of_new l m))) h.1,
  )

  alike : (l : ℕ) → Label l → (i : ℕ) × (i < length p.labels) × Like (sorting_of p) (slice_index p.labels i) l
  alike l label =
      elim (found p.labels l) [
        | inl m ↦ let z = place p.labels l m in (z.0, z.1, λ c ls counted h. subst (λ (m : ℕ). (sorting_of p).has_leaves m c ls) z.2 h)
        | inr u ↦ (length p.labels - 1, omega (arith, there), like_last l u)
      ]

  pub sorts : Sorts (sorting_of p)
  sorts =
      record {
        nil_counts = tt;
        text_rest = λ t r h. h.1;
        node_parts = λ l c r h. h;
        node_counts = λ l c r x y z. (x, y, z);
        one_sort = λ f σ τ counted x y. same_sort σ τ (set_unique x.0 y.0) (set_unique x.1 y.1);
        labels = real;
        alike = alike;
      }
