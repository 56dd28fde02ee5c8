-- The table's forests are those that the list spells.
use Rattle.std.proofs.Common.{◌≡◌, ℕ, ◌+◌, ◌<◌, ◌≤◌, List, [], sym, ap, ◌∙◌, subst, arith, length, take, get_or, length-take-le}
use Rattle.std.proofs.lemmas.List.{get_or-take}
use Rattle.forest.specs.Forest.{Forest, text, node}
use Rattle.measure.specs.Lengths.{length_of}
use Rattle.survey.specs.declared.types.Sort.{Sort}
use Rattle.survey.specs.declared.types.First.{First}
use Rattle.survey.specs.Survey.{Rebuilt, built_nil, built_text, built_node}
use Rattle.writer.specs.declared.parts.Part.{Part}
use Rattle.writer.specs.Tables.{part_at, made, forest, BelowBy, Lower}
use Rattle.writer.proofs.Writes.{forest_is}
use Rattle.writer.specs.Shows.{Copied, part_of, Spells, Readable}

module _ {C : Type 0} (e : ℕ → Sort C) (t : List Part) (n : ℕ) (copied : Copied e t n) where
  first_is : (k : ℕ) → k < n → (part_at t k).first ≡ (e k).first
  first_is k h = ap (λ (p : Part). p.first) (copied k h)

  content_is : (k : ℕ) → k < n → (part_at t k).content ≡ (e k).content
  content_is k h = ap (λ (p : Part). p.content) (copied k h)

  rest_is : (k : ℕ) → k < n → (part_at t k).rest ≡ (e k).rest
  rest_is k h = ap (λ (p : Part). p.rest) (copied k h)

  below : (k : ℕ) (f : Forest) → k < n → Rebuilt e k f → BelowBy (part_at t k).first (part_at t k).content (part_at t k).rest k
  below k f h (built_nil _ a) = subst (λ (g : First). BelowBy g (part_at t k).content (part_at t k).rest k) (sym (first_is k h ∙ a)) tt
  below k f h (built_text _ g a lt r) = subst (λ (g : First). BelowBy g (part_at t k).content (part_at t k).rest k) (sym (first_is k h ∙ a)) (rw (rest_is k h) lt)
  below k f h (built_node _ l g g' a lt lt' r r') = subst (λ (g : First). BelowBy g (part_at t k).content (part_at t k).rest k) (sym (first_is k h ∙ a)) (rw (content_is k h) lt, rw (rest_is k h) lt')

  pub lower : ((k : ℕ) → k < n → (f : Forest) × Rebuilt e k f) → (top : ℕ) → top < n → Lower t top
  lower all top h k le = let z = all k (omega arith) in below k z.0 (omega arith) z.1

  module _ (top : ℕ) (in_use : top < n) (low : Lower t top) where
    opened : (k : ℕ) → k ≤ top → forest t k ≡ made (e k).first (forest t (e k).content) (forest t (e k).rest)
    opened k h =
        let w : k < n = omega arith in
        forest_is t top low k h
        ∙ ap (λ (f : First). made f (forest t (part_at t k).content) (forest t (part_at t k).rest)) (first_is k w)
        ∙ ap (λ (i : ℕ). made (e k).first (forest t i) (forest t (part_at t k).rest)) (content_is k w)
        ∙ ap (λ (i : ℕ). made (e k).first (forest t (e k).content) (forest t i)) (rest_is k w)

    pub rebuilt_is : (k : ℕ) (f : Forest) → k ≤ top → Rebuilt e k f → forest t k ≡ f
    rebuilt_is k f h (built_nil _ a) = opened k h ∙ ap (λ (g : First). made g (forest t (e k).content) (forest t (e k).rest)) a
    rebuilt_is k f h (built_text _ g a lt r) =
        opened k h ∙ ap (λ (i : First). made i (forest t (e k).content) (forest t (e k).rest)) a ∙ ap (text []) (rebuilt_is (e k).rest g (omega arith) r)
    rebuilt_is k f h (built_node _ l g g' a lt lt' r r') =
        opened k h ∙ ap (λ (i : First). made i (forest t (e k).content) (forest t (e k).rest)) a
        ∙ ap (λ (c : Forest). node l c (forest t (e k).rest)) (rebuilt_is (e k).content g (omega arith) r)
        ∙ ap (node l g) (rebuilt_is (e k).rest g' (omega arith) r')

-- what the table holds, once the entries up to the one at k are copied to it
pub record Ready {C : Type 0} (xs : List (Sort C)) (t : List Part) (k : ℕ) : Type 0 where
  pub low : Lower t k
  pub made_of : Forest
  pub is : forest t k ≡ made_of
  pub spelled : Spells xs k made_of
  pub told : (d : Sort C) → length_of made_of ≡ (get_or xs k d).length

pub ready : {C : Type 0} (xs : List (Sort C)) (t : List Part) (k : ℕ) (d : Sort C) → k < length xs → Readable xs k
    → Copied (λ j. get_or (take (k + 1) xs) j d) t (length (take (k + 1) xs)) → Ready xs t k
ready {C} xs t k d h r c =
    let e : ℕ → Sort C = λ j. get_or xs j d in
    let all : length (take (k + 1) xs) ≡ k + 1 = length-take-le (k + 1) xs (omega arith) in
    let copied : Copied e t (k + 1) = λ j lt. c j (omega arith) ∙ ap (λ (x : Sort C). part_of x) (get_or-take (k + 1) xs j d lt) in
    let z = r k (omega arith) in
    let low : Lower t k = lower e t (k + 1) copied (λ j lt. let w = r j (omega arith) in (w.0, w.1 d)) k (omega arith) in
    record {
      low = low;
      made_of = z.0;
      is = rebuilt_is e t (k + 1) copied k (omega arith) low k z.0 (omega arith) (z.1 d);
      spelled = z.1;
      told = z.2;
    }
