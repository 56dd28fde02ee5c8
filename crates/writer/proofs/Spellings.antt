-- The forests that the entries of a list spell.
use Rattle.std.proofs.Common.{◌≡◌, ℕ, ◌<◌, ◌≤◌, Bool, List, [], length, refl, sym, ap, ◌∙◌, subst, arith, get_or}
use Rattle.std.proofs.lemmas.List.{get_or_default}
use Rattle.forest.specs.Forest.{Forest, text}
use Rattle.survey.specs.declared.types.Sort.{Sort}
use Rattle.survey.specs.Survey.{Setting, entry, blank, Rebuilt, built_nil, built_text, built_node, Stands, Surveyed}
use Rattle.writer.specs.Shows.{Readable, Written, Shown}

module _ {C : Type 0} (e : ℕ → Sort C) where
  -- an entry spells one forest
  one_spelling : (k : ℕ) (f g : Forest) → Rebuilt e k f → Rebuilt e k g → f ≡ g
  one_spelling k f g (built_nil _ a) (built_nil _ b) = refl
  one_spelling k f g (built_nil _ a) (built_text _ g' b lt r) = cc
  one_spelling k f g (built_nil _ a) (built_node _ l c' r' b lt lt' p q) = cc
  one_spelling k f g (built_text _ f' a lt r) (built_nil _ b) = cc
  one_spelling k f g (built_text _ f' a lt r) (built_text _ g' b lt' r') = ap (text []) (one_spelling (e k).rest f' g' r r')
  one_spelling k f g (built_text _ f' a lt r) (built_node _ l c' r' b h h' p q) = cc
  one_spelling k f g (built_node _ l c r a h h' p q) (built_nil _ b) = cc
  one_spelling k f g (built_node _ l c r a h h' p q) (built_text _ g' b lt r') = cc
  one_spelling k f g (built_node _ l c r a h h' p q) (built_node _ m c' r' b i i' p' q') =
      let contents = one_spelling (e k).content c c' p p' in
      let rests = one_spelling (e k).rest r r' q q' in
      let labels : l ≡ m = cc in
      cc

  module _ (e' : ℕ → Sort C) (n : ℕ) (same : (k : ℕ) → k < n → e k ≡ e' k) where
    -- entries that are alike spell the same
    rebuilt_alike : (k : ℕ) (f : Forest) → k < n → Rebuilt e k f → Rebuilt e' k f
    rebuilt_alike k f h (built_nil _ a) = built_nil k (ap (λ (x : Sort C). x.first) (sym (same k h)) ∙ a)
    rebuilt_alike k f h (built_text _ g a lt r) =
        built_text k g (ap (λ (x : Sort C). x.first) (sym (same k h)) ∙ a) (subst (λ (x : Sort C). x.rest < k) (same k h) lt)
        (subst (λ (x : Sort C). Rebuilt e' x.rest g) (same k h) (rebuilt_alike (e k).rest g (omega arith) r))
    rebuilt_alike k f h (built_node _ l c g a lt lt' p q) =
        built_node k l c g (ap (λ (x : Sort C). x.first) (sym (same k h)) ∙ a) (subst (λ (x : Sort C). x.content < k) (same k h) lt) (subst (λ (x : Sort C). x.rest < k) (same k h) lt')
        (subst (λ (x : Sort C). Rebuilt e' x.content c) (same k h) (rebuilt_alike (e k).content c (omega arith) p))
        (subst (λ (x : Sort C). Rebuilt e' x.rest g) (same k h) (rebuilt_alike (e k).rest g (omega arith) q))

-- a survey's list is readable, and the forest that an entry spells is of its sort, cost and length
module _ {C : Type 0} (Γ : Setting C) (xs : List (Sort C)) (n cap : ℕ) (s : Surveyed Γ (entry Γ xs) n cap) (fits : n ≤ length xs) where
  pub readable : (k : ℕ) → k < n → Readable xs k
  readable k h j le =
      let z = s.attained j (omega arith) in (
        z.0,
        (λ d. rebuilt_alike (entry Γ xs) (λ i. get_or xs i d) n (λ i lt. get_or_default xs i (blank Γ) d (omega arith)) j z.0 (omega arith) z.1),
        (λ d. z.2.length ∙ ap (λ (x : Sort C). x.length) (get_or_default xs j (blank Γ) d (omega arith))),
      )

  pub shown : (k : ℕ) → k < n → (before after : List ℕ) (r : Bool) → Written xs k before after r → Shown Γ (entry Γ xs k) before after r
  shown k h before after r w =
      let z = s.attained k h in
      let same : z.0 ≡ w.forest = one_spelling (entry Γ xs) k z.0 w.forest z.1 (w.spelled (blank Γ)) in
      record { forest = w.forest; stands = subst (λ (g : Forest). Stands Γ (entry Γ xs k) g) same z.2; put = w.put }
