-- One row more, and the labels that are named.
use Rattle.std.proofs.Common.{◌≡◌, ℕ, ◌+◌, ◌-◌, ◌<◌, ◌⊎◌, ◌↔◌, List, [], ◌∷◌, ◌++◌, length, slice_index, Contains, ap, ◌∙◌, subst, inl, inr, arith, length-append}
use Rattle.std.proofs.lemmas.List.Elements.{All-push, Contains-get_or, Contains-append_left}
use Rattle.std.proofs.Math.Seq.{get_or-append_seam}
use Rattle.std.proofs.Math.Option.{some}
use Rattle.forest.specs.Forest.{Label}
use Rattle.rows.specs.Sheet.{Sheet, at}
use Rattle.rows.specs.declared.row.Row.TheVariants.{Named}
use Rattle.judge.specs.Labels.{Mentions, last, Tries}

-- One of the first k rows names the label.
abbrev pub MentionsBelow : Sheet → ℕ → ℕ → Type 0
MentionsBelow s k l = (p d : ℕ) × (p < k) × (at s p ≡ some (Named l d))

pub below_or_at : (k i : ℕ) → k < i + 1 → (k < i) ⊎ (k ≡ i)
below_or_at k i h = grind arith

-- of k rows and one more
module _ (s : Sheet) (k : ℕ) where
  wider : (m : ℕ) → MentionsBelow s k m → MentionsBelow s (k + 1) m
  wider m b = (b.0, b.1, omega (arith, b.2), b.3)

  narrower : (m : ℕ) → MentionsBelow s (k + 1) m → MentionsBelow s k m ⊎ ((d : ℕ) × (at s k ≡ some (Named m d)))
  narrower m b =
      elim (below_or_at b.0 k b.2) [
        | inl less ↦ inl (b.0, b.1, less, b.3)
        | inr e ↦ inr (b.1, subst (λ (p : ℕ). at s p ≡ some (Named m b.1)) e b.3)
      ]

  module _ (ls mid : List ℕ) (before : (m : ℕ) → Contains mid m ↔ (Contains ls m ⊎ MentionsBelow s k m)) where
    pub named_more : (new : List ℕ) (l d : ℕ) → at s k ≡ some (Named l d) → ((m : ℕ) → Contains new m ↔ (Contains mid m ⊎ (l ≡ m)))
        → (m : ℕ) → Contains new m ↔ (Contains ls m ⊎ MentionsBelow s (k + 1) m)
    named_more new l d is step m = (λ h. down ((step m).0 h), up)
      where
        down : Contains mid m ⊎ (l ≡ m) → Contains ls m ⊎ MentionsBelow s (k + 1) m
        down (inl h) = elim ((before m).0 h) [ inl a ↦ inl a | inr b ↦ inr (wider m b) ]
        down (inr e) = inr (k, d, omega arith, subst (λ (x : ℕ). at s k ≡ some (Named x d)) e is)

        up : Contains ls m ⊎ MentionsBelow s (k + 1) m → Contains new m
        up (inl a) = (step m).1 (inl ((before m).1 (inl a)))
        up (inr b) = elim (narrower m b) [ inl c ↦ (step m).1 (inl ((before m).1 (inr c))) | inr z ↦ (step m).1 (inr (let same : at s k ≡ some (Named m z.0) = z.1 in cc)) ]

    pub none_more : ((l d : ℕ) → at s k ≡ some (Named l d) → ⊥) → (m : ℕ) → Contains mid m ↔ (Contains ls m ⊎ MentionsBelow s (k + 1) m)
    none_more unnamed m = (λ h. elim ((before m).0 h) [ inl a ↦ inl a | inr b ↦ inr (wider m b) ], up)
      where
        up : Contains ls m ⊎ MentionsBelow s (k + 1) m → Contains mid m
        up (inl a) = (before m).1 (inl a)
        up (inr b) = elim (narrower m b) [ inl c ↦ (before m).1 (inr c) | inr z ↦ absurd (unnamed m z.0 z.1) ]

last_push : (ls : List ℕ) (x : ℕ) → last (ls ++ x ∷ []) ≡ x
last_push ls x =
    let e : length (ls ++ x ∷ []) - 1 ≡ length ls = simp length-append (omega arith) in
    ap (λ (i : ℕ). slice_index (ls ++ x ∷ []) i) e ∙ get_or-append_seam ls x [] 0

-- the labels of both sheets, and last one more
module _ (old new : Sheet) (ls ls' : List ℕ) (of_old : (m : ℕ) → Contains ls m ↔ (Contains [] m ⊎ Mentions old m))
    (of_new : (m : ℕ) → Contains ls' m ↔ (Contains ls m ⊎ Mentions new m)) (old_real : (m : ℕ) → Mentions old m → Label m) (new_real : (m : ℕ) → Mentions new m → Label m) where
  real : (m : ℕ) → Contains ls' m → Label m
  real m h =
      elim ((of_new m).0 h) [
        | inl a ↦ elim ((of_old m).0 a) [ inl z ↦ absurd (omega (arith, z.1)) | inr b ↦ old_real m b ]
        | inr b ↦ new_real m b
      ]

  pub tries : (x : ℕ) → Label x → (Contains ls' x → ⊥) → Tries old new (ls' ++ x ∷ [])
  tries x label other =
      let last_is = last_push ls' x in
      record {
        there = simp length-append (omega arith);
        real = All-push Label ls' x (λ k d h. real _ (Contains-get_or ls' k d h)) label;
        of_old = λ l m. Contains-append_left ls' (x ∷ []) l ((of_new l).1 (inl ((of_old l).1 (inr m))));
        of_new = λ l m. Contains-append_left ls' (x ∷ []) l ((of_new l).1 (inr m));
        not_old = λ m. other ((of_new x).1 (inl ((of_old x).1 (inr (subst (Mentions old) last_is m)))));
        not_new = λ m. other ((of_new x).1 (inr (subst (Mentions new) last_is m)));
      }
