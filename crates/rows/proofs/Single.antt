-- Rows are one sheet at most, have one refusal due at most, and not both.
use Rattle.std.proofs.Common.{◌≡◌, ℕ, suc, ◌<◌, ◌≤◌, ◌⊎◌, List, length, take, sym, refl, ◌∙◌, subst, inl, inr, arith}
use Rattle.std.proofs.lemmas.List.{take-take, take_all}
use Rattle.rows.specs.Sheet.{Sheet, places, Numbered}
use Rattle.rows.specs.Raw.{RawRow, AllSay}
use Rattle.rows.specs.Checking.{PartsFit, OnceAPart, ContentThere, GoodFront, GoodRows, Due, says_nothing, parts_astray, over_all, WrongOverAll, not_once, not_there, too_many, Passes, AtMostOne}
use Rattle.rows.proofs.Fronts.{part_same, at_front, say_front, say_once, below_or_not}
use Rattle.rows.proofs.Numbers.{numbered_once, numbered_within}
use Rattle.rows.proofs.Sounding.{sound_fits, sound_once}

-- Rows that are good up to q say a row that fits at each p below.
front_fits : (s : Sheet) (p : ℕ) → ((e : ℕ) → PartsFit s e) → PartsFit (take (suc p) s) p
front_fits s p f k a x =
    let y = part_same {t = s} (at_front s (suc p) p (omega arith)) x in
    let h = (f p k a y).0 in
    (h, λ z i. (f p k a y).1 z (sym (at_front s (suc p) a (omega arith)) ∙ i))

-- A refusal 10 or 11 at p, in one form.
pub record Stuck (raws : List RawRow) (p : ℕ) : Type 0 where
  pub within : p < length raws
  pub never : (s : Sheet) → AllSay (take (suc p) raws) s → PartsFit s p → ⊥

not_past : (raws : List RawRow) (p q : ℕ) (s : Sheet) → Stuck raws p → p < q → GoodFront raws q s → ⊥
not_past raws p q s b h g =
    b.never (take (suc p) s)
    (subst (λ (w : List RawRow). AllSay w (take (suc p) s)) (take-take (suc p) q raws (omega arith)) (say_front (suc p) g.say))
    (front_fits s p g.fit)

whole : (raws : List RawRow) (s : Sheet) → GoodRows raws s → GoodFront raws (length raws) s
whole raws s g = record { say = subst (λ (w : List RawRow). AllSay w s) (sym (take_all (length raws) raws (omega arith))) g.say; fit = g.fit }

-- A refusal row by row.
pub record Early (raws : List RawRow) (n p : ℕ) : Type 0 where
  pub stuck : Stuck raws p
  pub front : Sheet
  pub good : GoodFront raws p front
  pub which : ((n ≡ 10) × ((s : Sheet) → AllSay (take (suc p) raws) s → ⊥)) ⊎ ((n ≡ 11) × ((s : Sheet) × AllSay (take (suc p) raws) s))

pub sorted : {raws : List RawRow} {n p : ℕ} → Due raws n p → Early raws n p ⊎ ((s : Sheet) × GoodRows raws s × WrongOverAll s n p)
sorted (says_nothing {s = s} h g f) =
    inl (record { stuck = record { within = h; never = λ s a b. f s a }; front = s; good = g; which = inl (refl, f) })
sorted {raws} (parts_astray {p = p} {s = s} {s' = s'} h g a f) =
    inl (record {
      stuck = record { within = h; never = λ t b c. f (subst (λ (w : Sheet). PartsFit w p) (say_once b a) c) };
      front = s;
      good = g;
      which = inr (refl, (s', a));
    })
sorted (over_all {s = s} g l) = inr (s, g, l)

early_early : {raws : List RawRow} {n p m q : ℕ} → Early raws n p → Early raws m q → (n ≡ m) × (p ≡ q)
early_early {raws} {n} {p} {m} {q} x y = go (below_or_not p q) (below_or_not q p)
  where
    same : p ≡ q → n ≡ m
    same e =
        elim x.which [
          | inl u ↦ elim y.which [
            | inl v ↦ u.0 ∙ sym v.0
            | inr v ↦ absurd (u.1 v.1.0 (subst (λ (k : ℕ). AllSay (take (suc k) raws) v.1.0) (sym e) v.1.1))
          ]
          | inr u ↦ elim y.which [
            | inl v ↦ absurd (v.1 u.1.0 (subst (λ (k : ℕ). AllSay (take (suc k) raws) u.1.0) e u.1.1))
            | inr v ↦ u.0 ∙ sym v.0
          ]
        ]

    go : (p < q) ⊎ (q ≤ p) → (q < p) ⊎ (p ≤ q) → (n ≡ m) × (p ≡ q)
    go (inl h) z = absurd (not_past raws p q y.front x.stuck h y.good)
    go (inr h) (inl g) = absurd (not_past raws q p x.front y.stuck g x.good)
    go (inr h) (inr g) = let e : p ≡ q = omega arith in (same e, e)

early_late : {raws : List RawRow} {n p : ℕ} {s : Sheet} → Early raws n p → GoodRows raws s → ⊥
early_late {raws} {n} {p} {s} x g = not_past raws p (length raws) s x.stuck x.stuck.within (whole raws s g)

-- The lowest that fails is one.
lowest_one : (P : ℕ → Type 0) (p q : ℕ) → ((a : ℕ) → a < p → P a) → (P p → ⊥) → ((a : ℕ) → a < q → P a) → (P q → ⊥) → p ≡ q
lowest_one P p q f n g m =
    let x : ¬ (p < q) = λ h. n (g p h) in
    let y : ¬ (q < p) = λ h. m (f q h) in
    omega arith

late_late : {s : Sheet} {n p m q : ℕ} → WrongOverAll s n p → WrongOverAll s m q → (n ≡ m) × (p ≡ q)
late_late {s} (not_once {p = p} h f n) (not_once {p = q} h' f' n') = (refl, lowest_one (OnceAPart s) p q f n f' n')
late_late (not_once {p = p} h f n) (not_there o h' f' n') = absurd (n (o p h))
late_late (not_once {p = p} h f n) (too_many o c x e) = absurd (n (o p h))
late_late (not_there o h f n) (not_once {p = q} h' f' n') = absurd (n' (o q h'))
late_late {s} (not_there {p = p} o h f n) (not_there {p = q} o' h' f' n') = (refl, lowest_one (ContentThere s) p q f n f' n')
late_late (not_there {p = p} o h f n) (too_many o' c x e) = absurd (n (c p))
late_late (too_many o c x e) (not_once {p = q} h' f' n') = absurd (n' (o q h'))
late_late (too_many o c x e) (not_there {p = q} o' h' f' n') = absurd (n' (c q))
late_late {s} (too_many {p = p} o c x e) (too_many {p = q} o' c' x' e') =
    let u : Numbered s 64 p = record { is = x; number = e } in
    let v : Numbered s 64 q = record { is = x'; number = e' } in
    (refl, numbered_once u v)

late_sound : {raws : List RawRow} {n p : ℕ} (s t : Sheet) → Passes raws s → GoodRows raws t → WrongOverAll t n p → ⊥
late_sound {raws} {n} {p} s t w g l = go l
  where
    e : s ≡ t
    e = say_once w.say g.say

    o : (a : ℕ) → a < length t → OnceAPart t a
    o = subst (λ (v : Sheet). (a : ℕ) → a < length v → OnceAPart v a) e (sound_once w.sound)

    c : (q : ℕ) → ContentThere t q
    c = subst (λ (v : Sheet). (q : ℕ) → ContentThere v q) e (λ q d n. w.sound.there n)

    m : places t ≤ 64
    m = subst (λ (v : Sheet). places v ≤ 64) e w.sound.few

    go : {n p : ℕ} → WrongOverAll t n p → ⊥
    go (not_once {p = p} h f n) = n (o p h)
    go (not_there {p = p} o' h f n) = n (c p)
    go (too_many {p = p} o' c' x q) =
        let u : Numbered t 64 p = record { is = x; number = q } in
        let i = numbered_within u in omega (arith, m)

pub at_most_one : (raws : List RawRow) → AtMostOne raws
at_most_one raws =
    record {
      one_sheet = λ s s' x y. say_once x.say y.say;
      one_refusal = λ n p m q x y.
          elim (sorted x) [
            | inl u ↦ elim (sorted y) [ inl v ↦ early_early u v | inr v ↦ absurd (early_late u v.1) ]
            | inr u ↦ elim (sorted y) [
              | inl v ↦ absurd (early_late v u.1)
              | inr v ↦ late_late u.2 (subst (λ (w : Sheet). WrongOverAll w m q) (say_once v.1.say u.1.say) v.2)
            ]
          ];
      not_both = λ s n p w x.
          elim (sorted x) [
            | inl u ↦ early_late u (record { say = w.say; fit = sound_fits w.sound })
            | inr u ↦ late_sound s u.0 w u.1 u.2
          ];
    }
