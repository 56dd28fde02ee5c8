-- A test of belonging that computes.
use Rattle.std.proofs.Common.{◌≡◌, ℕ, zero, suc, ◌+◌, ◌<◌, Bool, true, false, ◌&&◌, ◌||◌, T, eqb, ◌⊎◌, ◌↔◌, List, length, take, sym, refl, ◌∙◌, subst, inl, inr, add-one, arith, eqb→eq}
use Rattle.std.proofs.Math.Logic.Iff
use Rattle.std.proofs.Math.Option.{Option, none, some}
use Rattle.std.proofs.Math.Decide.{ℕ_discrete}
use Rattle.std.proofs.Math.Dec.{eqb_refl}
use Rattle.forest.specs.Forest.{Forest, nil, text, node}
use Rattle.rows.specs.declared.row.Row.{Row}
use Rattle.rows.specs.declared.row.Row.TheVariants.{Empty as empty, Text as one_text, Named as named, Any as any, Seq as seq, Alt as alt, Many as many, Def as def}
use Rattle.rows.specs.Sheet.{Sheet, at, definitions, Defines, Leaf, leaf_text, leaf_named, leaf_any, Sound}
use Rattle.sheet.specs.Meaning.{of_text, Belongs, OfSheet, Stands}
use Rattle.sheet.specs.Standing.{a_text, a_node, Reads}
use Rattle.rows.specs.Steps.{WellFormed}
use Rattle.sheet.specs.Shapes.{LeadsAt, EndsAt, LeadsBelow, EndsBelow}
use Rattle.sheet.proofs.Tests.{nullable, opening, closing, following}
use Rattle.sheet.proofs.Compute.{and_iff, or_iff, is_nullable, is_opening, is_closing, is_following}
use Rattle.rows.proofs.Numbers.{at_below, defines_once}
use Rattle.sheet.proofs.Standing.{leaf_fits}
use Rattle.rows.proofs.Sounding.{well_formed}
use Rattle.sheet.proofs.Tabling.{Through, through_none, through_more, through_stay}
use Rattle.sheet.proofs.Stepping.{ends_stands, leads_stands, stands_definition, belongs_stands}

-- Tests that look at the second only where the first passes.
abbrev pub and_then : Bool → (Unit {0} → Bool) → Bool
and_then true f = f tt
and_then false f = false

and_then_iff : {A B : Type 0} (a : Bool) (f : Unit {0} → Bool) → T a ↔ A → T (f tt) ↔ B → T (and_then a f) ↔ (A × B)
and_then_iff true f x y = (λ h. (x.0 tt, y.0 h), λ z. y.1 z.1)
and_then_iff false f x y = (λ h. absurd h, λ z. x.1 z.0)

abbrev pub any_below : ℕ → (ℕ → Bool) → Bool
any_below zero f = false
any_below (suc n) f = any_below n f || f n

any_iff : {P : ℕ → Type 0} (n : ℕ) (f : ℕ → Bool) → ((k : ℕ) → T (f k) ↔ P k) → T (any_below n f) ↔ ((k : ℕ) × (k < n) × P k)
any_iff zero f g = (λ h. absurd h, λ z. let l = z.1 in absurd (omega arith))
any_iff {P} (suc n) f g =
    Iff.trans (or_iff (any_below n f) (f n) (any_iff n f g) (g n)) (
      λ z. elim z [ inl y ↦ let l = y.1 in (y.0, omega arith, y.2) | inr y ↦ (n, omega arith, y) ],
      λ z. elim (ℕ_discrete z.0 n) [ yes q ↦ inr (subst P q z.2) | no q ↦ let l = z.1 in inl (z.0, omega arith, z.2) ],
    )

pub same_number : (p e : ℕ) → T (eqb p e) ↔ (p ≡ e)
same_number p e = (eqb→eq p e, λ x. rw x (eqb_refl e))

-- Through the definitions among the first rows.
abbrev here? : (ℕ → Bool) → Option Row → Bool
here? f none = false
here? f (some empty) = false
here? f (some one_text) = false
here? f (some (named l d)) = false
here? f (some (any d)) = false
here? f (some (seq a b)) = false
here? f (some (alt a b)) = false
here? f (some (many a)) = false
here? f (some (def x)) = f x

abbrev pub through? : Sheet → (ℕ → ℕ → Bool) → ℕ → Bool
through? s f zero = false
through? s f (suc k) = through? s f k || here? (f k) (at s k)

through_iff : (s : Sheet) (D : ℕ → ℕ → Type 0) (f : ℕ → ℕ → Bool) → ((e x : ℕ) → T (f e x) ↔ D e x) → (k : ℕ) → T (through? s f k) ↔ Through s D k
through_iff s D f g zero = (λ h. absurd h, through_none s D)
through_iff s D f g (suc k) =
    Iff.trans (go (at s k) refl (through_iff s D f g k))
    (λ z. subst (λ (m : ℕ). Through s D m) (add-one k) z, λ z. subst (λ (m : ℕ). Through s D m) (sym (add-one k)) z)
  where
    off : {A : Type 0} (b : Bool) → T b ↔ A → T (b || false) ↔ A
    off true x = x
    off false x = x

    other : (o : Option Row) → at s k ≡ o → ((x : ℕ) → o ≡ some (def x) → ⊥) → T (through? s f k) ↔ Through s D k → T (through? s f k || false) ↔ Through s D (k + 1)
    other o i n ih = Iff.trans (off (through? s f k) ih) (through_stay s D k (λ x j. n x (sym i ∙ j)))

    go : (o : Option Row) → at s k ≡ o → T (through? s f k) ↔ Through s D k → T (through? s f k || here? (f k) o) ↔ Through s D (k + 1)
    go none i ih = other none i (λ x j. cc) ih
    go (some empty) i ih = other (some empty) i (λ x j. cc) ih
    go (some one_text) i ih = other (some one_text) i (λ x j. cc) ih
    go (some (named l d)) i ih = other (some (named l d)) i (λ x j. cc) ih
    go (some (any d)) i ih = other (some (any d)) i (λ x j. cc) ih
    go (some (seq a b)) i ih = other (some (seq a b)) i (λ x j. cc) ih
    go (some (alt a b)) i ih = other (some (alt a b)) i (λ x j. cc) ih
    go (some (many a)) i ih = other (some (many a)) i (λ x j. cc) ih
    go (some (def x)) i ih = Iff.trans (or_iff (through? s f k) (f k x) ih (g k x)) (through_more s D k x i)

abbrev pub ends? : Sheet → ℕ → Bool
ends? s q = through? s (λ e x. (eqb q e && nullable s x) || closing s q x) (length s)

abbrev pub leads? : Sheet → ℕ → ℕ → Bool
leads? s q p = through? s (λ e x. (eqb q e && opening s p x) || following s q p x) (length s)

ends_iff : (s : Sheet) → WellFormed s → (q : ℕ) → T (ends? s q) ↔ EndsBelow s (length s) q
ends_iff s w q =
    through_iff s (λ e x. EndsAt s e x q) (λ e x. (eqb q e && nullable s x) || closing s q x)
    (λ e x. or_iff (eqb q e && nullable s x) (closing s q x) (and_iff (eqb q e) (nullable s x) (same_number q e) (is_nullable s w x)) (is_closing s w q x))
    (length s)

leads_iff : (s : Sheet) → WellFormed s → (q p : ℕ) → T (leads? s q p) ↔ LeadsBelow s (length s) q p
leads_iff s w q p =
    through_iff s (λ e x. LeadsAt s e x q p) (λ e x. (eqb q e && opening s p x) || following s q p x)
    (λ e x. or_iff (eqb q e && opening s p x) (following s q p x) (and_iff (eqb q e) (opening s p x) (same_number q e) (is_opening s w p x)) (is_following s w q p x))
    (length s)

-- Leaves that admit a tree.
abbrev pub text? : Option Row → Bool
text? none = false
text? (some empty) = false
text? (some one_text) = true
text? (some (named l d)) = false
text? (some (any d)) = false
text? (some (seq a b)) = false
text? (some (alt a b)) = false
text? (some (many a)) = false
text? (some (def x)) = false

text_iff : (s : Sheet) (t : List ℕ) (p : ℕ) → T (text? (at s p)) ↔ Reads s (a_text t) p
text_iff s t p = (go (at s p) refl, λ z. subst (λ (o : Option Row). T (text? o)) (sym (((leaf_fits s p z.0).to_text t).0 z.1)) tt)
  where
    go : (o : Option Row) → at s p ≡ o → T (text? o) → Reads s (a_text t) p
    go none i h = absurd h
    go (some empty) i h = absurd h
    go (some one_text) i h = (leaf_text i, of_text i)
    go (some (named l d)) i h = absurd h
    go (some (any d)) i h = absurd h
    go (some (seq a b)) i h = absurd h
    go (some (alt a b)) i h = absurd h
    go (some (many a)) i h = absurd h
    go (some (def x)) i h = absurd h

abbrev pub defines? : Sheet → ℕ → ℕ → Bool
defines? s d w = here? (λ x. eqb (definitions (take w s)) d) (at s w)

defines_iff : (s : Sheet) (d w : ℕ) → T (defines? s d w) ↔ ((x : ℕ) × Defines s d w x)
defines_iff s d w = (go (at s w) refl, λ z. subst (λ (o : Option Row). T (here? (λ x. eqb (definitions (take w s)) d) o)) (sym z.1.is) ((same_number (definitions (take w s)) d).1 z.1.number))
  where
    go : (o : Option Row) → at s w ≡ o → T (here? (λ x. eqb (definitions (take w s)) d) o) → (x : ℕ) × Defines s d w x
    go none i h = absurd h
    go (some empty) i h = absurd h
    go (some one_text) i h = absurd h
    go (some (named l c)) i h = absurd h
    go (some (any c)) i h = absurd h
    go (some (seq a b)) i h = absurd h
    go (some (alt a b)) i h = absurd h
    go (some (many a)) i h = absurd h
    go (some (def x)) i h = (x, record { is = i; number = eqb→eq (definitions (take w s)) d h })

abbrev pub content? : Sheet → (ℕ → Bool) → ℕ → Bool
content? s f d = any_below (length s) (λ w. and_then (defines? s d w) (λ _. f w))

content_iff : (s : Sheet) (c : Forest) (f : ℕ → Bool) → ((w : ℕ) → T (f w) ↔ Stands s c w) → (d : ℕ) → T (content? s f d) ↔ Belongs s d c
content_iff s c f g d =
    Iff.trans (any_iff (length s) (λ w. and_then (defines? s d w) (λ _. f w)) (λ w. and_then_iff (defines? s d w) (λ _. f w) (defines_iff s d w) (g w))) (
      λ z. stands_definition z.2.0.1 z.2.1,
      λ b. (b.row, at_below s b.row (def b.expression) b.defines.is, ((b.expression, b.defines), belongs_stands b)),
    )

abbrev pub node? : Sheet → (ℕ → Bool) → ℕ → Option Row → Bool
node? s f l none = false
node? s f l (some empty) = false
node? s f l (some one_text) = false
node? s f l (some (named k d)) = and_then (eqb k l) (λ _. content? s f d)
node? s f l (some (any d)) = content? s f d
node? s f l (some (seq a b)) = false
node? s f l (some (alt a b)) = false
node? s f l (some (many a)) = false
node? s f l (some (def x)) = false

node_iff : (s : Sheet) (c : Forest) (f : ℕ → Bool) → ((w : ℕ) → T (f w) ↔ Stands s c w) → (l p : ℕ) → T (node? s f l (at s p)) ↔ Reads s (a_node l c) p
node_iff s c f g l p = (go (at s p) refl, λ z. back (((leaf_fits s p z.0).to_node l c).0 z.1))
  where
    go : (o : Option Row) → at s p ≡ o → T (node? s f l o) → Reads s (a_node l c) p
    go none i h = absurd h
    go (some empty) i h = absurd h
    go (some one_text) i h = absurd h
    go (some (named k d)) i h =
        let z = (and_then_iff (eqb k l) (λ _. content? s f d) (same_number k l) (content_iff s c f g d)).0 h in
        let j = subst (λ (x : ℕ). at s p ≡ some (named x d)) z.0 i in
        (leaf_named j, ((leaf_fits s p (leaf_named j)).to_node l c).1 (inl (d, j, z.1)))
    go (some (any d)) i h = (leaf_any i, ((leaf_fits s p (leaf_any i)).to_node l c).1 (inr (d, i, (content_iff s c f g d).0 h)))
    go (some (seq a b)) i h = absurd h
    go (some (alt a b)) i h = absurd h
    go (some (many a)) i h = absurd h
    go (some (def x)) i h = absurd h

    back : ((d : ℕ) × (at s p ≡ some (named l d)) × Belongs s d c) ⊎ ((d : ℕ) × (at s p ≡ some (any d)) × Belongs s d c) → T (node? s f l (at s p))
    back (inl z) =
        subst (λ (o : Option Row). T (node? s f l o)) (sym z.1)
        ((and_then_iff (eqb l l) (λ _. content? s f z.0) (same_number l l) (content_iff s c f g z.0)).1 (refl, z.2))
    back (inr z) = subst (λ (o : Option Row). T (node? s f l o)) (sym z.1) ((content_iff s c f g z.0).1 z.2)

-- The standing of a forest.
abbrev pub stands? : Sheet → Forest → ℕ → Bool
stands? s nil q = ends? s q
stands? s (text t r) q = any_below (length s) (λ p. and_then (text? (at s p)) (λ _. and_then (leads? s q p) (λ _. stands? s r p)))
stands? s (node l c r) q =
    any_below (length s) (λ p. and_then (node? s (λ w. stands? s c w) l (at s p)) (λ _. and_then (leads? s q p) (λ _. stands? s r p)))

step : (s : Sheet) (R : ℕ → Type 0) (t : Forest) (q : ℕ) (a b c : ℕ → Bool) → ((p : ℕ) → R p → p < length s) → (A B : ℕ → Type 0)
    → ((p : ℕ) → T (a p) ↔ R p) → ((p : ℕ) → T (b p) ↔ A p) → ((p : ℕ) → T (c p) ↔ B p)
    → T (any_below (length s) (λ p. and_then (a p) (λ _. and_then (b p) (λ _. c p)))) ↔ ((p : ℕ) × (R p × B p) × A p)
step s R t q a b c h A B x y z =
    Iff.trans
    (any_iff (length s) (λ p. and_then (a p) (λ _. and_then (b p) (λ _. c p)))
    (λ p. and_then_iff (a p) (λ _. and_then (b p) (λ _. c p)) (x p) (and_then_iff (b p) (λ _. c p) (y p) (z p))))
    (λ u. (u.0, (u.2.0, u.2.1.1), u.2.1.0), λ u. (u.0, h u.0 u.1.0, (u.1.0, (u.2, u.1.1))))

leaf_below : (s : Sheet) (p : ℕ) → Leaf s p → p < length s
leaf_below s p (leaf_text i) = at_below s p one_text i
leaf_below s p (leaf_named {l = l} {d = d} i) = at_below s p (named l d) i
leaf_below s p (leaf_any {d = d} i) = at_below s p (any d) i

pub stands_iff : (s : Sheet) → WellFormed s → (f : Forest) (q : ℕ) → T (stands? s f q) ↔ Stands s f q
stands_iff s w nil q = Iff.trans (ends_iff s w q) (ends_stands q)
stands_iff s w (text t r) q =
    Iff.trans
    (step s (Reads s (a_text t)) r q (λ p. text? (at s p)) (λ p. leads? s q p) (λ p. stands? s r p) (λ p z. leaf_below s p z.0)
    (LeadsBelow s (length s) q) (Stands s r) (text_iff s t) (leads_iff s w q) (stands_iff s w r))
    (leads_stands w (a_text t) r q)
stands_iff s w (node l c r) q =
    Iff.trans
    (step s (Reads s (a_node l c)) r q (λ p. node? s (λ v. stands? s c v) l (at s p)) (λ p. leads? s q p) (λ p. stands? s r p) (λ p z. leaf_below s p z.0)
    (LeadsBelow s (length s) q) (Stands s r) (node_iff s c (λ v. stands? s c v) (stands_iff s w c) l) (leads_iff s w q) (stands_iff s w r))
    (leads_stands w (a_node l c) r q)

pub in_sheet : (s : Sheet) → Sound s → (e x : ℕ) (f : Forest) → Defines s 0 e x → stands? s f e ≡ true → OfSheet s f
in_sheet s w e x f d q = stands_definition d ((stands_iff s (well_formed w) f e).0 (subst (λ (b : Bool). T b) (sym q) tt))

pub out_of_sheet : (s : Sheet) → Sound s → (e x : ℕ) (f : Forest) → Defines s 0 e x → stands? s f e ≡ false → OfSheet s f → ⊥
out_of_sheet s w e x f d q b =
    let r = defines_once b.defines d in
    let z = (stands_iff s (well_formed w) f e).1 (subst (λ (n : ℕ). Stands s f n) r (belongs_stands b)) in
    subst (λ (v : Bool). T v) q z
