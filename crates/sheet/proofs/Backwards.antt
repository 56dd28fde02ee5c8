use Rattle.std.proofs.Common.{◌≡◌, ℕ, refl, inl, inr}
use mathlib.Core.Option.{some}
use Rattle.forest.specs.Forest.{Forest, nil, join}
use Rattle.sheet.specs.Standing.{Tree, a_text, a_node, before}
use Rattle.rows.specs.Sheet.{Sheet, at}
use Rattle.rows.specs.declared.row.Row.TheVariants.{Seq as seq, Alt as alt}
use Rattle.rows.specs.Sheet.{seq_first, seq_second, alt_first, alt_second}
use Rattle.sheet.specs.Meaning.{Admits, of_empty, of_seq, of_alt_first, of_alt_second, of_many_none, of_many_more, of_def}
use Rattle.rows.specs.Sheet.{Leaf, leaf_text, leaf_named, leaf_any}
use Rattle.sheet.specs.Meaning.{Follows, itself, in_seq_first, in_seq_second, in_alt_first, in_alt_second, in_many, in_def}
use Rattle.rows.specs.Steps.{WellFormed, Nullable, nul_empty, nul_seq, nul_alt_first, nul_alt_second, nul_many, nul_def}
use Rattle.rows.specs.Steps.{Opens, opens_itself, opens_seq_first, opens_seq_second, opens_alt_first, opens_alt_second, opens_many, opens_def}
use Rattle.rows.specs.Steps.{Closes, closes_itself, closes_seq_first, closes_seq_second, closes_alt_first, closes_alt_second, closes_many, closes_def}
use Rattle.rows.specs.Steps.{Next, next_seq_first, next_seq_second, next_seq_across, next_alt_first, next_alt_second, next_many, next_many_across, next_def}
use Rattle.sheet.proofs.Rows.{follows_row}
use Rattle.sheet.proofs.Inside.{Inside, apart, opens_inside, follows_inside, next_inside}

pub joined : (t : Tree) (f g : Forest) → join (before t f) g ≡ before t (join f g)
joined (a_text b) f g = refl
joined (a_node l c) f g = refl

-- What may follow a leaf within a row, narrowed to the part that holds the leaf.
pub in_leaf : {s : Sheet} {p : ℕ} {r : Forest} → Leaf s p → Follows s p p r → r ≡ nil
in_leaf (leaf_text i) f = (rw i at (follows_row f)).1
in_leaf (leaf_named i) f = (rw i at (follows_row f)).1
in_leaf (leaf_any i) f = (rw i at (follows_row f)).1

abbrev pub Split : Sheet → ℕ → ℕ → ℕ → Forest → Type 0
Split s p a b r = (f : Forest) × (g : Forest) × Follows s p a f × Admits s b g × (r ≡ join f g)

pub in_first : {s : Sheet} {p e a b : ℕ} {r : Forest}
    → WellFormed s → at s e ≡ some (seq a b) → Inside s p a → Follows s p e r → Split s p a b r
in_first w i n x =
    elim (rw i at (follows_row x)) [
      | inl z ↦ z
      | inr y ↦ absurd (apart w (seq_first i) (seq_second i) n (follows_inside y))
    ]

pub in_second : {s : Sheet} {p e a b : ℕ} {r : Forest}
    → WellFormed s → at s e ≡ some (seq a b) → Inside s p b → Follows s p e r → Follows s p b r
in_second w i n x =
    elim (rw i at (follows_row x)) [
      | inl z ↦ absurd (apart w (seq_first i) (seq_second i) (follows_inside z.2) n)
      | inr y ↦ y
    ]

pub in_either_first : {s : Sheet} {p e a b : ℕ} {r : Forest}
    → WellFormed s → at s e ≡ some (alt a b) → Inside s p a → Follows s p e r → Follows s p a r
in_either_first w i n x =
    elim (rw i at (follows_row x)) [
      | inl y ↦ y
      | inr y ↦ absurd (apart w (alt_first i) (alt_second i) n (follows_inside y))
    ]

pub in_either_second : {s : Sheet} {p e a b : ℕ} {r : Forest}
    → WellFormed s → at s e ≡ some (alt a b) → Inside s p b → Follows s p e r → Follows s p b r
in_either_second w i n x =
    elim (rw i at (follows_row x)) [
      | inl y ↦ absurd (apart w (alt_first i) (alt_second i) (follows_inside y) n)
      | inr y ↦ y
    ]

pub null_admits : {s : Sheet} {e : ℕ} → Nullable s e → Admits s e nil
null_admits (nul_empty i) = of_empty i
null_admits (nul_seq i x y) = of_seq i (null_admits x) (null_admits y)
null_admits (nul_alt_first i x) = of_alt_first i (null_admits x)
null_admits (nul_alt_second i x) = of_alt_second i (null_admits x)
null_admits (nul_many i) = of_many_none i
null_admits (nul_def i x) = of_def i (null_admits x)

pub closes_follows : {s : Sheet} {q e : ℕ} → Closes s q e → Follows s q e nil
closes_follows (closes_itself l) = itself l
closes_follows (closes_seq_first i x n) = in_seq_first i (closes_follows x) (null_admits n)
closes_follows (closes_seq_second i x) = in_seq_second i (closes_follows x)
closes_follows (closes_alt_first i x) = in_alt_first i (closes_follows x)
closes_follows (closes_alt_second i x) = in_alt_second i (closes_follows x)
closes_follows (closes_many i x) = in_many i (closes_follows x) (of_many_none i)
closes_follows (closes_def i x) = in_def i (closes_follows x)

pub opens_admits : {s : Sheet} {p e : ℕ} → WellFormed s → (t : Tree) (r : Forest)
    → Opens s p e → Admits s p (before t nil) → Follows s p e r → Admits s e (before t r)
opens_admits w t r (opens_itself l) x f = rw (in_leaf l f) x
opens_admits w t r (opens_seq_first i o) x f =
    let z = in_first w i (opens_inside o) f in
    rw z.4 (rw joined at (of_seq i (opens_admits w t z.0 o x z.2) z.3))
opens_admits w t r (opens_seq_second i n o) x f =
    of_seq i (null_admits n) (opens_admits w t r o x (in_second w i (opens_inside o) f))
opens_admits w t r (opens_alt_first i o) x f =
    of_alt_first i (opens_admits w t r o x (in_either_first w i (opens_inside o) f))
opens_admits w t r (opens_alt_second i o) x f =
    of_alt_second i (opens_admits w t r o x (in_either_second w i (opens_inside o) f))
opens_admits w t r (opens_many i o) x f =
    let z = rw i at (follows_row f) in
    rw z.4 (rw joined at (of_many_more i (opens_admits w t z.0 o x z.2) z.3))
opens_admits w t r (opens_def i o) x f = of_def i (opens_admits w t r o x (rw i at (follows_row f)))

pub next_follows : {s : Sheet} {q p e : ℕ} → WellFormed s → (t : Tree) (r : Forest)
    → Next s q p e → Admits s p (before t nil) → Follows s p e r → Follows s q e (before t r)
next_follows w t r (next_seq_first i n) x f =
    let z = in_first w i (next_inside n) f in
    rw z.4 (rw joined at (in_seq_first i (next_follows w t z.0 n x z.2) z.3))
next_follows w t r (next_seq_second i n) x f =
    in_seq_second i (next_follows w t r n x (in_second w i (next_inside n) f))
next_follows w t r (next_seq_across i c o) x f =
    in_seq_first i (closes_follows c) (opens_admits w t r o x (in_second w i (opens_inside o) f))
next_follows w t r (next_alt_first i n) x f =
    in_alt_first i (next_follows w t r n x (in_either_first w i (next_inside n) f))
next_follows w t r (next_alt_second i n) x f =
    in_alt_second i (next_follows w t r n x (in_either_second w i (next_inside n) f))
next_follows w t r (next_many i n) x f =
    let z = rw i at (follows_row f) in
    rw z.4 (rw joined at (in_many i (next_follows w t z.0 n x z.2) z.3))
next_follows w t r (next_many_across i c o) x f =
    let z = rw i at (follows_row f) in
    let y = of_many_more i (opens_admits w t z.0 o x z.2) z.3 in
    rw z.4 (in_many i (closes_follows c) (rw joined at y))
next_follows w t r (next_def i n) x f = in_def i (next_follows w t r n x (rw i at (follows_row f)))
