-- Standings from the tables.
use Rattle.std.proofs.Common.{◌≡◌, ℕ, zero, suc, ◌^◌, ◌<◌, not, T, eqb, ◌↔◌, List, length, get_or, take, sym, refl, ap, ◌∙◌, subst, inl, inr, arith}
use mathlib.Core.Option.{some}
use lib.Bits.{bit_and, bit_or, and_le_l}
use lib.Count.{count_trailing_zeros}
use Rattle.std.proofs.lemmas.Bool.{ne_eqb}
use Rattle.forest.specs.Forest.{Forest, nil}
use Rattle.rows.specs.Sheet.{Sheet, at, definitions, Defines, Leaf, leaf_text, leaf_named, leaf_any, Names, by_named, by_any}
use Rattle.rows.specs.declared.row.Row.TheVariants.{Named as named, Def as def}
use Rattle.rows.specs.Sheet.{Place, a_definition, a_leaf, places}
use Rattle.sheet.specs.Meaning.{of_text, Follows, itself, in_seq_first, in_seq_second, in_alt_first, in_alt_second, in_many, in_def, Belongs, MayFollow, OfSheet, Stands, at_definition, at_leaf}
use Rattle.sheet.specs.Standing.{Bit, SetOf, IsStanding, Tree, a_text, a_node, before, Reads, AreLeaves}
use Rattle.rows.specs.Steps.{WellFormed}
use Rattle.sheet.specs.Shapes.{LeadsBelow, EndsBelow}
use Rattle.sheet.specs.Compiled.{Tables, Tabled, TextAt, Compiled}
use Rattle.sheet.specs.Leaves.{HasLabel, HasContent}
use Rattle.sheet.proofs.Bits.{lowest, bit_below, no_bit}
use Rattle.rows.proofs.Numbers.{at_below, defines_once}
use Rattle.sheet.proofs.PlaceSets.{set_same, set_and, set_or, set_member}
use Rattle.sheet.proofs.Growing.{bits_bound}
use Rattle.sheet.proofs.Tabling.{place_number}
use Rattle.rows.proofs.Checks.{names_row}
use Rattle.sheet.proofs.Standing.{of_nil, of_tree, leaf_fits}

-- What gathering from a table gives.
pub gathered : {s : Sheet} {m : ℕ} {t : List ℕ} {P : ℕ → Type 0} {R : ℕ → ℕ → Type 0} (r : ℕ) → SetOf s m P → Tabled s t R
    → ((p : ℕ) → P p → Place s p) → r < 2 ^ 64
    → ((i : ℕ) → Bit i r ↔ ((j : ℕ) × Bit j m × Bit i (get_or t j 0)))
    → SetOf s r (λ q. (p : ℕ) × P p × R q p)
gathered {s} {m} {t} {P} {R} r x y places_of h f =
    record {
      bits = λ i q n. (
        λ b. let z = (f i).0 b in let w = set_member x z.0 z.1 in (w.0, w.2, (y.bits i z.0 q w.0 n w.1).0 z.2),
        λ b. let w = place_number (places_of b.0 b.1) in (f i).1 (places (take b.0 s), (x.bits _ b.0 w).1 b.1, (y.bits i _ q b.0 n w).1 b.2),
      );
      no_more = bits_bound 64 (places s) r h (λ i b. let z = (f i).0 b in bit_below (places s) i (get_or t z.0 0) (y.bound z.0) z.2);
    }

-- A definition is no leaf.
leaf_apart : {s : Sheet} {p x : ℕ} → Leaf s p → at s p ≡ some (def x) → ⊥
leaf_apart (leaf_text i) j = cc
leaf_apart (leaf_named i) j = cc
leaf_apart (leaf_any i) j = cc

follows_leaf : {s : Sheet} {p e : ℕ} {h : Forest} → Follows s p e h → Leaf s p
follows_leaf (itself l) = l
follows_leaf (in_seq_first i x y) = follows_leaf x
follows_leaf (in_seq_second i x) = follows_leaf x
follows_leaf (in_alt_first i x) = follows_leaf x
follows_leaf (in_alt_second i x) = follows_leaf x
follows_leaf (in_many i x y) = follows_leaf x
follows_leaf (in_def i x) = follows_leaf x

pub stands_place : {s : Sheet} {f : Forest} {e : ℕ} → Stands s f e → Place s e
stands_place (at_definition d b) = a_definition d.is
stands_place (at_leaf m) = a_leaf (follows_leaf m.follows)

pub stands_leaf : {s : Sheet} {f : Forest} {p : ℕ} → Leaf s p → Stands s f p → MayFollow s p f
stands_leaf l (at_definition d b) = absurd (leaf_apart l d.is)
stands_leaf l (at_leaf m) = m

pub stands_definition : {s : Sheet} {f : Forest} {d e x : ℕ} → Defines s d e x → Stands s f e → Belongs s d f
stands_definition {s} {f} {d} d₀ (at_definition {d = d'} d₁ b) =
    subst (λ (n : ℕ). Belongs s n f) (sym d₁.number ∙ d₀.number) b
stands_definition d₀ (at_leaf m) = absurd (leaf_apart (follows_leaf m.follows) d₀.is)

pub belongs_stands : {s : Sheet} {f : Forest} {d : ℕ} (b : Belongs s d f) → Stands s f b.row
belongs_stands b = at_definition b.defines b

-- The empty forest.
pub ends_stands : {s : Sheet} (q : ℕ) → EndsBelow s (length s) q ↔ Stands s nil q
ends_stands {s} q = (forth, back)
  where
    forth : EndsBelow s (length s) q → Stands s nil q
    forth z =
        elim z.4 [
          | inl y ↦
              let d : Defines s (definitions (take z.0 s)) z.0 z.1 = record { is = z.3; number = refl } in
              subst (λ (n : ℕ). Stands s nil n) (sym y.0) (at_definition d (((of_nil s).belongs (definitions (take z.0 s))).1 (z.0, z.1, d, y.1)))
          | inr y ↦ at_leaf (((of_nil s).follows q).1 (z.0, z.1, z.3, y))
        ]

    back : {q : ℕ} → Stands s nil q → EndsBelow s (length s) q
    back {q} (at_definition {d = d} {x = x} d₀ b) =
        let z = ((of_nil s).belongs d).0 b in
        let r = defines_once d₀ z.2 in
        (z.0, z.1, at_below s z.0 (def z.1) z.2.is, z.2.is, inl (r, z.3))
    back {q} (at_leaf m) =
        let z = ((of_nil s).follows q).0 m in (z.0, z.1, at_below s z.0 (def z.1) z.2, z.2, inr z.3)

pub empty_stands : {s : Sheet} {t : Tables} → Compiled s t → IsStanding s t.ends nil
empty_stands c = set_same ends_stands c.ends

-- A tree before a rest.
pub leads_stands : {s : Sheet} → WellFormed s → (t : Tree) (r : Forest) (q : ℕ)
    → ((p : ℕ) × (Reads s t p × Stands s r p) × LeadsBelow s (length s) q p) ↔ Stands s (before t r) q
leads_stands {s} w t r q = (forth, back)
  where
    forth : (p : ℕ) × (Reads s t p × Stands s r p) × LeadsBelow s (length s) q p → Stands s (before t r) q
    forth y =
        let z = y.2 in
        let m = stands_leaf y.1.0.0 y.1.1 in
        elim z.4 [
          | inl v ↦
              let d : Defines s (definitions (take z.0 s)) z.0 z.1 = record { is = z.3; number = refl } in
              subst (λ (n : ℕ). Stands s (before t r) n) (sym v.0)
              (at_definition d (((of_tree s w t r).belongs (definitions (take z.0 s))).1 (z.0, z.1, y.0, d, v.1, y.1.0.1, m)))
          | inr v ↦ at_leaf (((of_tree s w t r).follows q).1 (z.0, z.1, y.0, z.3, v, y.1.0.1, m))
        ]

    back : {q : ℕ} → Stands s (before t r) q → (p : ℕ) × (Reads s t p × Stands s r p) × LeadsBelow s (length s) q p
    back {q} (at_definition {d = d} d₀ b) =
        let z = ((of_tree s w t r).belongs d).0 b in
        let k = defines_once d₀ z.3 in
        (z.2, ((follows_leaf z.6.follows, z.5), at_leaf z.6), (z.0, z.1, at_below s z.0 (def z.1) z.3.is, z.3.is, inl (k, z.4)))
    back {q} (at_leaf m) =
        let z = ((of_tree s w t r).follows q).0 m in
        (z.2, ((follows_leaf z.6.follows, z.5), at_leaf z.6), (z.0, z.1, at_below s z.0 (def z.1) z.3, z.3, inr z.4))

pub tree_stands : {s : Sheet} {tb : Tables} {leaves rest : ℕ} (m : ℕ) → WellFormed s → Compiled s tb → m < 2 ^ 64
    → ((i : ℕ) → Bit i m ↔ ((j : ℕ) × Bit j (bit_and leaves rest) × Bit i (get_or tb.before j 0)))
    → (t : Tree) (r : Forest) → AreLeaves s leaves t → IsStanding s rest r → IsStanding s m (before t r)
tree_stands m w c h f t r a b =
    set_same (leads_stands w t r) (gathered m (set_and a b) c.before (λ p z. a_leaf z.0.0) h f)

-- The leaves of a text.
text_reads : {s : Sheet} (t : List ℕ) (p : ℕ) → TextAt s p ↔ Reads s (a_text t) p
text_reads {s} t p = (λ i. (leaf_text i, of_text i), λ z. ((leaf_fits s p z.0).to_text t).0 z.1)

pub text_admitted : {s : Sheet} {tb : Tables} → Compiled s tb → (t : List ℕ) → AreLeaves s tb.texts (a_text t)
text_admitted c t = set_same (text_reads t) c.texts

-- The leaves of a node by its content.
pub content_held : {s : Sheet} {tb : Tables} {content : ℕ} (m : ℕ) → Compiled s tb → m < 2 ^ 64
    → ((i : ℕ) → Bit i m ↔ ((j : ℕ) × Bit j content × Bit i (get_or tb.holders j 0)))
    → (f : Forest) → IsStanding s content f → SetOf s m (HasContent s f)
content_held {s} m c h g f a =
    set_same (λ p. (
      λ z. (z.2.0, z.2.2, stands_definition z.2.3 z.1),
      λ z. (z.2.row, belongs_stands z.2, (z.0, z.2.expression, z.1, z.2.defines)),
    ))
    (gathered m a c.holders (λ p z. stands_place z) h g)

-- The leaves of a node by its label.
pub label_picked : {s : Sheet} {tb : Tables} (l m : ℕ) → Compiled s tb → m < 2 ^ 64
    → ((i : ℕ) → Bit i m ↔ (Bit i tb.named × (get_or tb.labels i 0 ≡ l)))
    → SetOf s m (λ p. (d : ℕ) × (at s p ≡ some (named l d)))
label_picked {s} {tb} l m c h f =
    record {
      bits = λ i p n. (
        λ b.
            let z = (f i).0 b in
            let k = (c.named.bits i p n).0 z.0 in
            let e = c.labels p k.0 k.1 (at_below s p (named k.0 k.1) k.2) k.2 in
            let q : k.0 ≡ l = sym e ∙ ap (λ (j : ℕ). get_or tb.labels j 0) n.number ∙ z.1 in
            (k.1, subst (λ (x : ℕ). at s p ≡ some (named x k.1)) q k.2),
        λ z.
            let e = c.labels p l z.0 (at_below s p (named l z.0) z.1) z.1 in
            (f i).1 ((c.named.bits i p n).1 (l, z.0, z.1), ap (λ (j : ℕ). get_or tb.labels j 0) (sym n.number) ∙ e),
      );
      no_more = bits_bound 64 (places s) m h (λ i b. bit_below (places s) i tb.named c.named.no_more ((f i).0 b).0);
    }

pub label_held : {s : Sheet} {tb : Tables} (l m : ℕ) → Compiled s tb → m < 2 ^ 64
    → ((i : ℕ) → Bit i m ↔ (Bit i tb.named × (get_or tb.labels i 0 ≡ l)))
    → SetOf s (bit_or tb.anys m) (HasLabel s l)
label_held {s} l m c h f =
    set_same (λ p. (
      λ z. elim z [ inl y ↦ inr y | inr y ↦ inl y ],
      λ z. elim z [ inl y ↦ inr y | inr y ↦ inl y ],
    ))
    (set_or c.anys (label_picked l m c h f))

-- The leaves of a node.
node_reads : {s : Sheet} (l : ℕ) (c : Forest) (p : ℕ) → (HasLabel s l p × HasContent s c p) ↔ Reads s (a_node l c) p
node_reads {s} l c p = (forth, back)
  where
    same : {d e : ℕ} → Names s p d → Names s p e → d ≡ e
    same (by_named i) m = sym (rw i at (names_row m))
    same (by_any i) m = sym (rw i at (names_row m))

    forth : HasLabel s l p × HasContent s c p → Reads s (a_node l c) p
    forth z =
        elim z.0 [
          | inl y ↦
              let b = subst (λ (d : ℕ). Belongs s d c) (same z.1.1 (by_named y.1)) z.1.2 in
              (leaf_named y.1, ((leaf_fits s p (leaf_named y.1)).to_node l c).1 (inl (y.0, y.1, b)))
          | inr y ↦
              let b = subst (λ (d : ℕ). Belongs s d c) (same z.1.1 (by_any y.1)) z.1.2 in
              (leaf_any y.1, ((leaf_fits s p (leaf_any y.1)).to_node l c).1 (inr (y.0, y.1, b)))
        ]

    back : Reads s (a_node l c) p → HasLabel s l p × HasContent s c p
    back z =
        elim (((leaf_fits s p z.0).to_node l c).0 z.1) [
          | inl y ↦ (inl (y.0, y.1), (y.0, by_named y.1, y.2))
          | inr y ↦ (inr (y.0, y.1), (y.0, by_any y.1, y.2))
        ]

pub node_admitted : {s : Sheet} {a b l : ℕ} (c : Forest) → SetOf s a (HasLabel s l) → SetOf s b (HasContent s c)
    → AreLeaves s (bit_and a b) (a_node l c)
node_admitted {s} {a} {b} {l} c x y = set_same (node_reads l c) (set_and x y)

-- Belonging to definition 0.
pub not_zero : (n : ℕ) → T (not (eqb n 0)) ↔ (n ≡ 0 → ⊥)
not_zero zero = (λ z. elim z [ ], λ f. f refl)
not_zero (suc n) = (λ z q. omega arith, λ f. rw (ne_eqb (suc n) 0 (λ q. omega arith)) tt)

pub top_belongs : {s : Sheet} {tb : Tables} {m : ℕ} {f : Forest} → Compiled s tb → m < 2 ^ 64 → IsStanding s m f
    → (bit_and m tb.top ≡ 0 → ⊥) ↔ OfSheet s f
top_belongs {s} {tb} {m} {f} c h a = (forth, back)
  where
    both : SetOf s (bit_and m tb.top) (λ e. Stands s f e × ((x : ℕ) × Defines s 0 e x))
    both = set_and a c.top

    forth : (bit_and m tb.top ≡ 0 → ⊥) → OfSheet s f
    forth n =
        let l = and_le_l m tb.top in
        let w = lowest 64 (bit_and m tb.top) (omega arith) (omega arith) in
        let z = set_member both (count_trailing_zeros 64 (bit_and m tb.top)) ((w.members _).1 (inl refl)) in
        stands_definition z.2.1.1 z.2.0

    back : OfSheet s f → bit_and m tb.top ≡ 0 → ⊥
    back b q =
        let n = place_number (a_definition b.defines.is) in
        let z = (both.bits _ b.row n).1 (belongs_stands b, (b.expression, b.defines)) in
        no_bit _ (subst (λ (k : ℕ). Bit (places (take b.row s)) k) q z)
