use Rattle.std.proofs.Common.{◌≡◌, ℕ, ◌⊎◌, List, sym, refl, ap, inl, inr}
use mathlib.Core.Option.{Option, none, some}
use Rattle.forest.specs.Forest.{Forest, nil, text, node}
use Rattle.sheet.specs.Standing.{Tree}
use Rattle.rows.specs.Sheet.{Sheet, at}
use Rattle.rows.specs.declared.row.Row.{Row}
use Rattle.rows.specs.declared.row.Row.TheVariants.{Empty as empty, Text as one_text, Named as named, Any as any, Seq as seq, Alt as alt, Many as many, Def as def}
use Rattle.rows.specs.Sheet.{def_part}
use Rattle.sheet.specs.Meaning.{Admits, of_empty, of_text, of_named, of_any, of_seq, of_alt_first, of_alt_second, of_many_none, of_many_more, of_def}
use Rattle.rows.specs.Sheet.{Leaf, leaf_text, leaf_named, leaf_any}
use Rattle.sheet.specs.Meaning.{Follows}
use Rattle.rows.specs.Steps.{WellFormed}
use Rattle.sheet.specs.Meaning.{Belongs, MayFollow}
use Rattle.sheet.proofs.Laws.{StandingOfNil, StandingOfTree, LeafFits}
use Rattle.sheet.proofs.Inside.{Inside, same, up, above, linear, opens_inside, follows_inside, next_inside}
use Rattle.sheet.proofs.Backwards.{null_admits, closes_follows, opens_admits, next_follows}
use Rattle.sheet.proofs.Forwards.{starts, continues}
use Rattle.sheet.proofs.KeyLemma.{first_of, next_of}

-- A row stands inside one definition at most.
top : {s : Sheet} {e e' x : ℕ} → WellFormed s → at s e ≡ some (def x) → Inside s e e' → e ≡ e'
top w i same = refl
top w i (up z j) = absurd (w.plain z i)

pub one_home : {s : Sheet} {p x x' : ℕ} (e e' : ℕ) → WellFormed s → at s e ≡ some (def x) → at s e' ≡ some (def x')
    → Inside s p x → Inside s p x' → x' ≡ x
one_home {s} e e' w i i' j j' =
    let q : e ≡ e' =
    elim (linear w (above j (def_part i)) (above j' (def_part i'))) [ inl h ↦ top w i h | inr h ↦ sym (top w i' h) ]
    in
    let z = ap (at s) q in cc

-- What may follow p does so within the expression that holds p.
pub home : {s : Sheet} {p x : ℕ} {r : Forest} (e : ℕ)
    → WellFormed s → at s e ≡ some (def x) → Inside s p x → MayFollow s p r → Follows s p x r
home e w i j m = rw (one_home e m.row w i m.is j (follows_inside m.follows)) at m.follows

-- A leaf by its kind.
abbrev pub LeafRow : Sheet → Forest → Option Row → Type 0
LeafRow s h none = Unit {0}
LeafRow s h (some empty) = Unit {0}
LeafRow s h (some one_text) = (b : List ℕ) × (h ≡ text b nil)
LeafRow s h (some (named l d)) = (c : Forest) × (h ≡ node l c nil) × Belongs s d c
LeafRow s h (some (any d)) = (l : ℕ) × (c : Forest) × (h ≡ node l c nil) × Belongs s d c
LeafRow s h (some (seq a b)) = Unit {0}
LeafRow s h (some (alt a b)) = Unit {0}
LeafRow s h (some (many a)) = Unit {0}
LeafRow s h (some (def a)) = Unit {0}

pub leaf_row : {s : Sheet} {e : ℕ} {h : Forest} → Admits s e h → LeafRow s h (at s e)
leaf_row (of_empty i) = rw i tt
leaf_row (of_text {t = b} i) = rw i (b, refl)
leaf_row (of_named {w = w} {x = x} {c = c} i d y) = rw i (c, refl, record { row = w; expression = x; defines = d; admits = y })
leaf_row (of_any {l = l} {w = w} {x = x} {c = c} i d y) =
    rw i (l, c, refl, record { row = w; expression = x; defines = d; admits = y })
leaf_row (of_seq i x y) = rw i tt
leaf_row (of_alt_first i x) = rw i tt
leaf_row (of_alt_second i x) = rw i tt
leaf_row (of_many_none i) = rw i tt
leaf_row (of_many_more i x y) = rw i tt
leaf_row (of_def i x) = rw i tt

no_text : {b : List ℕ} {l : ℕ} {c f g : Forest} → text b f ≡ node l c g → ⊥
no_text h = cc

abbrev Fitting : Sheet → ℕ → ℕ → Forest → Type 0
Fitting s p l c = ((d : ℕ) × (at s p ≡ some (named l d)) × Belongs s d c) ⊎ ((d : ℕ) × (at s p ≡ some (any d)) × Belongs s d c)

fits_text : {s : Sheet} {p : ℕ} → Leaf s p → (b : List ℕ) → Admits s p (text b nil) → at s p ≡ some one_text
fits_text (leaf_text i) b x = i
fits_text (leaf_named i) b x = let z = rw i at (leaf_row x) in absurd (no_text z.1)
fits_text (leaf_any i) b x = let z = rw i at (leaf_row x) in absurd (no_text z.2)

label_of : {l k : ℕ} {c c' f g : Forest} → node l c f ≡ node k c' g → k ≡ l
label_of h = cc

content_of : {l k : ℕ} {c c' f g : Forest} → node l c f ≡ node k c' g → c' ≡ c
content_of h = cc

fits_node : {s : Sheet} {p : ℕ} → Leaf s p → (l : ℕ) (c : Forest) → Admits s p (node l c nil) → Fitting s p l c
fits_node (leaf_text i) l c x = let z = rw i at (leaf_row x) in absurd (no_text (sym z.1))
fits_node (leaf_named {d = d} i) l c x =
    let z = rw i at (leaf_row x) in inl (d, rw (label_of z.1) at i, rw (content_of z.1) at z.2)
fits_node (leaf_any {d = d} i) l c x = let z = rw i at (leaf_row x) in inr (d, i, rw (content_of z.2) at z.3)

fitting_node : {s : Sheet} {p l : ℕ} {c : Forest} → Fitting s p l c → Admits s p (node l c nil)
fitting_node (inl z) = of_named z.1 z.2.defines z.2.admits
fitting_node (inr z) = of_any z.1 z.2.defines z.2.admits

pub leaf_fits : (s : Sheet) (p : ℕ) → Leaf s p → LeafFits s p
leaf_fits s p l =
    record { to_text = λ b. (fits_text l b, of_text); to_node = λ k c. (fits_node l k c, fitting_node) }

pub of_nil : (s : Sheet) → StandingOfNil s
of_nil s =
    record {
      belongs =
          λ d. (
            λ z. (z.row, z.expression, z.defines, starts z.admits),
            λ z. record { row = z.0; expression = z.1; defines = z.2; admits = null_admits z.3 },
          );
      follows =
          λ q. (
            λ z. (z.row, z.expression, z.is, continues z.follows),
            λ z. record { row = z.0; expression = z.1; is = z.2; follows = closes_follows z.3 },
          );
    }

pub of_tree : (s : Sheet) → WellFormed s → (t : Tree) (r : Forest) → StandingOfTree s t r
of_tree s w t r =
    record {
      belongs =
          λ d. (
            λ z.
                let y = first_of t r z.admits in (
                  z.row,
                  z.expression,
                  y.0,
                  z.defines,
                  y.1,
                  y.2,
                  record { row = z.row; expression = z.expression; is = z.defines.is; follows = y.3 },
                ),
            λ z.
                record {
                  row = z.0;
                  expression = z.1;
                  defines = z.3;
                  admits = opens_admits w t r z.4 z.5 (home z.0 w z.3.is (opens_inside z.4) z.6);
                },
          );
      follows =
          λ q. (
            λ z.
                let y = next_of t r z.follows in (
                  z.row,
                  z.expression,
                  y.0,
                  z.is,
                  y.1,
                  y.2,
                  record { row = z.row; expression = z.expression; is = z.is; follows = y.3 },
                ),
            λ z.
                record {
                  row = z.0;
                  expression = z.1;
                  is = z.3;
                  follows = next_follows w t r z.4 z.5 (home z.0 w z.3 (next_inside z.4) z.6);
                },
          );
    }
