-- The rules of belonging turned round: what a row admits, by its kind.
use Rattle.std.proofs.Common.{◌≡◌, ℕ, ◌⊎◌, List, sym, refl, ap, ◌∙◌, subst, inl, inr}
use Rattle.std.proofs.Math.Option.{Option, none, some}
use Rattle.forest.specs.Forest.{Forest, nil, text, node, join}
use Rattle.rows.specs.declared.row.Row.{Row}
use Rattle.rows.specs.declared.row.Row.TheVariants.{Empty as empty, Text as one_text, Named as named, Any as any, Seq as seq, Alt as alt, Many as many, Def as def}
use Rattle.rows.specs.Sheet.{Sheet, at, Defines}
use Rattle.sheet.specs.Meaning.{Admits, of_empty, of_text, of_named, of_any, of_seq, of_alt_first, of_alt_second, of_many_none, of_many_more, of_def, Belongs}
use Rattle.rows.proofs.Numbers.{defines_once}

abbrev pub AdmitsRow : Sheet → ℕ → Forest → Option Row → Type 0
AdmitsRow s e f none = ⊥
AdmitsRow s e f (some empty) = f ≡ nil
AdmitsRow s e f (some one_text) = (t : List ℕ) × (f ≡ text t nil)
AdmitsRow s e f (some (named l d)) = (c : Forest) × (f ≡ node l c nil) × Belongs s d c
AdmitsRow s e f (some (any d)) = (l : ℕ) × (c : Forest) × (f ≡ node l c nil) × Belongs s d c
AdmitsRow s e f (some (seq a b)) = (g : Forest) × (h : Forest) × (f ≡ join g h) × Admits s a g × Admits s b h
AdmitsRow s e f (some (alt a b)) = Admits s a f ⊎ Admits s b f
AdmitsRow s e f (some (many a)) = (f ≡ nil) ⊎ ((g : Forest) × (h : Forest) × (f ≡ join g h) × Admits s a g × Admits s e h)
AdmitsRow s e f (some (def a)) = Admits s a f

pub admits_row : {s : Sheet} {e : ℕ} {f : Forest} → Admits s e f → AdmitsRow s e f (at s e)
admits_row (of_empty i) = rw i refl
admits_row (of_text {t = t} i) = rw i (t, refl)
admits_row (of_named {w = w} {x = x} {c = c} i d y) = rw i (c, refl, record { row = w; expression = x; defines = d; admits = y })
admits_row (of_any {l = l} {w = w} {x = x} {c = c} i d y) = rw i (l, c, refl, record { row = w; expression = x; defines = d; admits = y })
admits_row (of_seq {f = f} {g = g} i x y) = rw i (f, g, refl, x, y)
admits_row (of_alt_first i x) = rw i (inl x)
admits_row (of_alt_second i x) = rw i (inr x)
admits_row (of_many_none i) = rw i (inl refl)
admits_row (of_many_more {f = f} {g = g} i x y) = rw i (inr (f, g, refl, x, y))
admits_row (of_def i x) = rw i x

same_def : {x y : ℕ} → ◌≡◌ {A = Option Row} (some (def x)) (some (def y)) → x ≡ y
same_def e = cc

-- The expression of a definition admits what belongs to it.
pub admitted : {s : Sheet} {d e x : ℕ} {f : Forest} → Defines s d e x → Belongs s d f → Admits s x f
admitted {s} {f = f} d b =
    let r = defines_once b.defines d in
    subst (λ (n : ℕ). Admits s n f) (same_def (sym b.defines.is ∙ ap (at s) r ∙ d.is)) b.admits
