use Rattle.std.proofs.Common.{ℕ}
use Rattle.forest.specs.Forest.{Forest, nil, text, node}
use Rattle.sheet.specs.Standing.{Tree, a_text, a_node, before}
use Rattle.rows.specs.Sheet.{Sheet}
use Rattle.sheet.specs.Meaning.{Admits, of_empty, of_text, of_named, of_any, of_seq, of_alt_first, of_alt_second, of_many_none, of_many_more, of_def}
use Rattle.rows.specs.Sheet.{leaf_text, leaf_named, leaf_any}
use Rattle.sheet.specs.Meaning.{Follows, itself, in_seq_first, in_seq_second, in_alt_first, in_alt_second, in_many, in_def}
use Rattle.rows.specs.Steps.{Nullable, nul_empty, nul_seq, nul_alt_first, nul_alt_second, nul_many, nul_def}
use Rattle.rows.specs.Steps.{Opens, opens_itself, opens_seq_first, opens_seq_second, opens_alt_first, opens_alt_second, opens_many, opens_def}
use Rattle.rows.specs.Steps.{Closes, closes_itself, closes_seq_first, closes_seq_second, closes_alt_first, closes_alt_second, closes_many, closes_def}
use Rattle.rows.specs.Steps.{Next, next_seq_first, next_seq_second, next_seq_across, next_alt_first, next_alt_second, next_many, next_many_across, next_def}
use Rattle.sheet.proofs.Rows.{opens_row}

abbrev pub First : (s : Sheet) → ℕ → Tree → Forest → Type 0
First s e t r = (p : ℕ) × Opens s p e × Admits s p (before t nil) × Follows s p e r

abbrev pub Starts : (s : Sheet) → ℕ → Forest → Type 0
Starts s e nil = Nullable s e
Starts s e (text b r) = First s e (a_text b) r
Starts s e (node l c r) = First s e (a_node l c) r

widen : {s : Sheet} {a e : ℕ} → (Nullable s a → Nullable s e) → ((p : ℕ) → Opens s p a → Opens s p e)
    → ((p : ℕ) (r : Forest) → Follows s p a r → Follows s p e r) → (h : Forest) → Starts s a h → Starts s e h
widen n o w nil x = n x
widen n o w (text b r) x = (x.0, o x.0 x.1, x.2, w x.0 r x.3)
widen n o w (node l c r) x = (x.0, o x.0 x.1, x.2, w x.0 r x.3)

pub starts : {s : Sheet} {e : ℕ} {h : Forest} → Admits s e h → Starts s e h
starts (of_empty i) = nul_empty i
starts (of_text {e = e} i) = (e, opens_itself (leaf_text i), of_text i, itself (leaf_text i))
starts (of_named {e = e} i d x) = (e, opens_itself (leaf_named i), of_named i d x, itself (leaf_named i))
starts (of_any {e = e} i d x) = (e, opens_itself (leaf_any i), of_any i d x, itself (leaf_any i))
starts (of_seq {f = nil} {g = g} i x y) =
    widen (nul_seq i (starts x)) (λ p. opens_seq_second i (starts x)) (λ p r. in_seq_second i) g (starts y)
starts (of_seq {f = text b f} i x y) =
    let z = starts x in (z.0, opens_seq_first i z.1, z.2, in_seq_first i z.3 y)
starts (of_seq {f = node l c f} i x y) =
    let z = starts x in (z.0, opens_seq_first i z.1, z.2, in_seq_first i z.3 y)
starts (of_alt_first {f = f} i x) =
    widen (nul_alt_first i) (λ p. opens_alt_first i) (λ p r. in_alt_first i) f (starts x)
starts (of_alt_second {f = f} i x) =
    widen (nul_alt_second i) (λ p. opens_alt_second i) (λ p r. in_alt_second i) f (starts x)
starts (of_many_none i) = nul_many i
starts (of_many_more {f = nil} i x y) = starts y
starts (of_many_more {f = text b f} i x y) =
    let z = starts x in (z.0, opens_many i z.1, z.2, in_many i z.3 y)
starts (of_many_more {f = node l c f} i x y) =
    let z = starts x in (z.0, opens_many i z.1, z.2, in_many i z.3 y)
starts (of_def {f = f} i x) = widen (nul_def i) (λ p. opens_def i) (λ p r. in_def i) f (starts x)

abbrev pub Then : (s : Sheet) → ℕ → ℕ → Tree → Forest → Type 0
Then s q e t r = (p : ℕ) × Next s q p e × Admits s p (before t nil) × Follows s p e r

abbrev pub Continues : (s : Sheet) → ℕ → ℕ → Forest → Type 0
Continues s q e nil = Closes s q e
Continues s q e (text b r) = Then s q e (a_text b) r
Continues s q e (node l c r) = Then s q e (a_node l c) r

widen_next : {s : Sheet} {q a e : ℕ} → (Closes s q a → Closes s q e) → ((p : ℕ) → Next s q p a → Next s q p e)
    → ((p : ℕ) (r : Forest) → Follows s p a r → Follows s p e r) → (h : Forest) → Continues s q a h → Continues s q e h
widen_next c n w nil x = c x
widen_next c n w (text b r) x = (x.0, n x.0 x.1, x.2, w x.0 r x.3)
widen_next c n w (node l d r) x = (x.0, n x.0 x.1, x.2, w x.0 r x.3)

-- from a start in row b to a step in row e
across : {s : Sheet} {q b e : ℕ} → (Nullable s b → Closes s q e) → ((p : ℕ) → Opens s p b → Next s q p e)
    → ((p : ℕ) (r : Forest) → Follows s p b r → Follows s p e r) → (h : Forest) → Starts s b h → Continues s q e h
across c n w nil x = c x
across c n w (text b r) x = (x.0, n x.0 x.1, x.2, w x.0 r x.3)
across c n w (node l d r) x = (x.0, n x.0 x.1, x.2, w x.0 r x.3)

pub continues : {s : Sheet} {q e : ℕ} {h : Forest} → Follows s q e h → Continues s q e h
continues (itself l) = closes_itself l
continues (in_seq_first {f = nil} {g = g} i x y) =
    across (closes_seq_first i (continues x)) (λ p. next_seq_across i (continues x)) (λ p r. in_seq_second i) g (starts y)
continues (in_seq_first {f = text b f} i x y) =
    let z = continues x in (z.0, next_seq_first i z.1, z.2, in_seq_first i z.3 y)
continues (in_seq_first {f = node l c f} i x y) =
    let z = continues x in (z.0, next_seq_first i z.1, z.2, in_seq_first i z.3 y)
continues (in_seq_second {f = f} i x) =
    widen_next (closes_seq_second i) (λ p. next_seq_second i) (λ p r. in_seq_second i) f (continues x)
continues (in_alt_first {f = f} i x) =
    widen_next (closes_alt_first i) (λ p. next_alt_first i) (λ p r. in_alt_first i) f (continues x)
continues (in_alt_second {f = f} i x) =
    widen_next (closes_alt_second i) (λ p. next_alt_second i) (λ p r. in_alt_second i) f (continues x)
continues (in_many {f = nil} {g = g} i x y) =
    across (λ _. closes_many i (continues x)) (λ p o. next_many_across i (continues x) (rw i at (opens_row o))) (λ p r w. w) g (starts y)
continues (in_many {f = text b f} i x y) =
    let z = continues x in (z.0, next_many i z.1, z.2, in_many i z.3 y)
continues (in_many {f = node l c f} i x y) =
    let z = continues x in (z.0, next_many i z.1, z.2, in_many i z.3 y)
continues (in_def {f = f} i x) =
    widen_next (closes_def i) (λ p. next_def i) (λ p r. in_def i) f (continues x)
