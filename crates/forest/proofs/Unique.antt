-- Of a body at most one refusal is due, and none if it stands for a record.
use Rattle.std.proofs.Common.{◌≡◌, ℕ, suc, ◌+◌, ◌-◌, ◌*◌, ◌/◌, ◌%◌, ◌<◌, ◌≤◌, cond, eqb, ltb, List, [], ◌∷◌, ◌++◌, length, sym, refl, ap, ◌∙◌, subst, append_assoc, div-add-mod', arith, length-append}
use Rattle.std.proofs.lemmas.List.{append-nil}
use Rattle.std.proofs.lemmas.Bool.{ne_eqb, eq-eqb, lt-ltb, le-ltb}
use Rattle.forest.specs.Forest.{Forest, Record, bytes_of}
use Rattle.forest.specs.Reading.{Token, opening, chars, closing, written, all_written, walk, StandsFor, LeavesOpen, CutShort, in_opening, in_count, in_text, Wrong, cut_short, no_token, label_zero, stray_closing, never_closed, too_deep, DueWithin, Due, too_long, within}
use Rattle.forest.proofs.Forms.{cut, same_label}
use Rattle.forest.proofs.Walks.{walk_written, walk_leaves}

-- The number of what is wrong at the front of the bytes, 0 where nothing is.
abbrev code_label : ℕ → List ℕ → ℕ
code_label d [] = 4
code_label d (h ∷ []) = 4
code_label d (h ∷ (l ∷ s)) = cond (eqb (h * 256 + l) 0) 6 (cond (ltb d 64) 0 8)

abbrev code_text : List ℕ → ℕ
code_text [] = 4
code_text (n ∷ s) = cond (ltb (length s) n) 4 0

abbrev code : ℕ → List ℕ → ℕ
code d [] = cond (eqb d 0) 0 7
code d (b ∷ s) = cond (eqb b 1) (code_label d s) (cond (eqb b 2) (cond (eqb d 0) 7 0) (cond (eqb b 3) (code_text s) 5))

code_short : (d : ℕ) (s : List ℕ) → length s < 2 → code_label d s ≡ 4
code_short d [] h = refl
code_short d (x ∷ []) h = refl
code_short d (x ∷ (y ∷ s)) h = absurd (omega arith)

-- What is wrong has its number.
code_cut : (d : ℕ) {s : List ℕ} → CutShort s → code d s ≡ 4
code_cut d (in_opening {s} h) = code_short d s h
code_cut d in_count = refl
code_cut d (in_text {n} {s} h) = rw (lt-ltb (length s) n h)

code_wrong : {d : ℕ} {s : List ℕ} {n : ℕ} → Wrong d s n → code d s ≡ n
code_wrong {d} (cut_short c) = code_cut d c
code_wrong (no_token {b} n1 n2 n3) = rw (ne_eqb b 1 n1, ne_eqb b 2 n2, ne_eqb b 3 n3)
code_wrong label_zero = refl
code_wrong {d} (stray_closing h) = rw (eq-eqb d 0 h)
code_wrong {d} (never_closed h) = let n : d ≡ 0 → ⊥ = λ e. omega arith in rw (ne_eqb d 0 n)
code_wrong {d} (too_deep {h} {l} b k) =
    let n : h * 256 + l ≡ 0 → ⊥ = λ e. omega (arith, b.0) in rw (ne_eqb (h * 256 + l) 0 n, le-ltb d 64 k)

not_none : {d : ℕ} {s : List ℕ} {n : ℕ} → Wrong d s n → n ≡ 0 → ⊥
not_none (cut_short c) e = omega arith
not_none (no_token n1 n2 n3) e = omega arith
not_none label_zero e = omega arith
not_none (stray_closing h) e = omega arith
not_none (never_closed h) e = omega arith
not_none (too_deep b k) e = omega arith

-- Where a token may come, nothing is wrong.
code_token : (d e : ℕ) (t : Token) (s : List ℕ) → LeavesOpen d (t ∷ []) e → code d (written t ++ s) ≡ 0
code_token d e (opening l) s h =
    let b : l / 256 * 256 + l % 256 ≡ l = div-add-mod' l 256 in
    let n : l / 256 * 256 + l % 256 ≡ 0 → ⊥ = λ z. omega (arith, h.0.0) in
    rw (ne_eqb (l / 256 * 256 + l % 256) 0 n, lt-ltb d 64 h.1)
code_token d e (chars t) s h =
    let g : length t ≤ length (t ++ s) = simp length-append (omega arith) in
    rw (le-ltb (length (t ++ s)) (length t) g)
code_token d e closing s h = let n : d ≡ 0 → ⊥ = λ z. omega (arith, h.0) in rw (ne_eqb d 0 n)

-- No token may come at the front of the bytes.
abbrev Stuck : ℕ → List ℕ → Type 0
Stuck d s = (t : Token) (r : List ℕ) (e : ℕ) → LeavesOpen d (t ∷ []) e → s ≡ written t ++ r → ⊥

stuck_wrong : {d : ℕ} {s : List ℕ} {n : ℕ} → Wrong d s n → Stuck d s
stuck_wrong {d} {s} {n} w t r e h q = not_none w (sym (code_wrong w) ∙ ap (code d) q ∙ code_token d e t r h)

stuck_end : (d : ℕ) → Stuck d []
stuck_end d (opening l) r e h q = let z : ◌≡◌ {A = ℕ} 0 (length (written (opening l) ++ r)) = ap length q in omega arith
stuck_end d (chars t) r e h q = let z : ◌≡◌ {A = ℕ} 0 (length (written (chars t) ++ r)) = ap length q in omega arith
stuck_end d closing r e h q = let z : ◌≡◌ {A = ℕ} 0 (length (written closing ++ r)) = ap length q in omega arith

-- The first token of some bytes is the only one.
same_token : (t u : Token) (r s : List ℕ) → written t ++ r ≡ written u ++ s → (t ≡ u) × (r ≡ s)
same_token (opening l) (opening m) r s e =
    let hi : l / 256 ≡ m / 256 = cc in
    let lo : l % 256 ≡ m % 256 = cc in
    let lm : l ≡ m = same_label l m hi lo in
    let q : r ≡ s = cc in
    (ap opening lm, q)
same_token (opening l) (chars t) r s e = let z : ◌≡◌ {A = ℕ} 1 3 = cc in absurd (omega arith)
same_token (opening l) closing r s e = let z : ◌≡◌ {A = ℕ} 1 2 = cc in absurd (omega arith)
same_token (chars t) (opening l) r s e = let z : ◌≡◌ {A = ℕ} 3 1 = cc in absurd (omega arith)
same_token (chars t) (chars u) r s e =
    let n : length t ≡ length u = cc in
    let q : t ++ r ≡ u ++ s = cc in
    let k = cut t u r s n q in
    (ap chars k.0, k.1)
same_token (chars t) closing r s e = let z : ◌≡◌ {A = ℕ} 3 2 = cc in absurd (omega arith)
same_token closing (opening l) r s e = let z : ◌≡◌ {A = ℕ} 2 1 = cc in absurd (omega arith)
same_token closing (chars t) r s e = let z : ◌≡◌ {A = ℕ} 2 3 = cc in absurd (omega arith)
same_token closing closing r s e = let q : r ≡ s = cc in (refl, q)

-- What comes after a first token, and how many nodes it leaves open.
rest_of : (d e : ℕ) (t : Token) (ts : List Token) → LeavesOpen d (t ∷ ts) e → (k : ℕ) × LeavesOpen d (t ∷ []) k × LeavesOpen k ts e
rest_of d e (opening l) ts h = (suc d, (h.0, h.1, refl), h.2)
rest_of d e (chars t) ts h = (d, (h.0, refl), h.1)
rest_of d e closing ts h = (d - 1, (h.0, refl), h.1)

one_leaves : (d k e : ℕ) (t : Token) → LeavesOpen d (t ∷ []) k → LeavesOpen d (t ∷ []) e → k ≡ e
one_leaves d k e (opening l) h g = sym h.2 ∙ g.2
one_leaves d k e (chars t) h g = sym h.1 ∙ g.1
one_leaves d k e closing h g = sym h.1 ∙ g.1

-- Whole tokens before what no token begins are the only ones.
pub record SameSplit (ts us : List Token) (s t : List ℕ) (e k : ℕ) : Type 0 where
  pub tokens : ts ≡ us
  pub lefts : s ≡ t
  pub opens : e ≡ k

pub same_split : (d e k : ℕ) (ts us : List Token) (s t : List ℕ) → LeavesOpen d ts e → LeavesOpen d us k → Stuck e s → Stuck k t
    → all_written ts ++ s ≡ all_written us ++ t → SameSplit ts us s t e k
same_split d e k [] [] s t h g p q x = record { tokens = refl; lefts = x; opens = sym h ∙ g }
same_split d e k [] (u ∷ us) s t h g p q x =
    let r = rest_of d k u us g in
    absurd (subst (λ (n : ℕ). Stuck n s) (sym h) p u (all_written us ++ t) r.0 r.1 (x ∙ append_assoc (written u) (all_written us) t))
same_split d e k (u ∷ us) [] s t h g p q x =
    let r = rest_of d e u us h in
    absurd (subst (λ (n : ℕ). Stuck n t) (sym g) q u (all_written us ++ s) r.0 r.1 (sym x ∙ append_assoc (written u) (all_written us) s))
same_split d e k (u ∷ us) (v ∷ vs) s t h g p q x =
    let y : written u ++ (all_written us ++ s) ≡ written v ++ (all_written vs ++ t)
    = sym (append_assoc (written u) (all_written us) s) ∙ x ∙ append_assoc (written v) (all_written vs) t in
    let uv = same_token u v (all_written us ++ s) (all_written vs ++ t) y in
    let a = rest_of d e u us h in
    let b = rest_of d k v vs g in
    let b1 : LeavesOpen d (u ∷ []) b.0 = subst (λ (z : Token). LeavesOpen d (z ∷ []) b.0) (sym uv.0) b.1 in
    let n : b.0 ≡ a.0 = one_leaves d b.0 a.0 u b1 a.1 in
    let i = same_split a.0 e k us vs s t a.2 (subst (λ (z : ℕ). LeavesOpen z vs k) n b.2) p q uv.1 in
    let u0 = uv.0 in
    let i0 = i.tokens in
    record { tokens = cc; lefts = i.lefts; opens = i.opens }

pub one_due_within : (s : List ℕ) (n p m q : ℕ) → DueWithin 0 s n p → DueWithin 0 s m q → (n ≡ m) × (p ≡ q)
one_due_within s n p m q v w =
    let i = same_split 0 v.«open» w.«open» v.before w.before v.left w.left v.leaves w.leaves
    (stuck_wrong v.wrong) (stuck_wrong w.wrong) (sym v.splits ∙ w.splits) in
    let w1 : Wrong v.«open» v.left m
    = subst (λ (k : ℕ). Wrong k v.left m) (sym i.opens) (subst (λ (z : List ℕ). Wrong w.«open» z m) (sym i.lefts) w.wrong) in
    (sym (code_wrong v.wrong) ∙ code_wrong w1, v.offset_is ∙ ap (λ x. length (all_written x)) i.tokens ∙ sym w.offset_is)

pub none_due_within : (f : Forest) (n p : ℕ) → Record f → DueWithin 0 (bytes_of f) n p → ⊥
none_due_within f n p r w =
    let z : 0 + 64 ≤ 64 = omega arith in
    let x : all_written w.before ++ w.left ≡ all_written (walk f) ++ [] = sym w.splits ∙ sym (walk_written f) ∙ sym (append-nil (all_written (walk f))) in
    let i = same_split 0 w.«open» 0 w.before (walk f) w.left [] w.leaves (walk_leaves f 0 64 r.proper r.shallow z)
    (stuck_wrong w.wrong) (stuck_end 0) x in
    let w1 : Wrong 0 [] n = subst (λ (k : ℕ). Wrong k [] n) i.opens (subst (λ (y : List ℕ). Wrong w.«open» y n) i.lefts w.wrong) in
    not_none w1 (sym (code_wrong w1))

pub one_refusal : (body : List ℕ) (n p m q : ℕ) → Due body n p → Due body m q → (n ≡ m) × (p ≡ q)
one_refusal body n p m q (too_long h) (too_long g) = (refl, refl)
one_refusal body n p m q (too_long h) (within g w) = absurd (omega arith)
one_refusal body n p m q (within h v) (too_long g) = absurd (omega arith)
one_refusal body n p m q (within h v) (within g w) = one_due_within body n p m q v w

pub not_both : (body : List ℕ) (f : Forest) (n p : ℕ) → StandsFor body f → Due body n p → ⊥
not_both body f n p s (too_long h) = let e : length body ≡ length (bytes_of f) = ap length s.is_written in omega (arith, s.is_record.short)
not_both body f n p s (within h w) = none_due_within f n p s.is_record (subst (λ (y : List ℕ). DueWithin 0 y n p) s.is_written w)
