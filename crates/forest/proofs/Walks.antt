-- Tokens, the walk of a forest, and how many nodes tokens leave open.
use Rattle.std.proofs.Common.{◌≡◌, ℕ, suc, ◌+◌, ◌-◌, ◌/◌, ◌%◌, ◌≤◌, List, [], ◌∷◌, ◌++◌, length, sym, refl, ap, ◌∙◌, subst, append_assoc, arith, length-append}
use native.Mathlib.Nat.{le-max_left, le-max_right}
use Rattle.forest.specs.Forest.{Forest, nil, text, node, Proper, bytes_of, depth}
use Rattle.forest.specs.Reading.{Token, opening, chars, closing, written, all_written, walk, LeavesOpen, Wrong, DueWithin}

pub all_append : (ts us : List Token) → all_written (ts ++ us) ≡ all_written ts ++ all_written us
all_append [] us = refl
all_append (t ∷ ts) us = ap (λ x. written t ++ x) (all_append ts us) ∙ sym (append_assoc (written t) (all_written ts) (all_written us))

pub walk_written : (f : Forest) → all_written (walk f) ≡ bytes_of f
walk_written nil = refl
walk_written (text t r) = ap (λ x. 3 ∷ (length t ∷ (t ++ x))) (walk_written r)
walk_written (node l c r) =
    ap (λ x. 1 ∷ (l / 256 ∷ (l % 256 ∷ x)))
    (all_append (walk c) (closing ∷ walk r) ∙ ap (λ x. x ++ (2 ∷ all_written (walk r))) (walk_written c) ∙ ap (λ x. bytes_of c ++ (2 ∷ x)) (walk_written r))

pub leaves_append : (d k e : ℕ) (ts us : List Token) → LeavesOpen d ts k → LeavesOpen k us e → LeavesOpen d (ts ++ us) e
leaves_append d k e [] us h g = subst (λ (n : ℕ). LeavesOpen n us e) (sym h) g
leaves_append d k e (opening l ∷ ts) us h g = (h.0, h.1, leaves_append (suc d) k e ts us h.2 g)
leaves_append d k e (chars t ∷ ts) us h g = (h.0, leaves_append d k e ts us h.1 g)
leaves_append d k e (closing ∷ ts) us h g = (h.0, leaves_append (d - 1) k e ts us h.1 g)

pub content_depth : (l : ℕ) (c r : Forest) (n : ℕ) → depth (node l c r) ≤ n → suc (depth c) ≤ n
content_depth l c r n h = omega (arith, le-max_left (suc (depth c)) (depth r))

pub rest_depth : (l : ℕ) (c r : Forest) (n : ℕ) → depth (node l c r) ≤ n → depth r ≤ n
rest_depth l c r n h = omega (arith, le-max_right (suc (depth c)) (depth r))

-- A forest that does not nest too deep leaves open what was open.
pub walk_leaves : (f : Forest) (d n : ℕ) → Proper f → depth f ≤ n → d + n ≤ 64 → LeavesOpen d (walk f) d
walk_leaves nil d n p h k = refl
walk_leaves (text t r) d n p h k = (p.0, walk_leaves r d n p.1 h k)
walk_leaves (node l c r) d n p h k =
    let hc : suc (depth c) ≤ n = content_depth l c r n h in
    let e : suc d - 1 ≡ d = omega arith in
    let z : LeavesOpen (suc d - 1) (walk r) d
    = subst (λ (m : ℕ). LeavesOpen m (walk r) d) (sym e) (walk_leaves r d n p.2 (rest_depth l c r n h) k) in
    let w : LeavesOpen (suc d) (walk c) (suc d) = walk_leaves c (suc d) (n - 1) p.1 (omega arith) (omega arith) in
    (p.0, omega arith, leaves_append (suc d) (suc d) d (walk c) (closing ∷ walk r) w (omega arith, z))

-- A refusal that is due after whole tokens.
pub due_after : (d k : ℕ) (ts : List Token) (s : List ℕ) (n o : ℕ) → LeavesOpen d ts k → DueWithin k s n o
    → DueWithin d (all_written ts ++ s) n (length (all_written ts) + o)
due_after d k ts s n o h w = record {
  before = ts ++ w.before;
  left = w.left;
  «open» = w.«open»;
  splits = ap (λ x. all_written ts ++ x) w.splits ∙ sym (append_assoc (all_written ts) (all_written w.before) w.left)
      ∙ ap (λ x. x ++ w.left) (sym (all_append ts w.before));
  leaves = leaves_append d k w.«open» ts w.before h w.leaves;
  offset_is = ap (λ x. length (all_written ts) + x) w.offset_is
      ∙ sym (ap length (all_append ts w.before) ∙ length-append (all_written ts) (all_written w.before));
  wrong = w.wrong;
}

pub due_here : (d : ℕ) (s : List ℕ) (n : ℕ) → Wrong d s n → DueWithin d s n 0
due_here d s n w = record
    { before = []; left = s; «open» = d; splits = refl; leaves = refl; offset_is = refl; wrong = w }
