-- Every body stands for a record or has a refusal due.
use Rattle.std.proofs.Common.{◌≡◌, ℕ, zero, suc, ◌+◌, ◌-◌, ◌*◌, ◌/◌, ◌%◌, ◌<◌, ◌≤◌, max, ◌⊎◌, List, [], ◌∷◌, ◌++◌, length, take, drop, sym, refl, ap, ◌∙◌, subst, inl, inr, append_assoc, arith, length-append, get_or, Fits, w8}
use native.Mathlib.Nat.{max-le}
use lib.Arith.{digits_div, digits_mod}
use Rattle.std.proofs.lemmas.List.{append-nil, take-append-drop, length-take-le}
use Rattle.std.proofs.lemmas.Bool.{cases_eq, cases_lt}
use Rattle.forest.specs.Forest.{Forest, nil, text, node, Label, Bytes, Text, Proper, bytes_of, depth}
use Rattle.forest.specs.Reading.{Token, opening, chars, closing, written, all_written, walk, StandsFor, LeavesOpen, in_opening, in_count, in_text, Wrong, cut_short, no_token, label_zero, stray_closing, never_closed, too_deep, DueWithin, Due, too_long, within, JustOne, AlwaysJustOne}
use Rattle.forest.proofs.Forms.{one_form}
use Rattle.forest.proofs.Stretches.{bytes_from}
use Rattle.forest.proofs.Walks.{walk_written, due_after, due_here}
use Rattle.forest.proofs.Unique.{one_refusal, not_both}

-- What tokens that close all d open nodes are: the rest of the innermost content, its closing, and so on outwards.
abbrev Closes : ℕ → List Token → Type 0
Closes zero ts = (f : Forest) × Proper f × (depth f ≤ 64) × (ts ≡ walk f)
Closes (suc d) ts = (f : Forest) × (us : List Token) × Proper f × (suc d + depth f ≤ 64) × (ts ≡ walk f ++ (closing ∷ us)) × Closes d us

more_text : (d : ℕ) (t : List ℕ) (ts : List Token) → Text t → Closes d ts → Closes d (chars t ∷ ts)
more_text zero t ts h c = (text t c.0, (h, c.1), c.2, ap (λ x. chars t ∷ x) c.3)
more_text (suc d) t ts h c = (text t c.0, c.1, (h, c.2), c.3, ap (λ x. chars t ∷ x) c.4, c.5)

more_node : (d l : ℕ) (ts : List Token) → Label l → Closes (suc d) ts → Closes d (opening l ∷ ts)
more_node zero l ts h c =
    let r = c.5 in
    let deep : suc (depth c.0) ≤ 64 = omega (arith, c.3) in (
      node l c.0 r.0,
      (h, c.2, r.1),
      max-le deep r.2,
      ap (λ x. opening l ∷ x) (c.4 ∙ ap (λ x. walk c.0 ++ (closing ∷ x)) r.3),
    )
more_node (suc d) l ts h c =
    let r = c.5 in
    let deep : suc (depth c.0) ≤ 64 - suc d = omega (arith, c.3) in
    let rest : depth r.0 ≤ 64 - suc d = omega (arith, r.3) in
    let both : max (suc (depth c.0)) (depth r.0) ≤ 64 - suc d = max-le deep rest in
    let fits : suc d + max (suc (depth c.0)) (depth r.0) ≤ 64 = omega (arith, c.3) in (
      node l c.0 r.0,
      r.1,
      (h, c.2, r.2),
      fits,
      ap (λ x. opening l ∷ x) (c.4 ∙ ap (λ x. walk c.0 ++ (closing ∷ x)) r.4
          ∙ sym (append_assoc (walk c.0) (closing ∷ walk r.0) (closing ∷ r.1))),
      r.5,
    )

closes : (d : ℕ) (ts : List Token) → d ≤ 64 → LeavesOpen d ts 0 → Closes d ts
closes zero [] h l = (nil, tt, omega arith, refl)
closes (suc d) [] h l = absurd (omega (arith, l))
closes d (opening l ∷ ts) h k = more_node d l ts k.0 (closes (suc d) ts (omega (arith, k.1)) k.2)
closes d (chars t ∷ ts) h k = more_text d t ts k.0 (closes d ts h k.1)
closes zero (closing ∷ ts) h k = absurd (omega (arith, k.0))
closes (suc d) (closing ∷ ts) h k =
    let e : suc d - 1 ≡ d = omega arith in
    let fits : suc d + 0 ≤ 64 = omega arith in
    (nil, ts, tt, fits, refl, closes d ts (omega arith) (subst (λ (n : ℕ). LeavesOpen n ts 0) e k.1))

-- At the front of the bytes the end, something wrong, or a token that may come.
pub record Begins (d : ℕ) (s : List ℕ) : Type 0 where
  pub token : Token
  pub left : List ℕ
  pub «open» : ℕ
  pub splits : s ≡ written token ++ left
  pub leaves : LeavesOpen d (token ∷ []) «open»
  pub bytes : Bytes left
  pub less : length left < length s
  pub few : «open» ≤ 64

abbrev Front : ℕ → List ℕ → Type 0
Front d s = ((s ≡ []) × (d ≡ 0)) ⊎ (((n : ℕ) × Wrong d s n) ⊎ Begins d s)

bytes_take : (k : ℕ) (s : List ℕ) → Bytes s → Bytes (take k s)
bytes_take zero s b = tt
bytes_take (suc k) [] b = tt
bytes_take (suc k) (x ∷ s) b = (b.0, bytes_take k s b.1)

bytes_drop : (k : ℕ) (s : List ℕ) → Bytes s → Bytes (drop k s)
bytes_drop zero s b = b
bytes_drop (suc k) [] b = tt
bytes_drop (suc k) (x ∷ s) b = bytes_drop k s b.1

front_opening : (d : ℕ) (s : List ℕ) → d ≤ 64 → Bytes s → Front d (1 ∷ s)
front_opening d [] k b = inr (inl (4, cut_short (in_opening (omega arith))))
front_opening d (h ∷ []) k b = inr (inl (4, cut_short (in_opening (omega arith))))
front_opening d (h ∷ (l ∷ s)) k b =
    let hb : h < 256 = b.0 in
    let lb : l < 256 = b.1.0 in
    elim (cases_eq (h * 256 + l) 0) [
      | inl z ↦
          let h0 : h ≡ 0 = omega arith in
          let l0 : l ≡ 0 = omega arith in
          inr (inl (6, subst (λ (m : ℕ). Wrong d (1 ∷ (m ∷ (l ∷ s))) 6) (sym h0) (subst (λ (m : ℕ). Wrong d (1 ∷ (0 ∷ (m ∷ s))) 6) (sym l0) label_zero)))
      | inr z ↦
          let pos : 0 < h * 256 + l = omega arith in
          let bound : h * 256 + l < 65536 = omega arith in
          elim (cases_lt d 64) [
            | inl lt ↦
                let q : (h * 256 + l) / 256 ≡ h = digits_div h lb in
                let r : (h * 256 + l) % 256 ≡ l = digits_mod h lb in
                let e : 1 ∷ (h ∷ (l ∷ s)) ≡ 1 ∷ ((h * 256 + l) / 256 ∷ ((h * 256 + l) % 256 ∷ s))
                = ap (λ x. 1 ∷ (x ∷ (l ∷ s))) (sym q) ∙ ap (λ x. 1 ∷ ((h * 256 + l) / 256 ∷ (x ∷ s))) (sym r) in
                inr (inr (record {
                  token = opening (h * 256 + l);
                  left = s;
                  «open» = suc d;
                  splits = e;
                  leaves = ((pos, bound), lt, refl);
                  bytes = b.1.1;
                  less = omega arith;
                  few = omega arith;
                }))
            | inr ge ↦ inr (inl (8, too_deep (pos, bound) ge))
          ]
    ]

front_text : (d : ℕ) (s : List ℕ) → d ≤ 64 → Bytes s → Front d (3 ∷ s)
front_text d [] k b = inr (inl (4, cut_short in_count))
front_text d (n ∷ s) k b =
    let nb : n < 256 = b.0 in
    elim (cases_lt (length s) n) [
      | inl lt ↦ inr (inl (4, cut_short (in_text lt)))
      | inr ge ↦
          let t : List ℕ = take n s in
          let e : length t ≡ n = length-take-le n s ge in
          let x : s ≡ t ++ drop n s = sym (take-append-drop n s) in
          let l : length s ≡ length t + length (drop n s) = ap length x ∙ length-append t (drop n s) in
          inr (inr (record {
            token = chars t;
            left = drop n s;
            «open» = d;
            splits = ap (λ y. 3 ∷ (n ∷ y)) x ∙ ap (λ m. 3 ∷ (m ∷ (t ++ drop n s))) (sym e);
            leaves = ((bytes_take n s b.1, omega arith), refl);
            bytes = bytes_drop n s b.1;
            less = omega arith;
            few = k;
          }))
    ]

front : (d : ℕ) (s : List ℕ) → d ≤ 64 → Bytes s → Front d s
front d [] k b = elim (cases_eq d 0) [ inl e ↦ inl (refl, e) | inr n ↦ inr (inl (7, never_closed (omega arith))) ]
front d (x ∷ s) k b = elim (cases_eq x 1) [
  | inl e ↦ subst (λ (m : ℕ). Front d (m ∷ s)) (sym e) (front_opening d s k b.1)
  | inr n1 ↦ elim (cases_eq x 2) [
    | inl e ↦ subst (λ (m : ℕ). Front d (m ∷ s)) (sym e)
        (elim (cases_eq d 0) [
          | inl z ↦ inr (inl (7, stray_closing z))
          | inr z ↦ inr (inr (record
              { token = closing; left = s; «open» = d - 1; splits = refl; leaves = (omega arith, refl); bytes = b.1; less = omega arith; few = omega arith }))
        ])
    | inr n2 ↦ elim (cases_eq x 3) [
      | inl e ↦ subst (λ (m : ℕ). Front d (m ∷ s)) (sym e) (front_text d s k b.1)
      | inr n3 ↦ inr (inl (5, no_token n1 n2 n3))
    ]
  ]
]

-- The bytes are whole tokens that close every node, or a refusal is due.
abbrev Whole : ℕ → List ℕ → Type 0
Whole d s = ((ts : List Token) × (s ≡ all_written ts) × LeavesOpen d ts 0) ⊎ ((n o : ℕ) × DueWithin d s n o)

first_leaves : (d e k : ℕ) (t : Token) (ts : List Token) → LeavesOpen d (t ∷ []) e → LeavesOpen e ts k → LeavesOpen d (t ∷ ts) k
first_leaves d e k (opening l) ts h g = (h.0, h.1, subst (λ (n : ℕ). LeavesOpen n ts k) (sym h.2) g)
first_leaves d e k (chars t) ts h g = (h.0, subst (λ (n : ℕ). LeavesOpen n ts k) (sym h.1) g)
first_leaves d e k closing ts h g = (h.0, subst (λ (n : ℕ). LeavesOpen n ts k) (sym h.1) g)

begun : (d : ℕ) (s : List ℕ) (g : Begins d s) → Whole g.«open» g.left → Whole d s
begun d s g after =
    elim after [
      | inl w ↦ inl (g.token ∷ w.0, g.splits ∙ ap (λ x. written g.token ++ x) w.1, first_leaves d g.«open» 0 g.token w.0 g.leaves w.2)
      | inr w ↦
          let x = due_after d g.«open» (g.token ∷ []) g.left w.0 w.1 g.leaves w.2 in
          let e : all_written (g.token ∷ []) ++ g.left ≡ s = ap (λ y. y ++ g.left) (append-nil (written g.token)) ∙ sym g.splits in
          inr (
            w.0,
            length (all_written (g.token ∷ [])) + w.1,
            subst (λ (y : List ℕ). DueWithin d y w.0 (length (all_written (g.token ∷ [])) + w.1)) e x,
          )
    ]

whole : (fuel d : ℕ) (s : List ℕ) → length s ≤ fuel → d ≤ 64 → Bytes s → Whole d s
whole zero d [] l k b = elim (cases_eq d 0) [ inl e ↦ inl ([], refl, e) | inr n ↦ inr (7, 0, due_here d [] 7 (never_closed (omega arith))) ]
whole zero d (x ∷ s) l k b = absurd (omega arith)
whole (suc fuel) d s l k b = elim (front d s k b) [
  | inl e ↦ inl ([], e.0, e.1)
  | inr o ↦ elim o [ inl w ↦ inr (w.0, 0, due_here d s w.0 w.1) | inr g ↦ begun d s g (whole fuel g.«open» g.left (omega (arith, g.less)) g.few g.bytes) ]
]

pub either : (body : List ℕ) → Bytes body → ((f : Forest) × StandsFor body f) ⊎ ((n p : ℕ) × Due body n p)
either body b = elim (cases_lt 4096 (length body)) [
  | inl g ↦ inr (3, 0, too_long g)
  | inr l ↦ elim (whole (length body) 0 body (omega arith) (omega arith) b) [
    | inl w ↦
        let c = closes 0 w.0 (omega arith) w.2 in
        let e : body ≡ bytes_of c.0 = w.1 ∙ ap all_written c.3 ∙ walk_written c.0 in
        let n : length body ≡ length (bytes_of c.0) = ap length e in
        inl (c.0, record { is_record = record { proper = c.1; short = omega arith; shallow = c.2 }; is_written = e })
    | inr w ↦ inr (w.0, w.1, within l w.2)
  ]
]

pub just_one : (body : List ℕ) → Bytes body → JustOne body
just_one body b = record {
  either = either body b;
  one_record = λ f g s t. one_form f g (sym s.is_written ∙ t.is_written);
  one_refusal = one_refusal body;
  not_both = not_both body;
}

-- The same from bytes that are told one by one.
pub just_one_of : (body : List ℕ) → ((i : ℕ) → Fits w8 (get_or body i 0)) → JustOne body
just_one_of body h = just_one body (bytes_from body (λ i l. omega (arith, h i)))

pub always_just_one : AlwaysJustOne
always_just_one = just_one
