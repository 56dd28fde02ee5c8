-- What a body hands out next, from the tokens that are still to come.
use Rattle.std.proofs.Common.{◌≡◌, ℕ, suc, ◌+◌, ◌-◌, ◌*◌, ◌/◌, ◌%◌, ◌<◌, ◌≤◌, List, [], ◌∷◌, ◌++◌, length, get_or, take, drop, Some, sym, refl, ap, ◌∙◌, subst, add-zero, div-add-mod', arith, length-append, length-drop, Bor}
use mathlib.Core.Logic.{∥∥₁_elim, ∥∥₁_map}
use native.Mathlib.Bridge.{le_prop}
use Rattle.std.proofs.lemmas.List.{take_at, drop_at, drop-drop, get_or-drop, length-take-le}
use Rattle.forest.specs.declared.event.Event.{Event}
use Rattle.forest.specs.declared.event.Event.TheVariants.{Opening, Text, Closing}
use Rattle.forest.specs.Forest.{Forest, nil, text, node, Proper}
use Rattle.forest.specs.Reading.{Token, opening, chars, closing, written, all_written, walk, StandsFor}
use Rattle.forest.specs.Events.{Tokens, ToCome, Handed}
use Rattle.forest.proofs.Walks.{walk_written}
use Rattle.forest.proofs.Stretches.{one, two, three}

tokens_append : (ts us : List Token) → Tokens ts → Tokens us → Tokens (ts ++ us)
tokens_append [] us h g = g
tokens_append (opening l ∷ ts) us h g = (h.0, tokens_append ts us h.1 g)
tokens_append (chars t ∷ ts) us h g = (h.0, tokens_append ts us h.1 g)
tokens_append (closing ∷ ts) us h g = tokens_append ts us h g

walk_tokens : (f : Forest) → Proper f → Tokens (walk f)
walk_tokens nil p = tt
walk_tokens (text t r) p = (p.0, walk_tokens r p.1)
walk_tokens (node l c r) p = (p.0, tokens_append (walk c) (closing ∷ walk r) (walk_tokens c p.1) (walk_tokens r p.2))

-- At first the whole walk is to come.
pub all_to_come : (body : List ℕ) (f : Forest) → StandsFor body f → ToCome body 0 (walk f)
all_to_come body f s = record
    { inside = omega arith; tokens = walk_tokens f s.is_record.proper; are_written = s.is_written ∙ sym (walk_written f) }

-- The bytes after a first token.
after : (body : List ℕ) (at k : ℕ) (w s : List ℕ) → at ≤ length body → length w ≡ k → drop at body ≡ w ++ s
    → (at + k ≤ length body) × (drop (at + k) body ≡ s)
after body at k w s h l e =
    let n : length body - at ≡ length w + length s = sym (length-drop at body) ∙ ap length e ∙ length-append w s in
    (omega arith, sym (drop-drop k at body) ∙ ap (drop k) e ∙ drop_at w s k l)

first_differs : (x y : ℕ) (r s t : List ℕ) → r ≡ x ∷ s → r ≡ y ∷ t → (x ≡ y → ⊥) → ⊥
first_differs x y r s t e f n = let z : x ≡ y = cc in n z

ended : (x : ℕ) (r s : List ℕ) → r ≡ x ∷ s → r ≡ [] → ⊥
ended x r s e f = let z : suc (length s) ≡ 0 = sym (ap length e) ∙ ap length f in omega arith

pub hands_opening : (body : List ℕ) (at hi lo : ℕ) (ts : List Token) → at + 2 < length body
    → get_or body at 0 ≡ 1 → get_or body (at + 1) 0 ≡ hi → get_or body (at + 2) 0 ≡ lo
    → ToCome body at ts → Handed body at ts (Some (Opening (hi * 256 + lo))) (at + 3)
hands_opening body at hi lo [] l b0 b1 b2 c = ended 1 (drop at body) (hi ∷ (lo ∷ drop (at + 3) body)) (three body at 1 hi lo l b0 b1 b2) c.are_written
hands_opening body at hi lo (opening m ∷ ts) l b0 b1 b2 c =
    let e : 1 ∷ (hi ∷ (lo ∷ drop (at + 3) body)) ≡ 1 ∷ (m / 256 ∷ (m % 256 ∷ all_written ts)) = sym (three body at 1 hi lo l b0 b1 b2) ∙ c.are_written in
    let h : hi ≡ m / 256 = cc in
    let k : lo ≡ m % 256 = cc in
    let v : hi * 256 + lo ≡ m = ap (λ x. x * 256 + lo) h ∙ ap (λ x. m / 256 * 256 + x) k ∙ div-add-mod' m 256 in
    let a = after body at 3 (written (opening m)) (all_written ts) c.inside refl c.are_written in
    (ap opening (sym v), refl, record { inside = a.0; tokens = c.tokens.1; are_written = a.1 })
hands_opening body at hi lo (chars t ∷ ts) l b0 b1 b2 c =
    absurd (first_differs 1 3 (drop at body) (hi ∷ (lo ∷ drop (at + 3) body)) (length t ∷ (t ++ all_written ts)) (three body at 1 hi lo l b0 b1 b2) c.are_written (λ z. omega arith))
hands_opening body at hi lo (closing ∷ ts) l b0 b1 b2 c =
    absurd (first_differs 1 2 (drop at body) (hi ∷ (lo ∷ drop (at + 3) body)) (all_written ts) (three body at 1 hi lo l b0 b1 b2) c.are_written (λ z. omega arith))

pub hands_closing : (body : List ℕ) (at : ℕ) (ts : List Token) → at < length body → get_or body at 0 ≡ 2
    → ToCome body at ts → Handed body at ts (Some Closing) (at + 1)
hands_closing body at [] l b0 c = ended 2 (drop at body) (drop (at + 1) body) (one body at 2 l b0) c.are_written
hands_closing body at (opening m ∷ ts) l b0 c =
    absurd (first_differs 2 1 (drop at body) (drop (at + 1) body) (m / 256 ∷ (m % 256 ∷ all_written ts)) (one body at 2 l b0) c.are_written (λ z. omega arith))
hands_closing body at (chars t ∷ ts) l b0 c =
    absurd (first_differs 2 3 (drop at body) (drop (at + 1) body) (length t ∷ (t ++ all_written ts)) (one body at 2 l b0) c.are_written (λ z. omega arith))
hands_closing body at (closing ∷ ts) l b0 c =
    let a = after body at 1 (written closing) (all_written ts) c.inside refl c.are_written in
    (refl, refl, record { inside = a.0; tokens = c.tokens; are_written = a.1 })

-- A text that is to come is the part of the body that its count tells.
pub record TextHere (body : List ℕ) (at n : ℕ) (ts : List Token) : Type 0 where
  pub rest : List Token
  pub is : ts ≡ chars (take n (drop (at + 2) body)) ∷ rest
  pub coming : ToCome body (at + 2 + n) rest

text_here : (body : List ℕ) (at n : ℕ) (ts : List Token) → at + 1 < length body → get_or body at 0 ≡ 3 → get_or body (at + 1) 0 ≡ n
    → ToCome body at ts → TextHere body at n ts
text_here body at n [] l b0 b1 c = absurd (ended 3 (drop at body) (n ∷ drop (at + 2) body) (two body at 3 n l b0 b1) c.are_written)
text_here body at n (opening m ∷ ts) l b0 b1 c =
    absurd (first_differs 3 1 (drop at body) (n ∷ drop (at + 2) body) (m / 256 ∷ (m % 256 ∷ all_written ts)) (two body at 3 n l b0 b1) c.are_written (λ z. omega arith))
text_here body at n (chars t ∷ ts) l b0 b1 c =
    let e : 3 ∷ (n ∷ drop (at + 2) body) ≡ 3 ∷ (length t ∷ (t ++ all_written ts)) = sym (two body at 3 n l b0 b1) ∙ c.are_written in
    let k : n ≡ length t = cc in
    let r : drop (at + 2) body ≡ t ++ all_written ts = cc in
    let p : take n (drop (at + 2) body) ≡ t = ap (take n) r ∙ take_at t (all_written ts) n (sym k) in
    let q : at + (2 + n) ≡ at + 2 + n = omega arith in
    let w : length (written (chars t)) ≡ 2 + n = omega arith in
    let a = after body at (2 + n) (written (chars t)) (all_written ts) c.inside w c.are_written in
    record {
      rest = ts;
      is = ap (λ x. chars x ∷ ts) (sym p);
      coming = subst (λ (m : ℕ). ToCome body m ts) q (record { inside = a.0; tokens = c.tokens.1; are_written = a.1 });
    }
text_here body at n (closing ∷ ts) l b0 b1 c =
    absurd (first_differs 3 2 (drop at body) (n ∷ drop (at + 2) body) (all_written ts) (two body at 3 n l b0 b1) c.are_written (λ z. omega arith))

first : (body : List ℕ) (at x : ℕ) (s : List ℕ) → drop at body ≡ x ∷ s → get_or body at 0 ≡ x
first body at x s e = ap (λ n. get_or body n 0) (sym (add-zero at)) ∙ sym (get_or-drop at body 0 0) ∙ ap (λ y. get_or y 0 0) e

-- What was handed out, some tokens are still to come.
pub goes_on : (body : List ℕ) (at : ℕ) (ts : List Token) (e : Event) (next : ℕ) → Handed body at ts (Some e) next → (us : List Token) × ToCome body next us
goes_on body at [] e next h = absurd h
goes_on body at (t ∷ ts) e next h = (ts, h.2)

-- What stands at the offset, told by its first byte.
pub opening_fits : (body : List ℕ) (at : ℕ) (ts : List Token) → ToCome body at ts → at < length body → get_or body at 0 ≡ 1 → at + 2 < length body
opening_fits body at [] c l b0 = absurd (ended (get_or body at 0) (drop at body) (drop (at + 1) body) (one body at (get_or body at 0) l refl) c.are_written)
opening_fits body at (opening m ∷ ts) c l b0 = omega (arith, (after body at 3 (written (opening m)) (all_written ts) c.inside refl c.are_written).0)
opening_fits body at (chars t ∷ ts) c l b0 =
    let e : get_or body at 0 ≡ 3 = first body at 3 (length t ∷ (t ++ all_written ts)) c.are_written in omega arith
opening_fits body at (closing ∷ ts) c l b0 =
    let e : get_or body at 0 ≡ 2 = first body at 2 (all_written ts) c.are_written in omega arith

pub is_text : (body : List ℕ) (at : ℕ) (ts : List Token) → ToCome body at ts → at < length body → (get_or body at 0 ≡ 1 → ⊥) → (get_or body at 0 ≡ 2 → ⊥)
    → (get_or body at 0 ≡ 3) × (at + 2 + get_or body (at + 1) 0 ≤ length body)
is_text body at [] c l n1 n2 = absurd (ended (get_or body at 0) (drop at body) (drop (at + 1) body) (one body at (get_or body at 0) l refl) c.are_written)
is_text body at (opening m ∷ ts) c l n1 n2 = absurd (n1 (first body at 1 (m / 256 ∷ (m % 256 ∷ all_written ts)) c.are_written))
is_text body at (chars t ∷ ts) c l n1 n2 =
    let e : get_or body at 0 ≡ 3 = first body at 3 (length t ∷ (t ++ all_written ts)) c.are_written in
    let a = after body at 1 (3 ∷ []) (length t ∷ (t ++ all_written ts)) c.inside refl c.are_written in
    let k : get_or body (at + 1) 0 ≡ length t = first body (at + 1) (length t) (t ++ all_written ts) a.1 in
    let b = after body at (length (written (chars t))) (written (chars t)) (all_written ts) c.inside refl c.are_written in
    (e, omega (arith, b.0))
is_text body at (closing ∷ ts) c l n1 n2 = absurd (n2 (first body at 2 (all_written ts) c.are_written))

pub hands_text : (body : List ℕ) (at n : ℕ) (bytes : Bor (List ℕ)) (ts : List Token) → at + 1 < length body → get_or body at 0 ≡ 3 → get_or body (at + 1) 0 ≡ n
    → bytes.now ≡ take n (drop (at + 2) body) → ToCome body at ts → Handed body at ts (Some (Text bytes (at + 2))) (at + 2 + n)
hands_text body at n bytes ts l b0 b1 r c =
    let h = text_here body at n ts l b0 b1 c in
    let e : ts ≡ chars (take n (drop (at + 2) body)) ∷ h.rest = h.is in
    let d : n ≤ length (drop (at + 2) body) = simp length-drop (omega (arith, h.coming.inside)) in
    let k : length (take n (drop (at + 2) body)) ≡ n = length-take-le n (drop (at + 2) body) d in
    subst (λ (us : List Token). Handed body at us (Some (Text bytes (at + 2))) (at + 2 + n)) (sym e) ((ap chars (sym r), refl), omega arith, h.coming)

-- What is still to come after something was handed out, where it is only known that something was to come.
abbrev pub SomeCome : List ℕ → ℕ → Type 0
SomeCome body at = ∥ ((ts : List Token) × ToCome body at ts) ∥₁

pub still_come : (body : List ℕ) (at : ℕ) (e : Event) (next : ℕ) → ((ts : List Token) → ToCome body at ts → Handed body at ts (Some e) next)
    → SomeCome body at → SomeCome body next
still_come body at e next h c = ∥∥₁_map c (λ p. goes_on body at p.0 e next (h p.0 p.1))

pub inside_come : (body : List ℕ) (at : ℕ) → SomeCome body at → at ≤ length body
inside_come body at c = ∥∥₁_elim c le_prop (λ p. p.1.inside)

pub opening_inside : (body : List ℕ) (at : ℕ) → SomeCome body at → at < length body → get_or body at 0 ≡ 1 → at + 2 < length body
opening_inside body at c l b0 = ∥∥₁_elim c le_prop (λ p. opening_fits body at p.0 p.1 l b0)

pub text_inside : (body : List ℕ) (at : ℕ) → SomeCome body at → at < length body → (get_or body at 0 ≡ 1 → ⊥) → (get_or body at 0 ≡ 2 → ⊥)
    → at + 2 + get_or body (at + 1) 0 ≤ length body
text_inside body at c l n1 n2 = ∥∥₁_elim c le_prop (λ p. (is_text body at p.0 p.1 l n1 n2).1)

-- The same as it comes from the code, which goes on after the bytes of the text.
pub hands_bytes : (body : List ℕ) (at : ℕ) (bytes : Bor (List ℕ)) (ts : List Token) → at < length body → at + 2 + get_or body (at + 1) 0 ≤ length body
    → (get_or body at 0 ≡ 1 → ⊥) → (get_or body at 0 ≡ 2 → ⊥)
    → bytes.now ≡ take (get_or body (at + 1) 0) (drop (at + 2) body) → ToCome body at ts
    → Handed body at ts (Some (Text bytes (at + 2))) (at + 2 + length bytes.now)
hands_bytes body at bytes ts l le n1 n2 r c =
    let n : ℕ = get_or body (at + 1) 0 in
    let d : n ≤ length (drop (at + 2) body) = simp length-drop (omega arith) in
    let k : n ≡ length bytes.now = sym (ap length r ∙ length-take-le n (drop (at + 2) body) d) in
    let t : get_or body at 0 ≡ 3 = (is_text body at ts c l n1 n2).0 in
    subst (λ (m : ℕ). Handed body at ts (Some (Text bytes (at + 2))) (at + 2 + m)) k (hands_text body at n bytes ts (omega arith) t refl r c)
