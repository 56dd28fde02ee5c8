-- Going through the events of a record.
use Rattle.std.proofs.Common.{◌≡◌, ℕ, ◌<◌, ◌≤◌, List, [], ◌∷◌, ◌++◌, length, Some, None, sym, subst, append_assoc, arith, Bor}
use mathlib.Core.Logic.{∥∥₁_elim}
use native.Mathlib.Bridge.{le_prop}
use Rattle.forest.specs.declared.event.Event.{Event}
use Rattle.forest.specs.declared.event.Event.TheVariants.{Opening, Text, Closing}
use Rattle.forest.specs.Forest.{Forest, nil, text, node}
use Rattle.forest.specs.Reading.{Token, opening, chars, closing, written, walk}
use Rattle.forest.specs.Events.{ToCome, Handed}
use Rattle.rows.specs.Sheet.{Sheet}
use Rattle.sheet.specs.Standing.{IsStanding}
use Rattle.sheet.specs.Belonging.{at_end, at_closing, GoneThrough}

some_written : (t : Token) → 0 < length (written t)
some_written (opening l) = omega arith
some_written (chars t) = omega arith
some_written closing = omega arith

-- An event moves on, within the body.
pub moved : (body : List ℕ) (at next : ℕ) (e : Event) → ∥ ((ts : List Token) × ToCome body at ts) ∥₁
    → ((ts : List Token) → ToCome body at ts → Handed body at ts (Some e) next) → (at < next) × (next ≤ length body)
moved body at next e w f = (
  ∥∥₁_elim w le_prop (λ z. further z.0 (f z.0 z.1)),
  ∥∥₁_elim w le_prop (λ z. within z.0 (f z.0 z.1)),
)
  where
    further : (ts : List Token) → Handed body at ts (Some e) next → at < next
    further [] h = absurd h
    further (t ∷ ts) h = omega (arith, h.1, some_written t)

    within : (ts : List Token) → Handed body at ts (Some e) next → next ≤ length body
    within [] h = absurd h
    within (t ∷ ts) h = h.2.inside

no_chars : {t : List ℕ} {l : ℕ} → opening l ≡ chars t → ⊥
no_chars h = cc

no_close_chars : {t : List ℕ} → closing ≡ chars t → ⊥
no_close_chars h = cc

no_close_opening : {l : ℕ} → closing ≡ opening l → ⊥
no_close_opening h = cc

same_label : {l k : ℕ} → opening l ≡ opening k → k ≡ l
same_label h = cc

pub go_text : {s : Sheet} {body : List ℕ} {at next to m r : ℕ} {b : Bor (List ℕ)} {o : ℕ}
    → (v : Event) → v ≡ Text b o → ((ts : List Token) → ToCome body at ts → Handed body at ts (Some v) next)
    → GoneThrough s body next to m → ((t : List ℕ) (f : Forest) → IsStanding s m f → IsStanding s r (text t f))
    → GoneThrough s body at to r
go_text v i h ih step nil behind after at_end c = absurd (h [] c)
go_text v i h ih step nil behind after (at_closing {ts = ts}) c = absurd (no_close_chars (rw i at (h (closing ∷ ts) c).0).0)
go_text v i h ih step (text t f) behind after e c =
    let z = h (chars t ∷ (walk f ++ behind)) c in
    let y = ih f behind after e z.2 in
    (step t f y.0, y.1)
go_text v i h ih step (node l d f) behind after e c = absurd (no_chars (rw i at (h (opening l ∷ ((walk d ++ (closing ∷ walk f)) ++ behind)) c).0).0)

pub go_node : {s : Sheet} {body : List ℕ} {at next mid to m n r label : ℕ}
    → (v : Event) → v ≡ Opening label → ((ts : List Token) → ToCome body at ts → Handed body at ts (Some v) next)
    → GoneThrough s body next mid m → GoneThrough s body mid to n
    → ((d f : Forest) → IsStanding s m d → IsStanding s n f → IsStanding s r (node label d f))
    → GoneThrough s body at to r
go_node v i h ih jh step nil behind after at_end c = absurd (h [] c)
go_node v i h ih jh step nil behind after (at_closing {ts = ts}) c = absurd (no_close_opening (rw i at (h (closing ∷ ts) c).0))
go_node v i h ih jh step (text t f) behind after e c = absurd (no_chars (sym (rw i at (h (chars t ∷ (walk f ++ behind)) c).0)))
go_node {s} {body} {at} {next} {mid} {to} {m} {n} {r} {label} v i h ih jh step (node l d f) behind after e c =
    let z = h (opening l ∷ ((walk d ++ (closing ∷ walk f)) ++ behind)) c in
    let q = same_label (rw i at z.0) in
    let y = ih d (closing ∷ (walk f ++ behind)) (walk f ++ behind) at_closing
    (subst (λ (ts : List Token). ToCome body next ts) (append_assoc (walk d) (closing ∷ walk f) behind) z.2) in
    let x = jh f behind after e y.1 in
    (subst (λ (k : ℕ). IsStanding s r (node k d f)) q (step d f y.0 x.0), x.1)

pub go_closing : {s : Sheet} {body : List ℕ} {at next r : ℕ}
    → (v : Event) → v ≡ Closing → ((ts : List Token) → ToCome body at ts → Handed body at ts (Some v) next)
    → IsStanding s r nil → GoneThrough s body at next r
go_closing v i h z nil behind after at_end c = absurd (h [] c)
go_closing v i h z nil behind after (at_closing {ts = ts}) c = (z, (h (closing ∷ ts) c).2)
go_closing v i h z (text t f) behind after e c = absurd (no_close_chars (sym (rw i at (h (chars t ∷ (walk f ++ behind)) c).0)))
go_closing v i h z (node l d f) behind after e c = absurd (no_close_opening (sym (rw i at (h (opening l ∷ ((walk d ++ (closing ∷ walk f)) ++ behind)) c).0)))

pub go_none : {s : Sheet} {body : List ℕ} {at next r : ℕ}
    → ((ts : List Token) → ToCome body at ts → Handed body at ts None next)
    → IsStanding s r nil → GoneThrough s body at next r
go_none {s} {body} h z nil behind after at_end c = (z, subst (λ (k : ℕ). ToCome body k []) (sym (h [] c)) c)
go_none h z nil behind after (at_closing {ts = ts}) c = absurd (h (closing ∷ ts) c)
go_none h z (text t f) behind after e c = absurd (h (chars t ∷ (walk f ++ behind)) c)
go_none h z (node l d f) behind after e c = absurd (h (opening l ∷ ((walk d ++ (closing ∷ walk f)) ++ behind)) c)

pub none_stays : (body : List ℕ) (at next : ℕ) → ∥ ((ts : List Token) × ToCome body at ts) ∥₁
    → ((ts : List Token) → ToCome body at ts → Handed body at ts None next) → at ≤ next
none_stays body at next w f = ∥∥₁_elim w le_prop (λ z. stays z.0 (f z.0 z.1))
  where
    stays : (ts : List Token) → Handed body at ts None next → at ≤ next
    stays [] h = omega arith
    stays (t ∷ ts) h = absurd h
