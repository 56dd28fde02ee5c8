use Rattle.std.proofs.Common.{◌≡◌, ℕ, ◌+◌, ◌*◌, ◌<◌, ◌≤◌, List, length, get_or, Some, sym, refl, subst, arith, rules}
use Rattle.forest.specs.declared.event.Event.TheVariants.{Opening, Text, Closing}
use Rattle.forest.specs.Reading.{Token}
use Rattle.forest.specs.Events.{ToCome, Handed}
use Rattle.forest.proofs.Coming.{hands_opening, hands_closing, hands_bytes, still_come, inside_come, opening_inside, text_inside}
use Rattle.forest.proofs.events.EventsIterator.next.Goals as goal

below : (b : List ℕ) (at : ℕ) → at ≤ length b → (at ≡ length b → ⊥) → at < length b
below b at l n = omega arith

handed-opening : (b : List ℕ) (at label : ℕ) → get_or b at 0 ≡ 1 → at + 2 < length b → label ≡ get_or b (at + 1) 0 * 256 + get_or b (at + 2) 0
    → (ts : List Token) → ToCome b at ts → Handed b at ts (Some (Opening label)) (at + 3)
handed-opening b at label b0 k e ts h =
    subst (λ (m : ℕ). Handed b at ts (Some (Opening m)) (at + 3)) (sym e) (hands_opening b at (get_or b (at + 1) 0) (get_or b (at + 2) 0) ts k b0 refl refl h)

pub label_at-label-requires : goal.label_at-label-requires
label_at-label-requires c =
    let s = c.args.self.now in
    opening_inside s.body.now s.at s.whole (below _ _ s.inside c.if-at-body.false) c.in-1.is

pub invariant_of-self : goal.invariant_of-self
invariant_of-self c =
    let s = c.args.self.now in
    let l = below _ _ s.inside c.if-at-body.false in
    let k = opening_inside s.body.now s.at s.whole l c.in-1.is in
    let w = still_come s.body.now s.at (Opening c.label_at-label.result) (s.at + 3)
    (handed-opening s.body.now s.at c.label_at-label.result c.in-1.is k c.label_at-label.ensures) s.whole in
    record { inside = inside_come s.body.now (s.at + 3) w; whole = w }

pub invariant_of-self-in-2 : goal.invariant_of-self-in-2
invariant_of-self-in-2 c =
    let s = c.args.self.now in
    let l = below _ _ s.inside c.if-at-body.false in
    let w = still_come s.body.now s.at Closing (s.at + 1)
    (λ ts h. hands_closing s.body.now s.at ts l c.in-2.is h) s.whole in
    record { inside = inside_come s.body.now (s.at + 1) w; whole = w }

pub text_at-bytes-requires : goal.text_at-bytes-requires
text_at-bytes-requires c =
    let s = c.args.self.now in
    let l = below _ _ s.inside c.if-at-body.false in
    let k = text_inside s.body.now s.at s.whole l (search rules) (search rules) in
    (omega arith, k)

pub invariant_of-self-in_default : goal.invariant_of-self-in_default
invariant_of-self-in_default c =
    let s = c.args.self.now in
    let l = below _ _ s.inside c.if-at-body.false in
    let n1 : get_or s.body.now s.at 0 ≡ 1 → ⊥ = search rules in
    let n2 : get_or s.body.now s.at 0 ≡ 2 → ⊥ = search rules in
    let k = text_inside s.body.now s.at s.whole l n1 n2 in
    let w = still_come s.body.now s.at (Text c.text_at-bytes.result (s.at + 2)) (s.at + 2 + length c.text_at-bytes.result.now)
    (λ ts h. hands_bytes s.body.now s.at c.text_at-bytes.result ts l k n1 n2 c.text_at-bytes.ensures h) s.whole in
    record { inside = inside_come s.body.now (s.at + 2 + length c.text_at-bytes.result.now) w; whole = w }

pub returns-in_default-clause-steps : goal.returns-in_default-clause-steps
returns-in_default-clause-steps c =
    let s = c.args.self.now in
    let l = below _ _ s.inside c.if-at-body.false in
    let n1 : get_or s.body.now s.at 0 ≡ 1 → ⊥ = search rules in
    let n2 : get_or s.body.now s.at 0 ≡ 2 → ⊥ = search rules in
    let k = text_inside s.body.now s.at s.whole l n1 n2 in
    record { same = refl; handed = λ ts h. hands_bytes s.body.now s.at c.text_at-bytes.result ts l k n1 n2 c.text_at-bytes.ensures h }
