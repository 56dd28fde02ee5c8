-- Lists in a memory: what one more leaves.
use Rattle.std.proofs.Common.{◌≡◌, ◌≢◌, ℕ, suc, ◌+◌, ◌-◌, ◌<◌, ◌≤◌, List, [], ◌∷◌, ◌++◌, map, length, get_or, take, drop, set, vec_items, sym, refl, ap, ◌∙◌, arith, length-append, get_or-set_other, get_or-set_same, below_more}
use borrow.Rule.Slice.PartMut.{put_mid}
use Rattle.std.proofs.lemmas.List.{drop-drop, take_more_set, map_push, get_or-take, length-take-le, length-drop, length-map, with_items_is}
use Rattle.std.proofs.lemmas.Slice.{between_is, between-put_mid, take-put_mid_below, drop-put_mid}
use Rattle.std.specs.Vec.{with_items}
use Rattle.store.specs.declared.Span.{Span}
use Rattle.store.specs.declared.Store.{Store}
use Rattle.store.specs.Packing.{no_span, cut, cuts, Apart, total}
use Rattle.store.specs.Stores.{lists, free, Takes}

map_same : {X Y : Type 0} (f g : X → Y) (d : X) (xs : List X) → ((k : ℕ) → k < length xs → f (get_or xs k d) ≡ g (get_or xs k d)) → map f xs ≡ map g xs
map_same f g d [] h = refl
map_same f g d (x ∷ xs) h = let a = h 0 (omega arith) in let b = map_same f g d xs (λ k lt. h (suc k) (omega arith)) in cc

total_push : {X : Type 0} (xs : List (List X)) (x : List X) → total (xs ++ x ∷ []) ≡ total xs + length x
total_push [] x = omega arith
total_push (y ∷ ys) x = let e = total_push ys x in omega arith

pub counted : {T : Type 0} {N : ℕ} (s : Store T N) → length (lists s) ≡ s.count
counted s = let l = length-take-le s.count s.spans (omega arith) in length-map (take s.count s.spans) (cut (vec_items s.memory)) ∙ l

-- one more list, where there is room for it
module _ {T : Type 0} {N : ℕ} (s : Store T N) (w : List T) (takes : Takes s (length w)) where
  abbrev span : Span
  span = record { start = s.used; end = s.used + length w }

  abbrev spans : List Span
  spans = set s.spans s.count span

  room : s.count < length s.spans
  room = let a = takes.0 in let c = counted s in omega arith

  fits : s.used + length w ≤ length (vec_items s.memory)
  fits = let a = takes.1 in let l = length-drop s.used (vec_items s.memory) in omega arith

  pub apart_after : Apart spans (s.count + 1) (s.used + length w)
  apart_after =
      let r = room in
      below_more (λ k. ((get_or spans k no_span).start ≤ (get_or spans k no_span).end) × ((get_or spans k no_span).end ≤ s.used + length w)) s.count
      (λ k h. let ne : k ≢ s.count = omega arith in let a = s.apart k h in rw (get_or-set_other s.spans s.count k span no_span ne) (a.0, omega arith))
      (rw (get_or-set_same s.spans s.count span no_span r) (omega arith, omega arith))

  -- `after` is the memory with the list copied to its place
  module _ (before copied : List T) (here : before ≡ vec_items s.memory) (is : copied ≡ w) where
    abbrev after : List T
    after = put_mid s.used (s.used + length w - s.used) before copied

    within : s.used ≤ length before
    within = let e = ap length here in let f = fits in omega arith

    memory_after : vec_items (with_items s.memory after) ≡ after
    memory_after =
        let l = length-take-le s.used before within in
        let f = fits in
        let e = ap length here in
        let c = ap length is in
        with_items_is s.memory after (simp (length-append, length-drop) (omega arith))

    -- what lies below stays
    cut_below : (p : Span) → p.end ≤ s.used → cut after p ≡ cut (vec_items s.memory) p
    cut_below p h = between_is after p.start p.end ∙ ap (drop p.start) (take-put_mid_below s.used (s.used + length w - s.used) before copied p.end h within ∙ ap (take p.end) here) ∙ sym (between_is (vec_items s.memory) p.start p.end)

    cut_new : cut after span ≡ w
    cut_new = let c = ap length is in between-put_mid s.used (s.used + length w - s.used) before copied (s.used + length w) within (omega arith) ∙ is

    cuts_more : cuts after spans (s.count + 1) ≡ lists s ++ w ∷ []
    cuts_more =
        let r = room in
        let l = length-take-le s.count s.spans (omega arith) in
        let old : map (cut after) (take s.count s.spans) ≡ lists s = map_same (cut after) (cut (vec_items s.memory)) no_span (take s.count s.spans) (λ k lt. rw (get_or-take s.count s.spans k no_span (omega arith)) (let a = s.apart k (omega arith) in cut_below (get_or s.spans k no_span) a.1)) in
        ap (map (cut after)) (take_more_set s.spans s.count span r) ∙ map_push (cut after) (take s.count s.spans) span ∙ ap (λ (x : List (List T)). x ++ cut after span ∷ []) old ∙ ap (λ (x : List T). lists s ++ x ∷ []) cut_new

    pub lists_after : cuts (vec_items (with_items s.memory after)) spans (s.count + 1) ≡ lists s ++ w ∷ []
    lists_after = ap (λ (x : List T). cuts x spans (s.count + 1)) memory_after ∙ cuts_more

    pub free_after : drop (s.used + length w) (vec_items (with_items s.memory after)) ≡ drop (length w) (free s)
    free_after =
        let c = ap length is in
        ap (drop (s.used + length w)) memory_after ∙ drop-put_mid s.used (s.used + length w - s.used) before copied (s.used + length w) (omega arith) within (omega arith) ∙ ap (drop (s.used + length w)) here ∙ sym (drop-drop (length w) s.used (vec_items s.memory))

    pub filled_after : s.used + length w ≡ total (cuts (vec_items (with_items s.memory after)) spans (s.count + 1))
    filled_after = let a = ap total lists_after ∙ total_push (lists s) w in let f = s.filled in omega arith
