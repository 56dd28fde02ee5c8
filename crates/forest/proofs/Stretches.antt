-- What stands in a body from an offset on.
use Rattle.std.proofs.Common.{◌≡◌, ℕ, suc, ◌+◌, ◌-◌, ◌*◌, ◌/◌, ◌%◌, ◌<◌, ◌≤◌, ◌⊎◌, inl, inr, List, [], ◌∷◌, ◌++◌, length, get_or, take, drop, sym, refl, ap, ◌∙◌, subst, append_assoc, add-zero, arith, length-append, length-drop, Fits, w8}
use native.Mathlib.Nat.{max-le}
use lib.Arith.{digits_div, digits_mod}
use Rattle.std.proofs.lemmas.List.{take_rest, get_or-drop, get_or-take, drop_more, drop_all, drop-drop, take-append-drop, length-take-le}
use Rattle.forest.specs.Forest.{Forest, nil, text, node, Bytes, Proper, join, bytes_of, depth}
use Rattle.forest.specs.Reading.{opening, all_written, walk, in_opening, in_count, in_text, Wrong, cut_short, no_token, label_zero, stray_closing, never_closed, too_deep, DueWithin}
use Rattle.forest.specs.Steps.{Stretch, Refused}
use Rattle.forest.proofs.Walks.{walk_written, walk_leaves, due_after, due_here, content_depth, rest_depth}

-- `&b[at..]`, as the code's patterns see it
abbrev pub view : List ℕ → ℕ → List ℕ
view b at = take (length b - at) (drop at b)

pub get_or_view : (b : List ℕ) (at i : ℕ) → get_or (view b at) i 0 ≡ get_or b (at + i) 0
get_or_view b at i = ap (λ x. get_or x i 0) (take_rest b at) ∙ get_or-drop at b i 0

pub view_first : (b : List ℕ) (at : ℕ) → get_or (view b at) 0 0 ≡ get_or b at 0
view_first b at = get_or_view b at 0 ∙ ap (λ n. get_or b n 0) (add-zero at)

pub first_seen : (b : List ℕ) (at x : ℕ) → get_or (view b at) 0 0 ≡ x → get_or b at 0 ≡ x
first_seen b at x h = sym (view_first b at) ∙ h

pub view_length : (b : List ℕ) (at : ℕ) → length (view b at) ≡ length b - at
view_length b at = ap length (take_rest b at) ∙ length-drop at b

-- The first bytes from an offset on.
pub one : (b : List ℕ) (at x : ℕ) → at < length b → get_or b at 0 ≡ x → drop at b ≡ x ∷ drop (at + 1) b
one b at x h e = drop_more b at 0 h ∙ ap (λ k. k ∷ drop (at + 1) b) e

pub two : (b : List ℕ) (at x y : ℕ) → at + 1 < length b → get_or b at 0 ≡ x → get_or b (at + 1) 0 ≡ y → drop at b ≡ x ∷ (y ∷ drop (at + 2) b)
two b at x y h e f =
    let k : at + 1 + 1 ≡ at + 2 = omega arith in
    one b at x (omega arith) e ∙ ap (λ s. x ∷ s) (one b (at + 1) y h f ∙ ap (λ m. y ∷ drop m b) k)

pub three : (b : List ℕ) (at x y z : ℕ) → at + 2 < length b → get_or b at 0 ≡ x → get_or b (at + 1) 0 ≡ y → get_or b (at + 2) 0 ≡ z
    → drop at b ≡ x ∷ (y ∷ (z ∷ drop (at + 3) b))
three b at x y z h e f g =
    let k : at + 2 + 1 ≡ at + 3 = omega arith in
    two b at x y (omega arith) e f ∙ ap (λ s. x ∷ (y ∷ s)) (one b (at + 2) z h g ∙ ap (λ m. z ∷ drop m b) k)

-- A list of bytes, element by element.
pub bytes_from : (s : List ℕ) → ((i : ℕ) → i < length s → get_or s i 0 < 256) → Bytes s
bytes_from [] h = tt
bytes_from (b ∷ s) h = (h 0 (omega arith), bytes_from s (λ i l. h (suc i) (omega arith)))

-- Forests one after another.
pub bytes_join : (f g : Forest) → bytes_of (join f g) ≡ bytes_of f ++ bytes_of g
bytes_join nil g = refl
bytes_join (text t r) g = ap (λ x. 3 ∷ (length t ∷ x)) (ap (λ x. t ++ x) (bytes_join r g) ∙ sym (append_assoc t (bytes_of r) (bytes_of g)))
bytes_join (node l c r) g =
    ap (λ x. 1 ∷ (l / 256 ∷ (l % 256 ∷ x))) (ap (λ x. bytes_of c ++ (2 ∷ x)) (bytes_join r g) ∙ sym (append_assoc (bytes_of c) (2 ∷ bytes_of r) (bytes_of g)))

pub proper_join : (f g : Forest) → Proper f → Proper g → Proper (join f g)
proper_join nil g p q = q
proper_join (text t r) g p q = (p.0, proper_join r g p.1 q)
proper_join (node l c r) g p q = (p.0, p.1, proper_join r g p.2 q)

pub depth_join : (f g : Forest) (n : ℕ) → depth f ≤ n → depth g ≤ n → depth (join f g) ≤ n
depth_join nil g n h k = k
depth_join (text t r) g n h k = depth_join r g n h k
depth_join (node l c r) g n h k = max-le (content_depth l c r n h) (depth_join r g n (rest_depth l c r n h) k)

-- An opening stands at an offset, with a label that is not 0.
pub record OpensAt (b : List ℕ) (at : ℕ) : Type 0 where
  pub whole : at + 2 < length b
  pub mark : get_or b at 0 ≡ 1
  pub labelled : 0 < get_or b (at + 1) 0 + get_or b (at + 2) 0

-- Stretches.
pub stretch_more : (n : ℕ) (b : List ℕ) (at m e : ℕ) → Stretch n b at m → Stretch n b m e → Stretch n b at e
stretch_more n b at m e p q = record {
  forest = join p.forest q.forest;
  proper = proper_join p.forest q.forest p.proper q.proper;
  shallow = depth_join p.forest q.forest n p.shallow q.shallow;
  onward = omega arith;
  inside = q.inside;
  is_written = p.is_written ∙ ap (λ x. bytes_of p.forest ++ x) q.is_written
      ∙ sym (append_assoc (bytes_of p.forest) (bytes_of q.forest) (drop e b)) ∙ ap (λ x. x ++ drop e b) (sym (bytes_join p.forest q.forest));
}

pub stretch_text : (n : ℕ) (b : List ℕ) (at k : ℕ) → ((i : ℕ) → Fits w8 (get_or b i 0)) → at + 1 < length b
    → get_or b at 0 ≡ 3 → get_or b (at + 1) 0 ≡ k → at + 2 + k ≤ length b → Stretch n b at (at + 2 + k)
stretch_text n b at k bs l o ke le =
    let t : List ℕ = take k (drop (at + 2) b) in
    let d : k ≤ length (drop (at + 2) b) = simp length-drop (omega arith) in
    let e : length t ≡ k = length-take-le k (drop (at + 2) b) d in
    let kb : k < 256 = omega (arith, ke, bs (at + 1)) in
    let tb : Bytes t = bytes_from t (λ i h.
    let lt : i < k = omega (arith, e) in
    rw (get_or-take k (drop (at + 2) b) i 0 lt, get_or-drop (at + 2) b i 0) (omega (arith, bs (at + 2 + i)))) in
    let y : drop (at + 2) b ≡ t ++ drop (at + 2 + k) b = sym (take-append-drop k (drop (at + 2) b)) ∙ ap (λ m. t ++ m) (drop-drop k (at + 2) b) in
    let z : drop (at + 2) b ≡ (t ++ []) ++ drop (at + 2 + k) b = y ∙ sym (append_assoc t [] (drop (at + 2 + k) b)) in
    record {
      forest = text t nil;
      proper = ((tb, omega (arith, e)), tt);
      shallow = omega arith;
      onward = omega arith;
      inside = le;
      is_written = two b at 3 k l o ke ∙ ap (λ m. 3 ∷ (k ∷ m)) z ∙ ap (λ m. 3 ∷ (m ∷ ((t ++ []) ++ drop (at + 2 + k) b))) (sym e);
    }

pub stretch_node : (n : ℕ) (b : List ℕ) (at e : ℕ) → ((i : ℕ) → Fits w8 (get_or b i 0)) → OpensAt b at → 0 < n
    → Stretch (n - 1) b (at + 3) e → e < length b → get_or b e 0 ≡ 2 → Stretch n b at (e + 1)
stretch_node n b at e bs o dn p le c =
    let hi : ℕ = get_or b (at + 1) 0 in
    let lo : ℕ = get_or b (at + 2) 0 in
    let hs : hi < 256 = omega (arith, bs (at + 1)) in
    let ls : lo < 256 = omega (arith, bs (at + 2)) in
    let v : ℕ = hi * 256 + lo in
    let y : drop e b ≡ 2 ∷ drop (e + 1) b = one b e 2 le c in
    let z : drop (at + 3) b ≡ (bytes_of p.forest ++ (2 ∷ [])) ++ drop (e + 1) b
    = p.is_written ∙ ap (λ k. bytes_of p.forest ++ k) y ∙ sym (append_assoc (bytes_of p.forest) (2 ∷ []) (drop (e + 1) b)) in
    let q : v / 256 ≡ hi = digits_div hi ls in
    let r : v % 256 ≡ lo = digits_mod hi ls in
    let on : at + 3 ≤ e = p.onward in
    let sh : depth p.forest ≤ n - 1 = p.shallow in
    let pos1 : 0 < v = omega (arith, o.labelled) in
    let bound : v < 65536 = omega arith in
    let deep : suc (depth p.forest) ≤ n = omega arith in
    let none : 0 ≤ n = omega arith in
    record {
      forest = node v p.forest nil;
      proper = ((pos1, bound), p.proper, tt);
      shallow = max-le deep none;
      onward = omega arith;
      inside = omega arith;
      is_written = three b at 1 hi lo o.whole o.mark refl refl ∙ ap (λ k. 1 ∷ (hi ∷ (lo ∷ k))) z
          ∙ ap (λ k. 1 ∷ (k ∷ (lo ∷ ((bytes_of p.forest ++ (2 ∷ [])) ++ drop (e + 1) b)))) (sym q)
          ∙ ap (λ k. 1 ∷ (v / 256 ∷ (k ∷ ((bytes_of p.forest ++ (2 ∷ [])) ++ drop (e + 1) b)))) (sym r);
    }

-- Refusals.
pub refused_here : (d : ℕ) (b : List ℕ) (at n : ℕ) → Wrong d (drop at b) n → Refused d b at n at
refused_here d b at n w = record { offset = 0; due = due_here d (drop at b) n w; place_is = sym (add-zero at) }

-- A refusal after a stretch.
pub refused_after : (k d : ℕ) (b : List ℕ) (at m n p : ℕ) → d + k ≤ 64 → Stretch k b at m → Refused d b m n p → Refused d b at n p
refused_after k d b at m n p h s r =
    let w = all_written (walk s.forest) in
    let we : all_written (walk s.forest) ≡ bytes_of s.forest = walk_written s.forest in
    let e : all_written (walk s.forest) ++ drop m b ≡ drop at b = ap (λ x. x ++ drop m b) we ∙ sym s.is_written in
    let on : at ≤ m = s.onward in
    let ins : m ≤ length b = s.inside in
    let l : length (all_written (walk s.forest)) + (length b - m) ≡ length b - at = simp (length-append, length-drop) at (ap length e) in
    let x = due_after d d (walk s.forest) (drop m b) n r.offset (walk_leaves s.forest d k s.proper s.shallow h) r.due in
    let pl : p ≡ m + r.offset = r.place_is in
    record {
      offset = length (all_written (walk s.forest)) + r.offset;
      due = subst (λ (y : List ℕ). DueWithin d y n (length (all_written (walk s.forest)) + r.offset)) e x;
      place_is = omega arith;
    }

-- A refusal inside a node.
pub refused_inside : (d k : ℕ) (b : List ℕ) (at n p : ℕ) → ((i : ℕ) → Fits w8 (get_or b i 0)) → OpensAt b at → d < 64 → k ≡ suc d → Refused k b (at + 3) n p → Refused d b at n p
refused_inside d k b at n p bs o h ke r' =
    let r : Refused (suc d) b (at + 3) n p = subst (λ (m : ℕ). Refused m b (at + 3) n p) ke r' in
    let hi : ℕ = get_or b (at + 1) 0 in
    let lo : ℕ = get_or b (at + 2) 0 in
    let hs : hi < 256 = omega (arith, bs (at + 1)) in
    let ls : lo < 256 = omega (arith, bs (at + 2)) in
    let v : ℕ = hi * 256 + lo in
    let q : v / 256 ≡ hi = digits_div hi ls in
    let m : v % 256 ≡ lo = digits_mod hi ls in
    let e : 1 ∷ (v / 256 ∷ (v % 256 ∷ drop (at + 3) b)) ≡ drop at b
    = ap (λ k. 1 ∷ (k ∷ (v % 256 ∷ drop (at + 3) b))) q ∙ ap (λ k. 1 ∷ (hi ∷ (k ∷ drop (at + 3) b))) m
    ∙ sym (three b at 1 hi lo o.whole o.mark refl refl) in
    let pos1 : 0 < v = omega (arith, o.labelled) in
    let bound : v < 65536 = omega arith in
    let pl : p ≡ at + 3 + r.offset = r.place_is in
    let x = due_after d (suc d) (opening v ∷ []) (drop (at + 3) b) n r.offset ((pos1, bound), h, refl) r.due in
    record {
      offset = 3 + r.offset;
      due = subst (λ (y : List ℕ). DueWithin d y n (3 + r.offset)) e x;
      place_is = omega arith;
    }

pub short_opening : (b : List ℕ) (at : ℕ) → at < length b → length b ≤ at + 2 → get_or b at 0 ≡ 1 → (d : ℕ) → Wrong d (drop at b) 4
short_opening b at l h o d =
    let s : length (drop (at + 1) b) < 2 = simp length-drop (omega arith) in
    subst (λ (x : List ℕ). Wrong d x 4) (sym (one b at 1 l o)) (cut_short (in_opening s))

pub zero_label : (b : List ℕ) (at : ℕ) → at + 2 < length b → get_or b at 0 ≡ 1 → get_or b (at + 1) 0 ≡ 0 → get_or b (at + 2) 0 ≡ 0
    → (d : ℕ) → Wrong d (drop at b) 6
zero_label b at l o h k d = subst (λ (x : List ℕ). Wrong d x 6) (sym (three b at 1 0 0 l o h k)) label_zero

pub short_count : (b : List ℕ) (at : ℕ) → at < length b → length b ≤ at + 1 → get_or b at 0 ≡ 3 → (d : ℕ) → Wrong d (drop at b) 4
short_count b at l h o d =
    let e : drop at b ≡ 3 ∷ [] = one b at 3 l o ∙ ap (λ x. 3 ∷ x) (drop_all (at + 1) b h) in
    subst (λ (x : List ℕ). Wrong d x 4) (sym e) (cut_short in_count)

pub short_text : (b : List ℕ) (at k : ℕ) → at + 1 < length b → get_or b at 0 ≡ 3 → get_or b (at + 1) 0 ≡ k → length b < at + 2 + k
    → (d : ℕ) → Wrong d (drop at b) 4
short_text b at k l o ke h d =
    let s : length (drop (at + 2) b) < k = simp length-drop (omega arith) in
    subst (λ (x : List ℕ). Wrong d x 4) (sym (two b at 3 k l o ke)) (cut_short (in_text s))

pub no_mark : (d : ℕ) (b : List ℕ) (at : ℕ) → at < length b → (get_or b at 0 ≡ 1 → ⊥) → (get_or b at 0 ≡ 2 → ⊥) → (get_or b at 0 ≡ 3 → ⊥)
    → Wrong d (drop at b) 5
no_mark d b at l n1 n2 n3 = subst (λ (x : List ℕ). Wrong d x 5) (sym (one b at (get_or b at 0) l refl)) (no_token n1 n2 n3)

pub too_nested : (d : ℕ) (b : List ℕ) (at : ℕ) → ((i : ℕ) → Fits w8 (get_or b i 0)) → OpensAt b at → 64 ≤ d → Wrong d (drop at b) 8
too_nested d b at bs o h =
    let hi : ℕ = get_or b (at + 1) 0 in
    let lo : ℕ = get_or b (at + 2) 0 in
    let hs : hi < 256 = omega (arith, bs (at + 1)) in
    let ls : lo < 256 = omega (arith, bs (at + 2)) in
    let pos1 : 0 < hi * 256 + lo = omega (arith, o.labelled) in
    let bound : hi * 256 + lo < 65536 = omega arith in
    subst (λ (x : List ℕ). Wrong d x 8) (sym (three b at 1 hi lo o.whole o.mark refl refl)) (too_deep (pos1, bound) h)

pub unclosed : (d : ℕ) (b : List ℕ) (at : ℕ) → length b ≤ at → 0 < d → Wrong d (drop at b) 7
unclosed d b at l h = subst (λ (x : List ℕ). Wrong d x 7) (sym (drop_all at b l)) (never_closed h)

pub stray : (b : List ℕ) (at : ℕ) → at < length b → get_or b at 0 ≡ 2 → Wrong 0 (drop at b) 7
stray b at l o = subst (λ (x : List ℕ). Wrong 0 x 7) (sym (one b at 2 l o)) (stray_closing refl)

-- What stands at an offset inside the body, from what the code's patterns see there.
module _ (b : List ℕ) (at : ℕ) (l : at < length b) where
  pub opens : 3 ≤ length (view b at) → get_or (view b at) 0 0 ≡ 1 → 0 < get_or (view b at) 1 0 + get_or (view b at) 2 0 → OpensAt b at
  opens k b0 pos = record {
    whole = omega (arith, view_length b at);
    mark = first_seen b at 1 b0;
    labelled = omega (arith, get_or_view b at 1, get_or_view b at 2);
  }

  pub text_seen : (n count : ℕ) → ((i : ℕ) → Fits w8 (get_or b i 0)) → get_or (view b at) 0 0 ≡ 3 → count ≡ get_or (view b at) 1 0
      → 2 + count ≤ length (view b at) → (at < at + 2 + count) × Stretch n b at (at + 2 + count)
  text_seen n count bs b0 e k =
      (omega arith, stretch_text n b at count bs (omega (arith, view_length b at)) (first_seen b at 3 b0) (sym (get_or_view b at 1) ∙ sym e) (omega (arith, view_length b at)))

  -- An opening, the count of a text or its bytes are cut short.
  abbrev pub ShortSeen : Type 0
  ShortSeen =
      ((get_or (view b at) 0 0 ≡ 1) × (length (view b at) ≤ 2))
      ⊎ (((get_or (view b at) 0 0 ≡ 3) × (length (view b at) ≤ 1))
      ⊎ ((get_or (view b at) 0 0 ≡ 3) × (2 ≤ length (view b at)) × (length (view b at) < 2 + get_or (view b at) 1 0)))

  pub short_seen : (d : ℕ) → ShortSeen → Refused d b at 4 at
  short_seen d (inl h) = refused_here d b at 4 (short_opening b at l (omega (arith, view_length b at)) (first_seen b at 1 h.0) d)
  short_seen d (inr (inl h)) = refused_here d b at 4 (short_count b at l (omega (arith, view_length b at)) (first_seen b at 3 h.0) d)
  short_seen d (inr (inr h)) =
      refused_here d b at 4 (short_text b at (get_or b (at + 1) 0) (omega (arith, view_length b at)) (first_seen b at 3 h.0) refl (omega (arith, view_length b at, get_or_view b at 1)) d)

  pub label_zero_seen : (d : ℕ) → 3 ≤ length (view b at) → get_or (view b at) 0 0 ≡ 1 → get_or (view b at) 1 0 ≡ 0 → get_or (view b at) 2 0 ≡ 0
      → Refused d b at 6 at
  label_zero_seen d k b0 b1 b2 =
      refused_here d b at 6 (zero_label b at (omega (arith, view_length b at)) (first_seen b at 1 b0) (sym (get_or_view b at 1) ∙ b1) (sym (get_or_view b at 2) ∙ b2) d)

  pub no_mark_seen : (d : ℕ) → (get_or (view b at) 0 0 ≡ 1 → ⊥) → (get_or b at 0 ≡ 2 → ⊥) → (get_or (view b at) 0 0 ≡ 3 → ⊥) → Refused d b at 5 at
  no_mark_seen d n1 n2 n3 =
      refused_here d b at 5 (no_mark d b at l (λ e. n1 (view_first b at ∙ e)) n2 (λ e. n3 (view_first b at ∙ e)))
