-- What an entry of a table opens to, and one part of a forest written after another.
use Rattle.std.proofs.Common.{◌≡◌, ℕ, zero, suc, ◌+◌, ◌-◌, ◌/◌, ◌%◌, ◌<◌, ◌≤◌, List, [], ◌∷◌, ◌++◌, length, take, drop, set, sym, refl, ap, ◌∙◌, subst, arith, length-append, length-drop, append_assoc, append-nil, get_or}
use Rattle.std.proofs.lemmas.List.{take_at, drop_at, take_all, drop_all, drop-drop, set_at}
use Rattle.std.proofs.Math.Seq.{drop-cons}
use borrow.Rule.Slice.PartMut.{put_mid}
use Rattle.forest.specs.Forest.{Forest, text, node, bytes_of}
use Rattle.survey.specs.declared.types.First.{First}
use Rattle.survey.specs.declared.types.First.TheVariants.{Nothing, Text, Node}
use Rattle.writer.specs.declared.parts.Part.{Part}
use Rattle.writer.specs.Tables.{part_at, made, forest_by, forest, BelowBy, Lower}

abbrev pub bytes_at : List Part → ℕ → List ℕ
bytes_at t k = bytes_of (forest t k)

-- an entry that begins with a text
pub record TextAt (t : List Part) (k : ℕ) : Type 0 where
  pub rest_below : (part_at t k).rest < k
  pub bytes : bytes_at t k ≡ 3 ∷ 0 ∷ bytes_at t (part_at t k).rest
  pub size : length (bytes_at t k) ≡ 2 + length (bytes_at t (part_at t k).rest)

-- an entry that begins with a node of this label
pub record NodeAt (t : List Part) (k l : ℕ) : Type 0 where
  pub content_below : (part_at t k).content < k
  pub rest_below : (part_at t k).rest < k
  pub bytes : bytes_at t k ≡ 1 ∷ l / 256 ∷ l % 256 ∷ (bytes_at t (part_at t k).content ++ (2 ∷ bytes_at t (part_at t k).rest))
  pub size : length (bytes_at t k) ≡ 4 + length (bytes_at t (part_at t k).content) + length (bytes_at t (part_at t k).rest)

module _ (t : List Part) (top : ℕ) (low : Lower t top) where
  fuel_step : (n m k : ℕ) (f : First) → ((j : ℕ) → j < k → forest_by t n j ≡ forest_by t m j) → BelowBy f (part_at t k).content (part_at t k).rest k
      → made f (forest_by t n (part_at t k).content) (forest_by t n (part_at t k).rest) ≡ made f (forest_by t m (part_at t k).content) (forest_by t m (part_at t k).rest)
  fuel_step n m k Nothing same b = refl
  fuel_step n m k Text same b = ap (text []) (same (part_at t k).rest b)
  fuel_step n m k (Node l) same b = ap (λ (c : Forest). node l c (forest_by t n (part_at t k).rest)) (same (part_at t k).content b.0) ∙ ap (node l (forest_by t m (part_at t k).content)) (same (part_at t k).rest b.1)

  -- more steps change nothing
  enough : (n m k : ℕ) → k < n → k < m → k ≤ top → forest_by t n k ≡ forest_by t m k
  enough zero m k h l w = absurd (omega arith)
  enough (suc n) zero k h l w = absurd (omega arith)
  enough (suc n) (suc m) k h l w = fuel_step n m k (part_at t k).first (λ j lt. enough n m j (omega arith) (omega arith) (omega arith)) (low k w)

  module _ (k : ℕ) (w : k ≤ top) where
    open_made : (f : First) → BelowBy f (part_at t k).content (part_at t k).rest k
        → made f (forest_by t k (part_at t k).content) (forest_by t k (part_at t k).rest) ≡ made f (forest t (part_at t k).content) (forest t (part_at t k).rest)
    open_made Nothing b = refl
    open_made Text b = ap (text []) (enough k (suc (part_at t k).rest) (part_at t k).rest b (omega arith) (omega arith))
    open_made (Node l) b =
        ap (λ (c : Forest). node l c (forest_by t k (part_at t k).rest)) (enough k (suc (part_at t k).content) (part_at t k).content b.0 (omega arith) (omega (arith, b.0)))
        ∙ ap (node l (forest t (part_at t k).content)) (enough k (suc (part_at t k).rest) (part_at t k).rest b.1 (omega arith) (omega (arith, b.1)))

    pub forest_is : forest t k ≡ made (part_at t k).first (forest t (part_at t k).content) (forest t (part_at t k).rest)
    forest_is = open_made (part_at t k).first (low k w)

    pub text_at : (part_at t k).first ≡ Text → TextAt t k
    text_at e =
        let is = forest_is ∙ ap (λ (f : First). made f (forest t (part_at t k).content) (forest t (part_at t k).rest)) e in
        record {
          rest_below = subst (λ (f : First). BelowBy f (part_at t k).content (part_at t k).rest k) e (low k w);
          bytes = ap bytes_of is;
          size = ap (λ (f : Forest). length (bytes_of f)) is ∙ omega arith;
        }

    pub node_at : (l : ℕ) → (part_at t k).first ≡ Node l → NodeAt t k l
    node_at l e =
        let is = forest_is ∙ ap (λ (f : First). made f (forest t (part_at t k).content) (forest t (part_at t k).rest)) e in
        let below = subst (λ (f : First). BelowBy f (part_at t k).content (part_at t k).rest k) e (low k w) in
        record {
          content_below = below.0;
          rest_below = below.1;
          bytes = ap bytes_of is;
          size = ap (λ (f : Forest). length (bytes_of f)) is ∙ omega (arith, length-append (bytes_at t (part_at t k).content) (2 ∷ bytes_at t (part_at t k).rest));
        }

-- a list that begins with `front`, and goes on as xs does
pub record Begun (front xs ys : List ℕ) : Type 0 where
  pub is : ys ≡ front ++ drop (length front) xs
  pub fits : length front ≤ length xs

pub length_begun : {front xs ys : List ℕ} → Begun front xs ys → length ys ≡ length xs
length_begun {front} {xs} {ys} h = ap length h.is ∙ omega (arith, length-append front (drop (length front) xs), length-drop (length front) xs)

pub rest_of : {front xs ys : List ℕ} (k : ℕ) → Begun front xs ys → k ≡ length front → take (length ys - k) (drop k ys) ≡ drop k xs
rest_of {front} {xs} {ys} k h e =
    let at : drop k ys ≡ drop k xs = ap (drop k) h.is ∙ drop_at front (drop (length front) xs) k (sym e) ∙ ap (λ (n : ℕ). drop n xs) (sym e) in
    let same = length_begun h in
    take_all (length ys - k) (drop k ys) (omega (arith, length-drop k ys)) ∙ at

-- one byte more
pub begun_byte : {front xs ys : List ℕ} (k b : ℕ) → Begun front xs ys → k ≡ length front → k < length xs → Begun (front ++ (b ∷ [])) xs (set ys k b)
begun_byte {front} {xs} {ys} k b h e lt =
    let n = length front in
    let more : suc n ≡ length (front ++ (b ∷ [])) = omega (arith, length-append front (b ∷ [])) in
    let here : drop n xs ≡ get_or xs n 0 ∷ drop (suc n) xs = drop-cons xs n 0 (omega arith) in record {
      is = ap (λ (zs : List ℕ). set zs k b) (h.is ∙ ap (λ (zs : List ℕ). front ++ zs) here)
          ∙ set_at front (get_or xs n 0) (drop (suc n) xs) b k (sym e)
          ∙ sym (append_assoc front (b ∷ []) (drop (suc n) xs))
          ∙ ap (λ (m : ℕ). (front ++ (b ∷ [])) ++ drop m xs) more;
      fits = omega arith;
    }

-- a part more
pub begun_part : {front xs ys : List ℕ} (part zs : List ℕ) (k r : ℕ) → Begun front xs ys → k ≡ length front → r ≡ length part → k + r ≤ length xs
    → zs ≡ part ++ drop r (take (length ys - k) (drop k ys)) → Begun (front ++ part) xs (put_mid k (length ys - k) ys zs)
begun_part {front} {xs} {ys} part zs k r h e e' fits is =
    let more : k + r ≡ length (front ++ part) = omega (arith, length-append front part) in
    let before : take k ys ≡ front = ap (take k) h.is ∙ take_at front (drop (length front) xs) k (sym e) in
    let within : zs ≡ part ++ drop (k + r) xs = is ∙ ap (λ (us : List ℕ). part ++ drop r us) (rest_of k h e) ∙ ap (λ (us : List ℕ). part ++ us) (drop-drop r k xs) in
    let after : drop (length ys - k) (drop k ys) ≡ [] = drop_all (length ys - k) (drop k ys) (omega (arith, length-drop k ys)) in record {
      is = ap (λ (us : List ℕ). us ++ (zs ++ drop (length ys - k) (drop k ys))) before
          ∙ ap (λ (us : List ℕ). front ++ (zs ++ us)) after
          ∙ ap (λ (us : List ℕ). front ++ us) (append-nil zs ∙ within)
          ∙ sym (append_assoc front part (drop (k + r) xs))
          ∙ ap (λ (m : ℕ). (front ++ part) ++ drop m xs) more;
      fits = omega arith;
    }

-- the first bytes written
pub begun_opening : (xs head front : List ℕ) (k : ℕ) → k ≡ length front → k ≤ length xs → head ≡ front → Begun front xs (head ++ drop k xs)
begun_opening xs head front k e le is = record { is = ap (λ (us : List ℕ). us ++ drop k xs) is ∙ ap (λ (n : ℕ). front ++ drop n xs) e; fits = omega arith }

-- a node's opening, its content and its closing
abbrev pub closed_part : List Part → ℕ → ℕ → List ℕ
closed_part t k l = ((1 ∷ l / 256 ∷ l % 256 ∷ []) ++ bytes_at t (part_at t k).content) ++ (2 ∷ [])

-- ys begins with an opening and the content, up to e, and once closed, there is room for the rest
pub record Closing (t : List Part) (k l e : ℕ) (xs ys : List ℕ) : Type 0 where
  pub opened : length ys ≡ length xs
  pub begun : Begun (closed_part t k l) xs (set ys e 2)
  pub same : length (set ys e 2) ≡ length xs
  pub end : e + 1 ≡ length (closed_part t k l)
  pub fits : e + 1 + length (bytes_at t (part_at t k).rest) ≤ length xs
  pub left : length (take (length (set ys e 2) - (e + 1)) (drop (e + 1) (set ys e 2))) ≡ length xs - (e + 1)

pub closing : {t : List Part} {k l : ℕ} (n : NodeAt t k l) (xs head zs : List ℕ) (e : ℕ) → length (bytes_at t k) ≤ length xs
    → head ≡ 1 ∷ l / 256 ∷ l % 256 ∷ [] → e ≡ 3 + length (bytes_at t (part_at t k).content)
    → zs ≡ bytes_at t (part_at t k).content ++ drop (length (bytes_at t (part_at t k).content)) (take (length (head ++ drop 3 xs) - 3) (drop 3 (head ++ drop 3 xs)))
    → Closing t k l e xs (put_mid 3 (length (head ++ drop 3 xs) - 3) (head ++ drop 3 xs) zs)
closing {t} {k} {l} n xs head zs e room is size wrote =
    let cs = bytes_at t (part_at t k).content in
    let front = (1 ∷ l / 256 ∷ l % 256 ∷ []) ++ cs in
    let content : Begun front xs (put_mid 3 (length (head ++ drop 3 xs) - 3) (head ++ drop 3 xs) zs) =
    begun_part cs zs 3 (length cs) (begun_opening xs head (1 ∷ l / 256 ∷ l % 256 ∷ []) 3 refl (omega arith) is) refl refl (omega arith) wrote in
    let begun = begun_byte e 2 content (omega arith) (omega arith) in
    let end : e + 1 ≡ length (front ++ (2 ∷ [])) = omega (arith, length-append front (2 ∷ [])) in
    record {
      opened = length_begun content;
      begun = begun;
      same = length_begun begun;
      end = end;
      fits = omega arith;
      left = ap length (rest_of (e + 1) begun end) ∙ length-drop (e + 1) xs;
    }
