-- Rows laid one after another.
use Rattle.std.proofs.Common.{◌≡◌, ℕ, zero, suc, ◌+◌, ◌*◌, ◌/◌, ◌%◌, ◌<◌, List, [], ◌∷◌, ◌++◌, length, get_or, take, drop, set, sym, refl, ap, ◌∙◌, arith}
use Rattle.std.specs.Simd.{first_chunks}
use Rattle.std.specs.List.{flat_map}
use Rattle.std.proofs.Math.Seq.{take-add, take-length}
use Rattle.std.proofs.lemmas.List.{take_more, take_more_set, flat_map_more}
use Rattle.rows.specs.Raw.{RawRow, laid}

laid_push : (rs : List RawRow) (r : RawRow) → laid (rs ++ r ∷ []) ≡ laid rs ++ laid (r ∷ [])
laid_push [] r = refl
laid_push (x ∷ rs) r = ap (λ (z : List ℕ). x.kind ∷ (x.first ∷ (x.second ∷ (x.third ∷ z)))) (laid_push rs r)

-- The chunks that were laid.
abbrev pub joined : List (List ℕ) → List ℕ
joined xs = flat_map (λ x. x) xs

pub fill_more : (rows : List RawRow) (chunks : List (List ℕ)) (n : ℕ) (r : RawRow) → n < length rows → n < length chunks
    → laid (r ∷ []) ≡ get_or chunks n [] → laid (take n rows) ≡ joined (take n chunks)
    → laid (take (n + 1) (set rows n r)) ≡ joined (take (n + 1) chunks)
fill_more rows chunks n r h l e i =
    ap laid (take_more_set rows n r h) ∙ laid_push (take n rows) r
    ∙ ap (λ (z : List ℕ). laid (take n rows) ++ z) e ∙ ap (λ (z : List ℕ). z ++ get_or chunks n []) i
    ∙ flat_map_more (λ x. x) [] (take n chunks) (get_or chunks n []) ∙ ap joined (sym (take_more chunks n [] l))

joined_chunks : (k : ℕ) (b : List ℕ) → joined (first_chunks 4 k b) ≡ take (4 * k) b
joined_chunks zero b = refl
joined_chunks (suc k) b =
    ap (λ (z : List ℕ). take 4 b ++ z) (joined_chunks k (drop 4 b)) ∙ sym (take-add 4 (4 * k) b)
    ∙ ap (λ (n : ℕ). take n b) (omega arith)

pub fill_all : (b : List ℕ) → length b % 4 ≡ 0 → joined (first_chunks 4 (length b / 4) b) ≡ b
fill_all b h = joined_chunks (length b / 4) b ∙ ap (λ (n : ℕ). take n b) (omega arith) ∙ take-length b
