-- Each forest has one form.
use Rattle.std.proofs.Common.{◌≡◌, ℕ, ◌+◌, ◌*◌, ◌/◌, ◌%◌, List, [], ◌∷◌, ◌++◌, length, sym, refl, ap, ◌∙◌, subst, append_assoc, div-add-mod', arith}
use Rattle.std.proofs.lemmas.List.{append-nil}
use Rattle.forest.specs.Forest.{Forest, nil, text, node, bytes_of}
use Rattle.forest.specs.Reading.{OneForm}

-- Lists of one length before rests.
pub cut : (x y a b : List ℕ) → length x ≡ length y → x ++ a ≡ y ++ b → (x ≡ y) × (a ≡ b)
cut [] [] a b l e = (refl, e)
cut [] (v ∷ y) a b l e = absurd (omega arith)
cut (u ∷ x) [] a b l e = absurd (omega arith)
cut (u ∷ x) (v ∷ y) a b l e =
    let h : u ≡ v = cc in
    let r : x ++ a ≡ y ++ b = cc in
    let p = cut x y a b (omega arith) r in
    let p0 = p.0 in
    (cc, p.1)

-- A label is told by its two bytes.
pub same_label : (l m : ℕ) → l / 256 ≡ m / 256 → l % 256 ≡ m % 256 → l ≡ m
same_label l m hi lo = sym (div-add-mod' l 256) ∙ ap (λ k. k * 256 + l % 256) hi ∙ ap (λ k. m / 256 * 256 + k) lo ∙ div-add-mod' m 256

-- What follows a forest: nothing, or a closing.
abbrev Ends : List ℕ → Type 0
Ends [] = Unit {0}
Ends (x ∷ s) = x ≡ 2

same : (f g : Forest) (s t : List ℕ) → Ends s → Ends t → bytes_of f ++ s ≡ bytes_of g ++ t → (f ≡ g) × (s ≡ t)
same nil nil s t p q e = (refl, e)
same nil (text x g) s t p q e = let z : ◌≡◌ {A = ℕ} 3 2 = subst Ends e p in absurd (omega arith)
same nil (node l h g) s t p q e = let z : ◌≡◌ {A = ℕ} 1 2 = subst Ends e p in absurd (omega arith)
same (text x f) nil s t p q e = let z : ◌≡◌ {A = ℕ} 3 2 = subst Ends (sym e) q in absurd (omega arith)
same (node l h f) nil s t p q e = let z : ◌≡◌ {A = ℕ} 1 2 = subst Ends (sym e) q in absurd (omega arith)
same (text x f) (node l h g) s t p q e = let z : ◌≡◌ {A = ℕ} 3 1 = cc in absurd (omega arith)
same (node l h f) (text x g) s t p q e = let z : ◌≡◌ {A = ℕ} 1 3 = cc in absurd (omega arith)
same (text x f) (text y g) s t p q e =
    let n : length x ≡ length y = cc in
    let r : (x ++ bytes_of f) ++ s ≡ (y ++ bytes_of g) ++ t = cc in
    let r' : x ++ (bytes_of f ++ s) ≡ y ++ (bytes_of g ++ t) = sym (append_assoc x (bytes_of f) s) ∙ r ∙ append_assoc y (bytes_of g) t in
    let k = cut x y (bytes_of f ++ s) (bytes_of g ++ t) n r' in
    let u = same f g s t p q k.1 in
    let k0 = k.0 in
    let u0 = u.0 in
    (cc, u.1)
same (node l h f) (node m i g) s t p q e =
    let hi : l / 256 ≡ m / 256 = cc in
    let lo : l % 256 ≡ m % 256 = cc in
    let lm : l ≡ m = same_label l m hi lo in
    let r : (bytes_of h ++ (2 ∷ bytes_of f)) ++ s ≡ (bytes_of i ++ (2 ∷ bytes_of g)) ++ t = cc in
    let r' : bytes_of h ++ (2 ∷ (bytes_of f ++ s)) ≡ bytes_of i ++ (2 ∷ (bytes_of g ++ t)) = sym (append_assoc (bytes_of h) (2 ∷ bytes_of f) s) ∙ r ∙ append_assoc (bytes_of i) (2 ∷ bytes_of g) t in
    let k = same h i (2 ∷ (bytes_of f ++ s)) (2 ∷ (bytes_of g ++ t)) refl refl r' in
    let k0 = k.0 in
    let k1 = k.1 in
    let v : bytes_of f ++ s ≡ bytes_of g ++ t = cc in
    let u = same f g s t p q v in
    let u0 = u.0 in
    (cc, u.1)

pub one_form : OneForm
one_form f g e = (same f g [] [] tt tt (append-nil (bytes_of f) ∙ e ∙ sym (append-nil (bytes_of g)))).0
