-- Places and definitions are numbered in row order: each number once, none left out.
use Rattle.std.proofs.Common.{◌≡◌, ℕ, zero, suc, ◌+◌, ◌<◌, ◌≤◌, [], ◌∷◌, length, get_or, take, sym, refl, ap, ◌∙◌, le_of_suc-le-suc, not-suc-le-zero, arith}
use Rattle.std.specs.Prelude.{Bool, true, false, cond, count_by}
use Rattle.std.proofs.lemmas.Bool.{false≢true}
use Rattle.std.proofs.Math.Seq.{take-length}
use Rattle.std.proofs.lemmas.List.{take-take}
use Rattle.std.proofs.lemmas.List.Recursion.{is_count_by}
use Rattle.std.proofs.lemmas.List.Sums.{sum_by-cons, sum_by-take-le, count_by_more_yes, count_by_more_no}
use mathlib.Core.Option.{some}
use Rattle.rows.specs.Sheet.{Sheet, Row, empty, one_text, named, any, seq, alt, many, def, at, definitions, Defines, Leaf, leaf_text, leaf_named, leaf_any}
use Rattle.rows.specs.Kinds.{is_definition_row, is_place_row}
use Rattle.rows.specs.Sheet.{Place, a_definition, a_leaf, places, Numbered}

pub at_get_or : (s : Sheet) (i : ℕ) (d : Row) → i < length s → at s i ≡ some (get_or s i d)
at_get_or [] i d h = absurd (not-suc-le-zero h)
at_get_or (r ∷ s) zero d h = refl
at_get_or (r ∷ s) (suc i) d h = at_get_or s i d (le_of_suc-le-suc h)

pub at_below : (s : Sheet) (e : ℕ) (r : Row) → at s e ≡ some r → e < length s
at_below [] e r i = cc
at_below (x ∷ s) zero r i = omega arith
at_below (x ∷ s) (suc e) r i = let h = at_below s e r i in omega arith

-- How many rows pass a test, below a row that does.
pub count_below : (p : Row → Bool) (s : Sheet) (e e' : ℕ) (r : Row) → at s e ≡ some r → p r ≡ true → e < e'
    → count_by p (take e s) < count_by p (take e' s)
count_below p s e e' r i h l =
    let b = at_below s e r i in
    let q : get_or s e r ≡ r = let a = at_get_or s e r b in cc in
    let m = count_by_more_yes p s e r b (ap p q ∙ h) in
    let t = sum_by-take-le (λ x. cond (p x) 1 0) (take e' s) (e + 1) in
    let u = ap (λ (w : Sheet). count_by p w) (take-take (e + 1) e' s (omega arith)) in
    omega arith

pub count_within : (p : Row → Bool) (s : Sheet) (e : ℕ) (r : Row) → at s e ≡ some r → p r ≡ true → count_by p (take e s) < count_by p s
count_within p s e r i h =
    let b = at_below s e r i in
    let u = ap (λ (w : Sheet). count_by p w) (take-length s) in
    let c = count_below p s e (length s) r i h b in
    omega arith

pub count_once : (p : Row → Bool) (s : Sheet) (e e' : ℕ) (r r' : Row) → at s e ≡ some r → p r ≡ true → at s e' ≡ some r' → p r' ≡ true
    → count_by p (take e s) ≡ count_by p (take e' s) → e ≡ e'
count_once p s e e' r r' i h i' h' q =
    let n : ¬ (e < e') = λ l. let c = count_below p s e e' r i h l in omega arith in
    let n' : ¬ (e' < e) = λ l. let c = count_below p s e' e r' i' h' l in omega arith in
    omega arith

pub record Counted (p : Row → Bool) (s : Sheet) (i : ℕ) : Type 0 where
  pub row : ℕ
  pub is : Row
  pub stands : at s row ≡ some is
  pub passes : p is ≡ true
  pub number : count_by p (take row s) ≡ i

pub count_all : (p : Row → Bool) (s : Sheet) (i : ℕ) → i < count_by p s → Counted p s i
count_all p [] i h = absurd (omega arith)
count_all p (r ∷ s) i h =
    let m = sum_by-cons (λ x. cond (p x) 1 0) r s in
    go (λ j l. count_all p s j l) (p r) refl i (omega arith)
  where
    later : (b : Bool) → p r ≡ b → (i j : ℕ) → cond b 1 0 + j ≡ i → Counted p s j → Counted p (r ∷ s) i
    later b e i j z c =
        let q = c.number in
        let m = sum_by-cons (λ x. cond (p x) 1 0) r (take c.row s) in
        let k = ap (λ (d : Bool). ◌+◌ (cond d 1 0) 0) e in
        record { row = suc c.row; is = c.is; stands = c.stands; passes = c.passes; number = omega arith }

    go : ((j : ℕ) → j < count_by p s → Counted p s j) → (b : Bool) → p r ≡ b → (i : ℕ) → i < cond b 1 0 + count_by p s → Counted p (r ∷ s) i
    go ih false e i h = later false e i i (omega arith) (ih i (omega arith))
    go ih true e zero h = record { row = 0; is = r; stands = refl; passes = e; number = refl }
    go ih true e (suc i) h = later true e (suc i) i (omega arith) (ih i (omega arith))

-- Places.
pub places_count_by : (s : Sheet) → places s ≡ count_by is_place_row s
places_count_by s = is_count_by places is_place_row refl more s
  where
    more : (r : Row) (s : Sheet) → places (r ∷ s) ≡ cond (is_place_row r) (1 + places s) (places s)
    more empty s = refl
    more one_text s = omega arith
    more (named l d) s = omega arith
    more (any d) s = omega arith
    more (seq a b) s = refl
    more (alt a b) s = refl
    more (many a) s = refl
    more (def a) s = omega arith

pub place_one : {s : Sheet} {e : ℕ} → Place s e → (r : Row) × (at s e ≡ some r) × (is_place_row r ≡ true)
place_one (a_definition {x = x} i) = (def x, i, refl)
place_one (a_leaf (leaf_text i)) = (one_text, i, refl)
place_one (a_leaf (leaf_named {l = l} {d = d} i)) = (named l d, i, refl)
place_one (a_leaf (leaf_any {d = d} i)) = (any d, i, refl)

pub one_is_place : (s : Sheet) (e : ℕ) (r : Row) → at s e ≡ some r → is_place_row r ≡ true → Place s e
one_is_place s e empty i h = absurd (false≢true h)
one_is_place s e one_text i h = a_leaf (leaf_text i)
one_is_place s e (named l d) i h = a_leaf (leaf_named i)
one_is_place s e (any d) i h = a_leaf (leaf_any i)
one_is_place s e (seq a b) i h = absurd (false≢true h)
one_is_place s e (alt a b) i h = absurd (false≢true h)
one_is_place s e (many a) i h = absurd (false≢true h)
one_is_place s e (def a) i h = a_definition i

pub numbered_once : {s : Sheet} {i e e' : ℕ} → Numbered s i e → Numbered s i e' → e ≡ e'
numbered_once {s} {i} {e} {e'} n n' =
    let p = place_one n.is in
    let p' = place_one n'.is in
    count_once is_place_row s e e' p.0 p'.0 p.1 p.2 p'.1 p'.2
    (sym (places_count_by (take e s)) ∙ n.number ∙ sym n'.number ∙ places_count_by (take e' s))

pub numbered_within : {s : Sheet} {i e : ℕ} → Numbered s i e → i < places s
numbered_within {s} {i} {e} n =
    let p = place_one n.is in
    let c = count_within is_place_row s e p.0 p.1 p.2 in
    omega (arith, places_count_by s, places_count_by (take e s), n.number)

pub numbered_all : (s : Sheet) (i : ℕ) → i < places s → (e : ℕ) × Numbered s i e
numbered_all s i h =
    let c = count_all is_place_row s i (omega (arith, places_count_by s)) in
    (c.row, record { is = one_is_place s c.row c.is c.stands c.passes; number = places_count_by (take c.row s) ∙ c.number })

pub numbered_leaf : {s : Sheet} {p : ℕ} → Leaf s p → Numbered s (places (take p s)) p
numbered_leaf l = record { is = a_leaf l; number = refl }

-- Definitions.
pub definitions_count_by : (s : Sheet) → definitions s ≡ count_by is_definition_row s
definitions_count_by s = is_count_by definitions is_definition_row refl more s
  where
    more : (r : Row) (s : Sheet) → definitions (r ∷ s) ≡ cond (is_definition_row r) (1 + definitions s) (definitions s)
    more empty s = refl
    more one_text s = refl
    more (named l d) s = refl
    more (any d) s = refl
    more (seq a b) s = refl
    more (alt a b) s = refl
    more (many a) s = refl
    more (def a) s = omega arith

pub definition_row : (r : Row) → is_definition_row r ≡ true → (x : ℕ) × (r ≡ def x)
definition_row empty h = absurd (false≢true h)
definition_row one_text h = absurd (false≢true h)
definition_row (named l d) h = absurd (false≢true h)
definition_row (any d) h = absurd (false≢true h)
definition_row (seq a b) h = absurd (false≢true h)
definition_row (alt a b) h = absurd (false≢true h)
definition_row (many a) h = absurd (false≢true h)
definition_row (def a) h = (a, refl)

pub not_definition : (s : Sheet) (a : ℕ) (r : Row) → at s a ≡ some r → is_definition_row r ≡ false → (x : ℕ) → at s a ≡ some (def x) → ⊥
not_definition s a r i n x j =
    let q : r ≡ def x = cc in false≢true (sym n ∙ ap is_definition_row q)

pub defines_once : {s : Sheet} {d e e' x x' : ℕ} → Defines s d e x → Defines s d e' x' → e ≡ e'
defines_once {s} {d} {e} {e'} {x} {x'} n n' =
    count_once is_definition_row s e e' (def x) (def x') n.is refl n'.is refl
    (sym (definitions_count_by (take e s)) ∙ n.number ∙ sym n'.number ∙ definitions_count_by (take e' s))

pub defines_within : {s : Sheet} {d e x : ℕ} → Defines s d e x → d < definitions s
defines_within {s} {d} {e} {x} n =
    let c = count_within is_definition_row s e (def x) n.is refl in
    omega (arith, definitions_count_by s, definitions_count_by (take e s), n.number)

pub defines_all : (s : Sheet) (d : ℕ) → d < definitions s → (e x : ℕ) × Defines s d e x
defines_all s d h =
    let c = count_all is_definition_row s d (omega (arith, definitions_count_by s)) in
    let y = definition_row c.is c.passes in
    (c.row, y.0, record { is = c.stands ∙ ap some y.1; number = definitions_count_by (take c.row s) ∙ c.number })

pub definition_more : (s : Sheet) (e : ℕ) (d : Row) → e < length s → is_definition_row (get_or s e d) ≡ true
    → definitions (take (e + 1) s) ≡ definitions (take e s) + 1
definition_more s e d h y =
    omega (arith, definitions_count_by (take (e + 1) s), definitions_count_by (take e s), count_by_more_yes is_definition_row s e d h y)

pub definition_same : (s : Sheet) (e : ℕ) (d : Row) → e < length s → is_definition_row (get_or s e d) ≡ false
    → definitions (take (e + 1) s) ≡ definitions (take e s)
definition_same s e d h y =
    omega (arith, definitions_count_by (take (e + 1) s), definitions_count_by (take e s), count_by_more_no is_definition_row s e d h y)

pub fewer_definitions : (s : Sheet) → definitions s ≤ places s
fewer_definitions [] = omega arith
fewer_definitions (empty ∷ s) = fewer_definitions s
fewer_definitions (one_text ∷ s) = let ih = fewer_definitions s in omega arith
fewer_definitions (named l d ∷ s) = let ih = fewer_definitions s in omega arith
fewer_definitions (any d ∷ s) = let ih = fewer_definitions s in omega arith
fewer_definitions (seq a b ∷ s) = fewer_definitions s
fewer_definitions (alt a b ∷ s) = fewer_definitions s
fewer_definitions (many a ∷ s) = fewer_definitions s
fewer_definitions (def a ∷ s) = let ih = fewer_definitions s in omega arith

pub place_below : {s : Sheet} {e : ℕ} → Place s e → e < length s
place_below {s} {e} p = let z = place_one p in at_below s e z.0 z.1
