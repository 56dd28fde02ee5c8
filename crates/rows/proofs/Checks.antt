-- The steps of checking: what each loop keeps.
use Rattle.forest.specs.Refusals.{number_of}
use Rattle.std.proofs.Common.{◌≡◌, ℕ, suc, ◌+◌, ◌*◌, ◌%◌, ◌^◌, ◌<◌, ◌≤◌, ◌⊎◌, List, [], ◌∷◌, ◌++◌, length, get_or, take, set, sym, refl, ap, ◌∙◌, subst, inl, inr, pow-suc, add-one, arith}
use mathlib.Core.Option.{Option, none, some}
use lib.Bits.{bit_or, or_shifted_r}
use lib.Count.{ones, ones_cat, ones_step}
use Rattle.std.proofs.lemmas.Nat.{one_shl}
use Rattle.std.specs.Prelude.{true, false}
use Rattle.std.proofs.lemmas.List.Sums.{count_by_more_yes, count_by_more_no}
use Rattle.std.proofs.lemmas.List.{take_more, take_more_set, length-take-le}
use Rattle.forest.specs.declared.fault.Fault.{Fault}
use Rattle.rows.specs.Sheet.{Sheet, Row, empty, one_text, named, any, seq, alt, many, def, at, definitions, Names, by_named, by_any, Place, places}
use Rattle.rows.specs.Raw.{RawRow, AllSay, none_say}
use Rattle.rows.specs.Kinds.{is_place_row}
use Rattle.rows.specs.Parts.{Taken, NotTaken}
use Rattle.rows.specs.Checking.{PartsFit, GoodFront, Due, says_nothing, parts_astray, ContentThere}
use Rattle.rows.proofs.Fronts.{part_below, fits_push, misfit, say_push, say_last}
use Rattle.rows.proofs.Numbers.{at_get_or, at_below, one_is_place, places_count_by}

-- Rows taken in one by one.
pub front_none : (raws : List RawRow) → GoodFront raws 0 []
front_none raws = record { say = none_say; fit = λ e k a z. let h = part_below z in absurd (omega arith) }

pub front_more : (raws : List RawRow) (rows : Sheet) (i : ℕ) (d : RawRow) (x : Row) → i < length raws → i < length rows
    → GoodFront raws i (take i rows) → Taken (get_or raws i d) (take i rows) x
    → GoodFront raws (i + 1) (take (i + 1) (set rows i x))
front_more raws rows i d x h l g t =
    let q = take_more raws i d h in
    let r = take_more_set rows i x l in
    record {
      say = subst (λ (s : Sheet). AllSay (take (i + 1) raws) s) (sym r)
          (subst (λ (w : List RawRow). AllSay w (take i rows ++ x ∷ [])) (sym q) (say_push g.say t.says));
      fit = subst (λ (s : Sheet). (e : ℕ) → PartsFit s e) (sym r) (fits_push (take i rows) x g.fit t.sit);
    }

pub front_ends : (raws : List RawRow) (rows : Sheet) (i : ℕ) (d : RawRow) (f : Fault) → i < length raws → i ≤ length rows
    → GoodFront raws i (take i rows) → NotTaken (get_or raws i d) (take i rows) f → Due raws (number_of f.refusal) f.place
front_ends raws rows i d f h l g n =
    let q : take (suc i) raws ≡ take i raws ++ get_or raws i d ∷ [] = ap (λ (j : ℕ). take j raws) (sym (add-one i)) ∙ take_more raws i d h in
    let p : f.place ≡ i = n.here ∙ length-take-le i rows l in
    elim n.why [
      | inl w ↦
          rw (w.0, p) (says_nothing h g (λ s' a.
          let z = say_last (take i raws) (get_or raws i d) s' (subst (λ (v : List RawRow). AllSay v s') q a) in w.1 z.0 z.1))
      | inr w ↦
          rw (w.0, p) (parts_astray h g
          (subst (λ (v : List RawRow). AllSay v (take i rows ++ w.1.0 ∷ [])) (sym q) (say_push g.say w.1.1))
          (λ z. misfit (take i rows) w.1.0 w.1.2
          (subst (λ (j : ℕ). PartsFit (take i rows ++ w.1.0 ∷ []) j) (sym (length-take-le i rows l)) z)))
    ]

-- Names of definitions, by the row.
abbrev pub NamesRow : ℕ → Option Row → Type 0
NamesRow d none = ⊥
NamesRow d (some empty) = ⊥
NamesRow d (some one_text) = ⊥
NamesRow d (some (named l c)) = d ≡ c
NamesRow d (some (any c)) = d ≡ c
NamesRow d (some (seq a b)) = ⊥
NamesRow d (some (alt a b)) = ⊥
NamesRow d (some (many a)) = ⊥
NamesRow d (some (def a)) = ⊥

pub names_row : {s : Sheet} {p d : ℕ} → Names s p d → NamesRow d (at s p)
names_row (by_named i) = rw i refl
names_row (by_any i) = rw i refl

pub names_below : {s : Sheet} {p d : ℕ} → Names s p d → p < length s
names_below {s} {p} (by_named {l = l} {d = d} i) = at_below s p (named l d) i
names_below {s} {p} (by_any {d = d} i) = at_below s p (any d) i

abbrev pub NamesOne : Row → ℕ → Type 0
NamesOne r d = ((l : ℕ) × (r ≡ named l d)) ⊎ (r ≡ any d)

pub content_missing : (s : Sheet) (p : ℕ) (r : Row) (d : ℕ) → at s p ≡ some r → NamesOne r d → definitions s ≤ d → ContentThere s p → ⊥
content_missing s p r d i (inl z) h f = let q = f d (by_named (i ∙ ap some z.1)) in omega arith
content_missing s p r d i (inr z) h f = let q = f d (by_any (i ∙ ap some z)) in omega arith

pub content_held : (s : Sheet) (p : ℕ) (r : Row) → at s p ≡ some r → ((d : ℕ) → NamesOne r d → d < definitions s) → ContentThere s p
content_held s p r i f d (by_named {l = l} j) = f d (inl (l, cc))
content_held s p r i f d (by_any j) = f d (inr cc)

-- Counting places by ones.
pub place_of : (s : Sheet) (e : ℕ) (d : Row) → e < length s → is_place_row (get_or s e d) ≡ true → Place s e
place_of s e d h y = one_is_place s e (get_or s e d) (at_get_or s e d h) y

pub place_more : (s : Sheet) (e : ℕ) (d : Row) → e < length s → is_place_row (get_or s e d) ≡ true
    → places (take (e + 1) s) ≡ places (take e s) + 1
place_more s e d h y =
    omega (arith, places_count_by (take (e + 1) s), places_count_by (take e s), count_by_more_yes is_place_row s e d h y)

pub place_same : (s : Sheet) (e : ℕ) (d : Row) → e < length s → is_place_row (get_or s e d) ≡ false
    → places (take (e + 1) s) ≡ places (take e s)
place_same s e d h y =
    omega (arith, places_count_by (take (e + 1) s), places_count_by (take e s), count_by_more_no is_place_row s e d h y)

-- The rows below e that are places, as a set of rows.
pub record PlaceSet (s : Sheet) (e m : ℕ) : Type 0 where
  pub bound : m < 2 ^ e
  pub many : ones m ≡ places (take e s)

one_none : ones 0 ≡ 0
unfolding ones
one_none = refl

pub set_more : (s : Sheet) (e m : ℕ) (d : Row) → e < 128 → e < length s → is_place_row (get_or s e d) ≡ true
    → PlaceSet s e m → PlaceSet s (e + 1) (bit_or m ((1 * 2 ^ e) % 2 ^ 128))
set_more s e m d w h y p =
    let b = p.bound in
    let q : bit_or m ((1 * 2 ^ e) % 2 ^ 128) ≡ 1 * 2 ^ e + m =
    ap (λ (n : ℕ). bit_or m n) (one_shl e 128 w ∙ omega arith) ∙ or_shifted_r 1 e m b in
    let u : ones 1 ≡ 1 = ones_step 1 ∙ ap (λ (n : ℕ). 1 + n) one_none in
    record {
      bound = rw q (omega (arith, pow-suc 2 e, ap (λ (j : ℕ). 2 ^ j) (add-one e)));
      many =
          ap ones q ∙ ones_cat e 1 m b
          ∙ omega (arith, u, p.many, place_more s e d h y);
    }

pub set_same_more : (s : Sheet) (e m : ℕ) (d : Row) → e < length s → is_place_row (get_or s e d) ≡ false
    → PlaceSet s e m → PlaceSet s (e + 1) m
set_same_more s e m d h y p =
    let b = p.bound in
    record {
      bound = omega (arith, pow-suc 2 e, ap (λ (j : ℕ). 2 ^ j) (add-one e));
      many = p.many ∙ sym (place_same s e d h y);
    }
