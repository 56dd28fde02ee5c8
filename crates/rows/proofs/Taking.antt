-- What four bytes say, turned round.
use Rattle.forest.specs.Refusals.{fault}
use Rattle.forest.specs.declared.fault.Refusal.TheVariants.{NoRow, PartNotBelow}
use Rattle.std.proofs.Common.{◌≡◌, ℕ, ◌+◌, ◌*◌, ◌<◌, ◌≤◌, length, sym, refl, ap, ◌∙◌, subst, inl, inr, arith}
use Rattle.std.specs.Prelude.{Bool, true, false, not, T, ◌↔◌, None, Some, Option}
use Rattle.std.specs.Borrow.{Bor}
use Rattle.std.specs.List.{HoldsAt}
use Rattle.std.specs.Option.{MatchOption}
use mathlib.Core.Option.{some}
use Rattle.forest.specs.Forest.{Label}
use Rattle.rows.specs.Sheet.{Sheet, Row, empty, one_text, named, any, seq, alt, many, def, at}
use Rattle.rows.specs.Raw.{RawRow, Says, says_empty, says_text, says_named, says_any, says_seq, says_alt, says_many, says_def, RowSays}
use Rattle.rows.specs.Kinds.{is_definition_row}
use Rattle.rows.specs.Parts.{Sits, PartsSit, NotTaken}
use Rattle.rows.proofs.Numbers.{at_get_or, definition_row, not_definition}

pub same_row : {x y : Row} → some x ≡ some y → x ≡ y
same_row h = cc

-- A row below that is no definition, as it is looked up.
pub sits_is : (s : Sheet) (a : ℕ) (o : Option (Bor Row)) (r : Bool)
    → MatchOption o (length s ≤ a) (λ x. (a < length s) × HoldsAt (λ y. x.now ≡ y) s a)
    → MatchOption o (r ≡ false) (λ x. r ≡ not (is_definition_row x.now)) → T r ↔ Sits s a
sits_is s a None r h e = (λ t. absurd (subst T e t), λ z. let l = z.lower in absurd (omega arith))
sits_is s a (Some x) r h e = go (is_definition_row x.now) refl
  where
    there : at s a ≡ some x.now
    there = at_get_or s a empty h.0 ∙ ap some (sym (h.1 empty))

    go : (b : Bool) → is_definition_row x.now ≡ b → T r ↔ Sits s a
    go true q = (λ t. absurd (subst T (e ∙ ap not q) t), λ z. let d = definition_row x.now q in absurd (z.plain d.0 (there ∙ ap some d.1)))
    go false q = (λ t. record { lower = h.0; plain = not_definition s a x.now there q }, λ z. subst T (sym (e ∙ ap not q)) tt)

-- No row is written with these bytes.
abbrev pub Unsaid : ℕ → ℕ → ℕ → ℕ → Type 0
Unsaid k a b c =
    (k ≡ 0 → a + b + c ≡ 0 → ⊥) × (k ≡ 1 → a + b + c ≡ 0 → ⊥) × (k ≡ 2 → 0 < a + b → ⊥) × (k ≡ 3 → a + b ≡ 0 → ⊥)
    × (k ≡ 4 → c ≡ 0 → ⊥) × (k ≡ 5 → c ≡ 0 → ⊥) × (k ≡ 6 → b + c ≡ 0 → ⊥) × (k ≡ 7 → b + c ≡ 0 → ⊥)

pub unsaid : {k a b c : ℕ} {x : Row} → Says k a b c x → Unsaid k a b c → ⊥
unsaid says_empty u = u.0 refl refl
unsaid says_text u = u.1 refl refl
unsaid (says_named h) u = u.2 refl (omega arith)
unsaid says_any u = u.3 refl refl
unsaid says_seq u = u.4 refl refl
unsaid says_alt u = u.5 refl refl
unsaid says_many u = u.6 refl refl
unsaid says_def u = u.7 refl refl

pub says_none : (raw : RawRow) (below : Sheet) → Unsaid raw.kind raw.first raw.second raw.third
    → NotTaken raw below (fault NoRow (length below))
says_none raw below u = record { here = refl; why = inl (refl, λ x s. unsaid s u) }

-- A part does not sit.
pub astray : (raw : RawRow) (below : Sheet) (x : Row) → RowSays raw x → (PartsSit x below → ⊥)
    → NotTaken raw below (fault PartNotBelow (length below))
astray raw below x s n = record { here = refl; why = inr (refl, (x, s, n)) }

-- What the bytes say, from their equations.
pub as_empty : {k a b c : ℕ} → k ≡ 0 → a ≡ 0 → b ≡ 0 → c ≡ 0 → Says k a b c empty
as_empty p q r t = rw (p, q, r, t) says_empty

pub as_text : {k a b c : ℕ} → k ≡ 1 → a ≡ 0 → b ≡ 0 → c ≡ 0 → Says k a b c one_text
as_text p q r t = rw (p, q, r, t) says_text

pub as_named : {k a b c n : ℕ} → k ≡ 2 → Label (256 * a + b) → n ≡ 256 * a + b → Says k a b c (named n c)
as_named p u q = rw (p, q) (says_named u)

pub as_any : {k a b c : ℕ} → k ≡ 3 → a ≡ 0 → b ≡ 0 → Says k a b c (any c)
as_any p q r = rw (p, q, r) says_any

pub as_seq : {k a b c : ℕ} → k ≡ 4 → c ≡ 0 → Says k a b c (seq a b)
as_seq p q = rw (p, q) says_seq

pub as_alt : {k a b c : ℕ} → k ≡ 5 → c ≡ 0 → Says k a b c (alt a b)
as_alt p q = rw (p, q) says_alt

pub as_many : {k a b c : ℕ} → k ≡ 6 → b ≡ 0 → c ≡ 0 → Says k a b c (many a)
as_many p q r = rw (p, q, r) says_many

pub as_def : {k a b c : ℕ} → k ≡ 7 → b ≡ 0 → c ≡ 0 → Says k a b c (def a)
as_def p q r = rw (p, q, r) says_def
