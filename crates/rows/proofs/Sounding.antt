-- Sheets that pass every check are sound.
use Rattle.std.proofs.Common.{◌≡◌, ℕ, zero, suc, ◌+◌, ◌-◌, ◌*◌, ◌<◌, ◌≤◌, ◌⊎◌, List, length, take, sym, refl, ◌∙◌, inl, inr, arith}
use mathlib.Core.Option.{some}
use Rattle.forest.specs.Forest.{Label}
use Rattle.rows.specs.Sheet.{Sheet, Row, named, def, at, definitions, Part, Side, places, Sound, Defines}
use Rattle.rows.specs.Raw.{RawRow, Says, says_empty, says_text, says_named, says_any, says_seq, says_alt, says_many, says_def, AllSay, none_say, one_says}
use Rattle.rows.specs.Steps.{WellFormed}
use Rattle.rows.specs.Checking.{PartsFit, OnceAPart, is_definition, is_part, ContentThere, GoodRows}
use Rattle.rows.specs.Whole.{Whole}
use Rattle.rows.proofs.Fronts.{part_below, say_length}
use Rattle.rows.proofs.Numbers.{defines_within}

-- The label that a row says is one.
said_label : {k a b c : ℕ} {x : Row} (l d : ℕ) → Says k a b c x → x ≡ named l d → Label l
said_label l d (says_named {h = h} {l = m} u) q = let p : 256 * h + m ≡ l = same q in rw p at u
  where
    same : {a b c d : ℕ} → named a b ≡ named c d → a ≡ c
    same h = cc
said_label l d says_empty q = cc
said_label l d says_text q = cc
said_label l d says_any q = cc
said_label l d says_seq q = cc
said_label l d says_alt q = cc
said_label l d says_many q = cc
said_label l d says_def q = cc

pub said_labels : {rs : List RawRow} {s : Sheet} → AllSay rs s → (e l d : ℕ) → at s e ≡ some (named l d) → Label l
said_labels none_say e l d i = cc
said_labels (one_says {x = x} y u) zero l d i = let q : x ≡ named l d = cc in said_label l d y q
said_labels (one_says y u) (suc e) l d i = said_labels u e l d i

one_place_only : (s : Sheet) → ((e : ℕ) → PartsFit s e) → ((a : ℕ) → a < length s → OnceAPart s a)
    → (e e' a : ℕ) (k k' : Side) → Part s e k a → Part s e' k' a → (e ≡ e') × (k ≡ k')
one_place_only s f o e e' a k k' x y =
    let h = (f e k a x).0 in let l = part_below x in go (o a (omega arith)) (f e k a x).1 x y
  where
    go : {a : ℕ} → OnceAPart s a → ((z : ℕ) → at s a ≡ some (def z) → ⊥) → Part s e k a → Part s e' k' a → (e ≡ e') × (k ≡ k')
    go (is_definition {x = z} i) n x y = absurd (n z i)
    go (is_part p u) n x y = let v = u e k x in let w = u e' k' y in (v.0 ∙ sym w.0, v.1 ∙ sym w.1)

somewhere : {s : Sheet} {a : ℕ} → OnceAPart s a → ((x : ℕ) × (at s a ≡ some (def x))) ⊎ ((e : ℕ) × (k : Side) × Part s e k a)
somewhere (is_definition {x = x} i) = inl (x, i)
somewhere (is_part {e = e} {k = k} p u) = inr (e, k, p)

pub sound_from : (s : Sheet) → 0 < length s → length s ≤ 128 → ((e l d : ℕ) → at s e ≡ some (named l d) → Label l)
    → ((e : ℕ) → PartsFit s e) → ((a : ℕ) → a < length s → OnceAPart s a) → ((p : ℕ) → ContentThere s p) → places s ≤ 64 → Sound s
sound_from s h l b f o c m =
    record {
      filled = h;
      short = l;
      labelled = b;
      lower = λ {e} {a} {k} x. (f e k a x).0;
      plain = λ {e} {a} {x} {k} p i. (f e k a p).1 x i;
      once = λ {e} {e'} {a} {k} {k'} x y. one_place_only s f o e e' a k k' x y;
      used = λ a g. somewhere (o a g);
      there = λ {p} {d} n. c p d n;
      few = m;
    }

pub well_formed : {s : Sheet} → Sound s → WellFormed s
well_formed w = record { lower = w.lower; plain = w.plain; once = w.once }

-- The last row is no part, so a sound sheet has a definition.
pub has_definition : (s : Sheet) → 0 < length s → ((e : ℕ) → PartsFit s e) → ((a : ℕ) → a < length s → OnceAPart s a) → 0 < definitions s
has_definition s h f o = go (o (length s - 1) (omega arith)) refl
  where
    go : {a : ℕ} → OnceAPart s a → a ≡ length s - 1 → 0 < definitions s
    go {a} (is_definition {x = x} i) q =
        let d : Defines s (definitions (take a s)) a x = record { is = i; number = refl } in
        let w = defines_within d in omega arith
    go {a} (is_part {e = e} {k = k} p u) q = let b = (f e k a p).0 in let l = part_below p in absurd (omega arith)

pub sound_fits : {s : Sheet} → Sound s → (e : ℕ) → PartsFit s e
sound_fits w e k a x = (w.lower x, λ y i. w.plain x i)

pub sound_once : {s : Sheet} → Sound s → (a : ℕ) → a < length s → OnceAPart s a
sound_once w a h = elim (w.used a h) [ inl z ↦ is_definition z.1 | inr z ↦ is_part z.2 (λ e' k' y. w.once y z.2) ]

pub made_sound : (raws : List RawRow) (s : Sheet) (ns : List ℕ) → 0 < length raws → length raws ≤ 128 → GoodRows raws s → Whole s ns → Sound s
made_sound raws s ns h l g w =
    let q = say_length g.say in
    sound_from s (omega arith) (omega arith) (said_labels g.say) g.fit w.once w.there w.few
