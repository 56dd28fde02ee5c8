-- Sheets, records and standings from tests that compute.
use Rattle.std.proofs.Common.{◌≡◌, ℕ, suc, ◌+◌, ◌*◌, ◌/◌, ◌%◌, ◌<◌, ◌≤◌, Bool, true, false, ◌&&◌, ◌||◌, T, eqb, ltb, leb, ◌⊎◌, ◌↔◌, List, [], ◌∷◌, length, take, sym, refl, subst, inl, inr, arith, ltb→lt, leb→le}
use Rattle.std.proofs.Math.Option.{some}
use Rattle.forest.specs.Forest.{Forest, nil, text, node, Label, Bytes, Proper, Record, bytes_of, depth}
use Rattle.forest.specs.Reading.{StandsFor}
use Rattle.rows.specs.declared.row.Row.{Row}
use Rattle.rows.specs.declared.row.Row.TheVariants.{Empty as empty, Text as one_text, Named as named, Any as any, Seq as seq, Alt as alt, Many as many, Def as def}
use Rattle.rows.specs.Sheet.{Sheet, at, definitions, Sound}
use Rattle.rows.specs.declared.raw.RawRow.{RawRow}
use Rattle.rows.specs.Raw.{Body, laid, Says, says_empty, says_text, says_named, says_any, says_seq, says_alt, says_many, says_def, RowSays, AllSay, none_say, one_says}
use Rattle.sheet.specs.Meaning.{Stands}
use Rattle.rows.proofs.Sounding.{well_formed}
use Rattle.rows.proofs.Numbers.{place_below}
use Rattle.sheet.proofs.Stepping.{stands_place}
use Rattle.worked.specs.Examples.{IsSheet, Belongs, StaysOut, Among, StandsExactly}
use Rattle.worked.proofs.Sounds.{both, all_below, all_at, sound?, is_sound}
use Rattle.worked.proofs.Evaluate.{same_number, stands?, stands_iff, in_sheet, out_of_sheet}

pub true_is : (b : Bool) → b ≡ true → T b
true_is b q = subst (λ (c : Bool). T c) (sym q) tt

-- The bytes of a row.
abbrev pub raw_of : Row → RawRow
raw_of empty = record { kind = 0; first = 0; second = 0; third = 0 }
raw_of one_text = record { kind = 1; first = 0; second = 0; third = 0 }
raw_of (named l d) = record { kind = 2; first = l / 256; second = l % 256; third = d }
raw_of (any d) = record { kind = 3; first = 0; second = 0; third = d }
raw_of (seq a b) = record { kind = 4; first = a; second = b; third = 0 }
raw_of (alt a b) = record { kind = 5; first = a; second = b; third = 0 }
raw_of (many a) = record { kind = 6; first = a; second = 0; third = 0 }
raw_of (def a) = record { kind = 7; first = a; second = 0; third = 0 }

abbrev pub raws_of : Sheet → List RawRow
raws_of [] = []
raws_of (x ∷ s) = raw_of x ∷ raws_of s

abbrev pub Labelled : Row → Type 0
Labelled empty = Unit {0}
Labelled one_text = Unit {0}
Labelled (named l d) = Label l
Labelled (any d) = Unit {0}
Labelled (seq a b) = Unit {0}
Labelled (alt a b) = Unit {0}
Labelled (many a) = Unit {0}
Labelled (def a) = Unit {0}

pub row_says : (x : Row) → Labelled x → RowSays (raw_of x) x
row_says empty h = says_empty
row_says one_text h = says_text
row_says (named l d) h =
    let e : 256 * (l / 256) + l % 256 ≡ l = omega arith in
    subst (λ (n : ℕ). Says 2 (l / 256) (l % 256) d (named n d)) e (says_named (omega (arith, h.0), omega (arith, h.1)))
row_says (any d) h = says_any
row_says (seq a b) h = says_seq
row_says (alt a b) h = says_alt
row_says (many a) h = says_many
row_says (def a) h = says_def

row_labelled : (s : Sheet) (x : Row) → ((e l d : ℕ) → at (x ∷ s) e ≡ some (named l d) → Label l) → Labelled x
row_labelled s empty h = tt
row_labelled s one_text h = tt
row_labelled s (named l d) h = h 0 l d refl
row_labelled s (any d) h = tt
row_labelled s (seq a b) h = tt
row_labelled s (alt a b) h = tt
row_labelled s (many a) h = tt
row_labelled s (def a) h = tt

pub all_say : (s : Sheet) → ((e l d : ℕ) → at s e ≡ some (named l d) → Label l) → AllSay (raws_of s) s
all_say [] h = none_say
all_say (x ∷ s) h = one_says (row_says x (row_labelled s x h)) (all_say s (λ e. h (suc e)))

laid_long : (s : Sheet) → length (laid (raws_of s)) ≡ 4 * length s
laid_long [] = refl
laid_long (x ∷ s) = let e = laid_long s in omega arith

pub is_body : (s : Sheet) → 0 < length s → length s ≤ 128 → Body (laid (raws_of s))
is_body s p q = let e = laid_long s in (omega arith, omega arith, omega arith)

pub made_sheet : (s : Sheet) {body : List ℕ} → sound? s ≡ true → laid (raws_of s) ≡ body → IsSheet body s
made_sheet s {body} t e =
    let w = is_sound s t in
    record {
      is_body = subst Body e (is_body s w.filled w.short);
      rows = raws_of s;
      read = e;
      passes = record { say = all_say s w.labelled; sound = w };
    }

-- Records.
abbrev pub bytes? : List ℕ → Bool
bytes? [] = true
bytes? (b ∷ bs) = ltb b 256 && bytes? bs

abbrev proper? : Forest → Bool
proper? nil = true
proper? (text t r) = (bytes? t && ltb (length t) 256) && proper? r
proper? (node l c r) = (ltb 0 l && ltb l 65536) && (proper? c && proper? r)

abbrev pub record? : Forest → Bool
record? f = proper? f && (leb (length (bytes_of f)) 4096 && leb (depth f) 64)

pub are_bytes : (bs : List ℕ) → T (bytes? bs) → Bytes bs
are_bytes [] h = tt
are_bytes (b ∷ bs) h = let z = both (ltb b 256) (bytes? bs) h in (ltb→lt b 256 z.0, are_bytes bs z.1)

is_proper : (f : Forest) → T (proper? f) → Proper f
is_proper nil h = tt
is_proper (text t r) h =
    let z = both (bytes? t && ltb (length t) 256) (proper? r) h in
    let y = both (bytes? t) (ltb (length t) 256) z.0 in
    ((are_bytes t y.0, ltb→lt (length t) 256 y.1), is_proper r z.1)
is_proper (node l c r) h =
    let z = both (ltb 0 l && ltb l 65536) (proper? c && proper? r) h in
    let y = both (ltb 0 l) (ltb l 65536) z.0 in
    let x = both (proper? c) (proper? r) z.1 in
    ((ltb→lt 0 l y.0, ltb→lt l 65536 y.1), is_proper c x.0, is_proper r x.1)

pub made_record : (f : Forest) → record? f ≡ true → Record f
made_record f q =
    let z = both (proper? f) (leb (length (bytes_of f)) 4096 && leb (depth f) 64) (true_is (record? f) q) in
    let y = both (leb (length (bytes_of f)) 4096) (leb (depth f) 64) z.1 in
    record { proper = is_proper f z.0; short = leb→le _ _ y.0; shallow = leb→le _ _ y.1 }

pub stands_for : (f : Forest) {body : List ℕ} → record? f ≡ true → body ≡ bytes_of f → StandsFor body f
stands_for f q e = record { is_record = made_record f q; is_written = e }

-- Belonging, where row e is definition 0.
pub belongs : (s : Sheet) (f : Forest) (e x : ℕ) {sheet body : List ℕ} → sound? s ≡ true → laid (raws_of s) ≡ sheet → record? f ≡ true → body ≡ bytes_of f
    → at s e ≡ some (def x) → definitions (take e s) ≡ 0 → stands? s f e ≡ true → Belongs sheet body
belongs s f e x t l q b r d h =
    let i = made_sheet s t l in
    record { rows = s; is_sheet = i; forest = f; stands_for = stands_for f q b; of_sheet = in_sheet s i.passes.sound e x f (record { is = r; number = d }) h }

pub stays_out : (s : Sheet) (f : Forest) (e x : ℕ) {sheet body : List ℕ} → sound? s ≡ true → laid (raws_of s) ≡ sheet → record? f ≡ true → body ≡ bytes_of f
    → at s e ≡ some (def x) → definitions (take e s) ≡ 0 → stands? s f e ≡ false → StaysOut sheet body
stays_out s f e x t l q b r d h =
    let i = made_sheet s t l in
    record { rows = s; is_sheet = i; forest = f; stands_for = stands_for f q b; not_of_sheet = out_of_sheet s i.passes.sound e x f (record { is = r; number = d }) h }

-- Exact standings.
abbrev among? : ℕ → List ℕ → Bool
among? q [] = false
among? q (r ∷ rs) = eqb q r || among? q rs

abbrev below? : List ℕ → ℕ → Bool
below? [] n = true
below? (r ∷ rs) n = ltb r n && below? rs n

abbrev same? : Bool → Bool → Bool
same? true b = b
same? false true = false
same? false false = true

abbrev pub exactly? : Sheet → Forest → List ℕ → Bool
exactly? s f rows = all_below (length s) (λ q. same? (stands? s f q) (among? q rows)) && below? rows (length s)

are_same : (a b : Bool) → T (same? a b) → (T a → T b) × (T b → T a)
are_same true b h = (λ _. h, λ _. tt)
are_same false true h = absurd h
are_same false false h = (λ z. z, λ z. z)

either_way : (a b : Bool) → T (a || b) → T a ⊎ T b
either_way true b h = inl tt
either_way false b h = inr h

first_way : (a b : Bool) → T a → T (a || b)
first_way true b h = tt
first_way false b h = absurd h

second_way : (a b : Bool) → T b → T (a || b)
second_way true b h = tt
second_way false b h = h

is_among : (q : ℕ) (rows : List ℕ) → T (among? q rows) ↔ Among q rows
is_among q [] = (λ h. h, λ h. h)
is_among q (r ∷ rs) = (
  λ h. elim (either_way (eqb q r) (among? q rs) h) [ inl z ↦ inl ((same_number q r).0 z) | inr z ↦ inr ((is_among q rs).0 z) ],
  λ h. elim h [ inl z ↦ first_way (eqb q r) (among? q rs) ((same_number q r).1 z) | inr z ↦ second_way (eqb q r) (among? q rs) ((is_among q rs).1 z) ],
)

among_below : (q : ℕ) (rows : List ℕ) (n : ℕ) → T (below? rows n) → Among q rows → q < n
among_below q [] n h m = absurd m
among_below q (r ∷ rs) n h (inl z) = rw z (ltb→lt r n (both (ltb r n) (below? rs n) h).0)
among_below q (r ∷ rs) n h (inr z) = among_below q rs n (both (ltb r n) (below? rs n) h).1 z

pub exactly : (s : Sheet) → Sound s → (f : Forest) (rows : List ℕ) → exactly? s f rows ≡ true → (q : ℕ) → Stands s f q ↔ Among q rows
exactly s w f rows h q =
    let z = both (all_below (length s) (λ p. same? (stands? s f p) (among? p rows))) (below? rows (length s)) (true_is (exactly? s f rows) h) in
    let i = stands_iff s (well_formed w) f q in
    let m = is_among q rows in
    let here : q < length s → (T (stands? s f q) → T (among? q rows)) × (T (among? q rows) → T (stands? s f q)) =
    λ l. are_same _ _ (all_at (length s) (λ p. same? (stands? s f p) (among? p rows)) z.0 q l) in
    (λ x. m.0 ((here (place_below (stands_place x))).0 (i.1 x)), λ x. i.0 ((here (among_below q rows (length s) z.1 x)).1 (m.1 x)))

pub stands_exactly : (s : Sheet) (f : Forest) {sheet body rows : List ℕ} → sound? s ≡ true → laid (raws_of s) ≡ sheet → record? f ≡ true → body ≡ bytes_of f
    → exactly? s f rows ≡ true → StandsExactly sheet body rows
stands_exactly s f {rows = rows} t l q b h =
    let i = made_sheet s t l in
    record { the_sheet = s; is_sheet = i; forest = f; stands_for = stands_for f q b; exactly = exactly s i.passes.sound f rows h }
