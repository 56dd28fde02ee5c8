-- The bytes of a sheet body: rows of four bytes, and what each row says.
use Rattle.std.specs.Prelude.{◌≡◌, ℕ, ◌+◌, ◌*◌, ◌%◌, ◌<◌, ◌≤◌, List, [], ◌∷◌, length}
use Rattle.forest.specs.Forest.{Label}
use Rattle.rows.specs.Sheet.{Sheet, Row, empty, one_text, named, any, seq, alt, many, def}
pub use Rattle.rows.specs.declared.raw.RawRow.{RawRow}

-- A body has 1 to 128 rows of four bytes.
abbrev pub Body : List ℕ → Type 0
Body b = (0 < length b) × (length b ≤ 512) × (length b % 4 ≡ 0)

-- Rows as they are written, one after another.
abbrev pub laid : List RawRow → List ℕ
laid [] = []
laid (r ∷ rs) = r.kind ∷ (r.first ∷ (r.second ∷ (r.third ∷ laid rs)))

-- What the four bytes of a row say, the kind first.
pub data Says : (kind first second third : ℕ) → Row → Type 0 where
  says_empty : Says 0 0 0 0 empty
  says_text : Says 1 0 0 0 one_text
  says_named : {h l d : ℕ} → Label (256 * h + l) → Says 2 h l d (named (256 * h + l) d)
  says_any : {d : ℕ} → Says 3 0 0 d (any d)
  says_seq : {a b : ℕ} → Says 4 a b 0 (seq a b)
  says_alt : {a b : ℕ} → Says 5 a b 0 (alt a b)
  says_many : {a : ℕ} → Says 6 a 0 0 (many a)
  says_def : {a : ℕ} → Says 7 a 0 0 (def a)

abbrev pub RowSays : RawRow → Row → Type 0
RowSays r x = Says r.kind r.first r.second r.third x

-- The raw rows say the rows of the sheet, one for one.
pub data AllSay : List RawRow → Sheet → Type 0 where
  none_say : AllSay [] []
  one_says : {r : RawRow} {x : Row} {rs : List RawRow} {s : Sheet} → RowSays r x → AllSay rs s → AllSay (r ∷ rs) (x ∷ s)
