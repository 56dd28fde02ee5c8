-- Lines: what is told of an entry.
use Rattle.forest.specs.Refusals.{number_of}
use Rattle.std.specs.Prelude.{◌≡◌, ℕ, Bool, true, false, cond, List, [], ◌∷◌, ◌++◌, length, take, codes, decimal, nat_lt}
use Rattle.stream.specs.Written.{padded, hex}
use Rattle.stream.specs.declared.buffer.LineBuffer.{LineBuffer}
use Rattle.stream.specs.declared.line.Line.{Line}
use Rattle.stream.specs.declared.line.Line.TheVariants.{Edition, Record, Refused, Lost}

-- A line is made of words, numbers and bytes.
pub data Field : Type 0 where
  word : (letters : List ℕ) → Field
  number : (n : ℕ) → Field
  bytes : (bytes : List ℕ) → Field

abbrev pub shown : Field → List ℕ
shown (word w) = w
shown (number n) = decimal n
shown (bytes bs) = hex bs

-- The bytes of a lost record, `-` where there are none. More than 4,096 are not shown.
abbrev pub loss : List ℕ → Field
loss [] = word (codes "-")
loss (b ∷ bs) = cond (nat_lt 4096 (length (b ∷ bs))) (word (codes "not shown")) (bytes (b ∷ bs))

-- A lost record is at the front of the show buffer if it is shown.
abbrev pub loss_if : Bool → (size : ℕ) → (show : List ℕ) → Field
loss_if true size show = loss (take size show)
loss_if false size show = word (codes "not shown")

-- What follows the entry's number.
abbrev pub fields : Line → (show : List ℕ) → List Field
fields (Edition k) show = word (codes "edition") ∷ (number k ∷ [])
fields (Record k) show = word (codes "record") ∷ (number k ∷ [])
fields (Refused f) show = word (codes "refused") ∷ (number (number_of f.refusal) ∷ (number f.place ∷ []))
fields (Lost l) show = word (codes "refused") ∷ (number 36 ∷ (number l.cost ∷ (number l.length ∷ (loss_if l.shown l.length show ∷ []))))

-- A space before each field, and 0A at the end.
abbrev pub spaced : List Field → List ℕ
spaced [] = 0x0A ∷ []
spaced (f ∷ fs) = 0x20 ∷ (shown f ++ spaced fs)

-- The line of the entry of this number.
abbrev pub line_text : ℕ → List Field → List ℕ
line_text n fs = decimal n ++ spaced fs

-- The buffer says the fields for the entry of this number: the text at the front of the 8,320 bytes, the rest 0.
pub record Says (buffer : LineBuffer) (number : ℕ) (fs : List Field) : Type 0 where
  pub bytes : buffer.line ≡ padded 8320 (line_text number fs)
  pub text_length : buffer.count ≡ length (line_text number fs)
