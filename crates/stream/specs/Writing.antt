-- What the private functions that write text promise each other. No public contract speaks of it.
use Rattle.std.specs.Prelude.{◌≡◌, ℕ, ◌+◌, ◌≤◌, List, ◌++◌, length, take}
use Rattle.stream.specs.declared.buffer.LineBuffer.{LineBuffer}

-- The text at the front of the buffer.
abbrev pub text_of : LineBuffer → List ℕ
text_of b = take b.count b.line

-- Besides its text, so many more bytes fit.
abbrev pub HasRoom : LineBuffer → ℕ → Type 0
HasRoom b n = b.count + n ≤ 8320

-- The first buffer has become the second by adding the bytes to its text.
pub record Adds (v : LineBuffer) (s : List ℕ) (w : LineBuffer) : Type 0 where
  pub counts : w.count ≡ v.count + length s
  pub text : text_of w ≡ text_of v ++ s
