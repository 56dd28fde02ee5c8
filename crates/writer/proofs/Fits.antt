-- Which forests fit a show buffer.
use Rattle.std.proofs.Common.{◌≡◌, ℕ, ◌≤◌, ◌<◌, List, length, min, false, refl, arith}
use Rattle.forest.specs.Forest.{Forest, bytes_of}
use Rattle.measure.specs.Lengths.{length_of}
use Rattle.measure.proofs.Lengths.{counts_bytes}
use Rattle.writer.specs.Shows.{Put, used}

module _ (f : Forest) (before : List ℕ) (size room : ℕ) (told : length_of f ≡ size) (is : room ≡ min (length before) used) where
  pub no_fit : room < size → Put f before before false
  no_fit lt = let h = counts_bytes f in (grind arith, refl)

  pub fits : size ≤ room → (length (bytes_of f) ≤ used) × (length (bytes_of f) ≤ length before)
  fits le = (omega (arith, counts_bytes f), omega (arith, counts_bytes f))
