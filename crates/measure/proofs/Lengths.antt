-- The length counts bytes.
use Rattle.std.proofs.Common.{refl, arith, length-append}
use Rattle.forest.specs.Forest.{nil, text, node}
use Rattle.measure.specs.Lengths.{LengthCountsBytes}

pub counts_bytes : LengthCountsBytes
counts_bytes nil = refl
counts_bytes (text t r) = let ih = counts_bytes r in simp (length-append) (omega arith)
counts_bytes (node l c r) = let ih = counts_bytes c in let jh = counts_bytes r in simp (length-append) (omega arith)
