use Rattle.std.proofs.Common.{ℕ}
use Rattle.forest.specs.Forest.{Forest}
use Rattle.sheet.specs.Standing.{Tree, a_text, a_node, before}
use Rattle.rows.specs.Sheet.{Sheet}
use Rattle.sheet.specs.Meaning.{Admits}
use Rattle.sheet.specs.Meaning.{Follows}
use Rattle.sheet.proofs.Forwards.{First, starts, Then, continues}

pub first_of : {s : Sheet} {e : ℕ} (t : Tree) (r : Forest) → Admits s e (before t r) → First s e t r
first_of (a_text b) r x = starts x
first_of (a_node l c) r x = starts x

pub next_of : {s : Sheet} {q e : ℕ} (t : Tree) (r : Forest) → Follows s q e (before t r) → Then s q e t r
next_of (a_text b) r x = continues x
next_of (a_node l c) r x = continues x
