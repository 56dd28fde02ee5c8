-- What the checks over the whole sheet leave when they pass.
-- Nothing on this page is needed to read which sheets are sound or which refusal is due.
use Rattle.std.specs.Prelude.{ℕ, ◌<◌, ◌≤◌, List, length}
use Rattle.rows.specs.Sheet.{Sheet, places}
use Rattle.rows.specs.Parts.{Numbers}
use Rattle.rows.specs.Checking.{OnceAPart, ContentThere}

pub record Whole (s : Sheet) (numbers : List ℕ) : Type 0 where
  pub once : (a : ℕ) → a < length s → OnceAPart s a
  pub there : (p : ℕ) → ContentThere s p
  pub few : places s ≤ 64
  pub numbered : Numbers s numbers
