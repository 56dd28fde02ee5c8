-- The same four relations as tests that compute, the row number falling.
use Rattle.std.proofs.Common.{ℕ, zero, suc, Bool, true, false, ◌&&◌, ◌||◌, eqb}
use mathlib.Core.Option.{Option, none, some}
use Rattle.rows.specs.Sheet.{Sheet, at}
use Rattle.rows.specs.declared.row.Row.{Row}
use Rattle.rows.specs.declared.row.Row.TheVariants.{Empty as empty, Text as one_text, Named as named, Any as any, Seq as seq, Alt as alt, Many as many, Def as def}

-- A test of a row from the same test of its parts, which stand below it.
abbrev pub Step : Type 0
Step = (ℕ → Bool) → ℕ → Option Row → Bool

abbrev pub within : Step → Sheet → ℕ → ℕ → Bool
within step s zero e = false
within step s (suc n) e = step (within step s n) e (at s e)

abbrev pub by_rows : Step → Sheet → ℕ → Bool
by_rows step s e = within step s (suc e) e

abbrev pub null_step : Step
null_step f e none = false
null_step f e (some empty) = true
null_step f e (some one_text) = false
null_step f e (some (named l d)) = false
null_step f e (some (any d)) = false
null_step f e (some (seq a b)) = f a && f b
null_step f e (some (alt a b)) = f a || f b
null_step f e (some (many a)) = true
null_step f e (some (def a)) = f a

unfoldable pub nullable : Sheet → ℕ → Bool
nullable s = by_rows null_step s

abbrev pub open_step : (ℕ → Bool) → ℕ → Step
open_step null p f e none = false
open_step null p f e (some empty) = false
open_step null p f e (some one_text) = eqb p e
open_step null p f e (some (named l d)) = eqb p e
open_step null p f e (some (any d)) = eqb p e
open_step null p f e (some (seq a b)) = f a || (null a && f b)
open_step null p f e (some (alt a b)) = f a || f b
open_step null p f e (some (many a)) = f a
open_step null p f e (some (def a)) = f a

unfoldable pub opening : Sheet → ℕ → ℕ → Bool
opening s p = by_rows (open_step (nullable s) p) s

abbrev pub close_step : (ℕ → Bool) → ℕ → Step
close_step null q f e none = false
close_step null q f e (some empty) = false
close_step null q f e (some one_text) = eqb q e
close_step null q f e (some (named l d)) = eqb q e
close_step null q f e (some (any d)) = eqb q e
close_step null q f e (some (seq a b)) = (f a && null b) || f b
close_step null q f e (some (alt a b)) = f a || f b
close_step null q f e (some (many a)) = f a
close_step null q f e (some (def a)) = f a

unfoldable pub closing : Sheet → ℕ → ℕ → Bool
closing s q = by_rows (close_step (nullable s) q) s

abbrev pub next_step : (ℕ → Bool) → (ℕ → Bool) → Step
next_step last lead f e none = false
next_step last lead f e (some empty) = false
next_step last lead f e (some one_text) = false
next_step last lead f e (some (named l d)) = false
next_step last lead f e (some (any d)) = false
next_step last lead f e (some (seq a b)) = f a || (f b || (last a && lead b))
next_step last lead f e (some (alt a b)) = f a || f b
next_step last lead f e (some (many a)) = f a || (last a && lead a)
next_step last lead f e (some (def a)) = f a

unfoldable pub following : Sheet → ℕ → ℕ → ℕ → Bool
following s q p = by_rows (next_step (closing s q) (opening s p)) s
