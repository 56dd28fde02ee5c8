-- A stream that is handled entry by entry is a season.
use Rattle.std.specs.Prelude.{ℕ, List}
use Rattle.rows.specs.declared.row.Row.{Row}
use Rattle.measure.specs.Measure.{Costs}
use Rattle.measure.specs.Lengths.{length_costs}
use Rattle.measure.specs.declared.length.Length.{Length}
use Rattle.law.specs.Calls.{Held}
use Rattle.law.specs.Law.{History, Run, Lawful}

abbrev pub by_length : Length → Costs ℕ
by_length m = length_costs

-- Where calls of a new register over some memory led to s, they led or lead by at most one call more to s', lawfully.
abbrev pub StaysASeason : (L : Type 0) → Held → Held → Type 0
StaysASeason L s s' = (rows : List Row) (bytes : List ℕ) (h : History Length ℕ L) → Run by_length rows bytes h s
    → (h' : History Length ℕ L) × Run by_length rows bytes h' s' × Lawful by_length rows bytes h'
