-- The forests that a table stands for.
use Rattle.std.specs.Prelude.{ℕ, zero, suc, ◌<◌, ◌≤◌, List, [], slice_index_or}
use Rattle.forest.specs.Forest.{Forest, nil, text, node}
use Rattle.survey.specs.declared.types.First.{First}
use Rattle.survey.specs.declared.types.First.TheVariants.{Nothing, Text, Node}
use Rattle.writer.specs.declared.parts.Part.{Part}

-- what is read past the end
abbrev pub no_part : Part
no_part = record { first = Nothing; content = 0; rest = 0 }

abbrev pub part_at : List Part → ℕ → Part
part_at t k = slice_index_or t k no_part

abbrev pub made : First → Forest → Forest → Forest
made Nothing c r = nil
made Text c r = text [] r
made (Node l) c r = node l c r

-- the forest at k, by at most n steps
abbrev pub forest_by : List Part → ℕ → ℕ → Forest
forest_by t zero k = nil
forest_by t (suc n) k = made (part_at t k).first (forest_by t n (part_at t k).content) (forest_by t n (part_at t k).rest)

abbrev pub forest : List Part → ℕ → Forest
forest t k = forest_by t (suc k) k

-- the parts that the entry at k uses stand below it
abbrev pub BelowBy : First → ℕ → ℕ → ℕ → Type 0
BelowBy Nothing c r k = Unit {0}
BelowBy Text c r k = r < k
BelowBy (Node l) c r k = (c < k) × (r < k)

-- so do those of each entry up to the one at top
abbrev pub Lower : List Part → ℕ → Type 0
Lower t top = (k : ℕ) → k ≤ top → BelowBy (part_at t k).first (part_at t k).content (part_at t k).rest k
