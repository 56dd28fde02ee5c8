use Rattle.std.proofs.Common.{◌+◌, ◌-◌, ◌*◌, length}
use Rattle.forest.specs.Steps.{Stretch}
use Rattle.forest.proofs.read.+read_forest_read_tree.Given as goal

abbrev pub decreases-read_forest : goal.decreases-read_forest
decreases-read_forest l = 2 * l.nesting + 1

abbrev pub decreases-read_tree : goal.decreases-read_tree
decreases-read_tree l = 2 * l.nesting

abbrev pub invariant-read_forest-loop-at : goal.invariant-read_forest-loop-at
invariant-read_forest-loop-at l = Stretch l.nesting l.body l.initial.at l.at

abbrev pub decreases-read_forest-loop-at : goal.decreases-read_forest-loop-at
decreases-read_forest-loop-at l = length l.body - l.at
