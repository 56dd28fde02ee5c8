use Rattle.sheet.specs.Standing.{a_node}
use Rattle.sheet.proofs.sound.SoundSheet.of_node.Goals as goal

pub returns : goal.returns
returns c = λ d f a b. c.put_before.ensures (a_node c.args.label d) f (c.node_leaves.ensures d a) b
