use Rattle.sheet.proofs.Stepping.{node_admitted}
use Rattle.sheet.proofs.sound.SoundSheet.node_leaves.Goals as goal

pub returns : goal.returns
returns c = λ f a. node_admitted f c.labelled.ensures (c.holding.ensures f a)
