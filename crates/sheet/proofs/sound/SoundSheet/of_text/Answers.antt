use Rattle.sheet.specs.Standing.{a_text}
use Rattle.sheet.proofs.sound.SoundSheet.of_text.Goals as goal

pub returns : goal.returns
returns c = λ t f a. c.put_before.ensures (a_text t) f (c.text_leaves.ensures t) a
