use Rattle.sheet.proofs.Deciding.{compiled}
use Rattle.sheet.proofs.Stepping.{text_admitted}
use Rattle.sheet.proofs.sound.SoundSheet.text_leaves.Goals as goal

pub returns : goal.returns
returns c = λ t. text_admitted (compiled c.args.self.now.checked.sound c.args.self.now.compiled) t
