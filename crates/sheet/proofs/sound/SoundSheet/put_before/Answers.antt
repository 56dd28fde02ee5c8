use Rattle.std.proofs.Common.{arith}
use Rattle.sheet.proofs.Deciding.{compiled, formed}
use Rattle.sheet.proofs.Stepping.{tree_stands}
use Rattle.sheet.proofs.sound.SoundSheet.put_before.Goals as goal

pub returns : goal.returns
returns c = λ t f a b. tree_stands c.gather.result (formed c.args.self.now.checked.sound) (compiled c.args.self.now.checked.sound c.args.self.now.compiled) (omega arith) c.gather.ensures t f a b
