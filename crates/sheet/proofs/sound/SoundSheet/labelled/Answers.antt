use Rattle.std.proofs.Common.{arith}
use Rattle.sheet.proofs.Deciding.{compiled}
use Rattle.sheet.proofs.Stepping.{label_held}
use Rattle.sheet.proofs.sound.SoundSheet.labelled.Goals as goal

pub returns : goal.returns
returns c = label_held c.args.label c.pick.result (compiled c.args.self.now.checked.sound c.args.self.now.compiled) (omega arith) c.pick.ensures
