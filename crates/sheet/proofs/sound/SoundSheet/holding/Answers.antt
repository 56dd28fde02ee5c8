use Rattle.std.proofs.Common.{arith}
use Rattle.sheet.proofs.Deciding.{compiled}
use Rattle.sheet.proofs.Stepping.{content_held}
use Rattle.sheet.proofs.sound.SoundSheet.holding.Goals as goal

pub returns : goal.returns
returns c = λ f a. content_held c.gather.result (compiled c.args.self.now.checked.sound c.args.self.now.compiled) (omega arith) c.gather.ensures f a
