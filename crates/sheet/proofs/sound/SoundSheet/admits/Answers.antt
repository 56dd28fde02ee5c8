use mathlib.Core.Logic.Iff
use Rattle.std.proofs.Common.{arith}
use lib.Bits.{bit_and}
use Rattle.sheet.proofs.Deciding.{compiled}
use Rattle.sheet.proofs.Stepping.{not_zero, top_belongs}
use Rattle.sheet.proofs.sound.SoundSheet.admits.Goals as goal

pub returns : goal.returns
returns c = λ f a.
    Iff.trans (not_zero (bit_and c.args.standing c.args.self.now.tables.top))
    (top_belongs (compiled c.args.self.now.checked.sound c.args.self.now.compiled) (omega arith) a)
