use Rattle.sheet.proofs.Deciding.{compiled}
use Rattle.sheet.proofs.Stepping.{empty_stands}
use Rattle.sheet.proofs.sound.SoundSheet.of_empty.Goals as goal

pub returns : goal.returns
returns c = empty_stands (compiled c.args.self.now.checked.sound c.args.self.now.compiled)
