use Rattle.std.proofs.Common.{◌-◌, length}
use Rattle.sheet.proofs.belong.+standing.Given as goal

abbrev pub decreases-standing : goal.decreases-standing
decreases-standing l = length l.events.now.body.now - l.events.now.at
