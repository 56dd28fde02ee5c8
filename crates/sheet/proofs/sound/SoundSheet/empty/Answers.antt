use Rattle.std.proofs.Common.{arith}
use Rattle.sheet.proofs.Held.{empty_numbers, empty_sound}
use Rattle.sheet.proofs.sound.SoundSheet.empty.Goals as goal

pub invariant_of-from : goal.invariant_of-from
invariant_of-from c = record { short = omega arith; sound = ∣ empty_sound ∣₁; numbered = empty_numbers }
