use Rattle.forest.proofs.Forms.{one_form}
use Rattle.forest.proofs.Parses.{always_just_one}
use Rattle.forest.proofs.laws.bytes_are_exact.Goals as goal

pub returns : goal.returns
returns c = record { one_form = one_form; just_one = always_just_one }
