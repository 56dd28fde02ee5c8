use Rattle.std.proofs.Common.{arith}
use Rattle.std.proofs.Math.Logic.{∥∥₁_map}
use Rattle.forest.specs.Reading.{walk}
use Rattle.forest.proofs.Coming.{all_to_come}
use Rattle.forest.proofs.record.Record.events.Goals as goal

pub invariant_of-result : goal.invariant_of-result
invariant_of-result c = record { inside = omega arith; whole = ∥∥₁_map c.args.self.now.checked (λ p. (walk p.0, all_to_come c.args.self.now.body.now p.0 p.1)) }

pub returns-clause-all : goal.returns-clause-all
returns-clause-all c f s = all_to_come _ f s
