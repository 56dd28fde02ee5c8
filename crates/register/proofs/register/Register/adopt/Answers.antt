use Rattle.std.proofs.Common.{ap, ◌∙◌}
use mathlib.Core.Option.{none, some}
use Rattle.store.specs.Stores.{lists}
use Rattle.law.specs.Calls.{newest}
use Rattle.law.proofs.Lists.{last_push}
use Rattle.register.proofs.register.Register.adopt.Goals as goal

pub invariant_of-self-clause-last : goal.invariant_of-self-clause-last
invariant_of-self-clause-last c = ap newest c.push-index.ensures.appended.listed ∙ last_push none (lists c.args.self.now.editions) c.rows.result.now ∙ ap some c.rows.ensures
