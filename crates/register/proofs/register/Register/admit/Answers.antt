use Rattle.std.proofs.Common.{ap, sym, ◌∙◌}
use Rattle.std.specs.Option.{option_copied}
use Rattle.forest.specs.Refusals.{told}
use Rattle.register.proofs.Holdings.{newest_is}
use Rattle.register.proofs.Admissions.{strange}
use Rattle.register.proofs.register.Register.admit.Goals as goal

pub returns-then-not-branch : goal.returns-then-not-branch
returns-then-not-branch c = strange _ c.args.body.now _ _ _ (newest_is c.args.self.now c.in_ok-newest.newest.now (sym c.as_ref.ensures.value ∙ ap option_copied c.in_ok-newest.ensures.ok_part)) c.in_ok-belongs.ensures c.if-not-branch.true (ap told c.refused-then-not-branch.ensures)
