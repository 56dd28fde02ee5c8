use Rattle.std.proofs.Common.{Ok, ap, subst}
use Rattle.stream.specs.Stream.{Front, answer}
use Rattle.desk.specs.Handling.{refused, told}
use Rattle.desk.proofs.Runs.{handled_end, stays, stays_after}
use Rattle.desk.proofs.entries.Desk.handle.Goals as goal
use Rattle.desk.proofs.entries.Desk.handle.Goals.{in-Ok-Some, in-Err}

pub returns-in-Ok-None-clause-handled : goal.returns-in-Ok-None-clause-handled
returns-in-Ok-None-clause-handled c =
    let e = ap (λ o. answer (Ok o)) c.in-Ok-None.field-0-is in
    handled_end _ _ _ _ _ (subst (λ x. Front c.args.input.now x) e c.in-Ok-None.ensures.tells)

pub returns-in-Ok-None-clause-season : goal.returns-in-Ok-None-clause-season
returns-in-Ok-None-clause-season c = stays _ _

pub returns-clause-handled : goal.returns-clause-handled
returns-clause-handled c = elim c.match-take.branch [
  | in-Ok-Some w ↦ let s = rw (w.self-is, w.line-is) at c.make.ensures.says in
      let e = ap (λ o. answer (Ok o)) w.in-Ok-Some.field-0-is in
      let f = subst (λ x. Front c.args.input.now x) e w.in-Ok-Some.ensures.tells in
      rw (w.self-is, w.line-is) (told f w.enter.ensures.outcome s)
  | in-Err w ↦ let s = rw (w.self-is, w.line-is) at c.make.ensures.says in
      rw (w.self-is, w.line-is) (refused w.in-Err.ensures.tells s)
]

pub returns-clause-season : goal.returns-clause-season
returns-clause-season c = elim c.match-take.branch [
  | in-Ok-Some w ↦ rw w.self-is (stays_after w.enter.ensures.outcome)
  | in-Err w ↦ rw w.self-is (stays _ _)
]
