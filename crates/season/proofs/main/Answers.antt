use Rattle.std.proofs.Common.{◌≡◌, ◌<◌, ◌∙◌, length, arith, ap, refl}
use Rattle.std.proofs.lemmas.Bool.{false≢true}
use Rattle.std.specs.Bool.{◌==◌}
use Rattle.desk.proofs.Runs.{shortens, ends_empty}
use Rattle.season.proofs.main.Goals as goal
use Rattle.season.proofs.main.Goals.{else-loop-earlier-test, then-loop-earlier-test+in-Done, then-loop-earlier-test+in-Stopped+in_ok-write_all-in-Stopped}

pub loop-earlier-preserved : goal.loop-earlier-preserved
loop-earlier-preserved c =
    let l : length c.in-More.next.now < length c.loop-earlier.rest.now = shortens c.in-More.ensures.handled in
    omega (arith, c.loop-earlier.invariant)

pub prove-unreachable-requires : goal.prove-unreachable-requires
prove-unreachable-requires c =
    let none : length c.loop-earlier-test.rest.now ≡ 0 = elim c.loop-earlier-test.branch [
      | else-loop-earlier-test w ↦ rw w.rest-is (omega (arith, c.loop-earlier.invariant, w.loop-earlier-test.false))
      | then-loop-earlier-test+in-Done w ↦ rw w.rest-is (ap length (ends_empty w.in-Done.ensures.handled))
      | then-loop-earlier-test+in-Stopped+in_ok-write_all-in-Stopped w ↦ rw w.rest-is refl
    ] in
    false≢true (c.if-prove.ensures ∙ ap (λ n. n == 0) none)
