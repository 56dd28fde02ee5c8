use Rattle.std.proofs.Common.{◌+◌, ◌≤◌, length}
use Rattle.season.proofs.main.Given as goal

-- Each entry takes bytes off the input, so that there are turns enough for all of them.
abbrev pub invariant-loop-earlier : goal.invariant-loop-earlier
invariant-loop-earlier l = l.earlier + length l.rest ≤ length l.initial.rest
