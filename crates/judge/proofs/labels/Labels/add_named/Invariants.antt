use Rattle.std.proofs.Common.{ℕ, ◌+◌, ◌≤◌, ◌⊎◌, ◌↔◌, length, Contains}
use Rattle.judge.proofs.Naming.{MentionsBelow}
use Rattle.judge.proofs.labels.Labels.add_named.Given as goal

abbrev pub invariant-loop-row : goal.invariant-loop-row
invariant-loop-row l = record {
  names : (m : ℕ) → Contains l.self m ↔ (Contains l.initial.self m ⊎ MentionsBelow l.rows l.row-index m);
  few : length l.self ≤ length l.initial.self + l.row-index;
}
