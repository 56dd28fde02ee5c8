use Rattle.std.proofs.Common.{◌≡◌, ℕ, ◌<◌, Contains}
use Rattle.judge.proofs.labels.Labels.add_other.Given as goal

abbrev pub invariant-loop-label : goal.invariant-loop-label
invariant-loop-label l = record {
  same : l.self ≡ l.initial.self;
  listed : (m : ℕ) → 0 < m → m < l.label → Contains l.self m;
}
