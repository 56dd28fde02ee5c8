use Rattle.std.proofs.Common.{List, ℕ, length, Contains, sym, ap, subst, inl, inr, arith}
use Rattle.judge.proofs.Naming.{below_or_at}
use Rattle.judge.specs.Trying.{all_tried}
use Rattle.judge.proofs.labels.Labels.add_other.Goals as goal

pub returns-then-not-has : goal.returns-then-not-has
returns-then-not-has c =
    let same = c.loop-label.invariant.same in
    let new : Contains c.loop-label.self c.loop-label.label → ⊥ = λ h. let yes = c.has.ensures.1 h in let not_so = c.if-not-has.true in cc in
    (c.loop-label.label, ((omega arith, omega arith), subst (λ (ls : List ℕ). Contains ls c.loop-label.label → ⊥) same new, cc))

pub loop-label-preserved : goal.loop-label-preserved
loop-label-preserved c = record {
  same = c.loop-label.invariant.same;
  listed = λ m low high.
      elim (below_or_at m c.loop-label.label high) [
        | inl lt ↦ c.loop-label.invariant.listed m low lt
        | inr e ↦ subst (Contains c.loop-label.self) (sym e) (c.has.ensures.0 c.if-not-has.false)
      ];
}

pub unreachable-requires : goal.unreachable-requires
unreachable-requires c = all_tried c.loop-label.self (omega (arith, ap length c.loop-label.invariant.same, c.requires)) (λ m low high. c.loop-label.invariant.listed m low (omega arith))
