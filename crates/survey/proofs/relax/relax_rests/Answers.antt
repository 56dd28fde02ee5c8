use Rattle.std.proofs.Common.{◌+◌, ◌<◌, ◌≤◌, length, arith}
use Rattle.survey.proofs.Basics.{grown_trans}
use Rattle.survey.proofs.Loops.{grown_cap}
use Rattle.survey.proofs.KeptTrees.{nodes_more}
use Rattle.survey.proofs.relax.relax_rests.Goals as goal
use Rattle.survey.specs.Survey.{entry, setting}

pub loop-c-preserved : goal.loop-c-preserved
loop-c-preserved g c =
    let Γ = setting (g.M.Measure.model c.args.rules.now.measure.now) (g.S.Sorting.model c.args.rules.now.sorting.now) in
    let so = c.requires.kept.sound in
    let gr = c.loop-c.invariant.0 in
    let z = c.in_ok-relax_each.ensures in
    let e = entry Γ c.args.list.now in
    let e₁ = entry Γ c.loop-c.list in
    let k = c.loop-c.c in
    let e₂ = entry Γ c.relax_each.new.list in
    let g₂ = grown_cap {cap' = length c.args.list.now} (omega arith) z.0 in (
      grown_trans e e₁ e₂ (c.args.last + 1) c.args.listing.now.len c.loop-c.listing.len c.relax_each.new.listing.len (length c.args.list.now) gr g₂,
      λ a i lt u.
          nodes_more so e e₁ e₂ c.args.last c.args.listing.now.len c.loop-c.listing.len c.relax_each.new.listing.len (length c.args.list.now) k (λ b. (c.args.whole ≤ b) × (i < length Γ.sorts.labels)) (λ _. i) (λ b. b)
          (λ b h. omega arith) gr (λ b h v. c.loop-c.invariant.1 b i h v) g₂ (λ v. z.1 i v.1) a lt u,
    )

pub returns : goal.returns
returns g c = (c.loop-c.invariant.0, λ k i lo hi h. c.loop-c.invariant.1 k i (omega arith) (lo, h))
