use Rattle.std.proofs.Common.{ℕ, ◌+◌, List, length, slice_index, sym, ap, ◌∙◌, subst, arith}
use Rattle.survey.specs.declared.types.Sort.{Sort}
use Rattle.survey.specs.declared.types.Tree.{Tree}
use Rattle.survey.proofs.Basics.{grown_trans}
use Rattle.survey.proofs.Loops.{grown_cap}
use Rattle.survey.proofs.Relaxes.{read}
use Rattle.survey.specs.Sorting.{NodeLeaves}
use Rattle.survey.proofs.KeptTrees.{nodes_by, nodes_more}
use Rattle.survey.proofs.relax.relax_each.Goals as goal
use Rattle.survey.specs.Survey.{entry, setting}

pub loop-label-preserved : goal.loop-label-preserved
loop-label-preserved g c =
    let C = g.row.M-Cost.Denot in
    let Γ = setting (g.M.Measure.model c.args.rules.now.measure.now) (g.S.Sorting.model c.args.rules.now.sorting.now) in
    let so = c.requires.kept.sound in
    let gr = c.loop-label.invariant.0 in
    let z = c.in_ok-relax_node.ensures in
    let e = entry Γ c.args.list.now in
    let e₁ = entry Γ c.loop-label.list in
    let e₂ = entry Γ c.relax_node.new.list in
    let cap = length c.args.list.now in
    let k = c.args.content in
    let i = c.loop-label.label-index in
    let rd = read Γ c.args.list.now k c.index-list-content.result (omega (arith, c.requires.kept.within, c.requires.kept.fits)) c.index-list-content.is in
    let label = slice_index c.labels-label-items.result.now i in
    let t : Tree = record { leaves = c.leaves-leaves.result; label = label; content = k } in
    let p : NodeLeaves Γ.sorts (slice_index Γ.sorts.labels i) (e₁ k).standings t.leaves =
    subst (λ (ls : List ℕ). NodeLeaves Γ.sorts (slice_index ls i) (e₁ k).standings t.leaves) c.labels-label-items.ensures
    (subst (λ (z : Sort C). NodeLeaves Γ.sorts label z.standings t.leaves) (rd ∙ sym (gr.same k (omega arith))) c.leaves-leaves.ensures) in
    let g₂ = grown_cap {cap' = cap} (omega arith) z.0 in (
      grown_trans e e₁ e₂ (c.args.last + 1) c.args.listing.now.len c.loop-label.listing.len c.relax_node.new.listing.len cap gr g₂,
      λ j lt.
          nodes_more so e e₁ e₂ c.args.last c.args.listing.now.len c.loop-label.listing.len c.relax_node.new.listing.len cap i (λ _. Unit {0}) (λ b. b) (λ _. k)
          (λ b h. omega arith) gr (λ b h v. c.loop-label.invariant.1 b h) g₂
          (λ v. nodes_by so e₁ e₂ c.args.last c.loop-label.listing.len c.relax_node.new.listing.len cap g₂ t i k c.args.last (omega arith) (omega arith) (omega arith) p z.1) j lt tt,
    )

pub returns : goal.returns
returns g c = (c.loop-label.invariant.0, λ k h. c.loop-label.invariant.1 k (let all = ap length c.labels-label-items.ensures in omega arith))
