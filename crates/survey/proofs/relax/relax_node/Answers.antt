use Rattle.std.proofs.Common.{◌+◌, ◌<◌, length, sym, refl, ap, ◌∙◌, subst, arith, rules}
use Rattle.survey.specs.declared.types.Sort.{Sort}
use Rattle.survey.specs.declared.types.First.TheVariants.{Node}
use Rattle.survey.proofs.Relaxes.{all_good, parts_at, joins_node}
use Rattle.survey.specs.Sorting.{NodeSort}
use Rattle.survey.proofs.relax.relax_node.Goals as goal
use Rattle.survey.specs.Survey.{blank, entry, setting}
use Rattle.survey.specs.Steps.{node_cost, node_length}

pub offset_bounds-list-tree : goal.offset_bounds-list-tree
offset_bounds-list-tree g c = let h : c.args.tree.content < length c.args.list.now = omega (arith, c.requires.over.content, c.requires.kept.within, c.requires.kept.fits) in search rules

pub offset_bounds-list-rest : goal.offset_bounds-list-rest
offset_bounds-list-rest g c = let h : c.args.rest < length c.args.list.now = omega (arith, c.requires.kept.within, c.requires.kept.fits) in search rules

pub of_node-cost-requires : goal.of_node-cost-requires
of_node-cost-requires g c =
    let z = parts_at _ _ _ _ _ _ _ c.requires.kept c.requires.over c.requires.bounds c.index-list-tree.is c.index-list-rest.is in
    (z.0.fine, z.1.fine)

pub of_node-length-requires : goal.of_node-length-requires
of_node-length-requires g c =
    let z = parts_at _ _ _ _ _ _ _ c.requires.kept c.requires.over c.requires.bounds c.index-list-tree.is c.index-list-rest.is in
    (z.0.short, z.1.short)

pub offer-requires-clause-good : goal.offer-requires-clause-good
offer-requires-clause-good g c =
    all_good (setting (g.M.Measure.model c.args.rules.now.measure.now) (g.S.Sorting.model c.args.rules.now.sorting.now)) c.args.list.now (c.args.last + 1) c.args.listing.now.len c.requires.kept

pub offer-requires-clause-fine : goal.offer-requires-clause-fine
offer-requires-clause-fine g c =
    let Γ = setting (g.M.Measure.model c.args.rules.now.measure.now) (g.S.Sorting.model c.args.rules.now.sorting.now) in
    let z = parts_at _ _ _ _ _ _ _ c.requires.kept c.requires.over c.requires.bounds c.index-list-tree.is c.index-list-rest.is in
    subst Γ.good (sym c.of_node-cost.ensures) (c.requires.kept.sound.laws.good_node _ _ z.0.fine z.1.fine)

pub returns : goal.returns
returns g c =
    let C = g.row.M-Cost.Denot in
    let Γ = setting (g.M.Measure.model c.args.rules.now.measure.now) (g.S.Sorting.model c.args.rules.now.sorting.now) in
    let t = c.args.tree in
    let z = parts_at _ _ _ _ _ _ _ c.requires.kept c.requires.over c.requires.bounds c.index-list-tree.is c.index-list-rest.is in
    let x : Sort C = record { standings = c.before-standings.result; cost = c.of_node-cost.result; length = c.of_node-length.result; first = Node t.label; content = t.content; rest = c.args.rest } in
    joins_node c.requires.kept.sound c.args.list.now c.args.last c.args.listing.now.len c.requires.kept t c.args.rest x c.requires.over c.requires.bounds c.requires.new refl refl refl
    (subst (λ (y : Sort C). NodeSort Γ.sorts t.leaves y.standings c.before-standings.result) z.1.is c.before-standings.ensures)
    (c.of_node-cost.ensures ∙ ap (λ (y : Sort C). node_cost Γ y c.index-list-rest.result) z.0.is ∙ ap (node_cost Γ (entry Γ c.args.list.now t.content)) z.1.is)
    (c.of_node-length.ensures ∙ ap (λ (y : Sort C). node_length y.length c.index-list-rest.result.length) z.0.is ∙ ap (λ (y : Sort C). node_length (entry Γ c.args.list.now t.content).length y.length) z.1.is)
    c.offer.new.list c.offer.new.self.len c.offer.result (c.offer.ensures (blank Γ))
