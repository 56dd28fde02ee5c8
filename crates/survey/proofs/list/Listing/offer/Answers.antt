use Rattle.std.proofs.Common.{◌≡◌, get_or, refl, subst, arith}
use Rattle.std.proofs.lemmas.Bool.{both_ways}
use Rattle.std.proofs.lemmas.List.{get_or_default}
use Rattle.survey.specs.declared.types.Sort.{Sort}
use Rattle.survey.proofs.list.Listing.offer.Goals as goal
use Rattle.survey.specs.Steps.{better, no_better}

pub returns-then-not-at_most : goal.returns-then-not-at_most
returns-then-not-at_most g c d =
    let C = g.row.M-Cost.Denot in
    let xs = c.args.list.now in
    let k = c.in-Some.k in
    let f = c.in-Some.ensures.found in
    let e : get_or xs k d ≡ get_or xs k c.index-list-k.result = get_or_default xs k d c.index-list-k.result (omega (arith, f.0)) in
    better k f.0 (f.1 d)
    (λ h. both_ways _ c.if-not-at_most.true (c.at_most.ensures.1 (c.tied.ensures.down _ _ (c.requires.good k c.index-list-k.result f.0) c.requires.fine (subst (λ (x : Sort C). (g.M.Measure.model c.args.measure.now).le x.cost c.args.sort.cost) e h))))
    refl c.in-Some.ensures.same

pub returns-else-not-at_most : goal.returns-else-not-at_most
returns-else-not-at_most g c d =
    let C = g.row.M-Cost.Denot in
    let xs = c.args.list.now in
    let k = c.in-Some.k in
    let f = c.in-Some.ensures.found in
    let e : get_or xs k c.index-list-k.result ≡ get_or xs k d = get_or_default xs k c.index-list-k.result d (omega (arith, f.0)) in
    no_better k f.0 (f.1 d)
    (subst (λ (x : Sort C). (g.M.Measure.model c.args.measure.now).le x.cost c.args.sort.cost) e (c.tied.ensures.up _ _ (c.requires.good k c.index-list-k.result f.0) c.requires.fine (c.at_most.ensures.0 c.if-not-at_most.false)))
    refl c.in-Some.ensures.same
