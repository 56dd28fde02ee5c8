use Rattle.survey.proofs.KeptTrees.{new_known, new_tried}
use Rattle.survey.proofs.relax.relax_new.Goals as goal

pub returns-then-has : goal.returns-then-has
returns-then-has g c =
    let a = c.has.ensures c.if-has.true in
    let z = new_known c.requires.kept.sound c.args.list.now c.args.last c.args.listing.now.len c.args.trees.now c.args.tree c.requires.kept c.requires.trees c.requires.new a in
    (z.0, z.1, λ h. a)

pub returns : goal.returns
returns g c =
    let z = c.in_ok-relax_over.ensures in
    let y = new_tried c.requires.kept.sound c.args.list.now c.relax_over.new.list c.args.last c.args.listing.now.len c.relax_over.new.listing.len c.args.trees.now c.keep.new.self c.keep.result c.args.tree
    c.keep.ensures.room c.keep.ensures.full z.0 c.requires.trees c.requires.over z.1 in
    (y.0, z.1, y.1)
