use Rattle.std.proofs.Common.{◌≡◌, List, length, sym, refl, subst, arith}
use Rattle.std.proofs.lemmas.Result.{err_from_is_err_and}
use Rattle.survey.specs.declared.types.Sort.{Sort}
use Rattle.survey.specs.declared.types.Tree.{Tree}
use Rattle.survey.specs.declared.types.First.TheVariants.{Nothing}
use Rattle.survey.specs.KeptTrees.{TreeTable}
use Rattle.measure.proofs.Costs.{own_order}
use Rattle.survey.proofs.Finishes.{surveyed}
use Rattle.survey.proofs.Relaxes.{all_good}
use Rattle.survey.proofs.Swaps.{settled_kept, settled_closed, settled_table}
use Rattle.survey.proofs.KeptTrees.{start_table}
use Rattle.survey.proofs.Loops.{kept_cap, started, none_fits, closed_more}
use Rattle.survey.proofs.survey.Goals as goal
use Rattle.survey.specs.Survey.{blank, entry, setting}
use Rattle.survey.specs.Steps.{Kept, Sound}

pub returns-in_err-offer : goal.returns-in_err-offer
returns-in_err-offer g c =
    let C = g.row.M-Cost.Denot in
    let Γ = setting (g.M.Measure.model c.args.measure.now) (g.S.Sorting.model c.args.sorting.now) in
    let x : Sort C = record { standings = c.of_nil.result; cost = c.of_nil-2.result; length = 0; first = Nothing; content = 0; rest = 0 } in
    let p = err_from_is_err_and c.from_residual.result c.from_residual.ensures.1 in
    rw (p.1, p.2) (none_fits (g.met.S.Sorting.sorted c.args.sorting.now) c.args.list.now c.offer.new.list c.new-listing.result.len x c.in_err-offer.field-0.0 c.new-listing.ensures c.of_nil.ensures (omega arith) (c.in_err-offer.ensures (blank Γ)))

pub loop-done-init : goal.loop-done-init
loop-done-init g c =
    let C = g.row.M-Cost.Denot in
    let Γ = setting (g.M.Measure.model c.args.measure.now) (g.S.Sorting.model c.args.sorting.now) in
    let m = c.args.measure.now in
    let so : Sound Γ = record {
      order = own_order (g.M.Order.ranking m) (g.M.Measure.model m) (g.met.M.Order.ordered m) (g.met.M.Measure.ranked m) c.tied.ensures;
      laws = g.met.M.Measure.lawful m;
      sorted = g.met.S.Sorting.sorted c.args.sorting.now;
    } in
    let x : Sort C = record { standings = c.of_nil.result; cost = c.of_nil-2.result; length = 0; first = Nothing; content = 0; rest = 0 } in
    let z = started so c.args.list.now c.offer.new.list c.new-listing.result.len c.offer.new.self.len x c.new-listing.ensures refl c.of_nil.ensures c.of_nil-2.ensures refl (c.in_ok-offer.ensures (blank Γ)) in
    (kept_cap (omega arith) z.0, z.1, subst (λ (ts : List Tree). TreeTable Γ (entry Γ c.offer.new.list) ts 0 0 c.offer.new.self.len) (sym c.new-trees.ensures) (start_table (entry Γ c.offer.new.list) c.offer.new.self.len))

pub settle-requires-clause-good : goal.settle-requires-clause-good
settle-requires-clause-good g c =
    let Γ = setting (g.M.Measure.model c.args.measure.now) (g.S.Sorting.model c.args.sorting.now) in
    all_good Γ c.loop-done.list c.loop-done.done c.loop-done.listing.len (kept_cap (omega arith) c.loop-done.invariant.0)

pub relax_all-requires-clause-kept : goal.relax_all-requires-clause-kept
relax_all-requires-clause-kept g c =
    let Γ = setting (g.M.Measure.model c.args.measure.now) (g.S.Sorting.model c.args.sorting.now) in
    rw c.settle.ensures.same (kept_cap (omega arith) (settled_kept c.loop-done.list c.settle.new.list c.loop-done.done c.loop-done.listing.len _ (c.settle.ensures.settled (blank Γ)) c.loop-done.invariant.0))

pub relax_all-requires-clause-table : goal.relax_all-requires-clause-table
relax_all-requires-clause-table g c =
    let Γ = setting (g.M.Measure.model c.args.measure.now) (g.S.Sorting.model c.args.sorting.now) in
    rw c.settle.ensures.same (settled_table c.loop-done.list c.settle.new.list c.loop-done.done c.loop-done.listing.len _ (c.settle.ensures.settled (blank Γ)) c.loop-done.invariant.0 c.loop-done.trees c.loop-done.whole c.loop-done.invariant.2)

pub loop-done-preserved : goal.loop-done-preserved
loop-done-preserved g c =
    let Γ = setting (g.M.Measure.model c.args.measure.now) (g.S.Sorting.model c.args.sorting.now) in
    let so = c.loop-done.invariant.0.sound in
    let z = rw c.settle.ensures.same at c.in_ok-whole.ensures in
    let closed = settled_closed c.loop-done.list c.settle.new.list c.loop-done.done c.loop-done.listing.len _ (c.settle.ensures.settled (blank Γ)) c.loop-done.invariant.0 c.loop-done.invariant.1 in
    (kept_cap (omega arith) z.0.kept, closed_more so (entry Γ c.settle.new.list) (entry Γ c.relax_all.new.list) c.loop-done.done c.loop-done.listing.len c.relax_all.new.listing.len _ closed z.0 z.1 z.2, z.3)

pub returns : goal.returns
returns g c =
    let Γ = setting (g.M.Measure.model c.args.measure.now) (g.S.Sorting.model c.args.sorting.now) in
    let so = c.loop-done.invariant.0.sound in
    let e : c.loop-done.done ≡ c.loop-done.listing.len = omega (arith, c.loop-done.invariant.0.within) in
    let k : Kept Γ (entry Γ c.loop-done.list) c.loop-done.done c.loop-done.listing.len (length c.loop-done.list) = kept_cap (omega arith) c.loop-done.invariant.0 in
    surveyed so (entry Γ c.loop-done.list) c.loop-done.listing.len (length c.loop-done.list) (rw e at k) (rw e at c.loop-done.invariant.1)
