use Rattle.std.proofs.Common.{◌≡◌, ◌<◌, length, refl, sym, ◌∙◌, subst, inl, inr, arith, rules}
use Rattle.std.proofs.lemmas.List.{get_or_default}
use Rattle.std.proofs.lemmas.Result.{err_from_is_err_and}
use Rattle.measure.proofs.Costs.{own_order}
use Rattle.survey.specs.declared.types.Sort.{Sort}
use Rattle.survey.specs.Survey.{setting, blank}
use Rattle.writer.proofs.Spellings.{readable, shown}
use Rattle.loss.specs.Verdict.{Few, CheapestLost, no_list}
use Rattle.loss.proofs.Judging.{refusal, few, all_kept, within, told}
use Rattle.loss.proofs.judge_by.Goals as goal

pub returns-then-is_empty : goal.returns-then-is_empty
returns-then-is_empty g c = (no_list (elim c.then-is_empty.either [ inl e ↦ inl (search rules) | inr e ↦ inr e.1 ]) refl, refl)

pub returns-in_err-count : goal.returns-in_err-count
returns-in_err-count g c =
    let p = err_from_is_err_and c.from_residual.result c.from_residual.ensures.1 in
    let m = g.M.Measure.model c.args.measure.now in
    let s = g.S.Sorting.model c.args.sorting.now in
    rw (p.1, p.2) (refusal m s (g.S.Losing.sides c.args.sorting.now) (length c.args.list.now) (length c.survey.new.list) (omega arith) (search rules) (omega arith) c.args.list.now c.survey.new.list c.in_err-count.field-0.0 c.in_err-count.ensures, refl)

pub returns-in_default : goal.returns-in_default
returns-in_default g c =
    let m = g.M.Measure.model c.args.measure.now in
    let s = g.S.Sorting.model c.args.sorting.now in
    let sides = g.S.Losing.sides c.args.sorting.now in
    let xs = c.survey.new.list in
    let sv = c.in_ok-count.ensures in
    let same : length xs ≡ length c.args.list.now = omega arith in (
      search rules,
      omega arith,
      subst (Few s) same (few m s sides xs c.in_ok-count.count sv),
      (all_kept m s sides xs c.in_ok-count.count sv (c.in_default.ensures (blank (setting m s))), refl),
    )

pub offset_bounds-list-k : goal.offset_bounds-list-k
offset_bounds-list-k g c =
    let m = g.M.Measure.model c.args.measure.now in
    let s = g.S.Sorting.model c.args.sorting.now in
    let sv = c.in_ok-count.ensures in
    let lt = within m s (g.S.Losing.sides c.args.sorting.now) c.survey.new.list c.in_ok-count.count sv c.in-Some.k (c.in-Some.ensures (blank (setting m s))) in
    let h : c.in-Some.k < length c.args.list.now = omega (arith, lt, sv.fits) in
    search rules

pub bounds-list-k : goal.bounds-list-k
bounds-list-k g c =
    let m = g.M.Measure.model c.args.measure.now in
    let s = g.S.Sorting.model c.args.sorting.now in
    let sv = c.in_ok-count.ensures in
    let lt = within m s (g.S.Losing.sides c.args.sorting.now) c.survey.new.list c.in_ok-count.count sv c.in-Some.k (c.in-Some.ensures (blank (setting m s))) in
    omega (arith, lt, sv.fits)

pub show-requires : goal.show-requires
show-requires g c =
    let m = g.M.Measure.model c.args.measure.now in
    let s = g.S.Sorting.model c.args.sorting.now in
    let sv = c.in_ok-count.ensures in
    let xs = c.survey.new.list in
    let lt = within m s (g.S.Losing.sides c.args.sorting.now) xs c.in_ok-count.count sv c.in-Some.k (c.in-Some.ensures (blank (setting m s))) in
    record { bounds = (omega (arith, lt, sv.fits), omega (arith, lt, sv.fits)); readable = readable (setting m s) xs c.in_ok-count.count (length xs) sv sv.fits c.in-Some.k lt }

pub returns : goal.returns
returns g c =
    let measure = c.args.measure.now in
    let m = g.M.Measure.model measure in
    let s = g.S.Sorting.model c.args.sorting.now in
    let sides = g.S.Losing.sides c.args.sorting.now in
    let xs = c.survey.new.list in
    let n = c.in_ok-count.count in
    let sv = c.in_ok-count.ensures in
    let k = c.in-Some.k in
    let first = c.in-Some.ensures (blank (setting m s)) in
    let lt = within m s sides xs n sv k first in
    let order = own_order (g.M.Order.ranking measure) m (g.met.M.Order.ordered measure) (g.met.M.Measure.ranked measure) c.tied.ensures in
    let loss = told m s sides xs n sv k first (g.met.M.Measure.lawful measure) order (g.met.S.Losing.apart c.args.sorting.now) c.args.out.now c.show.new.out c.show.result (shown (setting m s) xs n (length xs) sv sv.fits k lt c.args.out.now c.show.new.out c.show.result c.show.ensures) in
    let read = c.index-list-k.is ∙ get_or_default xs k c.index-list-k.result (blank (setting m s)) (omega (arith, lt, sv.fits)) in
    let same : length xs ≡ length c.args.list.now = omega arith in (
      search rules,
      omega arith,
      subst (Few s) same (few m s sides xs n sv),
      subst (λ (x : Sort g.row.M-Cost.Denot). CheapestLost s sides m c.args.out.now c.show.new.out x.cost x.length c.show.result) (sym read) loss,
    )
