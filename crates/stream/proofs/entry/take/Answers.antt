use Rattle.std.proofs.Common.{rules}
use Rattle.std.proofs.lemmas.Result.{err_from_is_err_and}
use Rattle.stream.proofs.entry.take.Goals as goal
use Rattle.stream.proofs.Fronts.{in_mark_at, in_length_at, in_body_at}
use Rattle.stream.specs.Stream.{a_sheet, a_record}

pub returns-in_err-body-in-84-clause-tells : goal.returns-in_err-body-in-84-clause-tells
returns-in_err-body-in-84-clause-tells c = let h = c.in_err-body-in-84.ensures in
    let r = c.from_residual in
    let p = err_from_is_err_and r.result r.ensures.1 in
    rw (p.1, p.2, h.0, h.1) (in_body_at a_sheet _ (search rules) (search rules) h.2)

pub returns-in_err-body-in-82-clause-tells : goal.returns-in_err-body-in-82-clause-tells
returns-in_err-body-in-82-clause-tells c = let h = c.in_err-body-in-82.ensures in
    let r = c.from_residual-in_err-body-in-82 in
    let p = err_from_is_err_and r.result r.ensures.1 in
    rw (p.1, p.2, h.0, h.1) (in_body_at a_record _ (search rules) (search rules) h.2)

pub returns-in-len1-clause-tells : goal.returns-in-len1-clause-tells
returns-in-len1-clause-tells c = search (rules, in_mark_at, in_length_at a_sheet, in_length_at a_record)
