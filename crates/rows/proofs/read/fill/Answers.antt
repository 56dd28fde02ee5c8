use Rattle.std.proofs.Common.{◌≡◌, ℕ, ◌<◌, length, take, ap, ◌∙◌, arith}
use Rattle.std.proofs.lemmas.List.{take_all}
use Rattle.rows.specs.Raw.{laid}
use Rattle.rows.proofs.Reading.{joined, fill_more, fill_all}
use Rattle.rows.proofs.read.fill.Goals as goal

pub loop-i-preserved : goal.loop-i-preserved
loop-i-preserved c =
    let raws = c.as_chunks.result.0.now in
    let q = c.as_chunks.ensures.front_len in
    let l : c.loop-i.i < length c.loop-i.rows = omega arith in
    fill_more c.loop-i.rows raws c.loop-i.i c.from.result l c.loop-i-test.true c.from.ensures c.loop-i.invariant

pub returns-clause-laid : goal.returns-clause-laid
returns-clause-laid c =
    let raws = c.as_chunks.result.0.now in
    let h = c.loop-i-test.false in
    let z : length c.as_chunks.result.0.now ≡ c.loop-i.i = omega arith in
    ap (λ (k : ℕ). laid (take k c.loop-i.rows)) z ∙ c.loop-i.invariant ∙ ap joined (take_all c.loop-i.i raws h ∙ c.as_chunks.ensures.front)
    ∙ fill_all c.args.body.now c.requires.0.2
