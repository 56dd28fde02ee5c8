use Rattle.std.proofs.Common.{length, subst}
use Rattle.sheet.specs.declared.sound.SoundSheet.{SoundSheet}
use Rattle.sheet.specs.Held.{rows_of}
use Rattle.judge.specs.Judged.{Judged}
use Rattle.judge.proofs.Telling.{judged, unbegun}
use Rattle.judge.proofs.judge.Goals as goal

pub returns : goal.returns
returns g c =
    let m = g.M.Measure.model c.args.measure.now in
    let p = c.of-pair.result in
    let n = length c.args.list.now in
    let r = c.judge_by.result in
    let before = c.args.show.now in
    let after = c.judge_by.new.out in
    record {
      judged =
          subst (λ (s : SoundSheet). Judged m (rows_of s) (rows_of c.args.new.now) n r before after) c.of-pair.ensures.old
          (subst (λ (s : SoundSheet). Judged m (rows_of p.old) (rows_of s) n r before after) c.of-pair.ensures.new
          (judged p m before after n c.args.list.now c.judge_by.new.list r c.judge_by.ensures));
      unbegun = unbegun p m before after n c.args.list.now c.judge_by.new.list r c.judge_by.ensures;
    }
