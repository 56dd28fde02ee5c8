use Rattle.law.proofs.Counting.{counts_up, reads, within}
use Rattle.law.proofs.Determined.{one_answer}
use Rattle.law.proofs.season_follows.Goals as goal

pub returns : goal.returns
returns g c =
    let model = g.M.Measure.model in
    record {
      newest_reads = λ rows bytes h l. reads model rows bytes h l;
      counts_up = λ rows bytes h l. counts_up model rows bytes h l;
      within = λ rows bytes h l. within model rows bytes h l;
      one_answer = λ rows bytes h l. one_answer model rows bytes h l;
    }
