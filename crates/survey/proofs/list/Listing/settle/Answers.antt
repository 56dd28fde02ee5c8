use Rattle.survey.proofs.list.Listing.settle.Goals as goal

pub returns-clause-settled : goal.returns-clause-settled
returns-clause-settled g c d =
    record {
      place = c.least-place.result;
      low = c.least-place.ensures.low;
      high = c.least-place.ensures.high;
      least = λ k lo hi.
          let low = c.least-place.ensures.high in
          c.tied.ensures.up _ _ (c.requires.good c.least-place.result d low) (c.requires.good k d hi) (c.least-place.ensures.least k d lo hi);
      to = c.swap.ensures.by_index.0 d;
      back = c.swap.ensures.by_index.1 d;
      there = λ j p q. c.swap.ensures.by_index.2 j d p q;
    }
