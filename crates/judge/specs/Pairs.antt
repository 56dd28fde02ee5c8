-- Two sheets as a sorting of forests. Whoever calls the judge needs none of it.
use Rattle.forest.specs.Forest.{Proper}
use Rattle.sheet.specs.Meaning.{OfSheet}
use Rattle.sheet.specs.Standing.{IsStanding, AreLeaves, a_node}
use Rattle.sheet.specs.Held.{rows_of}
use Rattle.survey.specs.Sorting.{Model}
use Rattle.loss.specs.Losing.{Sides}
use Rattle.judge.specs.declared.pair.Pair.{Pair}

abbrev pub sorting_of : Pair → Model
sorting_of p = record {
  counts = Proper;
  has = λ f σ. IsStanding (rows_of p.old) σ.old f × IsStanding (rows_of p.new) σ.new f;
  has_leaves = λ l c ls. AreLeaves (rows_of p.old) ls.old (a_node l c) × AreLeaves (rows_of p.new) ls.new (a_node l c);
  labels = p.labels;
}

abbrev pub sides_of : Pair → Sides
sides_of p = record {
  lost = λ f. OfSheet (rows_of p.old) f × (OfSheet (rows_of p.new) f → ⊥);
  kept = λ f. OfSheet (rows_of p.old) f → OfSheet (rows_of p.new) f;
}
