-- Sorts of forests, and what is lost, between sheets of the worked examples.
use Rattle.std.specs.Prelude.{ℕ, true, false, List, [], ◌∷◌, ◌++◌, replicate}
use Rattle.forest.specs.Forest.{Forest}
use Rattle.forest.specs.Reading.{StandsFor}
use Rattle.rows.specs.Sheet.{Sheet}
use Rattle.measure.specs.Lengths.{length_costs}
use Rattle.judge.specs.Judging.{MoreSorts, AllKept, Lost, Told}
use Rattle.worked.specs.Examples.{IsSheet, only_empty, one_text, endless, S1, S2, r, both}

-- Of the sheets of these bytes.
pub record Between (old new : List ℕ) (P : Sheet → Sheet → Type 0) : Type 0 where
  pub old_sheet : Sheet
  pub new_sheet : Sheet
  pub is_old : IsSheet old old_sheet
  pub is_new : IsSheet new new_sheet
  pub holds : P old_sheet new_sheet

-- The record of these bytes is lost, or not.
abbrev pub Loses : List ℕ → Sheet → Sheet → Type 0
Loses body old new = (f : Forest) × StandsFor body f × Lost old new f

abbrev pub Keeps : List ℕ → Sheet → Sheet → Type 0
Keeps body old new = (f : Forest) × StandsFor body f × (Lost old new f → ⊥)

pub record Judgements : Type 0 where
  -- Over the sheet that admits only the empty forest there are two sorts: the empty forest, and all others.
  pub more_than_one : Between only_empty only_empty (λ old new. MoreSorts old new 1)
  pub not_more_than_two : Between only_empty only_empty (λ old new. MoreSorts old new 2 → ⊥)
  -- Both sheets tell sorts apart: beside the empty forest, one text and all others, whichever sheet is the old one.
  pub more_than_two : Between only_empty one_text (λ old new. MoreSorts old new 2)
  pub more_than_two_back : Between one_text only_empty (λ old new. MoreSorts old new 2)
  pub none_to_lose : Between endless only_empty AllKept
  pub not_all_kept : Between only_empty one_text (λ old new. AllKept old new → ⊥)
  pub both_lost : Between S2 S1 (Loses both)
  pub r_kept : Between S2 S1 (Keeps r)
  pub both_not_lost_back : Between S1 S2 (Keeps both)
  -- From S2 to S1 a cheapest loss has length 16. In a buffer of 20 bytes it is shown, in one of 15 not.
  pub told : Between S2 S1 (λ old new. Told length_costs old new 16 16 true (replicate 20 9) (both ++ (9 ∷ 9 ∷ 9 ∷ 9 ∷ [])))
  pub told_unshown : Between S2 S1 (λ old new. Told length_costs old new 16 16 false (replicate 15 9) (replicate 15 9))
