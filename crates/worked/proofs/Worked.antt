-- The worked examples, by tests that compute.
use Rattle.std.proofs.Common.{[], ◌∷◌, refl, inl, inr}
use Rattle.forest.specs.Forest.{Forest, nil, text, node}
use Rattle.rows.specs.declared.row.Row.TheVariants.{Empty as empty, Text as row-text, Named as named, Any as any, Seq as seq, Alt as alt, Def as def}
use Rattle.rows.specs.Sheet.{Sheet}
use Rattle.sheet.proofs.Tests.{nullable, opening, closing, following}
use Rattle.worked.specs.Examples.{Worked}
use Rattle.worked.proofs.Made.{made_sheet, stands_for, belongs, stays_out, exactly}

abbrev pub sheet_only_empty : Sheet
sheet_only_empty = empty ∷ (def 0) ∷ []

abbrev pub sheet_one_text : Sheet
sheet_one_text = row-text ∷ (def 0) ∷ []

abbrev pub sheet_endless : Sheet
sheet_endless = (named 11 0) ∷ (def 0) ∷ []

abbrev pub sheet_any_node : Sheet
sheet_any_node = (any 1) ∷ (def 0) ∷ empty ∷ (def 2) ∷ []

abbrev pub sheet_node_10 : Sheet
sheet_node_10 = (named 10 1) ∷ (def 0) ∷ empty ∷ (def 2) ∷ []

abbrev pub sheet_S1 : Sheet
sheet_S1 = (named 10 1) ∷ (def 0) ∷ (named 11 2) ∷ (def 2) ∷ row-text ∷ (def 4) ∷ []

abbrev pub sheet_S2 : Sheet
sheet_S2 = (named 10 1) ∷ (def 0) ∷ (named 11 2) ∷ (named 12 2) ∷ empty ∷ (alt 3 4) ∷ (seq 2 5) ∷ (def 6) ∷ row-text ∷ (def 8) ∷ []

abbrev pub sheet_S3 : Sheet
sheet_S3 = (named 10 1) ∷ (def 0) ∷ (named 11 2) ∷ (named 12 2) ∷ (seq 2 3) ∷ (def 4) ∷ row-text ∷ (def 6) ∷ []

abbrev pub forest_r : Forest
forest_r = node 10 (node 11 (text (78 ∷ []) nil) nil) nil

abbrev pub forest_both : Forest
forest_both = node 10 (node 11 (text [] nil) (node 12 (text [] nil) nil)) nil

pub worked : Worked
unfolding nullable closing opening following
worked =
    record {
      nothing_in_only_empty = belongs sheet_only_empty nil 1 0 refl refl refl refl refl refl refl;
      nothing_not_in_one_text = stays_out sheet_one_text nil 1 0 refl refl refl refl refl refl refl;
      a_text_in_one_text = belongs sheet_one_text (text [] nil) 1 0 refl refl refl refl refl refl refl;
      a_text_not_in_only_empty = stays_out sheet_only_empty (text [] nil) 1 0 refl refl refl refl refl refl refl;
      two_texts_not_in_one_text = stays_out sheet_one_text (text [] (text [] nil)) 1 0 refl refl refl refl refl refl refl;
      r_in_S1 = belongs sheet_S1 forest_r 1 0 refl refl refl refl refl refl refl;
      r_in_S2 = belongs sheet_S2 forest_r 1 0 refl refl refl refl refl refl refl;
      r_not_in_S3 = stays_out sheet_S3 forest_r 1 0 refl refl refl refl refl refl refl;
      both_in_S2 = belongs sheet_S2 forest_both 1 0 refl refl refl refl refl refl refl;
      both_in_S3 = belongs sheet_S3 forest_both 1 0 refl refl refl refl refl refl refl;
      both_not_in_S1 = stays_out sheet_S1 forest_both 1 0 refl refl refl refl refl refl refl;
      node_1_in_any_node = belongs sheet_any_node (node 1 nil nil) 1 0 refl refl refl refl refl refl refl;
      node_1_not_in_node_10 = stays_out sheet_node_10 (node 1 nil nil) 1 0 refl refl refl refl refl refl refl;
      node_11_not_in_endless = stays_out sheet_endless (node 11 nil nil) 1 0 refl refl refl refl refl refl refl;
      nothing_over_one_text = record {
        rows = sheet_one_text;
        is_sheet = made_sheet sheet_one_text refl refl;
        only = λ q.
            let x = exactly sheet_one_text (made_sheet sheet_one_text refl refl).passes.sound nil (0 ∷ []) refl q in
            (λ h. elim (x.0 h) [ inl e ↦ e | inr z ↦ absurd z ], λ e. x.1 (inl e));
      };
      length_of_r = record { forest = forest_r; stands_for = stands_for forest_r refl refl; cost_is = refl };
      filling_of_r = record { forest = forest_r; stands_for = stands_for forest_r refl refl; cost_is = refl };
    }
