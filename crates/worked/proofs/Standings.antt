-- The exact standings, by a test that computes.
use Rattle.std.proofs.Common.{[], ◌∷◌, refl}
use Rattle.forest.specs.Forest.{nil, text, node}
use Rattle.rows.specs.declared.row.Row.TheVariants.{Empty as empty, Text as row-text, Named as named, Any as any, Seq as seq, Alt as alt, Many as many, Def as def}
use Rattle.rows.specs.Sheet.{Sheet}
use Rattle.sheet.specs.Meaning.{of_def, in_def}
use Rattle.sheet.proofs.Rows.{follows_row}
use Rattle.sheet.proofs.Tests.{nullable, opening, closing, following}
use Rattle.worked.specs.Standings.{Standings, AsExpression}
use Rattle.worked.proofs.Invert.{admits_row}
use Rattle.worked.proofs.Made.{stands_exactly}

abbrev sheet_pairs : Sheet
sheet_pairs = row-text ∷ (named 1 1) ∷ (seq 0 1) ∷ (many 2) ∷ (def 3) ∷ empty ∷ (def 5) ∷ []

abbrev sheet_mix : Sheet
sheet_mix = row-text ∷ (named 1 1) ∷ (alt 0 1) ∷ (many 2) ∷ (def 3) ∷ empty ∷ (def 5) ∷ []

abbrev sheet_in_a_row : Sheet
sheet_in_a_row = row-text ∷ (named 1 1) ∷ (seq 0 1) ∷ (named 2 1) ∷ (seq 2 3) ∷ (def 4) ∷ empty ∷ (def 6) ∷ []

abbrev sheet_either_pair : Sheet
sheet_either_pair = row-text ∷ (named 1 1) ∷ (seq 0 1) ∷ (named 2 1) ∷ row-text ∷ (seq 3 4) ∷ (alt 2 5) ∷ (def 6) ∷ empty ∷ (def 8) ∷ []

abbrev sheet_nested : Sheet
sheet_nested = (named 1 0) ∷ (many 0) ∷ row-text ∷ (alt 1 2) ∷ (def 3) ∷ []

abbrev sheet_any_then_texts : Sheet
sheet_any_then_texts = (any 1) ∷ row-text ∷ (many 1) ∷ (seq 0 2) ∷ (def 3) ∷ row-text ∷ empty ∷ (alt 5 6) ∷ (def 7) ∷ []

pub standings : Standings
unfolding nullable closing opening following
standings =
    record {
      nothing_over_pairs = stands_exactly sheet_pairs nil refl refl refl refl refl;
      two_pairs_over_pairs = stands_exactly sheet_pairs (text [] (node 1 nil (text [] (node 1 nil nil)))) refl refl refl refl refl;
      n1_two_pairs_over_pairs = stands_exactly sheet_pairs (node 1 nil (text [] (node 1 nil (text [] (node 1 nil nil))))) refl refl refl refl refl;
      n1_text_over_pairs = stands_exactly sheet_pairs (node 1 nil (text [] nil)) refl refl refl refl refl;
      node_257_over_pairs = stands_exactly sheet_pairs (node 257 nil nil) refl refl refl refl refl;
      nothing_over_mix = stands_exactly sheet_mix nil refl refl refl refl refl;
      a_text_over_mix = stands_exactly sheet_mix (text [] nil) refl refl refl refl refl;
      text_n1_text_over_mix = stands_exactly sheet_mix (text [] (node 1 nil (text [] nil))) refl refl refl refl refl;
      full_1_over_mix = stands_exactly sheet_mix (node 1 (text [] nil) nil) refl refl refl refl refl;
      node_2_over_mix = stands_exactly sheet_mix (node 2 nil nil) refl refl refl refl refl;
      text_n1_n2_over_in_a_row = stands_exactly sheet_in_a_row (text [] (node 1 nil (node 2 nil nil))) refl refl refl refl refl;
      n1_n2_over_in_a_row = stands_exactly sheet_in_a_row (node 1 nil (node 2 nil nil)) refl refl refl refl refl;
      node_1_over_in_a_row = stands_exactly sheet_in_a_row (node 1 nil nil) refl refl refl refl refl;
      node_2_over_in_a_row = stands_exactly sheet_in_a_row (node 2 nil nil) refl refl refl refl refl;
      n_over_either_pair = stands_exactly sheet_either_pair (text (78 ∷ []) nil) refl refl refl refl refl;
      text_n1_over_either_pair = stands_exactly sheet_either_pair (text [] (node 1 nil nil)) refl refl refl refl refl;
      n2_text_over_either_pair = stands_exactly sheet_either_pair (node 2 nil (text [] nil)) refl refl refl refl refl;
      node_1_over_either_pair = stands_exactly sheet_either_pair (node 1 nil nil) refl refl refl refl refl;
      n1_text_over_nested = stands_exactly sheet_nested (node 1 nil (text [] nil)) refl refl refl refl refl;
      deep_over_nested = stands_exactly sheet_nested (node 1 (node 1 (text [] nil) nil) (node 1 nil nil)) refl refl refl refl refl;
      nothing_over_nested = stands_exactly sheet_nested nil refl refl refl refl refl;
      nothing_over_any_then_texts = stands_exactly sheet_any_then_texts nil refl refl refl refl refl;
      node_2_over_any_then_texts = stands_exactly sheet_any_then_texts (node 2 nil nil) refl refl refl refl refl;
      full_1_texts_over_any_then_texts = stands_exactly sheet_any_then_texts (node 1 (text [] nil) (text [] (text [] nil))) refl refl refl refl refl;
      three_texts_over_any_then_texts = stands_exactly sheet_any_then_texts (text [] (text [] (text [] nil))) refl refl refl refl refl;
      n1_n2_over_any_then_texts = stands_exactly sheet_any_then_texts (node 1 nil (node 2 nil nil)) refl refl refl refl refl;
      node_1_in_1_over_any_then_texts = stands_exactly sheet_any_then_texts (node 1 (node 1 nil nil) nil) refl refl refl refl refl;
    }

pub as_expression : AsExpression
as_expression =
    record {
      admits = λ s e x f i. (λ a. rw i at (admits_row a), λ a. of_def i a);
      follows = λ s p e x f i. (λ a. rw i at (follows_row a), λ a. in_def i a);
    }
