-- Exact standings, by the very bytes: which definitions a record belongs to and which leaves it may follow, and no others.
use Rattle.std.specs.Prelude.{◌≡◌, ℕ, ◌↔◌, List, [], ◌∷◌}
use Rattle.std.proofs.Math.Option.{some}
use Rattle.forest.specs.Forest.{Forest}
use Rattle.rows.specs.Sheet.{Sheet, at}
use Rattle.rows.specs.declared.row.Row.TheVariants.{Def as def}
use Rattle.sheet.specs.Meaning.{Admits, Follows}
use Rattle.worked.specs.Examples.{StandsExactly, nothing, a_text, node_1}

-- Sheets. A node of theirs holds nothing unless it says what it holds.

-- (text, 1[])*.
abbrev pub pairs : List ℕ
pairs =
    1 ∷ 0 ∷ 0 ∷ 0 ∷ 2 ∷ 0 ∷ 1 ∷ 1 ∷ 4 ∷ 0 ∷ 1 ∷ 0 ∷ 6 ∷ 2 ∷ 0 ∷ 0 ∷ 7 ∷ 3 ∷ 0 ∷ 0 ∷ 0 ∷ 0 ∷ 0 ∷ 0 ∷ 7 ∷ 5 ∷ 0 ∷ 0 ∷ []

-- (text or 1[])*.
abbrev pub mix : List ℕ
mix =
    1 ∷ 0 ∷ 0 ∷ 0 ∷ 2 ∷ 0 ∷ 1 ∷ 1 ∷ 5 ∷ 0 ∷ 1 ∷ 0 ∷ 6 ∷ 2 ∷ 0 ∷ 0 ∷ 7 ∷ 3 ∷ 0 ∷ 0 ∷ 0 ∷ 0 ∷ 0 ∷ 0 ∷ 7 ∷ 5 ∷ 0 ∷ 0 ∷ []

-- (text, 1[]), 2[].
abbrev pub in_a_row : List ℕ
in_a_row =
    1 ∷ 0 ∷ 0 ∷ 0 ∷ 2 ∷ 0 ∷ 1 ∷ 1 ∷ 4 ∷ 0 ∷ 1 ∷ 0 ∷ 2 ∷ 0 ∷ 2 ∷ 1 ∷ 4 ∷ 2 ∷ 3 ∷ 0 ∷ 7 ∷ 4 ∷ 0 ∷ 0 ∷ 0 ∷ 0 ∷ 0 ∷ 0 ∷ 7 ∷ 6 ∷ 0 ∷ 0 ∷ []

-- (text, 1[]) or (2[], text).
abbrev pub either_pair : List ℕ
either_pair =
    1 ∷ 0 ∷ 0 ∷ 0 ∷ 2 ∷ 0 ∷ 1 ∷ 1 ∷ 4 ∷ 0 ∷ 1 ∷ 0 ∷ 2 ∷ 0 ∷ 2 ∷ 1 ∷ 1 ∷ 0 ∷ 0 ∷ 0 ∷ 4 ∷ 3 ∷ 4 ∷ 0 ∷ 5 ∷ 2 ∷ 5 ∷ 0 ∷ 7 ∷ 6 ∷ 0 ∷ 0 ∷ 0 ∷ 0 ∷ 0 ∷ 0 ∷ 7 ∷ 8 ∷ 0 ∷ 0 ∷ []

-- Definition 0 is (1[definition 0])* or text.
abbrev pub nested : List ℕ
nested =
    2 ∷ 0 ∷ 1 ∷ 0 ∷ 6 ∷ 0 ∷ 0 ∷ 0 ∷ 1 ∷ 0 ∷ 0 ∷ 0 ∷ 5 ∷ 1 ∷ 2 ∷ 0 ∷ 7 ∷ 3 ∷ 0 ∷ 0 ∷ []

-- A node of any label that holds a text or nothing, then text*.
abbrev pub any_then_texts : List ℕ
any_then_texts =
    3 ∷ 0 ∷ 0 ∷ 1 ∷ 1 ∷ 0 ∷ 0 ∷ 0 ∷ 6 ∷ 1 ∷ 0 ∷ 0 ∷ 4 ∷ 0 ∷ 2 ∷ 0 ∷ 7 ∷ 3 ∷ 0 ∷ 0 ∷ 1 ∷ 0 ∷ 0 ∷ 0 ∷ 0 ∷ 0 ∷ 0 ∷ 0 ∷ 5 ∷ 5 ∷ 6 ∷ 0 ∷ 7 ∷ 7 ∷ 0 ∷ 0 ∷ []

-- Records.

-- "N".
abbrev pub N : List ℕ
N = 3 ∷ 1 ∷ 78 ∷ []

-- Three empty texts.
abbrev pub three_texts : List ℕ
three_texts = 3 ∷ 0 ∷ 3 ∷ 0 ∷ 3 ∷ 0 ∷ []

-- 2[].
abbrev pub node_2 : List ℕ
node_2 = 1 ∷ 0 ∷ 2 ∷ 2 ∷ []

-- 257[], written 01 01 01 02.
abbrev pub node_257 : List ℕ
node_257 = 1 ∷ 1 ∷ 1 ∷ 2 ∷ []

-- 1[""].
abbrev pub full_1 : List ℕ
full_1 = 1 ∷ 0 ∷ 1 ∷ 3 ∷ 0 ∷ 2 ∷ []

-- 1[1[]].
abbrev pub node_1_in_1 : List ℕ
node_1_in_1 = 1 ∷ 0 ∷ 1 ∷ 1 ∷ 0 ∷ 1 ∷ 2 ∷ 2 ∷ []

-- 1[1[""]], 1[].
abbrev pub deep : List ℕ
deep = 1 ∷ 0 ∷ 1 ∷ 1 ∷ 0 ∷ 1 ∷ 3 ∷ 0 ∷ 2 ∷ 2 ∷ 1 ∷ 0 ∷ 1 ∷ 2 ∷ []

-- 1[], 2[].
abbrev pub n1_n2 : List ℕ
n1_n2 = 1 ∷ 0 ∷ 1 ∷ 2 ∷ 1 ∷ 0 ∷ 2 ∷ 2 ∷ []

-- 1[], "".
abbrev pub n1_text : List ℕ
n1_text = 1 ∷ 0 ∷ 1 ∷ 2 ∷ 3 ∷ 0 ∷ []

-- 2[], "".
abbrev pub n2_text : List ℕ
n2_text = 1 ∷ 0 ∷ 2 ∷ 2 ∷ 3 ∷ 0 ∷ []

-- "", 1[].
abbrev pub text_n1 : List ℕ
text_n1 = 3 ∷ 0 ∷ 1 ∷ 0 ∷ 1 ∷ 2 ∷ []

-- "", 1[], 2[].
abbrev pub text_n1_n2 : List ℕ
text_n1_n2 = 3 ∷ 0 ∷ 1 ∷ 0 ∷ 1 ∷ 2 ∷ 1 ∷ 0 ∷ 2 ∷ 2 ∷ []

-- "", 1[], "".
abbrev pub text_n1_text : List ℕ
text_n1_text = 3 ∷ 0 ∷ 1 ∷ 0 ∷ 1 ∷ 2 ∷ 3 ∷ 0 ∷ []

-- "", 1[], "", 1[].
abbrev pub two_pairs : List ℕ
two_pairs = 3 ∷ 0 ∷ 1 ∷ 0 ∷ 1 ∷ 2 ∷ 3 ∷ 0 ∷ 1 ∷ 0 ∷ 1 ∷ 2 ∷ []

-- 1[], "", 1[], "", 1[].
abbrev pub n1_two_pairs : List ℕ
n1_two_pairs = 1 ∷ 0 ∷ 1 ∷ 2 ∷ 3 ∷ 0 ∷ 1 ∷ 0 ∷ 1 ∷ 2 ∷ 3 ∷ 0 ∷ 1 ∷ 0 ∷ 1 ∷ 2 ∷ []

-- 1[""], "", "".
abbrev pub full_1_texts : List ℕ
full_1_texts = 1 ∷ 0 ∷ 1 ∷ 3 ∷ 0 ∷ 2 ∷ 3 ∷ 0 ∷ 3 ∷ 0 ∷ []

-- By the numbers of the rows.
pub record Standings : Type 0 where
  pub nothing_over_pairs : StandsExactly pairs nothing (1 ∷ 4 ∷ 6 ∷ [])
  pub two_pairs_over_pairs : StandsExactly pairs two_pairs (1 ∷ 4 ∷ [])
  pub n1_two_pairs_over_pairs : StandsExactly pairs n1_two_pairs (0 ∷ [])
  pub n1_text_over_pairs : StandsExactly pairs n1_text []
  pub node_257_over_pairs : StandsExactly pairs node_257 []
  pub nothing_over_mix : StandsExactly mix nothing (0 ∷ 1 ∷ 4 ∷ 6 ∷ [])
  pub a_text_over_mix : StandsExactly mix a_text (0 ∷ 1 ∷ 4 ∷ [])
  pub text_n1_text_over_mix : StandsExactly mix text_n1_text (0 ∷ 1 ∷ 4 ∷ [])
  pub full_1_over_mix : StandsExactly mix full_1 []
  pub node_2_over_mix : StandsExactly mix node_2 []
  pub text_n1_n2_over_in_a_row : StandsExactly in_a_row text_n1_n2 (5 ∷ [])
  pub n1_n2_over_in_a_row : StandsExactly in_a_row n1_n2 (0 ∷ [])
  pub node_1_over_in_a_row : StandsExactly in_a_row node_1 []
  pub node_2_over_in_a_row : StandsExactly in_a_row node_2 (1 ∷ [])
  pub n_over_either_pair : StandsExactly either_pair N (3 ∷ [])
  pub text_n1_over_either_pair : StandsExactly either_pair text_n1 (7 ∷ [])
  pub n2_text_over_either_pair : StandsExactly either_pair n2_text (7 ∷ [])
  pub node_1_over_either_pair : StandsExactly either_pair node_1 (0 ∷ [])
  pub n1_text_over_nested : StandsExactly nested n1_text []
  pub deep_over_nested : StandsExactly nested deep (0 ∷ 4 ∷ [])
  pub nothing_over_nested : StandsExactly nested nothing (0 ∷ 2 ∷ 4 ∷ [])
  pub nothing_over_any_then_texts : StandsExactly any_then_texts nothing (0 ∷ 1 ∷ 5 ∷ 8 ∷ [])
  pub node_2_over_any_then_texts : StandsExactly any_then_texts node_2 (4 ∷ [])
  pub full_1_texts_over_any_then_texts : StandsExactly any_then_texts full_1_texts (4 ∷ [])
  pub three_texts_over_any_then_texts : StandsExactly any_then_texts three_texts (0 ∷ 1 ∷ [])
  pub n1_n2_over_any_then_texts : StandsExactly any_then_texts n1_n2 []
  pub node_1_in_1_over_any_then_texts : StandsExactly any_then_texts node_1_in_1 []

-- The row of a definition admits what its expression admits, and within it the same may follow a leaf.
pub record AsExpression : Type 0 where
  pub admits : (s : Sheet) (e x : ℕ) (f : Forest) → at s e ≡ some (def x) → Admits s e f ↔ Admits s x f
  pub follows : (s : Sheet) (p e x : ℕ) (f : Forest) → at s e ≡ some (def x) → Follows s p e f ↔ Follows s p x f
