-- Worked examples: which records belong to which sheets, and what one costs, by their very bytes.
use Rattle.std.specs.Prelude.{◌≡◌, ℕ, ◌⊎◌, ◌↔◌, List, [], ◌∷◌}
use Rattle.forest.specs.Forest.{Forest, nil}
use Rattle.forest.specs.Reading.{StandsFor}
use Rattle.rows.specs.Sheet.{Sheet}
use Rattle.rows.specs.declared.raw.RawRow.{RawRow}
use Rattle.rows.specs.Raw.{Body, laid}
use Rattle.rows.specs.Checking.{Passes}
use Rattle.sheet.specs.Meaning.{OfSheet, Stands}
use Rattle.measure.specs.Measure.{Rules, cost_of}
use Rattle.measure.specs.Lengths.{length_rules}
use Rattle.measure.specs.Fillings.{filling_rules}

-- The body, read and checked, is the sound sheet.
pub record IsSheet (body : List ℕ) (s : Sheet) : Type 0 where
  pub is_body : Body body
  pub rows : List RawRow
  pub read : laid rows ≡ body
  pub passes : Passes rows s

-- The record of these bytes belongs to the sheet of these bytes, or does not.
pub record Belongs (sheet body : List ℕ) : Type 0 where
  pub rows : Sheet
  pub is_sheet : IsSheet sheet rows
  pub forest : Forest
  pub stands_for : StandsFor body forest
  pub of_sheet : OfSheet rows forest

pub record StaysOut (sheet body : List ℕ) : Type 0 where
  pub rows : Sheet
  pub is_sheet : IsSheet sheet rows
  pub forest : Forest
  pub stands_for : StandsFor body forest
  pub not_of_sheet : OfSheet rows forest → ⊥

-- The standing of the empty forest over the sheet of these bytes is row e alone.
pub record EmptyStandsOnly (sheet : List ℕ) (e : ℕ) : Type 0 where
  pub rows : Sheet
  pub is_sheet : IsSheet sheet rows
  pub only : (q : ℕ) → Stands rows nil q ↔ (q ≡ e)

-- The number is one of the listed.
abbrev pub Among : ℕ → List ℕ → Type 0
Among n [] = ⊥
Among n (x ∷ xs) = (n ≡ x) ⊎ Among n xs

-- The standing of the record of these bytes over the sheet of these bytes is these rows, and no others.
pub record StandsExactly (sheet body rows : List ℕ) : Type 0 where
  pub the_sheet : Sheet
  pub is_sheet : IsSheet sheet the_sheet
  pub forest : Forest
  pub stands_for : StandsFor body forest
  pub exactly : (q : ℕ) → Stands the_sheet forest q ↔ Among q rows

-- By the rules of a measure, the record of these bytes costs this.
pub record Costs {C : Type 0} (rules : Rules C) (body : List ℕ) (cost : C) : Type 0 where
  pub forest : Forest
  pub stands_for : StandsFor body forest
  pub cost_is : cost_of rules forest ≡ cost

-- 00000000 07000000: the empty forest.
abbrev pub only_empty : List ℕ
only_empty =
    0 ∷ 0 ∷ 0 ∷ 0 ∷ 7 ∷ 0 ∷ 0 ∷ 0 ∷ []

-- One text.
abbrev pub one_text : List ℕ
one_text =
    1 ∷ 0 ∷ 0 ∷ 0 ∷ 7 ∷ 0 ∷ 0 ∷ 0 ∷ []

-- Its only definition is a node 11 of itself.
abbrev pub endless : List ℕ
endless =
    2 ∷ 0 ∷ 11 ∷ 0 ∷ 7 ∷ 0 ∷ 0 ∷ 0 ∷ []

-- One node of any label with nothing in it.
abbrev pub any_node : List ℕ
any_node =
    3 ∷ 0 ∷ 0 ∷ 1 ∷ 7 ∷ 0 ∷ 0 ∷ 0 ∷ 0 ∷ 0 ∷ 0 ∷ 0 ∷ 7 ∷ 2 ∷ 0 ∷ 0 ∷ []

-- The same with label 10.
abbrev pub node_10 : List ℕ
node_10 =
    2 ∷ 0 ∷ 10 ∷ 1 ∷ 7 ∷ 0 ∷ 0 ∷ 0 ∷ 0 ∷ 0 ∷ 0 ∷ 0 ∷ 7 ∷ 2 ∷ 0 ∷ 0 ∷ []

-- 10[11[text]].
abbrev pub S1 : List ℕ
S1 =
    2 ∷ 0 ∷ 10 ∷ 1 ∷ 7 ∷ 0 ∷ 0 ∷ 0 ∷ 2 ∷ 0 ∷ 11 ∷ 2 ∷ 7 ∷ 2 ∷ 0 ∷ 0 ∷ 1 ∷ 0 ∷ 0 ∷ 0 ∷ 7 ∷ 4 ∷ 0 ∷ 0 ∷ []

-- 10[11[text], (12[text] or nothing)].
abbrev pub S2 : List ℕ
S2 =
    2 ∷ 0 ∷ 10 ∷ 1 ∷ 7 ∷ 0 ∷ 0 ∷ 0 ∷ 2 ∷ 0 ∷ 11 ∷ 2 ∷ 2 ∷ 0 ∷ 12 ∷ 2 ∷ 0 ∷ 0 ∷ 0 ∷ 0 ∷ 5 ∷ 3 ∷ 4 ∷ 0 ∷ 4 ∷ 2 ∷ 5 ∷ 0 ∷ 7 ∷ 6 ∷ 0 ∷ 0 ∷ 1 ∷ 0 ∷ 0 ∷ 0 ∷ 7 ∷ 8 ∷ 0 ∷ 0 ∷ []

-- 10[11[text], 12[text]].
abbrev pub S3 : List ℕ
S3 =
    2 ∷ 0 ∷ 10 ∷ 1 ∷ 7 ∷ 0 ∷ 0 ∷ 0 ∷ 2 ∷ 0 ∷ 11 ∷ 2 ∷ 2 ∷ 0 ∷ 12 ∷ 2 ∷ 4 ∷ 2 ∷ 3 ∷ 0 ∷ 7 ∷ 4 ∷ 0 ∷ 0 ∷ 1 ∷ 0 ∷ 0 ∷ 0 ∷ 7 ∷ 6 ∷ 0 ∷ 0 ∷ []

-- The empty forest.
abbrev pub nothing : List ℕ
nothing = []

-- One empty text.
abbrev pub a_text : List ℕ
a_text = 3 ∷ 0 ∷ []

-- Two empty texts.
abbrev pub two_texts : List ℕ
two_texts = 3 ∷ 0 ∷ 3 ∷ 0 ∷ []

-- 10[11["N"]].
abbrev pub r : List ℕ
r = 1 ∷ 0 ∷ 10 ∷ 1 ∷ 0 ∷ 11 ∷ 3 ∷ 1 ∷ 78 ∷ 2 ∷ 2 ∷ []

-- 10[11[""], 12[""]].
abbrev pub both : List ℕ
both = 1 ∷ 0 ∷ 10 ∷ 1 ∷ 0 ∷ 11 ∷ 3 ∷ 0 ∷ 2 ∷ 1 ∷ 0 ∷ 12 ∷ 3 ∷ 0 ∷ 2 ∷ 2 ∷ []

-- 1[].
abbrev pub node_1 : List ℕ
node_1 = 1 ∷ 0 ∷ 1 ∷ 2 ∷ []

-- 11[].
abbrev pub node_11 : List ℕ
node_11 = 1 ∷ 0 ∷ 11 ∷ 2 ∷ []

pub record Worked : Type 0 where
  pub nothing_in_only_empty : Belongs only_empty nothing
  pub nothing_not_in_one_text : StaysOut one_text nothing
  pub a_text_in_one_text : Belongs one_text a_text
  pub a_text_not_in_only_empty : StaysOut only_empty a_text
  pub two_texts_not_in_one_text : StaysOut one_text two_texts
  pub r_in_S1 : Belongs S1 r
  pub r_in_S2 : Belongs S2 r
  pub r_not_in_S3 : StaysOut S3 r
  pub both_in_S2 : Belongs S2 both
  pub both_in_S3 : Belongs S3 both
  pub both_not_in_S1 : StaysOut S1 both
  pub node_1_in_any_node : Belongs any_node node_1
  pub node_1_not_in_node_10 : StaysOut node_10 node_1
  pub node_11_not_in_endless : StaysOut endless node_11
  pub nothing_over_one_text : EmptyStandsOnly one_text 0
  pub length_of_r : Costs length_rules r 11
  pub filling_of_r : Costs filling_rules r (1, 11)
