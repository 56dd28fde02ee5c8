-- Bodies that are refused, each with the number and place that are due, and what is just not refused.
use Rattle.std.specs.Prelude.{◌≡◌, ℕ, zero, suc, ◌+◌, ◌-◌, List, [], ◌∷◌, ◌++◌, length, replicate}
use Rattle.forest.specs.Forest.{Forest, nil, text, node, Bytes, Proper, bytes_of, Record}
use Rattle.forest.specs.Reading as reading
use Rattle.forest.specs.Reading.{StandsFor}
use Rattle.rows.specs.declared.row.Row.TheVariants.{Text as one_text, Named as named, Seq as seq, Many as many, Def as def}
use Rattle.rows.specs.Sheet.{Sheet, Sound}
use Rattle.rows.specs.declared.raw.RawRow.{RawRow}
use Rattle.rows.specs.Raw.{Body, laid}
use Rattle.rows.specs.Checking as checking
use Rattle.worked.specs.Examples.{IsSheet}

-- So many openings of a node 1 before the bytes, and the forest in so many nodes.
abbrev pub opened : ℕ → List ℕ → List ℕ
opened zero s = s
opened (suc n) s = 1 ∷ (0 ∷ (1 ∷ opened n s))

abbrev pub nodes : ℕ → Forest → Forest
nodes zero f = f
nodes (suc n) f = node 1 (nodes n f) nil

-- So many nodes 1 side by side.
abbrev pub all_beside : ℕ → List ℕ
all_beside zero = []
all_beside (suc n) = 1 ∷ (0 ∷ (1 ∷ (2 ∷ all_beside n)))

abbrev pub beside : ℕ → Forest
beside zero = nil
beside (suc n) = node 1 nil (beside n)

-- So many texts of 255 bytes before a rest.
abbrev pub texts : ℕ → Forest → Forest
texts zero f = f
texts (suc n) f = text (replicate 255 7) (texts n f)

-- A forest that is written with 4,096 bytes.
abbrev pub longest : Forest
longest = texts 15 (text (replicate 239 7) nil)

-- Records at the bounds.
pub record JustRead : Type 0 where
  pub longest_text : StandsFor (3 ∷ (255 ∷ replicate 255 255)) (text (replicate 255 255) nil)
  pub highest_label : StandsFor (1 ∷ 255 ∷ 255 ∷ 2 ∷ []) (node 65535 nil nil)
  pub label_high_first : StandsFor (1 ∷ 1 ∷ 2 ∷ 2 ∷ []) (node 258 nil nil)
  pub deepest : StandsFor (opened 64 (replicate 64 2)) (nodes 64 nil)
  pub longest_is_a_record : Record longest
  pub longest_length : length (bytes_of longest) ≡ 4096
  pub beside_65 : StandsFor (all_beside 65) (beside 65)
  pub two_texts_side_by_side : StandsFor (3 ∷ 1 ∷ 5 ∷ 3 ∷ 1 ∷ 6 ∷ []) (text (5 ∷ []) (text (6 ∷ []) nil))
  pub content_then_rest : StandsFor (1 ∷ 0 ∷ 9 ∷ 3 ∷ 0 ∷ 2 ∷ 1 ∷ 0 ∷ 8 ∷ 2 ∷ []) (node 9 (text [] nil) (node 8 nil nil))
  -- What is written is bytes.
  pub written_in_bytes : (f : Forest) → Proper f → Bytes (bytes_of f)

-- Record bodies that are refused, by number and place.
pub record ReadingRefused : Type 0 where
  pub one_byte_too_long : reading.Due (replicate 4097 3) 3 0
  pub cut_after_01 : reading.Due (1 ∷ []) 4 0
  pub cut_in_label : reading.Due (3 ∷ 0 ∷ 1 ∷ 0 ∷ []) 4 2
  pub cut_after_03 : reading.Due (3 ∷ 0 ∷ 3 ∷ []) 4 2
  pub cut_in_text : reading.Due (1 ∷ 0 ∷ 1 ∷ 3 ∷ 2 ∷ 78 ∷ []) 4 3
  pub mark_00 : reading.Due (0 ∷ []) 5 0
  pub mark_04 : reading.Due (3 ∷ 1 ∷ 9 ∷ 4 ∷ []) 5 3
  pub label_0 : reading.Due (1 ∷ 0 ∷ 1 ∷ 1 ∷ 0 ∷ 0 ∷ 2 ∷ 2 ∷ []) 6 3
  pub none_open : reading.Due (1 ∷ 0 ∷ 1 ∷ 2 ∷ 2 ∷ []) 7 4
  pub still_open : reading.Due (1 ∷ 0 ∷ 1 ∷ 3 ∷ 0 ∷ []) 7 5
  pub node_65 : reading.Due (opened 65 (replicate 65 2)) 8 192
  -- At one byte 4 comes before 6 and 6 before 8.
  pub cut_before_label_0 : reading.Due (1 ∷ 0 ∷ []) 4 0
  pub cut_before_depth : reading.Due (opened 64 (1 ∷ 0 ∷ [])) 4 192
  pub label_0_before_depth : reading.Due (opened 64 (1 ∷ 0 ∷ 0 ∷ [])) 6 192
  -- The length comes before everything inside.
  pub length_first : reading.Due (0 ∷ replicate 4096 0) 3 0

-- The sheet body is refused with this number and place: 9, or what is due of its rows.
pub data SheetRefused (body : List ℕ) : (number place : ℕ) → Type 0 where
  no_rows : (Body body → ⊥) → SheetRefused body 9 0
  bad_rows : {raws : List RawRow} {n p : ℕ} → Body body → laid raws ≡ body → checking.Due raws n p → SheetRefused body n p

-- So many definitions of one text each, the first of them in this row and the next.
abbrev pub text_definitions : ℕ → ℕ → List ℕ
text_definitions zero row = []
text_definitions (suc n) row = 1 ∷ 0 ∷ 0 ∷ 0 ∷ 7 ∷ row ∷ 0 ∷ 0 ∷ text_definitions n (row + 2)

-- The bytes of so many texts, the first of them in this row, each joined to what stands below it.
abbrev pub texts_after : ℕ → ℕ → List ℕ
texts_after zero row = []
texts_after (suc n) row = 1 ∷ 0 ∷ 0 ∷ 0 ∷ 4 ∷ (row - 1) ∷ row ∷ 0 ∷ texts_after n (row + 2)

-- The rows of so many texts, the first of them in this row, each joined to what stands below it, before the rest.
abbrev pub joined_texts : ℕ → ℕ → Sheet → Sheet
joined_texts zero row rest = rest
joined_texts (suc n) row rest = one_text ∷ (seq (row - 1) row ∷ joined_texts n (row + 2) rest)

-- The sheet body passes.
abbrev pub Passing : List ℕ → Type 0
Passing body = (s : Sheet) × IsSheet body s

pub record SheetsRefused : Type 0 where
  pub no_bytes : SheetRefused [] 9 0
  pub five_bytes : SheetRefused (0 ∷ 0 ∷ 0 ∷ 0 ∷ 0 ∷ []) 9 0
  pub rows_129 : SheetRefused (replicate 516 0) 9 0
  pub rows_128 : Body (replicate 512 0)
  -- A kind above 07, each fixed 00 broken, and label 0.
  pub kind_8 : SheetRefused (0 ∷ 0 ∷ 0 ∷ 0 ∷ 8 ∷ 0 ∷ 0 ∷ 0 ∷ []) 10 1
  pub empty_first : SheetRefused (0 ∷ 1 ∷ 0 ∷ 0 ∷ []) 10 0
  pub empty_second : SheetRefused (0 ∷ 0 ∷ 1 ∷ 0 ∷ []) 10 0
  pub empty_third : SheetRefused (0 ∷ 0 ∷ 0 ∷ 1 ∷ []) 10 0
  pub text_first : SheetRefused (1 ∷ 1 ∷ 0 ∷ 0 ∷ []) 10 0
  pub text_second : SheetRefused (1 ∷ 0 ∷ 1 ∷ 0 ∷ []) 10 0
  pub text_third : SheetRefused (1 ∷ 0 ∷ 0 ∷ 1 ∷ []) 10 0
  pub named_label_0 : SheetRefused (2 ∷ 0 ∷ 0 ∷ 0 ∷ []) 10 0
  pub any_first : SheetRefused (3 ∷ 1 ∷ 0 ∷ 0 ∷ []) 10 0
  pub any_second : SheetRefused (3 ∷ 0 ∷ 1 ∷ 0 ∷ []) 10 0
  pub seq_third : SheetRefused (4 ∷ 0 ∷ 0 ∷ 1 ∷ []) 10 0
  pub alt_third : SheetRefused (5 ∷ 0 ∷ 0 ∷ 1 ∷ []) 10 0
  pub many_second : SheetRefused (6 ∷ 0 ∷ 1 ∷ 0 ∷ []) 10 0
  pub many_third : SheetRefused (6 ∷ 0 ∷ 0 ∷ 1 ∷ []) 10 0
  pub def_second : SheetRefused (7 ∷ 0 ∷ 1 ∷ 0 ∷ []) 10 0
  pub def_third : SheetRefused (7 ∷ 0 ∷ 0 ∷ 1 ∷ []) 10 0
  -- A part that is the row itself, one that is above it, and one that is a definition; row by row with 10.
  pub part_itself : SheetRefused (0 ∷ 0 ∷ 0 ∷ 0 ∷ 4 ∷ 0 ∷ 1 ∷ 0 ∷ []) 11 1
  pub part_above : SheetRefused (6 ∷ 1 ∷ 0 ∷ 0 ∷ 8 ∷ 0 ∷ 0 ∷ 0 ∷ []) 11 0
  pub part_definition : SheetRefused (0 ∷ 0 ∷ 0 ∷ 0 ∷ 7 ∷ 0 ∷ 0 ∷ 0 ∷ 6 ∷ 1 ∷ 0 ∷ 0 ∷ 7 ∷ 2 ∷ 0 ∷ 0 ∷ []) 11 2
  pub ten_first : SheetRefused (8 ∷ 0 ∷ 0 ∷ 0 ∷ 6 ∷ 1 ∷ 0 ∷ 0 ∷ []) 10 0
  -- A row that is twice a part of one row, a part of two rows, or of none; the lowest; 12 before 13.
  pub twice_a_part : SheetRefused (0 ∷ 0 ∷ 0 ∷ 0 ∷ 4 ∷ 0 ∷ 0 ∷ 0 ∷ 7 ∷ 1 ∷ 0 ∷ 0 ∷ []) 12 0
  pub part_of_two : SheetRefused (0 ∷ 0 ∷ 0 ∷ 0 ∷ 1 ∷ 0 ∷ 0 ∷ 0 ∷ 5 ∷ 0 ∷ 1 ∷ 0 ∷ 7 ∷ 2 ∷ 0 ∷ 0 ∷ 7 ∷ 1 ∷ 0 ∷ 0 ∷ []) 12 1
  pub no_part : SheetRefused (2 ∷ 0 ∷ 1 ∷ 9 ∷ 0 ∷ 0 ∷ 0 ∷ 0 ∷ 7 ∷ 0 ∷ 0 ∷ 0 ∷ []) 12 1
  pub unused : SheetRefused (0 ∷ 0 ∷ 0 ∷ 0 ∷ 0 ∷ 0 ∷ 0 ∷ 0 ∷ 7 ∷ 0 ∷ 0 ∷ 0 ∷ []) 12 1
  pub two_unused : SheetRefused (0 ∷ 0 ∷ 0 ∷ 0 ∷ 0 ∷ 0 ∷ 0 ∷ 0 ∷ 0 ∷ 0 ∷ 0 ∷ 0 ∷ 7 ∷ 2 ∷ 0 ∷ 0 ∷ []) 12 0
  -- A missing definition, named or any; the lowest row; 13 before 14.
  pub named_missing : SheetRefused (2 ∷ 0 ∷ 1 ∷ 1 ∷ 7 ∷ 0 ∷ 0 ∷ 0 ∷ []) 13 0
  pub any_missing : SheetRefused (3 ∷ 0 ∷ 0 ∷ 0 ∷ 7 ∷ 0 ∷ 0 ∷ 0 ∷ 3 ∷ 0 ∷ 0 ∷ 2 ∷ 7 ∷ 2 ∷ 0 ∷ 0 ∷ []) 13 2
  pub two_missing : SheetRefused (3 ∷ 0 ∷ 0 ∷ 5 ∷ 7 ∷ 0 ∷ 0 ∷ 0 ∷ 3 ∷ 0 ∷ 0 ∷ 6 ∷ 7 ∷ 2 ∷ 0 ∷ 0 ∷ []) 13 0
  pub missing_first : SheetRefused (text_definitions 32 0 ++ (3 ∷ 0 ∷ 0 ∷ 33 ∷ 7 ∷ 64 ∷ 0 ∷ 0 ∷ [])) 13 64
  -- 33 definitions with a leaf each are 66 places, of which row 64 is the 65th; 32 are 64.
  pub places_66 : SheetRefused (text_definitions 33 0) 14 64
  pub places_65 : SheetRefused (text_definitions 32 0 ++ (0 ∷ 0 ∷ 0 ∷ 0 ∷ 7 ∷ 64 ∷ 0 ∷ 0 ∷ [])) 14 65
  pub places_64 : Passing (text_definitions 32 0)
  -- 128 rows, of which 64 are places.
  pub largest : Passing (1 ∷ (0 ∷ (0 ∷ (0 ∷ (texts_after 62 1 ++ (6 ∷ 124 ∷ 0 ∷ 0 ∷ 6 ∷ 125 ∷ 0 ∷ 0 ∷ 7 ∷ 126 ∷ 0 ∷ 0 ∷ []))))))

-- Rows that are no sound sheet, though every other property of one holds.
pub record NotSound : Type 0 where
  pub no_row : Sound [] → ⊥
  pub rows_129 : Sound (one_text ∷ joined_texts 62 1 (many 124 ∷ many 125 ∷ many 126 ∷ def 127 ∷ [])) → ⊥
  pub label_0 : Sound (named 0 0 ∷ def 0 ∷ []) → ⊥
