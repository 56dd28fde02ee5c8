-- What stands at the front of inputs, and lines, by their very bytes.
use Rattle.forest.specs.Refusals.{fault}
use Rattle.forest.specs.declared.fault.Refusal.TheVariants.{NestedTooDeep}
use Rattle.std.specs.Prelude.{◌≡◌, ℕ, Bool, true, false, List, [], ◌∷◌, ◌++◌, replicate, codes}
use Rattle.loss.specs.declared.verdict.Loss.{Loss}
use Rattle.stream.specs.declared.line.Line.{Line}
use Rattle.stream.specs.declared.line.Line.TheVariants.{Edition, Record, Refused, Lost}
use Rattle.stream.specs.Line.{word, bytes, loss, fields, line_text}
use Rattle.stream.specs.Written.{padded}
use Rattle.stream.specs.Stream.{Front, at_end, entry, refused, a_sheet, a_record}

pub record Fronts : Type 0 where
  pub no_input : Front [] at_end
  pub a_sheet_first : Front (0x54 ∷ 0x53 ∷ 0 ∷ 2 ∷ 8 ∷ 9 ∷ 7 ∷ []) (entry a_sheet (8 ∷ 9 ∷ []) (7 ∷ []))
  pub a_record_first : Front (0x52 ∷ 0x43 ∷ 0 ∷ 0 ∷ []) (entry a_record [] [])
  pub length_high_first : Front (0x52 ∷ (0x43 ∷ (1 ∷ (2 ∷ (replicate 258 3 ++ (4 ∷ [])))))) (entry a_record (replicate 258 3) (4 ∷ []))
  pub cut_in_mark : Front (0x54 ∷ []) (refused 1 0)
  pub cut_before_length : Front (0x54 ∷ 0x53 ∷ []) (refused 1 0)
  pub cut_in_length : Front (0x52 ∷ 0x43 ∷ 0 ∷ []) (refused 1 0)
  pub cut_in_body : Front (0x52 ∷ 0x43 ∷ 0 ∷ 2 ∷ 3 ∷ []) (refused 1 0)
  pub no_mark : Front (0x54 ∷ 0x43 ∷ []) (refused 2 0)
  pub marks_mixed : Front (0x52 ∷ 0x53 ∷ 0 ∷ 0 ∷ []) (refused 2 0)
  pub mark_turned : Front (0x53 ∷ 0x54 ∷ 0 ∷ 0 ∷ []) (refused 2 0)

-- The line of the entry of this number, where the show buffer holds these bytes.
abbrev pub line_of : ℕ → Line → List ℕ → List ℕ
line_of n line show = line_text n (fields line show)

-- A loss of this cost and length, and whether it is shown.
abbrev pub costing : ℕ → ℕ → Bool → Loss ℕ
costing cost size seen = record { cost = cost; length = size; shown = seen }

-- 0A ends a line.
abbrev pub ended : List ℕ → List ℕ
ended text = text ++ (10 ∷ [])

pub record Lines : Type 0 where
  pub an_edition : line_of 1 (Edition 1) [] ≡ ended (codes "1 edition 1")
  pub a_record : line_of 20 (Record 256) [] ≡ ended (codes "20 record 256")
  pub a_refusal : line_of 3 (Refused (fault NestedTooDeep 192)) [] ≡ ended (codes "3 refused 8 192")
  pub a_loss : line_of 4 (Lost (costing 10 10 true)) (1 ∷ 0 ∷ 10 ∷ 1 ∷ 0 ∷ 11 ∷ 3 ∷ 0 ∷ 2 ∷ 2 ∷ 255 ∷ []) ≡ ended (codes "4 refused 36 10 10 01000A01000B03000202")
  pub a_loss_by_cost : line_of 5 (Lost (costing 7 2 true)) (3 ∷ 0 ∷ 9 ∷ []) ≡ ended (codes "5 refused 36 7 2 0300")
  pub no_bytes : line_of 6 (Lost (costing 0 0 true)) (9 ∷ []) ≡ ended (codes "6 refused 36 0 0 -")
  pub not_shown : line_of 7 (Lost (costing 70000 70000 false)) (9 ∷ []) ≡ ended (codes "7 refused 36 70000 70000 not shown")
  -- 4,096 bytes of a loss are shown and 4,097 are not; an array is filled up with 0.
  pub most_shown : loss (replicate 4096 7) ≡ bytes (replicate 4096 7)
  pub one_too_many : loss (replicate 4097 7) ≡ word (codes "not shown")
  pub filled_up : padded 5 (49 ∷ 10 ∷ []) ≡ 49 ∷ 10 ∷ 0 ∷ 0 ∷ 0 ∷ []
