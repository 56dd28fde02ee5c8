-- Fronts of inputs by their rules, and lines by computation.
use Rattle.std.proofs.Common.{◌≡◌, ℕ, [], ◌∷◌, replicate, refl, arith}
use Rattle.std.specs.Fmt.{digits}
use Rattle.stream.specs.Stream.{Kind, a_sheet, a_record, Mark, nothing, whole, in_mark, in_length, in_body, no_mark}
use Rattle.worked.specs.Lines.{Fronts, Lines}

no_kind : (a b : ℕ) → (a ≡ 0x54 → b ≡ 0x53 → ⊥) → (a ≡ 0x52 → b ≡ 0x43 → ⊥) → (k : Kind) → Mark k a b → ⊥
no_kind a b p q a_sheet m = p m.0 m.1
no_kind a b p q a_record m = q m.0 m.1

pub fronts : Fronts
fronts =
    record {
      no_input = nothing;
      a_sheet_first = whole a_sheet {body = 8 ∷ 9 ∷ []} {rest = 7 ∷ []} (refl, refl) refl;
      a_record_first = whole a_record {body = []} {rest = []} (refl, refl) refl;
      length_high_first = whole a_record {body = replicate 258 3} {rest = 4 ∷ []} (refl, refl) refl;
      cut_in_mark = in_mark;
      cut_before_length = in_length a_sheet (refl, refl) (omega arith);
      cut_in_length = in_length a_record (refl, refl) (omega arith);
      cut_in_body = in_body a_record (refl, refl) (omega arith);
      no_mark = no_mark (no_kind 0x54 0x43 (λ p q. omega arith) (λ p q. omega arith));
      marks_mixed = no_mark (no_kind 0x52 0x53 (λ p q. omega arith) (λ p q. omega arith));
      mark_turned = no_mark (no_kind 0x53 0x54 (λ p q. omega arith) (λ p q. omega arith));
    }

pub lines : Lines
unfolding digits
lines =
    record {
      an_edition = refl;
      a_record = refl;
      a_refusal = refl;
      a_loss = refl;
      a_loss_by_cost = refl;
      no_bytes = refl;
      not_shown = refl;
      most_shown = refl;
      one_too_many = refl;
      filled_up = refl;
    }
