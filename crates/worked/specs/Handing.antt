-- What is handed out of a record.
use Rattle.std.specs.Prelude.{◌≡◌, ℕ, List, [], ◌∷◌, length, take, drop, Some}
use Rattle.std.specs.Borrow.{Bor}
use Rattle.forest.specs.declared.event.Event.TheVariants.{Text}
use Rattle.forest.specs.Forest.{Forest, nil, text, node, bytes_of}
use Rattle.forest.specs.Reading.{Token, opening, chars, closing, all_written, walk}
use Rattle.forest.specs.Events.{ToCome, Handed}

pub record Handing : Type 0 where
  -- 10[11["N"], ""], 12[]
  pub tokens_in_order : walk (node 10 (node 11 (text (78 ∷ []) nil) (text [] nil)) (node 12 nil nil))
      ≡ opening 10 ∷ opening 11 ∷ chars (78 ∷ []) ∷ closing ∷ chars [] ∷ closing ∷ opening 12 ∷ closing ∷ []
  pub walk_is_written : (f : Forest) → all_written (walk f) ≡ bytes_of f
  -- A text that is handed out stands in the body at the offset told.
  pub text_there : (body : List ℕ) (at : ℕ) (ts : List Token) (bytes : Bor (List ℕ)) (offset next : ℕ) → ToCome body at ts
      → Handed body at ts (Some (Text bytes offset)) next → take (length bytes.now) (drop offset body) ≡ bytes.now
