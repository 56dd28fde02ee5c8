-- What is handed out of a record, by the bytes that are still to come.
use Rattle.std.proofs.Common.{◌≡◌, ℕ, List, [], ◌∷◌, ◌++◌, length, take, drop, Some, sym, refl, ap, ◌∙◌, Bor}
use Rattle.std.proofs.lemmas.List.{drop-drop}
use Rattle.std.proofs.Math.Seq.{take-append_seam}
use Rattle.forest.specs.declared.event.Event.TheVariants.{Text}
use Rattle.forest.specs.Reading.{Token, all_written}
use Rattle.forest.specs.Events.{ToCome, Handed}
use Rattle.forest.proofs.Walks.{walk_written}
use Rattle.worked.specs.Handing.{Handing}

text_there : (body : List ℕ) (at : ℕ) (ts : List Token) (bytes : Bor (List ℕ)) (offset next : ℕ) → ToCome body at ts
    → Handed body at ts (Some (Text bytes offset)) next → take (length bytes.now) (drop offset body) ≡ bytes.now
text_there body at [] bytes offset next c h = absurd h
text_there body at (t ∷ ts) bytes offset next c h =
    let w = bytes.now in
    let e : drop at body ≡ 3 ∷ (length w ∷ (w ++ all_written ts)) = c.are_written ∙ ap (λ (u : Token). all_written (u ∷ ts)) h.0.0 in
    let d : drop offset body ≡ w ++ all_written ts = ap (λ (n : ℕ). drop n body) h.0.1 ∙ sym (drop-drop 2 at body) ∙ ap (drop 2) e in
    ap (take (length w)) d ∙ take-append_seam w (all_written ts)

pub handing : Handing
handing = record { tokens_in_order = refl; walk_is_written = walk_written; text_there = text_there }
