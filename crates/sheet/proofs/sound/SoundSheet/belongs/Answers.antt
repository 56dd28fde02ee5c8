use Rattle.std.proofs.Common.{ℕ, List, [], sym, subst}
use Rattle.std.proofs.lemmas.List.{append-nil}
use Rattle.forest.specs.Reading.{Token, StandsFor, walk}
use Rattle.forest.specs.Events.{ToCome}
use Rattle.sheet.specs.Belonging.{at_end}
use Rattle.sheet.proofs.sound.SoundSheet.belongs.Goals as goal

pub returns : goal.returns
returns c =
    let f = c.in_ok-record.ensures.answer.0 in
    let s = c.in_ok-record.ensures.answer.1 in
    let here : StandsFor c.in_ok-record.record.body.now f = subst (λ (b : List ℕ). StandsFor b f) (sym c.in_ok-record.ensures.held) s in (
      f,
      s,
      c.admits.ensures f
          (c.standing.ensures.gone f [] [] at_end
          (subst (λ (ts : List Token). ToCome c.events-events.result.body.now c.events-events.result.at ts) (sym (append-nil (walk f))) (c.events-events.ensures.all f here))).0,
    )
