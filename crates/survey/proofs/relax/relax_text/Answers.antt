use Rattle.std.proofs.Common.{Some, refl, ap, ◌∙◌, subst, arith}
use Rattle.survey.specs.declared.types.Sort.{Sort}
use Rattle.survey.specs.declared.types.First.TheVariants.{Text}
use Rattle.survey.specs.Survey.{setting, blank}
use Rattle.survey.specs.Steps.{text_cost, text_length}
use Rattle.survey.proofs.Relaxes.{read, relaxed_text}
use Rattle.survey.specs.Sorting.{TextSort}
use Rattle.survey.proofs.relax.relax_text.Goals as goal

pub returns-in-Some : goal.returns-in-Some
returns-in-Some g c =
    let C = g.row.M-Cost.Denot in
    let Γ = setting (g.M.Measure.model c.args.rules.now.measure.now) (g.S.Sorting.model c.args.rules.now.sorting.now) in
    let rd = read Γ c.args.list.now c.args.last c.index-list-last.result (omega (arith, c.requires.within, c.requires.fits)) c.index-list-last.is in
    let x : Sort C = record { standings = c.in-Some.standings; cost = c.of_text-cost.result; length = c.of_text-length.result; first = Text; content = 0; rest = c.args.last } in
    relaxed_text c.requires.sound c.args.list.now c.args.last c.args.listing.now.len c.requires x refl refl
    (subst (λ (z : Sort C). TextSort Γ.sorts z.standings (Some c.in-Some.standings)) rd c.in-Some.ensures)
    (c.of_text-cost.ensures ∙ ap (text_cost Γ) rd)
    (c.of_text-length.ensures ∙ ap (λ (z : Sort C). text_length z.length) rd)
    c.offer.new.list c.offer.new.self.len c.offer.result (c.offer.ensures (blank Γ))
