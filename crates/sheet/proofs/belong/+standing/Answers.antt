use Rattle.std.proofs.Common.{ℕ, List, ◌∙◌, subst}
use Rattle.sheet.specs.Held.{rows_of}
use Rattle.sheet.specs.Belonging.{GoneThrough}
use Rattle.sheet.proofs.Going.{go_text, go_node, go_closing, go_none, none_stays}
use Rattle.sheet.proofs.belong.+standing.Goals as goal

pub returns-in-Text-clause-gone : goal.returns-in-Text-clause-gone
returns-in-Text-clause-gone t c =
    go_text c.in-Some.event c.in-Text.is (λ ts k. c.in-Some.ensures.steps.handed ts k)
    (subst (λ (b : List ℕ). GoneThrough (rows_of c.args.sheet.now) b c.next.new.self.at c.standing-rest.new.events.at c.standing-rest.result) c.next.ensures.steps.same c.standing-rest.ensures.gone)
    c.of_text.ensures

pub returns-in-Opening-clause-gone : goal.returns-in-Opening-clause-gone
returns-in-Opening-clause-gone t c =
    go_node c.in-Some.event c.in-Opening.is (λ ts k. c.in-Some.ensures.steps.handed ts k)
    (subst (λ (b : List ℕ). GoneThrough (rows_of c.args.sheet.now) b c.next.new.self.at c.standing-content.new.events.at c.standing-content.result) c.next.ensures.steps.same c.standing-content.ensures.gone)
    (subst (λ (b : List ℕ). GoneThrough (rows_of c.args.sheet.now) b c.standing-content.new.events.at c.standing-rest-in-Opening.new.events.at c.standing-rest-in-Opening.result)
    (c.standing-content.ensures.same ∙ c.next.ensures.steps.same) c.standing-rest-in-Opening.ensures.gone)
    c.of_node.ensures

pub returns-in-Closing-clause-gone : goal.returns-in-Closing-clause-gone
returns-in-Closing-clause-gone t c =
    go_closing c.in-Some.event c.in-Closing.is (λ ts k. c.in-Some.ensures.steps.handed ts k) c.of_empty-in-Closing.ensures

pub returns-in_default-clause-gone : goal.returns-in_default-clause-gone
returns-in_default-clause-gone t c = go_none (λ ts k. c.in_default.ensures.steps.handed ts k) c.of_empty.ensures

pub returns-in_default-clause-onward : goal.returns-in_default-clause-onward
returns-in_default-clause-onward t c =
    none_stays c.args.events.now.body.now c.args.events.now.at c.next.new.self.at c.args.events.now.whole c.in_default.ensures.steps.handed
