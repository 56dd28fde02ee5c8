use Rattle.std.proofs.Common.{◌≡◌, subst, rules}
use Rattle.std.specs.Prelude.{false, not, T, ◌↔◌, ℕ}
use Rattle.std.specs.Option.{MatchOption}
use Rattle.rows.specs.Kinds.{is_definition_row}
use Rattle.rows.specs.Parts.{Sits}
use Rattle.rows.proofs.Taking.{sits_is}
use Rattle.rows.proofs.take.is_part_below.Goals as goal

pub returns : goal.returns
returns c =
    let a : MatchOption c.get.result (c.is_some_and.result ≡ false) (λ x. c.is_some_and.result ≡ not (is_definition_row x.now)) = search rules in
    subst (λ (n : ℕ). T c.is_some_and.result ↔ Sits c.args.below.now n) c.from.ensures
    (sits_is c.args.below.now c.from.result c.get.result c.is_some_and.result c.get.ensures.lookup.3 a)
