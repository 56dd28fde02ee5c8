use Rattle.std.proofs.Common.{ℕ, ◌^◌, ap, ◌∙◌, arith}
use Rattle.rows.proofs.Numbers.{place_below}
use Rattle.sheet.proofs.Tabling.{number_small}
use Rattle.sheet.proofs.numbered.NumberedRows.place.Goals as goal

pub bounds-self-e : goal.bounds-self-e
bounds-self-e c = let h = place_below c.requires in omega (arith, c.args.self.ready.short, c.args.self.ready.long)

pub bit-requires : goal.bit-requires
bit-requires c = number_small c.args.self.rows.now c.args.self.numbers.now c.args.e c.args.self.ready (place_below c.requires) c.requires

pub returns : goal.returns
returns c = c.bit.ensures ∙ ap (λ (n : ℕ). 2 ^ n) (c.args.self.ready.numbered c.args.e (place_below c.requires))
