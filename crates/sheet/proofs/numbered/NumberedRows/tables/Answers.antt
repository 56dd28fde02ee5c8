use Rattle.std.proofs.Common.{ℕ, ◌^◌, ap, ◌∙◌, arith}
use Rattle.rows.proofs.Numbers.{defines_all}
use Rattle.rows.proofs.Tallies.{zeros}
use Rattle.sheet.proofs.Tabling.{home_small, top_set}
use Rattle.sheet.proofs.numbered.NumberedRows.tables.Goals as goal

pub define_all-ends-requires : goal.define_all-ends-requires
define_all-ends-requires c = λ j. zeros 64 j

pub fill_holders-requires-clause-none : goal.fill_holders-requires-clause-none
fill_holders-requires-clause-none c = λ j. zeros 64 j

pub bit-requires : goal.bit-requires
bit-requires c =
    let d = defines_all c.args.self.rows.now 0 c.args.self.there.top in
    let b = home_small c.args.self.rows.now d.0 d.1 c.args.self.ready.few d.2.is in
    omega (arith, c.fill_homes.ensures 0 d.0 d.1 d.2)

pub returns : goal.returns
returns c =
    let d = defines_all c.args.self.rows.now 0 c.args.self.there.top in
    record {
      ends = c.define_all-ends.ensures.ends;
      before = c.define_all-ends.ensures.before;
      texts = c.leaves-texts.ensures.texts;
      named = c.leaves-texts.ensures.named;
      anys = c.leaves-texts.ensures.anys;
      labels = c.fill_labels.ensures;
      holders = c.fill_holders.ensures;
      top = top_set d.2 (c.bit.ensures ∙ ap (λ (n : ℕ). 2 ^ n) (c.fill_homes.ensures 0 d.0 d.1 d.2));
    }
