use Rattle.std.proofs.Common.{◌≡◌, length, sym, subst, rules}
use Rattle.rows.specs.Sheet.{Sheet}
use Rattle.sheet.specs.Shapes.{Ready}
use Rattle.sheet.specs.Compiled.{AllThere}
use Rattle.sheet.proofs.Held.{made_ready, made_there}
use Rattle.sheet.proofs.numbered.NumberedRows.of.Goals as goal

pub invariant_of-result : goal.invariant_of-result
invariant_of-result c =
    let checked = c.args.checked.now in
    let q = sym c.rows.ensures in
    let l : length c.args.checked.now.numbers ≡ 128 = search rules in
    record {
      ready = subst (λ (s : Sheet). Ready s c.args.checked.now.numbers) q (made_ready checked.sound checked.numbered l);
      there = subst AllThere q (made_there checked.sound);
    }
