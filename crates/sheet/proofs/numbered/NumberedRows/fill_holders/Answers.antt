use Rattle.std.proofs.Common.{◌≡◌, ℕ, ◌+◌, ◌^◌, List, get_or, sym, ap, ◌∙◌, subst, arith}
use mathlib.Core.Option.{some}
use Rattle.rows.specs.Sheet.{Sheet, at, Names, by_named, by_any}
use Rattle.rows.specs.declared.row.Row.TheVariants.{Empty as empty, Named as named, Any as any}
use Rattle.sheet.specs.Compiled.{Tabled, HoldsBelow}
use Rattle.rows.proofs.Numbers.{at_get_or, defines_all, fewer_definitions}
use Rattle.rows.proofs.Taking.{same_row}
use Rattle.sheet.proofs.Tabling.{home_small, named_one, names_place, holder_more, holder_stay, holder_all}
use Rattle.sheet.proofs.numbered.NumberedRows.fill_holders.Goals as goal
use Rattle.sheet.proofs.numbered.NumberedRows.fill_holders.Goals.{in_default, in-Named2}

pub place-requires : goal.place-requires
place-requires c =
    let s = c.args.self.rows.now in
    names_place (named_one {d = c.in-Named.d} _ (at_get_or s c.loop-p.p empty c.loop-p-test.true) c.in-Named.is)

pub bounds-homes-from : goal.bounds-homes-from
bounds-homes-from c =
    let s = c.args.self.rows.now in
    let n = named_one {d = c.in-Named.d} _ (at_get_or s c.loop-p.p empty c.loop-p-test.true) c.in-Named.is in
    omega (arith, c.args.self.there.named c.loop-p.p c.in-Named.d n, fewer_definitions s, c.args.self.ready.few)

pub bit-requires : goal.bit-requires
bit-requires c =
    let s = c.args.self.rows.now in
    let n = named_one {d = c.in-Named.d} _ (at_get_or s c.loop-p.p empty c.loop-p-test.true) c.in-Named.is in
    let d = defines_all s c.in-Named.d (c.args.self.there.named c.loop-p.p c.in-Named.d n) in
    let b = home_small s d.0 d.1 c.args.self.ready.few d.2.is in
    let q = ap (λ (k : ℕ). get_or c.args.homes.now k 0) c.from.ensures in
    omega (arith, c.requires.homes c.in-Named.d d.0 d.1 d.2)

pub loop-p-preserved : goal.loop-p-preserved
loop-p-preserved c =
    let s = c.args.self.rows.now in
    let p = c.loop-p.p in
    let h = c.loop-p-test.true in
    let i = at_get_or s p empty h in
    let inv = c.loop-p.invariant in
    elim c.match-row.branch [
      | in_default w ↦
          subst (λ (t : List ℕ). Tabled c.args.self.rows.now t (HoldsBelow c.args.self.rows.now (c.loop-p.p + 1))) (sym w.holders-is)
          (holder_stay p (λ d n. unnamed n (λ l j. w.in_default.not-Named l d (same_row (sym i ∙ j))) (λ j. w.in_default.not-Any d (same_row (sym i ∙ j)))) inv)
      | in-Named2 w ↦
          let n = named_one {d = w.in-Named.d} _ i w.in-Named.is in
          let d = defines_all s w.in-Named.d (c.args.self.there.named p w.in-Named.d n) in
          let q = w.place.ensures in
          let r = w.bit.ensures ∙ ap (λ (m : ℕ). 2 ^ m) (ap (λ (k : ℕ). get_or c.args.homes.now k 0) w.from.ensures ∙ c.requires.homes w.in-Named.d d.0 d.1 d.2) in
          subst (λ (t : List ℕ). Tabled c.args.self.rows.now t (HoldsBelow c.args.self.rows.now (c.loop-p.p + 1))) (sym w.holders-is)
          (holder_more p w.in-Named.d d.0 d.1 n d.2 q r w.link.ensures.bound w.link.ensures.bits inv)
    ]
  where
    unnamed : {s : Sheet} {p d : ℕ} → Names s p d → ((l : ℕ) → at s p ≡ some (named l d) → ⊥) → (at s p ≡ some (any d) → ⊥) → ⊥
    unnamed (by_named {l = l} i) f g = f l i
    unnamed (by_any i) f g = g i

pub returns : goal.returns
returns c = holder_all c.loop-p.p c.loop-p-test.false c.loop-p.invariant
