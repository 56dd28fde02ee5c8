use Rattle.std.proofs.Common.{◌≡◌, ℕ, ◌+◌, ◌<◌, List, length, get_or, take, set, sym, ap, ◌∙◌, subst, arith}
use mathlib.Core.Option.{some}
use Rattle.rows.specs.Sheet.{Sheet, at, definitions}
use Rattle.rows.specs.declared.row.Row.TheVariants.{Empty as empty, Def as def}
use Rattle.sheet.specs.Shapes.{Ready}
use Rattle.rows.specs.Kinds.{is_definition_row}
use Rattle.rows.proofs.Numbers.{at_get_or, at_below, fewer_definitions, definition_row, not_definition, definition_more, definition_same}
use Rattle.std.specs.Prelude.{true}
use Rattle.sheet.proofs.Tabling.{HomesBelow, home_small, home_more, home_stay}
use Rattle.sheet.proofs.numbered.NumberedRows.fill_homes.Goals as goal
use Rattle.sheet.proofs.numbered.NumberedRows.fill_homes.Goals.{then-is_definition, else-is_definition}

is_there : (s : Sheet) (e : ℕ) → e < length s → is_definition_row (get_or s e empty) ≡ true → (x : ℕ) × (at s e ≡ some (def x))
is_there s e h y = let d = definition_row (get_or s e empty) y in (d.0, at_get_or s e empty h ∙ ap some d.1)

room : (s : Sheet) (ns : List ℕ) (e x : ℕ) → Ready s ns → at s e ≡ some (def x) → definitions (take e s) < 64
room s ns e x r i =
    let a = fewer_definitions (take e s) in
    let b = home_small s e x r.few i in
    omega arith

pub bounds-homes-count : goal.bounds-homes-count
bounds-homes-count c =
    let s = c.args.self.rows.now in
    let d = is_there s c.loop-e.e c.loop-e-test.true (sym c.if-is_definition.ensures) in
    let b = room s c.args.self.numbers.now c.loop-e.e d.0 c.args.self.ready d.1 in
    omega (arith, c.loop-e.invariant.0)

pub overflow_add-count : goal.overflow_add-count
overflow_add-count c =
    let s = c.args.self.rows.now in
    let d = is_there s c.loop-e.e c.loop-e-test.true (sym c.if-is_definition.ensures) in
    let b = room s c.args.self.numbers.now c.loop-e.e d.0 c.args.self.ready d.1 in
    omega (arith, c.loop-e.invariant.0)

pub loop-e-preserved : goal.loop-e-preserved
loop-e-preserved c =
    let s = c.args.self.rows.now in
    let e = c.loop-e.e in
    let h = c.loop-e-test.true in
    let inv = c.loop-e.invariant in
    elim c.if-is_definition.branch [
      | then-is_definition w ↦
          let y = sym w.if-is_definition.ensures in
          let d = is_there s e h y in
          let b = room s c.args.self.numbers.now e d.0 c.args.self.ready d.1 in
          let l : definitions (take c.loop-e.e c.args.self.rows.now) < length c.loop-e.homes = omega arith in
          let g = home_more s c.loop-e.homes e d.0 _ d.1 (c.args.self.ready.numbered e h) l inv.1 in (
            omega (arith, w.count-is, inv.0, definition_more s e empty h y),
            subst (λ (hs : List ℕ). HomesBelow c.args.self.rows.now (c.loop-e.e + 1) hs) (sym w.homes-is)
                (subst (λ (k : ℕ). HomesBelow c.args.self.rows.now (c.loop-e.e + 1) (set c.loop-e.homes k (get_or c.args.self.numbers.now c.loop-e.e 0))) (sym inv.0) g),
          )
      | else-is_definition w ↦
          let y = sym w.if-is_definition.ensures in (
            omega (arith, w.count-is, inv.0, definition_same s e empty h y),
            subst (λ (hs : List ℕ). HomesBelow c.args.self.rows.now (c.loop-e.e + 1) hs) (sym w.homes-is)
                (home_stay s c.loop-e.homes e (not_definition s e _ (at_get_or s e empty h) y) inv.1),
          )
    ]

pub returns : goal.returns
returns c = λ d e x j. let b = c.loop-e-test.false in let l = at_below c.args.self.rows.now e _ j.is in c.loop-e.invariant.1 d e x (omega arith) j
