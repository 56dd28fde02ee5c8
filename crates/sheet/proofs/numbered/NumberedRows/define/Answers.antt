use Rattle.std.proofs.Common.{Bool, T, sym, subst, arith}
use Rattle.rows.specs.Sheet.{def_part, a_definition}
use Rattle.rows.proofs.Numbers.{at_below}
use Rattle.sheet.proofs.Tabling.{define_empty, define_grown}
use Rattle.sheet.proofs.numbered.NumberedRows.define.Goals as goal

pub expression-shape-requires : goal.expression-shape-requires
expression-shape-requires c =
    let h = c.args.self.ready.formed.lower (def_part c.requires) in
    let l = at_below c.args.self.rows.now c.args.e _ c.requires in
    omega arith

pub place-own-requires : goal.place-own-requires
place-own-requires c = a_definition c.requires

pub returns-then-shape : goal.returns-then-shape
returns-then-shape c =
    let s = c.args.self.rows.now in
    let l = at_below s c.args.e _ c.requires in
    let q = c.place-own.ensures in
    let u = c.expression-shape.ensures.shaped in
    record {
      ends = define_empty (a_definition c.requires) q u (u.empty.0 (subst (λ (b : Bool). T b) (sym c.if-shape.true) tt));
      grown = define_grown c.link.new.table (a_definition c.requires) q u c.expression-shape.ensures.grown c.link.ensures.bound c.link.ensures.bits;
    }

pub returns-else-shape-clause-grown : goal.returns-else-shape-clause-grown
returns-else-shape-clause-grown c =
    define_grown c.link.new.table (a_definition c.requires) c.place-own.ensures c.expression-shape.ensures.shaped
    c.expression-shape.ensures.grown c.link.ensures.bound c.link.ensures.bits
