use Rattle.std.proofs.Common.{◌≡◌, ℕ, ◌<◌, ◌⊎◌, length, get_or, ap, ◌∙◌, inl, inr}
use mathlib.Core.Option.{some}
use Rattle.rows.specs.Sheet.{Sheet, at, a_leaf}
use Rattle.rows.specs.declared.row.Row.{Row}
use Rattle.rows.specs.declared.row.Row.TheVariants.{Empty as empty, Text as one_text, Named as named, Any as any, Seq as seq, Alt as alt, Many as many, Def as def}
use Rattle.rows.proofs.Numbers.{at_get_or}
use Rattle.sheet.proofs.Growing.{LeafRow, leaf_is, shape_empty, shape_leaf, shape_seq, shape_alt, shape_many, shape_def, grown_leaf, grown_row, grown_none, grown_seq, grown_alt, grown_many, grown_def}
use Rattle.sheet.proofs.numbered.NumberedRows.+expression.Goals as goal

row_at : (s : Sheet) (e : ℕ) (r : Row) → e < length s → get_or s e empty ≡ r → at s e ≡ some r
row_at s e r h q = at_get_or s e empty h ∙ ap some q

leafy : (s : Sheet) (e : ℕ) → (get_or s e empty ≡ one_text) ⊎ (((x y : ℕ) × (get_or s e empty ≡ named x y)) ⊎ ((x : ℕ) × (get_or s e empty ≡ any x))) → LeafRow e (get_or s e empty)
leafy s e (inl q) = rw q tt
leafy s e (inr (inl q)) = rw q.2 tt
leafy s e (inr (inr q)) = rw q.1 tt

pub place-own-requires : goal.place-own-requires
place-own-requires t c =
    let s = c.args.self.rows.now in
    a_leaf (leaf_is s c.args.e (get_or s c.args.e empty) (at_get_or s c.args.e empty c.requires) (leafy s c.args.e c.in-Text.is))

pub returns-in-Empty : goal.returns-in-Empty
returns-in-Empty t c =
    let i = row_at c.args.self.rows.now c.args.e empty c.requires c.in-Empty.is in
    record { shaped = shape_empty c.args.e i; grown = grown_row c.args.e empty i (grown_none c.args.before.now (λ q p x. x)) }

pub returns-in-Text : goal.returns-in-Text
returns-in-Text t c =
    let s = c.args.self.rows.now in
    let e = c.args.e in
    let i = at_get_or s e empty c.requires in
    let l = leafy s e c.in-Text.is in
    record {
      shaped = shape_leaf s e c.place-own.result (get_or s e empty) i l c.place-own.ensures;
      grown = grown_leaf s c.args.before.now e (get_or s e empty) i l;
    }

pub returns-in-Seq : goal.returns-in-Seq
returns-in-Seq t c =
    let i = row_at c.args.self.rows.now c.args.e (seq c.from.result c.from-in-Seq.result) c.requires (rw (c.from.ensures, c.from-in-Seq.ensures) c.in-Seq.is) in
    let x = c.expression-first in
    let y = c.expression-second in
    record {
      shaped = shape_seq c.args.e x.result y.result c.in_turn.result i x.ensures.shaped y.ensures.shaped
          c.in_turn.ensures.empty c.in_turn.ensures.opening c.in_turn.ensures.closing;
      grown = grown_seq c.link.new.table c.args.e x.result y.result i x.ensures.shaped y.ensures.shaped
          x.ensures.grown y.ensures.grown c.link.ensures.bound c.link.ensures.bits;
    }

pub returns-in-Alt : goal.returns-in-Alt
returns-in-Alt t c =
    let i = row_at c.args.self.rows.now c.args.e (alt c.from-in-Alt.result c.from-in-Alt-2.result) c.requires (rw (c.from-in-Alt.ensures, c.from-in-Alt-2.ensures) c.in-Alt.is) in
    let x = c.expression-first-in-Alt in
    let y = c.expression-second-in-Alt in
    record {
      shaped = shape_alt c.args.e x.result y.result c.either.result i x.ensures.shaped y.ensures.shaped
          c.either.ensures.empty c.either.ensures.opening c.either.ensures.closing;
      grown = grown_alt c.args.e i x.ensures.grown y.ensures.grown;
    }

pub returns-in-Many : goal.returns-in-Many
returns-in-Many t c =
    let i = row_at c.args.self.rows.now c.args.e (many c.from-in-Many.result) c.requires (rw c.from-in-Many.ensures c.in-Many.is) in
    let x = c.expression-part in
    record {
      shaped = shape_many c.args.e x.result i x.ensures.shaped;
      grown = grown_many c.link-in-Many.new.table c.args.e x.result i x.ensures.shaped
          x.ensures.grown c.link-in-Many.ensures.bound c.link-in-Many.ensures.bits;
    }

pub returns-in-Def : goal.returns-in-Def
returns-in-Def t c =
    let i = row_at c.args.self.rows.now c.args.e (def c.from-in-Def.result) c.requires (rw c.from-in-Def.ensures c.in-Def.is) in
    let x = c.expression in
    record { shaped = shape_def c.args.e x.result i x.ensures.shaped; grown = grown_def c.args.e i x.ensures.grown }
