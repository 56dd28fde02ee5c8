use Rattle.std.proofs.Common.{◌≡◌, Some, get_or, ap, ◌∙◌, arith, subst}
use mathlib.Core.Option.{some}
use Rattle.rows.specs.Sheet.{a_leaf, leaf_text, leaf_named, leaf_any}
use Rattle.rows.specs.declared.row.Row.TheVariants.{Empty as empty}
use Rattle.rows.specs.declared.row.Row.{Row}
use Rattle.sheet.specs.Compiled.{TextAt, NamedAt, AnyAt, IsKind, LeafKind}
use Rattle.rows.proofs.Numbers.{at_get_or, at_below}
use Rattle.sheet.proofs.Tabling.{leaf_more, leaf_stay, leaf_all, not_text, not_named, not_any}
use Rattle.sheet.proofs.numbered.NumberedRows.leaves.Goals as goal
use Rattle.sheet.proofs.numbered.NumberedRows.leaves.Goals.{in-Some-Text, in-Some-Named, in-Some-Any, in-None}

-- The kind that was told is the kind that was matched.
kind_is : (r : Row) {j k : LeafKind} → j ≡ k → IsKind r (Some j) → IsKind r (Some k)
kind_is r e = subst (λ i. IsKind r (Some i)) e

pub place-texts-requires : goal.place-texts-requires
place-texts-requires c =
    let q = kind_is (get_or c.args.self.rows.now c.loop-p.p empty) c.in-Some-Text.field-0-is c.in-Some-Text.ensures in
    a_leaf (leaf_text (at_get_or c.args.self.rows.now c.loop-p.p empty c.loop-p-test.true ∙ ap some q))

pub place-named-requires : goal.place-named-requires
place-named-requires c =
    let q = kind_is (get_or c.args.self.rows.now c.loop-p.p empty) c.in-Some-Named.field-0-is c.in-Some-Named.ensures in
    a_leaf (leaf_named (at_get_or c.args.self.rows.now c.loop-p.p empty c.loop-p-test.true ∙ ap some q.2))

pub place-anys-requires : goal.place-anys-requires
place-anys-requires c =
    let q = kind_is (get_or c.args.self.rows.now c.loop-p.p empty) c.in-Some-Any.field-0-is c.in-Some-Any.ensures in
    a_leaf (leaf_any (at_get_or c.args.self.rows.now c.loop-p.p empty c.loop-p-test.true ∙ ap some q.1))

pub loop-p-preserved : goal.loop-p-preserved
loop-p-preserved c =
    let s = c.args.self.rows.now in
    let p = c.loop-p.p in
    let i = at_get_or s p empty c.loop-p-test.true in
    let inv = c.loop-p.invariant in
    elim c.match-kind_of.branch [
      | in-Some-Text w ↦
          let q = kind_is (get_or s p empty) w.in-Some-Text.field-0-is w.in-Some-Text.ensures in
          let j = i ∙ ap some q in
          rw (w.texts-is, w.named-is, w.anys-is) (
            leaf_more (TextAt s) p j (a_leaf (leaf_text j)) w.place-texts.ensures inv.0,
            leaf_stay (NamedAt s) p (not_named s p i (λ l d k. cc)) inv.1,
            leaf_stay (AnyAt s) p (not_any s p i (λ d k. cc)) inv.2,
          )
      | in-Some-Named w ↦
          let q = (kind_is (get_or s p empty) w.in-Some-Named.field-0-is w.in-Some-Named.ensures).2 in
          let j = i ∙ ap some q in
          rw (w.texts-is, w.named-is, w.anys-is) (
            leaf_stay (TextAt s) p (not_text s p i (λ k. cc)) inv.0,
            leaf_more (NamedAt s) p (_, _, j) (a_leaf (leaf_named j)) w.place-named.ensures inv.1,
            leaf_stay (AnyAt s) p (not_any s p i (λ d k. cc)) inv.2,
          )
      | in-Some-Any w ↦
          let q = (kind_is (get_or s p empty) w.in-Some-Any.field-0-is w.in-Some-Any.ensures).1 in
          let j = i ∙ ap some q in
          rw (w.texts-is, w.named-is, w.anys-is) (
            leaf_stay (TextAt s) p (not_text s p i (λ k. cc)) inv.0,
            leaf_stay (NamedAt s) p (not_named s p i (λ l d k. cc)) inv.1,
            leaf_more (AnyAt s) p (_, j) (a_leaf (leaf_any j)) w.place-anys.ensures inv.2,
          )
      | in-None w ↦
          let q = w.in-None.ensures in
          rw (w.texts-is, w.named-is, w.anys-is) (
            leaf_stay (TextAt s) p (not_text s p i q.0) inv.0,
            leaf_stay (NamedAt s) p (not_named s p i q.1) inv.1,
            leaf_stay (AnyAt s) p (not_any s p i q.2) inv.2,
          )
    ]

pub returns : goal.returns
returns c =
    let s = c.args.self.rows.now in
    let h = c.loop-p-test.false in
    let inv = c.loop-p.invariant in
    record {
      texts = leaf_all (TextAt s) c.loop-p.p (λ p z. let l = at_below s p _ z in omega arith) inv.0;
      named = leaf_all (NamedAt s) c.loop-p.p (λ p z. let l = at_below s p _ z.2 in omega arith) inv.1;
      anys = leaf_all (AnyAt s) c.loop-p.p (λ p z. let l = at_below s p _ z.1 in omega arith) inv.2;
    }
