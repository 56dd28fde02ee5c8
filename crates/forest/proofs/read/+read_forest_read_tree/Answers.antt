use Rattle.std.proofs.Common.{◌≡◌, suc, ◌+◌, ◌-◌, ◌<◌, ◌≤◌, length, get_or, refl, inl, inr, arith, rules}
use Rattle.std.proofs.lemmas.Result.{err_from_is_err_and}
use Rattle.forest.specs.declared.fault.Refusal.TheVariants.{LabelZero, NestedTooDeep, TreeCutShort, NoTree}
use Rattle.forest.specs.Refusals.{fault}
use Rattle.forest.proofs.Stretches.{opens, text_seen, ShortSeen, short_seen, label_zero_seen, no_mark_seen, stretch_more, stretch_node, refused_here, refused_after, refused_inside, too_nested, unclosed}
use Rattle.forest.proofs.read.+read_forest_read_tree.Goals as goal

pub read_forest-returns-in_err-at : goal.read_forest-returns-in_err-at
read_forest-returns-in_err-at t c =
    let p = err_from_is_err_and c.from_residual.result c.from_residual.ensures.1 in
    rw (p.1, p.2) (refused_after c.args.nesting (64 - c.args.nesting) c.args.body.now c.args.at c.loop-at.at _ _ (omega (arith, c.requires.1)) c.loop-at.invariant c.in_err-at.ensures)

pub read_forest-loop-at-preserved : goal.read_forest-loop-at-preserved
read_forest-loop-at-preserved t c = stretch_more _ _ _ _ _ c.loop-at.invariant c.in_ok-at.ensures.1

pub read_tree-returns-in-1 : goal.read_tree-returns-in-1
read_tree-returns-in-1 t c =
    let e : c.here.result ≡ fault LabelZero c.args.at = search rules in
    rw e (label_zero_seen c.args.body.now c.args.at c.requires.0 (64 - c.args.nesting) (search rules) (search rules) (search rules) (search rules))

pub read_tree-returns-in-1-2 : goal.read_tree-returns-in-1-2
read_tree-returns-in-1-2 t c =
    let e : c.here-in-1-2.result ≡ fault NestedTooDeep c.args.at = search rules in
    let o = opens c.args.body.now c.args.at c.requires.0 (search rules) (search rules) (grind arith) in
    rw e (refused_here (64 - c.args.nesting) c.args.body.now c.args.at 8 (too_nested (64 - c.args.nesting) c.args.body.now c.args.at c.type_inv.body o (omega arith)))

pub read_tree-returns-in_err-end-in-1-3 : goal.read_tree-returns-in_err-end-in-1-3
read_tree-returns-in_err-end-in-1-3 t c =
    let p = err_from_is_err_and c.from_residual.result c.from_residual.ensures.1 in
    let o = opens c.args.body.now c.args.at c.requires.0 (search rules) (search rules) (grind arith) in
    let n : c.args.nesting ≤ 64 = c.requires.1.0 in
    let m : (c.args.nesting ≡ 0) → ⊥ = c.if-nesting-eq0.false in
    let k : 64 - (c.args.nesting - 1) ≡ suc (64 - c.args.nesting) = omega arith in
    let l : 64 - c.args.nesting < 64 = omega arith in
    rw (p.1, p.2) (refused_inside (64 - c.args.nesting) (64 - (c.args.nesting - 1)) c.args.body.now c.args.at _ _ c.type_inv.body o l k c.in_err-end-in-1-3.ensures)

pub read_tree-returns-then-end-body : goal.read_tree-returns-then-end-body
read_tree-returns-then-end-body t c =
    let o = opens c.args.body.now c.args.at c.requires.0 (search rules) (search rules) (grind arith) in
    let n : c.args.nesting ≤ 64 = c.requires.1.0 in
    let m : (c.args.nesting ≡ 0) → ⊥ = c.if-nesting-eq0.false in
    let s = c.in_ok-end-in-1-3.ensures.0 in
    let e : c.in_ok-end-in-1-3.end ≡ length c.args.body.now = c.if-end-body.true in
    let w = refused_here (suc (64 - c.args.nesting)) c.args.body.now c.in_ok-end-in-1-3.end 7
    (unclosed (suc (64 - c.args.nesting)) c.args.body.now c.in_ok-end-in-1-3.end (omega arith) (omega arith)) in
    refused_inside (64 - c.args.nesting) (suc (64 - c.args.nesting)) c.args.body.now c.args.at _ _ c.type_inv.body o (omega arith) refl
    (refused_after (c.args.nesting - 1) (suc (64 - c.args.nesting)) c.args.body.now (c.args.at + 3) c.in_ok-end-in-1-3.end _ _ (omega arith) s w)

pub read_tree-returns-else-end-body : goal.read_tree-returns-else-end-body
read_tree-returns-else-end-body t c =
    let o = opens c.args.body.now c.args.at c.requires.0 (search rules) (search rules) (grind arith) in
    let s = c.in_ok-end-in-1-3.ensures.0 in
    let x = c.if-end-body.false in
    let two : get_or c.args.body.now c.in_ok-end-in-1-3.end 0 ≡ 2
    = elim c.in_ok-end-in-1-3.ensures.1 [ inl y ↦ absurd (x y) | inr y ↦ y ] in (
      omega (arith, s.onward),
      stretch_node c.args.nesting c.args.body.now c.args.at c.in_ok-end-in-1-3.end c.type_inv.body o (search rules) s (omega (arith, s.inside)) two,
    )

pub read_tree-returns-in-3 : goal.read_tree-returns-in-3
read_tree-returns-in-3 t c =
    text_seen c.args.body.now c.args.at c.requires.0 c.args.nesting c.from-in-3.result c.type_inv.body (search rules) c.from-in-3.ensures (grind arith)

pub read_tree-returns-in-1-4 : goal.read_tree-returns-in-1-4
read_tree-returns-in-1-4 t c =
    let e : c.here-in-1-4.result ≡ fault TreeCutShort c.args.at = search rules in
    let cut : ShortSeen c.args.body.now c.args.at c.requires.0 = grind arith in
    rw e (short_seen c.args.body.now c.args.at c.requires.0 (64 - c.args.nesting) cut)

pub read_tree-returns-in_default : goal.read_tree-returns-in_default
read_tree-returns-in_default t c =
    let e : c.here-in_default.result ≡ fault NoTree c.args.at = search rules in
    rw e (no_mark_seen c.args.body.now c.args.at c.requires.0 (64 - c.args.nesting) (search rules) c.requires.1.1 (search rules))
