use Rattle.std.proofs.Common.{◌≡◌, ℕ, ◌+◌, ◌<◌, length, get_or, take, set, sym, refl, ◌∙◌, subst, arith, get_or-set_other, get_or-set_same, below_more}
use lib.Count.{ones}
use Rattle.rows.specs.Sheet.{empty, places}
use Rattle.rows.proofs.Checks.{PlaceSet, place_of, place_more, place_same, set_more, set_same_more}
use Rattle.rows.proofs.check.TakenRows.number_places.Goals as goal
use Rattle.rows.proofs.check.TakenRows.number_places.Goals.{then-is_place+else-count-eq64, else-is_place}

pub returns-then-count-eq64 : goal.returns-then-count-eq64
returns-then-count-eq64 c = (
  refl,
  place_of c.args.self.rows.now c.loop-e.e empty c.loop-e-test.true (sym c.if-is_place.ensures),
  sym c.loop-e.invariant.0.many ∙ c.if-count-eq64.true,
)

pub loop-e-preserved : goal.loop-e-preserved
loop-e-preserved c =
    let s = c.args.self.rows.now in
    let e = c.loop-e.e in
    let h = c.loop-e-test.true in
    let inv = c.loop-e.invariant in
    let p = inv.0 in
    let l : c.loop-e.e < length c.loop-e.numbers = omega arith in
    let n = below_more (λ (k : ℕ). get_or (set c.loop-e.numbers c.loop-e.e (ones c.loop-e.set)) k 0 ≡ places (take k c.args.self.rows.now)) e
    (λ k b. get_or-set_other c.loop-e.numbers e k (ones c.loop-e.set) 0 (omega arith) ∙ inv.2 k b)
    (get_or-set_same c.loop-e.numbers e (ones c.loop-e.set) 0 l ∙ p.many) in
    elim c.if-is_place.branch [
      | then-is_place+else-count-eq64 w ↦
          let y = sym w.if-is_place.ensures in
          let w128 : c.loop-e.e < 128 = omega arith in (
            subst (λ (m : ℕ). PlaceSet c.args.self.rows.now (c.loop-e.e + 1) m) (sym w.set-is) (set_more s e c.loop-e.set empty w128 h y p),
            omega (arith, place_more s e empty h y, p.many, w.if-count-eq64.false),
            n,
          )
      | else-is_place w ↦
          let y = sym w.if-is_place.ensures in (
            subst (λ (m : ℕ). PlaceSet c.args.self.rows.now (c.loop-e.e + 1) m) (sym w.set-is) (set_same_more s e c.loop-e.set empty h y p),
            omega (arith, place_same s e empty h y),
            n,
          )
    ]
