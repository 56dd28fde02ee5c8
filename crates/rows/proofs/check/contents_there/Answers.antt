use Rattle.std.proofs.Common.{ℕ, ◌<◌, ◌≤◌, length, Option, refl, subst, arith, rules, tests}
use Rattle.std.specs.List.{AllWithin, HoldsAt}
use Rattle.std.specs.Option.{MatchOption}
use Rattle.std.proofs.lemmas.Iterator.{IsFirst-from_position, YieldsList-from_slice}
use Rattle.rows.specs.Sheet.{Sheet, Row, definitions, empty}
use Rattle.rows.proofs.Numbers.{at_get_or}
use Rattle.rows.proofs.Checks.{NamesOne, content_missing, content_held}
use Rattle.rows.proofs.check.contents_there.Goals.{After-position-missing}
use Rattle.rows.proofs.check.contents_there.Goals as goal

abbrev Missing : ℕ → Row → Type 0
Missing n r = (d : ℕ) × NamesOne r d × (n ≤ d)

abbrev Held : ℕ → Row → Type 0
Held n r = (d : ℕ) → NamesOne r d → d < n

-- What `position` tells.
abbrev Found : ℕ → Sheet → Option ℕ → Type 0
Found n s o = MatchOption o (AllWithin (Held n) s 0 (length s)) (λ i. (i < length s) × HoldsAt (Missing n) s i × AllWithin (Held n) s 0 i)

found : (c : After-position-missing) → Found (definitions c.args.rows.now) c.args.rows.now c.position-missing.result
found c =
    subst (λ (n : ℕ). Found n c.args.rows.now c.position-missing.result) c.count_definitions-count.ensures
    (IsFirst-from_position _ _ _ (Missing c.count_definitions-count.result) (Held c.count_definitions-count.result) c.position-missing.ensures.ran (YieldsList-from_slice _ c.iter.ensures.rest)
    (λ x q k. search (rules, tests)) (λ x q k. (search (rules, tests), λ d e. search (rules, tests))))

pub returns-in-Some : goal.returns-in-Some
returns-in-Some c =
    let s = c.args.rows.now in
    let w = subst (Found (definitions c.args.rows.now) c.args.rows.now) c.in-Some.is (found (goal.at.returns-in-Some c).After-position-missing) in
    let m = w.1 empty in (
      refl,
      record {
        within = w.0;
        below = λ k l. content_held s k _ (at_get_or s k empty (omega (arith, w.0))) (w.2 k empty (omega arith) l);
        fails = content_missing s c.in-Some.place _ m.0 (at_get_or s c.in-Some.place empty w.0) m.1 m.2;
      },
    )

pub returns-in-None : goal.returns-in-None
returns-in-None c =
    let s = c.args.rows.now in
    let w = subst (Found (definitions c.args.rows.now) c.args.rows.now) c.in-None.is (found (goal.at.returns-in-None c).After-position-missing) in
    λ k l. content_held s k _ (at_get_or s k empty l) (w k empty (omega arith) l)
