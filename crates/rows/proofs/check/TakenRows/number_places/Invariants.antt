use Rattle.std.proofs.Common.{◌≡◌, ℕ, ◌<◌, ◌≤◌, get_or, take}
use Rattle.rows.specs.Sheet.{places}
use Rattle.rows.proofs.Checks.{PlaceSet}
use Rattle.rows.proofs.check.TakenRows.number_places.Given as goal

abbrev pub invariant-loop-e : goal.invariant-loop-e
invariant-loop-e l =
    PlaceSet l.fn.self.rows.now l.e l.set × (places (take l.e l.fn.self.rows.now) ≤ 64)
    × ((k : ℕ) → k < l.e → get_or l.numbers k 0 ≡ places (take k l.fn.self.rows.now))
