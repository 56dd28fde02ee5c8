-- A season may mix kinds of measure: a call made with a measure of one kind is the same call made with it
-- as one of two kinds together, its told cost as a cost of either kind.
use Rattle.std.specs.Prelude.{ℕ, Ok, Err, Result}
use Rattle.measure.specs.declared.either.Either.TheVariants.{One, Other}
use Rattle.measure.specs.Measure.{Costs}
use Rattle.measure.specs.Eithers.{either_costs}
use Rattle.law.specs.declared.Declined.{Declined}
use Rattle.law.specs.declared.Declined.TheVariants.{Refused, Loses}
use Rattle.law.specs.Calls.{Held}
use Rattle.law.specs.Law.{Event, proposed, filed, fetched, Step}

-- The same answer with another cost.
abbrev pub declined_as : {C D : Type 0} → (C → D) → Declined C → Declined D
declined_as f (Refused x) = Refused x
declined_as f (Loses l) = Loses (record { cost = f l.cost; length = l.length; shown = l.shown })

abbrev pub answered_as : {C D : Type 0} → (C → D) → Result ℕ (Declined C) → Result ℕ (Declined D)
answered_as f (Ok k) = Ok k
answered_as f (Err d) = Err (declined_as f d)

-- The same call with another measure and cost.
abbrev pub called_as : {M N C D L : Type 0} → (M → N) → (C → D) → Event M C L → Event N D L
called_as g f (proposed m sheet given answer left) = proposed (g m) sheet given (answered_as f answer) left
called_as g f (filed body answer) = filed body answer
called_as g f (fetched k buffer answer buffer') = fetched k buffer answer buffer'

pub record Mixes {A B C D : Type 0} (L : Type 0) (p : A → Costs C) (q : B → Costs D) : Type 0 where
  pub one : (e : Event A C L) (s s' : Held) → Step p e s s' → Step (either_costs p q) (called_as One One e) s s'
  pub other : (e : Event B D L) (s s' : Held) → Step q e s s' → Step (either_costs p q) (called_as Other Other e) s s'
