-- What a call that hands out an event says.
use Rattle.std.specs.Prelude.{◌≡◌, List, Option}
use Rattle.forest.specs.declared.event.Event.{Event}
use Rattle.forest.specs.declared.events.Events.{Events}
use Rattle.forest.specs.Events.{ToCome, Handed}
use Rattle.forest.specs.Reading.{Token}

-- The first token that is still to come is handed out, of the same body.
pub record HandsOut (before : Events) (event : Option Event) (after : Events) : Type 0 where
  pub same : after.body.now ≡ before.body.now
  pub handed : (ts : List Token) → ToCome before.body.now before.at ts → Handed before.body.now before.at ts event after.at
