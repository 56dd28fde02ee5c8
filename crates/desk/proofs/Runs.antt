-- Handling an entry is a step of a season, or none.
use Rattle.std.proofs.Common.{◌≡◌, ℕ, ◌<◌, List, [], ◌∷◌, length, sym, refl, subst}
use Rattle.measure.specs.declared.length.Length.{Length}
use Rattle.law.specs.Calls.{Held, Lent}
use Rattle.law.specs.Law as law
use Rattle.law.specs.Law.{Event, Run, Step}
use Rattle.law.proofs.Seasons.{season_lawful}
use Rattle.stream.specs.Line.{Field}
use Rattle.stream.specs.declared.buffer.LineBuffer.{LineBuffer}
use Rattle.stream.specs.Stream as stream
use Rattle.stream.specs.Stream.{Kind, Front, nothing, whole, in_mark, in_length, in_body, no_mark}
use Rattle.stream.proofs.Fronts.{shorter}
use Rattle.desk.specs.Handling.{Outcome, no_rows, not_sound, proposed, filed, Ending, Handled, at_end, refused, told, over, stops, goes_on}
use Rattle.desk.specs.Seasons.{by_length, StaysASeason}

-- At the end of an input nothing is left.
abbrev IsEnd : stream.Answer → List ℕ → Type 0
IsEnd stream.at_end s = s ≡ []
IsEnd (stream.entry k b r) s = Unit {0}
IsEnd (stream.refused n p) s = Unit {0}

ends : {s : List ℕ} {x : stream.Answer} → Front s x → IsEnd x s
ends nothing = refl
ends (whole k m l) = tt
ends in_mark = tt
ends (in_length k m l) = tt
ends (in_body k m l) = tt
ends (no_mark n) = tt

pub handled_end : {L : Type 0} (s : Held) (given : Lent L) (before : LineBuffer) (n : ℕ) (input : List ℕ) → Front input stream.at_end
    → Handled s given before n input over s given before
handled_end s given before n input f = subst (λ (i : List ℕ). Handled s given before n i over s given before) (sym (ends f)) at_end

-- A season stays one where nothing is held anew.
pub stays : (L : Type 0) (s : Held) → StaysASeason L s s
stays L s rows bytes h run = (h, run, season_lawful Length ℕ L by_length rows bytes h s run)

one_more : (L : Type 0) (s s' : Held) (e : Event Length ℕ L) → Step by_length e s s' → StaysASeason L s s'
one_more L s s' e step rows bytes h run =
    let more : Run by_length rows bytes (e ∷ h) s' = (s, (run, step)) in
    (e ∷ h, more, season_lawful Length ℕ L by_length rows bytes (e ∷ h) s' more)

pub stays_after : {L : Type 0} {s : Held} {given : Lent L} {k : Kind} {body : List ℕ} {fs : List Field} {s' : Held} {left : Lent L}
    → Outcome s given k body fs s' left → StaysASeason L s s'
stays_after {L} {s} (no_rows n) = stays L s
stays_after {L} {s} (not_sound e b d) = stays L s
stays_after {L} {s} {given} (proposed {sheet = x} {answer = a} {left = l} {s' = s'} e b p q) = one_more L s s' (law.proposed (record {}) x given a l) q
stays_after {L} {s} (filed {body = w} {answer = a} {s' = s'} q) = one_more L s s' (law.filed w a) q

-- What comes next is shorter than the input.
abbrev pub Shorter : Ending → List ℕ → Type 0
Shorter over input = Unit {0}
Shorter stops input = Unit {0}
Shorter (goes_on rest) input = length rest < length input

pub shortens : {L : Type 0} {s s' : Held} {given left : Lent L} {before after : LineBuffer} {n : ℕ} {input : List ℕ} {e : Ending}
    → Handled s given before n input e s' left after → Shorter e input
shortens at_end = tt
shortens (refused f t) = tt
shortens (told f o t) = shorter f

-- Where the reading is over nothing of the input is left.
abbrev pub Emptied : Ending → List ℕ → Type 0
Emptied over input = input ≡ []
Emptied stops input = Unit {0}
Emptied (goes_on rest) input = Unit {0}

pub ends_empty : {L : Type 0} {s s' : Held} {given left : Lent L} {before after : LineBuffer} {n : ℕ} {input : List ℕ} {e : Ending}
    → Handled s given before n input e s' left after → Emptied e input
ends_empty at_end = refl
ends_empty (refused f t) = tt
ends_empty (told f o t) = tt
