-- Seasons of calls, and the law that holds in every one of them.
use Rattle.std.specs.Prelude.{◌≡◌, ℕ, ◌+◌, ◌-◌, ◌≤◌, min, ◌⊎◌, ◌↔◌, List, [], ◌∷◌, length, Ok, Err, Result}
use Rattle.std.proofs.Math.Option.{Option, none, some}
use Rattle.forest.specs.declared.fault.Fault.{Fault}
use Rattle.rows.specs.Sheet.{Sheet}
use Rattle.rows.specs.declared.row.Row.{Row}
use Rattle.measure.specs.Measure.{Costs}
use Rattle.law.specs.declared.Declined.{Declined}
use Rattle.forest.specs.Forest.{Forest}
use Rattle.judge.specs.Judging.{Lost}
use Rattle.law.specs.Calls.{Held, Begun, Lent, Passed, Fails, RecordOf, file_checks, Filing, Filed, Giving, Fetched}
use Rattle.law.specs.Calls.{earlier_checks, sorts_fit, DeclinedForLoss, Proposing, Proposed}

-- A season: a new register, and then any calls.

-- A call with what it was given, what it answered and what it left. A proposal comes with a measure.
pub data Event (M C L : Type 0) : Type 0 where
  proposed : (measure : M) (sheet : Sheet) (given : Lent L) (answer : Result ℕ (Declined C)) (left : Lent L) → Event M C L
  filed : (body : List ℕ) (answer : Result ℕ Fault) → Event M C L
  fetched : (number : ℕ) (buffer : List ℕ) (answer : Result (ℕ × ℕ) Fault) (buffer' : List ℕ) → Event M C L

-- The calls so far, the latest first.
abbrev pub History : Type 0 → Type 0 → Type 0 → Type 0
History M C L = List (Event M C L)

-- The call takes what the register held to what it holds.
abbrev pub Step : {M C L : Type 0} → (M → Costs C) → Event M C L → Held → Held → Type 0
Step model (proposed m sheet given answer left) s s' = Proposed (model m) s sheet given answer left s'
Step model (filed body answer) s s' = Filed s body answer s'
Step model (fetched k buffer answer buffer') s s' = Fetched s k buffer answer buffer' × (s' ≡ s)

-- The calls were made one after another, from a new register over that memory on, which then holds s.
abbrev pub Run : {M C L : Type 0} → (M → Costs C) → List Row → List ℕ → History M C L → Held → Type 0
Run model rows bytes [] s = Begun rows bytes s
Run model rows bytes (e ∷ h) s' = (s : Held) × (Run model rows bytes h s × Step model e s s')

-- What a history tells.

-- The newest edition: the sheet of the latest proposal that was accepted.
abbrev pub newest_in : {M C L : Type 0} → History M C L → Option Sheet
newest_in [] = none
newest_in (proposed m sheet given (Ok k) left ∷ h) = some sheet
newest_in (proposed m sheet given (Err d) left ∷ h) = newest_in h
newest_in (filed body answer ∷ h) = newest_in h
newest_in (fetched k buffer answer buffer' ∷ h) = newest_in h

-- How many proposals were accepted, and of how many rows together.
abbrev pub editions_in : {M C L : Type 0} → History M C L → ℕ
editions_in [] = 0
editions_in (proposed m sheet given (Ok k) left ∷ h) = editions_in h + 1
editions_in (proposed m sheet given (Err d) left ∷ h) = editions_in h
editions_in (filed body answer ∷ h) = editions_in h
editions_in (fetched k buffer answer buffer' ∷ h) = editions_in h

abbrev pub rows_taken : {M C L : Type 0} → History M C L → ℕ
rows_taken [] = 0
rows_taken (proposed m sheet given (Ok k) left ∷ h) = rows_taken h + length sheet
rows_taken (proposed m sheet given (Err d) left ∷ h) = rows_taken h
rows_taken (filed body answer ∷ h) = rows_taken h
rows_taken (fetched k buffer answer buffer' ∷ h) = rows_taken h

-- How many filings were accepted, and of how many bytes together.
abbrev pub records_in : {M C L : Type 0} → History M C L → ℕ
records_in [] = 0
records_in (proposed m sheet given answer left ∷ h) = records_in h
records_in (filed body (Ok k) ∷ h) = records_in h + 1
records_in (filed body (Err f) ∷ h) = records_in h
records_in (fetched k buffer answer buffer' ∷ h) = records_in h

abbrev pub bytes_taken : {M C L : Type 0} → History M C L → ℕ
bytes_taken [] = 0
bytes_taken (proposed m sheet given answer left ∷ h) = bytes_taken h
bytes_taken (filed body (Ok k) ∷ h) = bytes_taken h + length body
bytes_taken (filed body (Err f) ∷ h) = bytes_taken h
bytes_taken (fetched k buffer answer buffer' ∷ h) = bytes_taken h

-- The proposal of x was accepted as edition k.
abbrev pub Edition : {M C L : Type 0} → History M C L → ℕ → Sheet → Type 0
Edition [] k x = ⊥
Edition (proposed m sheet given (Ok n) left ∷ h) k x = ((k ≡ n) × (x ≡ sheet)) ⊎ Edition h k x
Edition (proposed m sheet given (Err d) left ∷ h) k x = Edition h k x
Edition (filed body answer ∷ h) k x = Edition h k x
Edition (fetched n buffer answer buffer' ∷ h) k x = Edition h k x

-- The filing of w was accepted as record k, when e proposals had been accepted.
abbrev pub Accepted : {M C L : Type 0} → History M C L → ℕ → List ℕ → ℕ → Type 0
Accepted [] k w e = ⊥
Accepted (proposed m sheet given answer left ∷ h) k w e = Accepted h k w e
Accepted (filed body (Ok n) ∷ h) k w e = ((k ≡ n) × (w ≡ body) × (e ≡ editions_in h)) ⊎ Accepted h k w e
Accepted (filed body (Err f) ∷ h) k w e = Accepted h k w e
Accepted (fetched n buffer answer buffer' ∷ h) k w e = Accepted h k w e

-- The law at one call.

-- The number of a record accepted so far gives it back as it was filed, with its length and edition, or 35;
-- any other number gives 34.
abbrev pub Fetching : {M C L : Type 0} → History M C L → ℕ → List ℕ → Result (ℕ × ℕ) Fault → List ℕ → Type 0
Fetching h k buffer answer buffer' =
    ((w : List ℕ) × (e : ℕ) × Accepted h k w e × Giving (some (record { bytes = w; edition = e })) buffer answer buffer')
    ⊎ (((w : List ℕ) (e : ℕ) → Accepted h k w e → ⊥) × Giving none buffer answer buffer')

-- A filing past all its checks is accepted with the next number; else the first check that fails refuses it.
pub record FilingLaw (x : Option Sheet) (records free : ℕ) (body : List ℕ) (answer : Result ℕ Fault) : Type 0 where
  pub decided : Filing x records free body answer
  pub accepted : Passed (file_checks x records free body) → answer ≡ Ok (records + 1)
  pub refused : (f : Fault) → Fails (file_checks x records free body) f → answer ≡ Err f

module _ {C L : Type 0} (costs : Costs C) (sheet : Sheet) (given left : Lent L) (editions free : ℕ) where
  -- The proposal passed 20 and 30, and against an edition 21 too.
  abbrev pub PastEarlier : Type 0
  PastEarlier = Passed (earlier_checks costs sheet given left editions free)

  abbrev pub PastSorts : Sheet → Type 0
  PastSorts old = PastEarlier × (sorts_fit costs sheet given left old).passes

  -- Some forest belongs to the edition and not to the proposal.
  abbrev pub SomeLost : Sheet → Type 0
  SomeLost old = (f : Forest) × Lost old sheet f

  -- It was declined with 36.
  abbrev pub LossTold : Sheet → Result ℕ (Declined C) → Type 0
  LossTold old answer = (d : Declined C) × (answer ≡ Err d) × DeclinedForLoss costs sheet given left old d

  -- Past the earlier checks, while there is no edition a proposal is accepted; once there is one, it is declined with
  -- 36 exactly when some forest belongs to the newest edition and not to the proposal, and else accepted.
  pub record ProposalLaw (x : Option Sheet) (answer : Result ℕ (Declined C)) : Type 0 where
    pub decided : Proposing costs sheet given left x editions free answer
    pub first : x ≡ none → PastEarlier → answer ≡ Ok (editions + 1)
    pub declined : (old : Sheet) → x ≡ some old → PastSorts old → LossTold old answer ↔ SomeLost old
    pub accepted : (old : Sheet) → x ≡ some old → PastSorts old → (SomeLost old → ⊥) → answer ≡ Ok (editions + 1)

-- The call was answered as the calls before it tell.
abbrev pub Answered : {M C L : Type 0} → (M → Costs C) → List Row → List ℕ → History M C L → Event M C L → Type 0
Answered model rows bytes h (proposed m sheet given answer left) =
    ProposalLaw (model m) sheet given left (editions_in h) (min (length rows) 2048 - rows_taken h) (newest_in h) answer
Answered model rows bytes h (filed body answer) =
    FilingLaw (newest_in h) (records_in h) (min (length bytes) 65536 - bytes_taken h) body answer
Answered model rows bytes h (fetched k buffer answer buffer') = Fetching h k buffer answer buffer'

-- Every accepted record belongs to the edition it was filed under, which there is, and to every later one.
pub record Standing {M C L : Type 0} (h : History M C L) : Type 0 where
  pub under : (k : ℕ) (w : List ℕ) (e : ℕ) → Accepted h k w e → (x : Sheet) × Edition h e x
  pub belongs : (k : ℕ) (w : List ℕ) (e : ℕ) → Accepted h k w e → (i : ℕ) (x : Sheet) → Edition h i x → e ≤ i → RecordOf x w

-- The law of a season: at every call.
abbrev pub Lawful : {M C L : Type 0} → (M → Costs C) → List Row → List ℕ → History M C L → Type 0
Lawful model rows bytes [] = Unit {0}
Lawful model rows bytes (e ∷ h) = Answered model rows bytes h e × Standing (e ∷ h) × Lawful model rows bytes h

-- Every season is lawful.
abbrev pub SeasonLaw : (M C L : Type 0) → (M → Costs C) → Type 0
SeasonLaw M C L model =
    (rows : List Row) (bytes : List ℕ) (h : History M C L) (end : Held) → Run model rows bytes h end → Lawful model rows bytes h
