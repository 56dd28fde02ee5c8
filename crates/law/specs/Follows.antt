-- What follows from the law of every season: the newest edition reads every record, a call has one answer,
-- numbers count up from 1 and keep what they number, and no limit is passed.
use Rattle.std.specs.Prelude.{◌≡◌, ℕ, ◌+◌, ◌<◌, ◌≤◌, Bool, ◌↔◌, List, ◌∷◌, length, take, Ok, Err, Result, ◌≢◌}
use Rattle.std.proofs.Math.Option.{Option, none, some}
use Rattle.forest.specs.declared.fault.Fault.{Fault}
use Rattle.rows.specs.Sheet.{Sheet}
use Rattle.rows.specs.declared.row.Row.{Row}
use Rattle.measure.specs.Measure.{Costs}
use Rattle.law.specs.declared.Declined.{Declined}
use Rattle.law.specs.Calls.{Held, newest, Lent, refusal, loss, reason, RecordOfNewest, Filed, Fetched, Proposed}
use Rattle.law.specs.Law.{Event, proposed, filed, fetched, History, newest_in, editions_in, rows_taken, records_in, bytes_taken, Edition, Accepted, Answered, Lawful}

-- What a fetch that succeeds gives stands for a record of the newest edition.
abbrev pub GivenReads : {M C L : Type 0} → History M C L → Event M C L → Type 0
GivenReads h (proposed m sheet given answer left) = Unit {0}
GivenReads h (filed body answer) = Unit {0}
GivenReads h (fetched k buffer (Ok told) buffer') = RecordOfNewest (newest_in h) (take told.0 buffer')
GivenReads h (fetched k buffer (Err f) buffer') = Unit {0}

-- The newest edition, which there is, reads every record accepted so far, and what the next fetch gives.
pub record NewestReads {M C L : Type 0} (model : M → Costs C) (rows : List Row) (bytes : List ℕ) (h : History M C L) : Type 0 where
  pub accepted : (k : ℕ) (w : List ℕ) (e : ℕ) → Accepted h k w e → RecordOfNewest (newest_in h) w
  pub given : (e : Event M C L) → Answered model rows bytes h e → GivenReads h e

-- An accepted call is told the next number, and stands in the history under it.
abbrev pub ToldNext : {M C L : Type 0} → History M C L → Event M C L → Type 0
ToldNext h (proposed m sheet given (Ok k) left) = (k ≡ editions_in h + 1) × Edition (proposed m sheet given (Ok k) left ∷ h) k sheet
ToldNext h (proposed m sheet given (Err d) left) = Unit {0}
ToldNext h (filed body (Ok k)) = (k ≡ records_in h + 1) × Accepted (filed body (Ok k) ∷ h) k body (editions_in h)
ToldNext h (filed body (Err f)) = Unit {0}
ToldNext h (fetched k buffer answer buffer') = Unit {0}

-- The numbers from 1 to the count of editions, and no others, are each the number of one edition; so with records.
-- The newest edition is the one of the highest number. Nothing that was accepted is lost by a later call.
pub record CountsUp {M C L : Type 0} (model : M → Costs C) (rows : List Row) (bytes : List ℕ) (h : History M C L) : Type 0 where
  pub next : (e : Event M C L) → Answered model rows bytes h e → ToldNext h e
  pub editions : (k : ℕ) → ((0 < k) × (k ≤ editions_in h)) ↔ ((x : Sheet) × Edition h k x)
  pub one_edition : (k : ℕ) (x y : Sheet) → Edition h k x → Edition h k y → x ≡ y
  pub records : (k : ℕ) → ((0 < k) × (k ≤ records_in h)) ↔ ((w : List ℕ) × (e : ℕ) × Accepted h k w e)
  pub one_record : (k : ℕ) (w v : List ℕ) (e d : ℕ) → Accepted h k w e → Accepted h k v d → (w ≡ v) × (e ≡ d)
  pub newest : (x : Sheet) → (newest_in h ≡ some x) ↔ Edition h (editions_in h) x
  pub edition_stays : (e : Event M C L) (k : ℕ) (x : Sheet) → Edition h k x → Edition (e ∷ h) k x
  pub record_stays : (e : Event M C L) (k : ℕ) (w : List ℕ) (i : ℕ) → Accepted h k w i → Accepted (e ∷ h) k w i

-- At most 16 editions, 256 records, 2,048 rows and 65,536 record bytes, and no more than the memory has.
pub record Within {M C L : Type 0} (rows : List Row) (bytes : List ℕ) (h : History M C L) : Type 0 where
  pub editions : editions_in h ≤ 16
  pub records : records_in h ≤ 256
  pub rows_fit : (rows_taken h ≤ length rows) × (rows_taken h ≤ 2048)
  pub bytes_fit : (bytes_taken h ≤ length bytes) × (bytes_taken h ≤ 65536)

-- Two outcomes of one proposal while x is the newest edition, each with what it leaves of what was lent: both accepted
-- with one number, both refused with one number and place, or both declined for a loss, each told cost at most the other.
-- They differ in the list only if judging began, and in the buffer only if a loss is told.
pub data Alike {C L : Type 0} (costs : Costs C) (x : Option Sheet) : (a b : Result ℕ (Declined C)) → (left left' : Lent L) → Type 0 where
  both_accepted : {k : ℕ} {left left' : Lent L} → left.show ≡ left'.show → (x ≡ none → left ≡ left') → Alike costs x (Ok k) (Ok k) left left'
  both_refused : {c d : Declined C} {n : ℕ} {left left' : Lent L} → reason c ≡ refusal n 0 → reason d ≡ refusal n 0
      → left.show ≡ left'.show → ((n ≢ 21) → left ≡ left') → Alike costs x (Err c) (Err d) left left'
  both_lost : {c d : Declined C} {least least' : C} {size size' : ℕ} {shown shown' : Bool} {left left' : Lent L}
      → reason c ≡ loss 36 least size shown → reason d ≡ loss 36 least' size' shown'
      → costs.le least least' → costs.le least' least → Alike costs x (Err c) (Err d) left left'

-- Two answers to one call that are both as the calls before it tell are one answer.
pub record OneAnswer {M C L : Type 0} (model : M → Costs C) (rows : List Row) (bytes : List ℕ) (h : History M C L) : Type 0 where
  pub propose : (m : M) (sheet : Sheet) (given left left' : Lent L) (a b : Result ℕ (Declined C))
      → Answered model rows bytes h (proposed m sheet given a left) → Answered model rows bytes h (proposed m sheet given b left')
      → Alike (model m) (newest_in h) a b left left'
  pub file : (body : List ℕ) (a b : Result ℕ Fault)
      → Answered {L = L} model rows bytes h (filed body a) → Answered {L = L} model rows bytes h (filed body b) → a ≡ b
  pub fetch : (k : ℕ) (buffer : List ℕ) (a b : Result (ℕ × ℕ) Fault) (buffer' buffer'' : List ℕ)
      → Answered {L = L} model rows bytes h (fetched k buffer a buffer') → Answered {L = L} model rows bytes h (fetched k buffer b buffer'')
      → (a ≡ b) × (buffer' ≡ buffer'')

-- So with the calls of a register, by what it holds.
pub record OneOutcome {M C : Type 0} (L : Type 0) (model : M → Costs C) (s : Held) : Type 0 where
  pub propose : (m : M) (sheet : Sheet) (given left left' : Lent L) (a b : Result ℕ (Declined C)) (s' s'' : Held)
      → Proposed (model m) s sheet given a left s' → Proposed (model m) s sheet given b left' s''
      → Alike (model m) (newest s.editions) a b left left' × (s' ≡ s'')
  pub file : (body : List ℕ) (a b : Result ℕ Fault) (s' s'' : Held) → Filed s body a s' → Filed s body b s'' → (a ≡ b) × (s' ≡ s'')
  pub fetch : (k : ℕ) (buffer : List ℕ) (a b : Result (ℕ × ℕ) Fault) (buffer' buffer'' : List ℕ)
      → Fetched s k buffer a buffer' → Fetched s k buffer b buffer'' → (a ≡ b) × (buffer' ≡ buffer'')

-- In every lawful history. Every season is one, at every time.
abbrev pub WhereLawful : (M C L : Type 0) → (M → Costs C) → (List Row → List ℕ → History M C L → Type 0) → Type 0
WhereLawful M C L model holds =
    (rows : List Row) (bytes : List ℕ) (h : History M C L) → Lawful model rows bytes h → holds rows bytes h

pub record SeasonFollows (M C L : Type 0) (model : M → Costs C) : Type 0 where
  pub newest_reads : WhereLawful M C L model (NewestReads model)
  pub counts_up : WhereLawful M C L model (CountsUp model)
  pub within : WhereLawful M C L model Within
  pub one_answer : WhereLawful M C L model (OneAnswer model)
