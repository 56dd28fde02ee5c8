-- What a register holds, and the one outcome of each of its calls for every input.
use Rattle.forest.specs.Refusals.{number_of, told}
use Rattle.std.specs.Prelude.{◌≡◌, ℕ, zero, suc, ◌+◌, ◌-◌, ◌<◌, ◌≤◌, min, Bool, ◌⊎◌, List, [], ◌∷◌, ◌++◌, length, drop, Ok, Err, Result, IsErrAnd}
use Rattle.std.proofs.Math.Option.{Option, none, some}
use Rattle.forest.specs.declared.fault.Fault.{Fault}
use Rattle.forest.specs.Forest.{Forest}
use Rattle.forest.specs.Reading.{StandsFor, Due}
use Rattle.rows.specs.Sheet.{Sheet}
use Rattle.rows.specs.declared.row.Row.{Row}
use Rattle.sheet.specs.Meaning.{OfSheet}
use Rattle.measure.specs.Measure.{Costs}
use Rattle.law.specs.declared.Declined.{Declined}
use Rattle.law.specs.declared.Declined.TheVariants.{Refused, Loses}
use Rattle.judge.specs.Judging.{MoreSorts, AllKept, Told, front}

-- What a register holds.

-- A record that is kept: its bytes, and the number of the edition it was filed under.
pub record Kept : Type 0 where
  pub bytes : List ℕ
  pub edition : ℕ

-- The editions and the kept records, the first first, and the memory that none of them has taken.
pub record Held : Type 0 where
  pub editions : List Sheet
  pub kept : List Kept
  pub rows_left : List Row
  pub bytes_left : List ℕ

-- The last item, where there is one.
abbrev pub last_or : {X : Type 0} → Option X → List X → Option X
last_or o [] = o
last_or o (x ∷ xs) = last_or (some x) xs

abbrev pub newest : List Sheet → Option Sheet
newest editions = last_or none editions

-- The item of a number, counted from 1.
abbrev pub numbered : {X : Type 0} → List X → ℕ → Option X
numbered [] k = none
numbered (x ∷ xs) zero = none
numbered (x ∷ xs) (suc zero) = some x
numbered (x ∷ xs) (suc (suc k)) = numbered xs (suc k)

-- An edition takes one row of the memory for each row of its sheet, a record one byte for each of its own.
abbrev pub rows_of : List Sheet → ℕ
rows_of [] = 0
rows_of (x ∷ xs) = length x + rows_of xs

abbrev pub bytes_in : List Kept → ℕ
bytes_in [] = 0
bytes_in (k ∷ ks) = length k.bytes + bytes_in ks

-- Free is what none has taken, of at most 2,048 rows and 65,536 record bytes in all.
abbrev pub free_rows : Held → ℕ
free_rows s = min (length s.rows_left) (2048 - rows_of s.editions)

abbrev pub free_bytes : Held → ℕ
free_bytes s = min (length s.bytes_left) (65536 - bytes_in s.kept)

-- A new register holds nothing, and its memory is what it was handed.
abbrev pub Begun : List Row → List ℕ → Held → Type 0
Begun rows bytes s = s ≡ record { editions = []; kept = []; rows_left = rows; bytes_left = bytes }

-- One more edition, or one more record under the newest edition.
abbrev pub with_edition : Held → Sheet → Held
with_edition s x = record {
  editions = s.editions ++ x ∷ [];
  kept = s.kept;
  rows_left = drop (length x) s.rows_left;
  bytes_left = s.bytes_left;
}

abbrev pub with_record : Held → List ℕ → Held
with_record s w = record {
  editions = s.editions;
  kept = s.kept ++ (record { bytes = w; edition = length s.editions }) ∷ [];
  rows_left = s.rows_left;
  bytes_left = drop (length w) s.bytes_left;
}

-- Checks in their order.

-- A check: what it is to pass it, and which refusal is due where it fails.
pub record Check (D : Type 0) : Type 1 where
  pub passes : Type 0
  pub refuses : D → Type 0

-- All the checks are passed.
abbrev pub Passed : {D : Type 0} → List (Check D) → Type 0
Passed [] = Unit {0}
Passed (c ∷ cs) = c.passes × Passed cs

-- The refusal is that of the first check that fails.
abbrev pub Fails : {D : Type 0} → List (Check D) → D → Type 0
Fails [] d = ⊥
Fails (c ∷ cs) d = c.refuses d ⊎ (c.passes × Fails cs d)

-- The checks decide a call: past all of them it is accepted, and else refused by the first that fails.
abbrev pub Decided : {A D : Type 0} → List (Check D) → Result A D → (A → Type 0) → Type 0
Decided checks (Ok a) accepted = Passed checks × accepted a
Decided checks (Err d) accepted = Fails checks d

-- Refusal n, at place 0, where p is not so.
abbrev pub unless : ℕ → Type 0 → Check Fault
unless n p = record { passes = p; refuses = λ f. (p → ⊥) × (told f ≡ (n, 0)) }

-- File.

-- The body stands for a record that belongs to the sheet.
pub record RecordOf (x : Sheet) (body : List ℕ) : Type 0 where
  pub forest : Forest
  pub stands : StandsFor body forest
  pub belongs : OfSheet x forest

abbrev pub ThereIs : Option Sheet → Type 0
ThereIs none = ⊥
ThereIs (some x) = Unit {0}

abbrev pub RecordOfNewest : Option Sheet → List ℕ → Type 0
RecordOfNewest none body = ⊥
RecordOfNewest (some x) body = RecordOf x body

-- Refusals 3 to 8, each with its place, where the body is no record.
abbrev pub reading : List ℕ → Check Fault
reading body = record { passes = (f : Forest) × StandsFor body f; refuses = λ r. Due body (number_of r.refusal) r.place }

-- By the newest edition, the number of records held and of bytes free.
abbrev pub file_checks : Option Sheet → ℕ → ℕ → List ℕ → List (Check Fault)
file_checks x records free body =
    unless 31 (ThereIs x)
    ∷ (reading body
    ∷ (unless 32 (RecordOfNewest x body)
    ∷ (unless 33 ((records < 256) × (length body ≤ free)) ∷ [])))

-- An accepted filing tells the record's number.
abbrev pub Filing : Option Sheet → ℕ → ℕ → List ℕ → Result ℕ Fault → Type 0
Filing x records free body answer = Decided (file_checks x records free body) answer (λ k. k ≡ records + 1)

abbrev pub after_filing : Held → List ℕ → Result ℕ Fault → Held
after_filing s body (Ok k) = with_record s body
after_filing s body (Err f) = s

pub record Filed (s : Held) (body : List ℕ) (answer : Result ℕ Fault) (s' : Held) : Type 0 where
  pub answers : Filing (newest s.editions) (length s.kept) (free_bytes s) body answer
  pub leaves : s' ≡ after_filing s body answer

-- Fetch.

-- The record of the number is copied to the buffer's front, and its length and edition are told;
-- 34 where there is none, 35 where the buffer is shorter, and then the buffer is left as it was.
abbrev pub Giving : Option Kept → List ℕ → Result (ℕ × ℕ) Fault → List ℕ → Type 0
Giving none buffer answer buffer' = IsErrAnd answer (λ f. told f ≡ (34, 0)) × (buffer' ≡ buffer)
Giving (some r) buffer answer buffer' =
    ((length r.bytes ≤ length buffer) × (answer ≡ Ok (length r.bytes, r.edition)) × (buffer' ≡ front r.bytes buffer))
    ⊎ ((length buffer < length r.bytes) × IsErrAnd answer (λ f. told f ≡ (35, 0)) × (buffer' ≡ buffer))

abbrev pub Fetched : Held → ℕ → List ℕ → Result (ℕ × ℕ) Fault → List ℕ → Type 0
Fetched s k buffer answer buffer' = Giving (numbered s.kept k) buffer answer buffer'

-- Propose.

-- What a proposal is lent: a working list, and a buffer to show a loss in.
pub record Lent (L : Type 0) : Type 0 where
  pub list : List L
  pub show : List ℕ

abbrev pub lent : {L : Type 0} → List L → List ℕ → Lent L
lent list show = record { list = list; show = show }

-- What a declined proposal tells, by number and values: a refusal and its place,
-- or 36 with the cost and the length of a lost forest and whether it is shown.
pub data Reason (C : Type 0) : Type 0 where
  refusal : (number place : ℕ) → Reason C
  loss : (number : ℕ) (cost : C) (size : ℕ) (shown : Bool) → Reason C

abbrev pub reason : {C : Type 0} → Declined C → Reason C
reason (Refused f) = refusal (number_of f.refusal) f.place
reason (Loses l) = loss 36 l.cost l.length l.shown

module _ {C L : Type 0} (costs : Costs C) (sheet : Sheet) (given left : Lent L) where
  -- 20 and 30 come before judging: what was lent is left as it was.
  abbrev pub before_judging : ℕ → Type 0 → Check (Declined C)
  before_judging n p = record { passes = p; refuses = λ d. (p → ⊥) × (reason d ≡ refusal n 0) × (left ≡ given) }

  -- 21: there are more sorts than the list has elements. The list may end in any state.
  abbrev pub sorts_fit : Sheet → Check (Declined C)
  sorts_fit old = record {
    passes = MoreSorts old sheet (length given.list) → ⊥;
    refuses = λ d. MoreSorts old sheet (length given.list) × (reason d ≡ refusal 21 0) × (left.show ≡ given.show);
  }

  -- 36: some forest belongs to the newest edition and not to the proposal.
  pub record DeclinedForLoss (old : Sheet) (d : Declined C) : Type 0 where
    pub cost : C
    pub size : ℕ
    pub shown : Bool
    pub tells : reason d ≡ loss 36 cost size shown
    pub told : Told costs old sheet cost size shown given.show left.show

  abbrev pub all_kept : Sheet → Check (Declined C)
  all_kept old = record { passes = AllKept old sheet; refuses = DeclinedForLoss old }

  -- By the number of editions held and of rows free.
  abbrev pub earlier_checks : ℕ → ℕ → List (Check (Declined C))
  earlier_checks editions free =
      before_judging 20 ((0 < length given.list) × (length given.list ≤ 1024))
      ∷ (before_judging 30 ((editions < 16) × (length sheet ≤ free)) ∷ [])

  -- While there is no edition a proposal is not judged.
  abbrev pub judging_checks : Option Sheet → List (Check (Declined C))
  judging_checks none = []
  judging_checks (some old) = sorts_fit old ∷ (all_kept old ∷ [])

  abbrev pub propose_checks : Option Sheet → ℕ → ℕ → List (Check (Declined C))
  propose_checks x editions free = earlier_checks editions free ++ judging_checks x

  -- An accepted proposal leaves the buffer as it was, and the list too if it was not judged.
  abbrev pub LeftAlone : Option Sheet → Type 0
  LeftAlone none = left ≡ given
  LeftAlone (some old) = left.show ≡ given.show

  -- It tells the edition's number.
  abbrev pub Proposing : Option Sheet → ℕ → ℕ → Result ℕ (Declined C) → Type 0
  Proposing x editions free answer = Decided (propose_checks x editions free) answer (λ k. (k ≡ editions + 1) × LeftAlone x)

abbrev pub after_proposing : {C : Type 0} → Held → Sheet → Result ℕ (Declined C) → Held
after_proposing s sheet (Ok k) = with_edition s sheet
after_proposing s sheet (Err d) = s

pub record Proposed {C L : Type 0} (costs : Costs C) (s : Held) (sheet : Sheet) (given : Lent L)
    (answer : Result ℕ (Declined C)) (left : Lent L) (s' : Held) : Type 0 where
  pub answers : Proposing costs sheet given left (newest s.editions) (length s.editions) (free_rows s) answer
  pub leaves : s' ≡ after_proposing s sheet answer
