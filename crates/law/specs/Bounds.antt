-- Calls at their bounds: the last that is accepted and the first that is not, and which check comes first.
-- A refusal is any fault that tells its number and place.
use Rattle.forest.specs.declared.fault.Fault.{Fault}
use Rattle.forest.specs.Refusals.{number_of, told}
use Rattle.std.specs.Prelude.{◌≡◌, ℕ, ◌+◌, ◌<◌, ◌≤◌, min, true, false, ◌⊎◌, List, length, take, drop, Ok, Err}
use Rattle.std.proofs.Math.Option.{Option, none, some}
use Rattle.forest.specs.Forest.{Forest, bytes_of}
use Rattle.forest.specs.Reading.{StandsFor, Due}
use Rattle.rows.specs.Sheet.{Sheet}
use Rattle.rows.specs.declared.row.Row.{Row}
use Rattle.sheet.specs.Meaning.{OfSheet}
use Rattle.measure.specs.Measure.{Costs, cost_of}
use Rattle.judge.specs.Judging.{MoreSorts, Lost, AllKept, Told}
use Rattle.loss.specs.declared.verdict.Loss.{Loss}
use Rattle.law.specs.declared.Declined.TheVariants.{Refused, Loses}
use Rattle.law.specs.Calls.{Kept, Held, Begun, numbered, free_rows, free_bytes, with_edition, with_record, RecordOf, Filing, Fetched, Lent, Proposing}

-- A filing, by the newest edition, the number of records held and of bytes free.
pub record FilingBounds : Type 0 where
  pub no_edition : (n free : ℕ) (body : List ℕ) (f : Fault) → told f ≡ (31, 0) → Filing none n free body (Err f)
  pub no_record : (x : Sheet) (n free : ℕ) (body : List ℕ) (f : Fault) → Due body (number_of f.refusal) f.place
      → Filing (some x) n free body (Err f)
  pub not_of_newest : (x : Sheet) (n free : ℕ) (body : List ℕ) (forest : Forest) (f : Fault) → StandsFor body forest → (OfSheet x forest → ⊥)
      → told f ≡ (32, 0) → Filing (some x) n free body (Err f)
  pub one_too_many : (x : Sheet) (free : ℕ) (body : List ℕ) (f : Fault) → RecordOf x body → told f ≡ (33, 0) → Filing (some x) 256 free body (Err f)
  pub one_byte_short : (x : Sheet) (n free : ℕ) (body : List ℕ) (f : Fault) → RecordOf x body → length body ≡ free + 1
      → told f ≡ (33, 0) → Filing (some x) n free body (Err f)
  pub last : (x : Sheet) (body : List ℕ) → RecordOf x body → Filing (some x) 255 (length body) body (Ok 256)

-- A fetch, by what is held: records are numbered from 1, and a buffer may be as long as the record.
pub record FetchingBounds (s : Held) : Type 0 where
  pub none_is_0 : (buffer : List ℕ) (f : Fault) → told f ≡ (34, 0) → Fetched s 0 buffer (Err f) buffer
  pub past_last : (buffer : List ℕ) (f : Fault) → told f ≡ (34, 0) → Fetched s (length s.kept + 1) buffer (Err f) buffer
  pub fits : (k : ℕ) (r : Kept) (buffer : List ℕ) → numbered s.kept k ≡ some r → length buffer ≡ length r.bytes
      → Fetched s k buffer (Ok (length r.bytes, r.edition)) r.bytes
  pub one_byte_short : (k : ℕ) (r : Kept) (buffer : List ℕ) (f : Fault) → numbered s.kept k ≡ some r → length buffer + 1 ≡ length r.bytes
      → told f ≡ (35, 0) → Fetched s k buffer (Err f) buffer

-- A proposal, by the newest edition, the number of editions held and of rows free.
pub record ProposalBounds {C : Type 0} (L : Type 0) (costs : Costs C) (sheet : Sheet) : Type 0 where
  pub no_list : (given : Lent L) (x : Option Sheet) (n free : ℕ) (f : Fault) → length given.list ≡ 0
      → told f ≡ (20, 0) → Proposing costs sheet given given x n free (Err (Refused f))
  pub long_list : (given : Lent L) (x : Option Sheet) (n free : ℕ) (f : Fault) → length given.list ≡ 1025
      → told f ≡ (20, 0) → Proposing costs sheet given given x n free (Err (Refused f))
  pub one_too_many : (given : Lent L) (x : Option Sheet) (free : ℕ) (f : Fault) → length given.list ≡ 1
      → told f ≡ (30, 0) → Proposing costs sheet given given x 16 free (Err (Refused f))
  pub one_row_short : (given : Lent L) (x : Option Sheet) (n free : ℕ) (f : Fault) → length given.list ≡ 1024 → length sheet ≡ free + 1
      → told f ≡ (30, 0) → Proposing costs sheet given given x n free (Err (Refused f))
  pub first : (given : Lent L) → length given.list ≡ 1 → Proposing costs sheet given given none 0 (length sheet) (Ok 1)
  pub more_sorts : (given left : Lent L) (old : Sheet) (f : Fault) → length given.list ≡ 1024 → MoreSorts old sheet 1024 → left.show ≡ given.show
      → told f ≡ (21, 0) → Proposing costs sheet given left (some old) 15 (length sheet) (Err (Refused f))
  pub last : (given left : Lent L) (old : Sheet) → length given.list ≡ 1024 → (MoreSorts old sheet 1024 → ⊥) → AllKept old sheet
      → left.show ≡ given.show → Proposing costs sheet given left (some old) 15 (length sheet) (Ok 16)
  pub loss : (given left : Lent L) (old : Sheet) (l : Loss C) → length given.list ≡ 1024
      → (MoreSorts old sheet 1024 → ⊥) → Told costs old sheet l.cost l.length l.shown given.show left.show
      → Proposing costs sheet given left (some old) 15 (length sheet) (Err (Loses l))

-- Free is what none has taken of the memory, of which 2,048 rows and 65,536 bytes are used.
pub record MemoryBounds : Type 0 where
  pub at_first : (rows : List Row) (bytes : List ℕ) (s : Held) → Begun rows bytes s
      → (free_rows s ≡ min (length rows) 2048) × (free_bytes s ≡ min (length bytes) 65536)
  pub edition_takes : (s : Held) (x : Sheet) → length x ≤ free_rows s
      → (free_rows (with_edition s x) + length x ≡ free_rows s) × (free_bytes (with_edition s x) ≡ free_bytes s)
  pub record_takes : (s : Held) (w : List ℕ) → length w ≤ free_bytes s
      → (free_bytes (with_record s w) + length w ≡ free_bytes s) × (free_rows (with_record s w) ≡ free_rows s)

-- What is told of a loss: where it is shown, the first bytes of the buffer, as many as the length says, are a lost forest
-- of that cost, and the bytes after them are as they were; else the length is above that of the part used.
pub record LossShows {C : Type 0} (costs : Costs C) (old new : Sheet) : Type 0 where
  pub shown : (cost : C) (size : ℕ) (buffer buffer' : List ℕ) → Told costs old new cost size true buffer buffer'
      → (f : Forest) × Lost old new f × (cost ≡ cost_of costs.rules f) × (take size buffer' ≡ bytes_of f)
      × (drop size buffer' ≡ drop size buffer) × (size ≤ 65535) × (length buffer' ≡ length buffer)
  pub not_shown : (cost : C) (size : ℕ) (buffer buffer' : List ℕ) → Told costs old new cost size false buffer buffer'
      → (f : Forest) × Lost old new f × (cost ≡ cost_of costs.rules f) × (size ≡ min (length (bytes_of f)) 1000000000)
      × (buffer' ≡ buffer) × ((length buffer < size) ⊎ (65535 < size))

-- The calls of every register keep to them, by any measure.
pub record CallBounds {M C : Type 0} (L : Type 0) (model : M → Costs C) : Type 0 where
  pub filing : FilingBounds
  pub fetching : (s : Held) → FetchingBounds s
  pub proposal : (m : M) (sheet : Sheet) → ProposalBounds L (model m) sheet
  pub memory : MemoryBounds
  pub loss_shows : (m : M) (old new : Sheet) → LossShows (model m) old new
