-- Reading: what a body stands for, and which refusal is due where it stands for nothing.
use Rattle.std.specs.Prelude.{◌≡◌, ℕ, suc, ◌+◌, ◌-◌, ◌*◌, ◌/◌, ◌%◌, ◌<◌, ◌≤◌, ◌⊎◌, List, [], ◌∷◌, ◌++◌, length, ◌≢◌}
use Rattle.forest.specs.Forest.{Forest, nil, text, node, Label, Text, Bytes, Record, bytes_of}

-- What a record is made of, from the left: openings of nodes, texts, closings of nodes.
pub data Token : Type 0 where
  opening : (label : ℕ) → Token
  chars : (bytes : List ℕ) → Token
  closing : Token

abbrev pub written : Token → List ℕ
written (opening l) = 1 ∷ (l / 256 ∷ (l % 256 ∷ []))
written (chars t) = 3 ∷ (length t ∷ t)
written closing = 2 ∷ []

abbrev pub all_written : List Token → List ℕ
all_written [] = []
all_written (t ∷ ts) = written t ++ all_written ts

-- The walk of a forest: its tokens in order.
abbrev pub walk : Forest → List Token
walk nil = []
walk (text t r) = chars t ∷ walk r
walk (node l c r) = opening l ∷ (walk c ++ (closing ∷ walk r))

-- The body stands for the record f.
pub record StandsFor (body : List ℕ) (f : Forest) : Type 0 where
  pub is_record : Record f
  pub is_written : body ≡ bytes_of f

-- With d nodes open, the tokens leave e open, no closing without an open node and no node inside 64 others.
abbrev pub LeavesOpen : ℕ → List Token → ℕ → Type 0
LeavesOpen d [] e = d ≡ e
LeavesOpen d (opening l ∷ ts) e = Label l × (d < 64) × LeavesOpen (suc d) ts e
LeavesOpen d (chars t ∷ ts) e = Text t × LeavesOpen d ts e
LeavesOpen d (closing ∷ ts) e = (0 < d) × LeavesOpen (d - 1) ts e

-- A token begins with the bytes and they end before it does.
pub data CutShort : List ℕ → Type 0 where
  in_opening : {s : List ℕ} → length s < 2 → CutShort (1 ∷ s)
  in_count : CutShort (3 ∷ [])
  in_text : {n : ℕ} {s : List ℕ} → length s < n → CutShort (3 ∷ (n ∷ s))

-- With d nodes open, what the refusal of this number says stands at the front of the bytes.
pub data Wrong (d : ℕ) : List ℕ → ℕ → Type 0 where
  cut_short : {s : List ℕ} → CutShort s → Wrong d s 4
  no_token : {b : ℕ} {s : List ℕ} → (b ≢ 1) → (b ≢ 2) → (b ≢ 3) → Wrong d (b ∷ s) 5
  label_zero : {s : List ℕ} → Wrong d (1 ∷ (0 ∷ (0 ∷ s))) 6
  stray_closing : {s : List ℕ} → d ≡ 0 → Wrong d (2 ∷ s) 7
  never_closed : 0 < d → Wrong d [] 7
  too_deep : {h l : ℕ} {s : List ℕ} → Label (h * 256 + l) → 64 ≤ d → Wrong d (1 ∷ (h ∷ (l ∷ s))) 8

-- With d nodes open at the front of the bytes, the refusal of this number is due at this offset:
-- whole tokens come before it, and what it says stands there.
pub record DueWithin (d : ℕ) (s : List ℕ) (number offset : ℕ) : Type 0 where
  pub before : List Token
  pub left : List ℕ
  pub «open» : ℕ
  pub splits : s ≡ all_written before ++ left
  pub leaves : LeavesOpen d before «open»
  pub offset_is : offset ≡ length (all_written before)
  pub wrong : Wrong «open» left number

-- The refusal of this number and place is due of the body.
pub data Due (body : List ℕ) : (number place : ℕ) → Type 0 where
  too_long : 4096 < length body → Due body 3 0
  within : {n p : ℕ} → length body ≤ 4096 → DueWithin 0 body n p → Due body n p

-- Every body stands for just one record or has just one refusal due.
pub record JustOne (body : List ℕ) : Type 0 where
  pub either : ((f : Forest) × StandsFor body f) ⊎ ((n p : ℕ) × Due body n p)
  pub one_record : (f g : Forest) → StandsFor body f → StandsFor body g → f ≡ g
  pub one_refusal : (n p m q : ℕ) → Due body n p → Due body m q → (n ≡ m) × (p ≡ q)
  pub not_both : (f : Forest) (n p : ℕ) → StandsFor body f → Due body n p → ⊥

abbrev pub AlwaysJustOne : Type 0
AlwaysJustOne = (body : List ℕ) → Bytes body → JustOne body

-- Each forest has one form.
abbrev pub OneForm : Type 0
OneForm = (f g : Forest) → bytes_of f ≡ bytes_of g → f ≡ g
