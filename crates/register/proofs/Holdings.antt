-- The fields of a register and what it holds.
use Rattle.std.proofs.Common.{◌≡◌, ℕ, zero, suc, ◌+◌, ◌-◌, ◌<◌, ◌≤◌, min, List, [], ◌∷◌, ◌++◌, length, get_or, set, refl, ap, subst, arith}
use mathlib.Core.Option.{none, some}
use Rattle.std.specs.declared.option.Option as std
use Rattle.std.specs.Prelude.{Some}
use Rattle.sheet.specs.declared.sound.SoundSheet.{SoundSheet}
use Rattle.register.specs.Newest.{IsNewest}
use Rattle.sheet.specs.Held.{rows_of}
use Rattle.store.specs.Packing.{total}
use Rattle.store.specs.Stores.{lists, free, Takes}
use Rattle.store.proofs.Packed.{counted}
use Rattle.law.specs.Calls.{Kept, newest, numbered, bytes_in, free_bytes}
use Rattle.register.specs.declared.register.Register.{Register}
use Rattle.register.specs.Holding.{kept_under, held}
use Rattle.register.specs.Inner.{TakesRecord}

-- records beside their editions
pub under_long : (ws : List (List ℕ)) (es : List ℕ) → length ws ≤ length es → length (kept_under ws es) ≡ length ws
under_long [] es h = refl
under_long (w ∷ ws) [] h = let z : ⊥ = omega arith in absurd z
under_long (w ∷ ws) (e ∷ es) h = ap suc (under_long ws es (omega arith))

under_bytes : (ws : List (List ℕ)) (es : List ℕ) → length ws ≤ length es → bytes_in (kept_under ws es) ≡ total ws
under_bytes [] es h = refl
under_bytes (w ∷ ws) [] h = let z : ⊥ = omega arith in absurd z
under_bytes (w ∷ ws) (e ∷ es) h = ap (λ (n : ℕ). length w + n) (under_bytes ws es (omega arith))

pub under_push : (ws : List (List ℕ)) (es : List ℕ) (w : List ℕ) (e : ℕ) → length ws < length es → kept_under (ws ++ w ∷ []) (set es (length ws) e) ≡ kept_under ws es ++ (record { bytes = w; edition = e }) ∷ []
under_push [] [] w e h = let z : ⊥ = omega arith in absurd z
under_push [] (x ∷ es) w e h = refl
under_push (v ∷ ws) [] w e h = let z : ⊥ = omega arith in absurd z
under_push (v ∷ ws) (x ∷ es) w e h = ap (λ (ks : List Kept). record { bytes = v; edition = x } ∷ ks) (under_push ws es w e (omega arith))

pub under_at : (ws : List (List ℕ)) (es : List ℕ) (k : ℕ) → length ws ≤ length es → k < length ws → numbered (kept_under ws es) (suc k) ≡ some (record { bytes = get_or ws k []; edition = get_or es k 0 })
under_at [] es k h lt = let z : ⊥ = omega arith in absurd z
under_at (w ∷ ws) [] k h lt = let z : ⊥ = omega arith in absurd z
under_at (w ∷ ws) (e ∷ es) zero h lt = refl
under_at (w ∷ ws) (e ∷ es) (suc k) h lt = under_at ws es k (omega arith) (omega arith)

pub under_none : (ws : List (List ℕ)) (es : List ℕ) (k : ℕ) → length ws < k → numbered (kept_under ws es) k ≡ none
under_none [] es k h = refl
under_none (w ∷ ws) [] k h = refl
under_none (w ∷ ws) (e ∷ es) zero h = refl
under_none (w ∷ ws) (e ∷ es) (suc zero) h = let z : ⊥ = omega arith in absurd z
under_none (w ∷ ws) (e ∷ es) (suc (suc k)) h = under_none ws es (suc k) (omega arith)

module _ (r : Register) where
  pub few_records : length (lists r.records) ≤ length r.under
  few_records = let e = counted r.records in omega arith

  pub kept_count : length (held r).kept ≡ length (lists r.records)
  kept_count = under_long (lists r.records) r.under few_records

  pub newest_is : (x : SoundSheet) → r.newest ≡ Some x → newest (held r).editions ≡ some (rows_of x)
  newest_is x e = subst (λ (o : std.Option SoundSheet). IsNewest o (lists r.editions)) e r.last

  free_bytes_is : free_bytes (held r) ≡ min (length (free r.records)) (r.records.limit - total (lists r.records))
  free_bytes_is = let e = under_bytes (lists r.records) r.under few_records in omega arith

  pub takes_record : (n : ℕ) → Takes r.records n → TakesRecord (held r) n
  takes_record n t = let e = kept_count in let f = free_bytes_is in let a = t.0 in let b = t.1 in (omega arith, omega arith)

  pub record_taken : (n : ℕ) → TakesRecord (held r) n → Takes r.records n
  record_taken n t = let e = kept_count in let f = free_bytes_is in let a = t.0 in let b = t.1 in (omega arith, omega arith)
