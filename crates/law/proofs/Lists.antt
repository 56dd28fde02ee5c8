-- The last item and the item of a number, with one more at the end; and the one forest of a body.
use Rattle.std.proofs.Common.{◌≡◌, ℕ, zero, suc, ◌+◌, ◌-◌, ◌<◌, ◌≤◌, min, ◌⊎◌, List, [], ◌∷◌, ◌++◌, length, drop, sym, refl, ◌∙◌, inl, inr, arith}
use Rattle.std.proofs.Math.Option.{Option, some}
use Rattle.std.proofs.lemmas.List.{length-drop, length_push}
use Rattle.forest.specs.Forest.{Forest}
use Rattle.forest.specs.Reading.{StandsFor}
use Rattle.forest.proofs.Forms.{one_form}
use Rattle.rows.specs.Sheet.{Sheet}
use Rattle.law.specs.Calls.{Kept, last_or, numbered, rows_of, bytes_in}

-- a body stands for one forest
pub one_forest : (body : List ℕ) (f g : Forest) → StandsFor body f → StandsFor body g → f ≡ g
one_forest body f g p q = one_form f g (sym p.is_written ∙ q.is_written)

pub split : (a b : ℕ) → (a ≤ b) ⊎ (b < a)
split a b = grind arith

pub last_push : {X : Type 0} (o : Option X) (xs : List X) (x : X) → last_or o (xs ++ x ∷ []) ≡ some x
last_push o [] x = refl
last_push o (y ∷ ys) x = last_push (some y) ys x

pub rows_push : (xs : List Sheet) (x : Sheet) → rows_of (xs ++ x ∷ []) ≡ rows_of xs + length x
rows_push [] x = omega arith
rows_push (y ∷ ys) x = let e = rows_push ys x in omega arith

pub bytes_push : (ks : List Kept) (k : Kept) → bytes_in (ks ++ k ∷ []) ≡ bytes_in ks + length k.bytes
bytes_push [] k = omega arith
bytes_push (y ∷ ys) k = let e = bytes_push ys k in omega arith

-- what is free of a memory, whose use is limited
pub left_over : {X : Type 0} (xs : List X) (taken limit : ℕ) → min (length (drop taken xs)) (limit - taken) ≡ min (length xs) limit - taken
left_over xs taken limit = let e = length-drop taken xs in omega arith

-- A number that an item has is from 1 to their count.
pub numbered_within : {X : Type 0} (xs : List X) (k : ℕ) (x : X) → numbered xs k ≡ some x → (0 < k) × (k ≤ length xs)
numbered_within [] k x e = absurd (cc)
numbered_within (y ∷ ys) zero x e = absurd (cc)
numbered_within (y ∷ ys) (suc zero) x e = (omega arith, omega arith)
numbered_within (y ∷ ys) (suc (suc k)) x e = let i = numbered_within ys (suc k) x e in (omega arith, omega (arith, i.1))

pub numbered_there : {X : Type 0} (xs : List X) (k : ℕ) → 0 < k → k ≤ length xs → (x : X) × (numbered xs k ≡ some x)
numbered_there [] k p q = absurd (omega arith)
numbered_there (y ∷ ys) zero p q = absurd (omega arith)
numbered_there (y ∷ ys) (suc zero) p q = (y, refl)
numbered_there (y ∷ ys) (suc (suc k)) p q = numbered_there ys (suc k) (omega arith) (omega arith)

pub numbered_old : {X : Type 0} (xs : List X) (x : X) (k : ℕ) → k ≤ length xs → numbered (xs ++ x ∷ []) k ≡ numbered xs k
numbered_old [] x zero q = refl
numbered_old [] x (suc k) q = absurd (omega arith)
numbered_old (y ∷ ys) x zero q = refl
numbered_old (y ∷ ys) x (suc zero) q = refl
numbered_old (y ∷ ys) x (suc (suc k)) q = numbered_old ys x (suc k) (omega arith)

pub numbered_new : {X : Type 0} (xs : List X) (x : X) (k : ℕ) → k ≡ length xs + 1 → numbered (xs ++ x ∷ []) k ≡ some x
numbered_new [] x zero e = absurd (omega arith)
numbered_new [] x (suc zero) e = refl
numbered_new [] x (suc (suc k)) e = absurd (omega arith)
numbered_new (y ∷ ys) x zero e = absurd (omega arith)
numbered_new (y ∷ ys) x (suc zero) e = absurd (omega arith)
numbered_new (y ∷ ys) x (suc (suc k)) e = numbered_new ys x (suc k) (omega arith)

pub last_numbered : {X : Type 0} (o : Option X) (xs : List X) (x : X) → numbered xs (length xs) ≡ some x → last_or o xs ≡ some x
last_numbered o [] x e = absurd (cc)
last_numbered o (y ∷ []) x e = e
last_numbered o (y ∷ (z ∷ zs)) x e = last_numbered (some y) (z ∷ zs) x e

-- An item of a list with one more at the end was there before, or is the new one.
pub numbered_cases : {X : Type 0} (xs : List X) (x : X) (k : ℕ) (y : X) → numbered (xs ++ x ∷ []) k ≡ some y → (numbered xs k ≡ some y) ⊎ ((k ≡ length xs + 1) × (y ≡ x))
numbered_cases {X} xs x k y e = go (split k (length xs))
  where
    go : (k ≤ length xs) ⊎ (length xs < k) → (numbered xs k ≡ some y) ⊎ ((k ≡ length xs + 1) × (y ≡ x))
    go (inl le) = inl (sym (numbered_old xs x k le) ∙ e)
    go (inr lt) =
        let b = numbered_within (xs ++ x ∷ []) k y e in
        let l = length_push xs x in
        let f : k ≡ length xs + 1 = omega (arith, b.1) in
        let g = numbered_new xs x k f in
        inr (f, (cc))
