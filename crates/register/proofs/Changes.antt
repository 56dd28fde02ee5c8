-- One more record, one more edition, and the record of a number.
use Rattle.std.proofs.Common.{◌≡◌, ℕ, suc, ◌-◌, ◌<◌, ◌≤◌, List, [], ◌∷◌, ◌++◌, length, get_or, set, sym, ap, ◌∙◌, arith}
use mathlib.Core.Option.{none, some}
use Rattle.store.specs.declared.Store.{Store}
use Rattle.store.specs.Stores.{lists, free, Takes, Appended}
use Rattle.law.specs.Calls.{Held, numbered, with_record}
use Rattle.register.specs.declared.register.Register.{Register}
use Rattle.register.specs.Holding.{kept_under, held}
use Rattle.register.proofs.Holdings.{few_records, under_push, under_at, under_none}

module _ (r : Register) where
  pub record_more : (w : List ℕ) (s' : Store ℕ 256) (i e : ℕ) → e ≡ length (lists r.editions) → i ≡ length (lists r.records) → Takes r.records (length w) → Appended r.records w s' → ◌≡◌ {A = Held} (record { editions = lists r.editions; kept = kept_under (lists s') (set r.under i e); rows_left = free r.editions; bytes_left = free s' }) (with_record (held r) w)
  record_more w s' i e is fi t a =
      let few : length (lists r.records) < length r.under = let q = t.0 in omega arith in
      let k : kept_under (lists s') (set r.under i e) ≡ (held r).kept ++ (record { bytes = w; edition = length (lists r.editions) }) ∷ [] =
      ap (λ (ws : List (List ℕ)). kept_under ws (set r.under i e)) a.listed
      ∙ ap (λ (j : ℕ). kept_under (lists r.records ++ w ∷ []) (set r.under j e)) fi
      ∙ ap (λ (j : ℕ). kept_under (lists r.records ++ w ∷ []) (set r.under (length (lists r.records)) j)) is
      ∙ under_push (lists r.records) r.under w (length (lists r.editions)) few in
      let l = a.left in
      cc

  pub no_such : (k i : ℕ) → 1 ≤ k → i ≡ k - 1 → length (lists r.records) ≤ i → numbered (held r).kept k ≡ none
  no_such k i p e h = under_none (lists r.records) r.under k (omega arith)

  pub there : (k i : ℕ) → 1 ≤ k → i ≡ k - 1 → i < length (lists r.records) → (w : List ℕ) → w ≡ get_or (lists r.records) i [] → numbered (held r).kept k ≡ some (record { bytes = w; edition = get_or r.under i 0 })
  there k i p e h w is =
      let f : k ≡ suc i = omega arith in
      ap (numbered (held r).kept) f ∙ under_at (lists r.records) r.under i (few_records r) h ∙ ap (λ (x : List ℕ). some (record { bytes = x; edition = get_or r.under i 0 })) (sym is)
