-- What a register holds.
use Rattle.std.specs.Prelude.{◌≡◌, ℕ, List, [], ◌∷◌, Ok, Err, Result}
use Rattle.store.specs.Stores.{lists, free}
use Rattle.law.specs.Calls.{Kept, Held}
use Rattle.register.specs.declared.register.Register.{Register}

-- Records with the editions that they were filed under.
abbrev pub kept_under : List (List ℕ) → List ℕ → List Kept
kept_under [] es = []
kept_under (w ∷ ws) [] = []
kept_under (w ∷ ws) (e ∷ es) = record { bytes = w; edition = e } ∷ kept_under ws es

abbrev pub held : Register → Held
held r = record {
  editions = lists r.editions;
  kept = kept_under (lists r.records) r.under;
  rows_left = free r.editions;
  bytes_left = free r.records;
}

-- A refused call leaves the whole register as it was, the free part of its memory included.
abbrev pub LeftIfRefused : {A D : Type 0} → Result A D → Register → Register → Type 0
LeftIfRefused (Ok a) r r' = Unit {0}
LeftIfRefused (Err d) r r' = r' ≡ r
