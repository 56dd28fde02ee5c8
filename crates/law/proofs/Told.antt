-- A register holds what the calls so far tell.
use Rattle.std.proofs.Common.{◌≡◌, ℕ, ◌+◌, List, [], ◌∷◌, ◌++◌, length, drop, Ok, Err, sym, refl, ap, ◌∙◌, inl, inr, arith}
use Rattle.std.proofs.Math.Option.{none, some}
use Rattle.std.proofs.lemmas.List.{length_push, drop-drop}
use Rattle.rows.specs.Sheet.{Sheet}
use Rattle.rows.specs.declared.row.Row.{Row}
use Rattle.measure.specs.Measure.{Costs}
use Rattle.law.specs.Calls.{Kept, Held, newest, numbered, rows_of, bytes_in, with_edition, with_record}
use Rattle.law.specs.Law.{Event, proposed, filed, fetched, History, Step, Run, newest_in, editions_in, rows_taken, records_in, bytes_taken, Edition, Accepted}
use Rattle.law.proofs.Lists.{last_push, rows_push, bytes_push, numbered_within, numbered_old, numbered_new, numbered_cases}

-- the sheets of the accepted proposals, and the accepted records, the first first
abbrev pub sheets : {M C L : Type 0} → History M C L → List Sheet
sheets [] = []
sheets (proposed m sheet given (Ok k) left ∷ h) = sheets h ++ sheet ∷ []
sheets (proposed m sheet given (Err d) left ∷ h) = sheets h
sheets (filed body answer ∷ h) = sheets h
sheets (fetched k buffer answer buffer' ∷ h) = sheets h

abbrev pub bodies : {M C L : Type 0} → History M C L → List Kept
bodies [] = []
bodies (proposed m sheet given answer left ∷ h) = bodies h
bodies (filed body (Ok k) ∷ h) = bodies h ++ (record { bytes = body; edition = length (sheets h) }) ∷ []
bodies (filed body (Err f) ∷ h) = bodies h
bodies (fetched k buffer answer buffer' ∷ h) = bodies h

abbrev pub told : {M C L : Type 0} → List Row → List ℕ → History M C L → Held
told rows bytes h = record { editions = sheets h; kept = bodies h; rows_left = drop (rows_taken h) rows; bytes_left = drop (bytes_taken h) bytes }

module _ {M C L : Type 0} where
  pub sheets_long : (h : History M C L) → length (sheets h) ≡ editions_in h
  sheets_long [] = refl
  sheets_long (proposed m sheet given (Ok k) left ∷ h) = let e = sheets_long h in let l = length_push (sheets h) sheet in omega arith
  sheets_long (proposed m sheet given (Err d) left ∷ h) = sheets_long h
  sheets_long (filed body answer ∷ h) = sheets_long h
  sheets_long (fetched k buffer answer buffer' ∷ h) = sheets_long h

  pub sheets_rows : (h : History M C L) → rows_of (sheets h) ≡ rows_taken h
  sheets_rows [] = refl
  sheets_rows (proposed m sheet given (Ok k) left ∷ h) = let e = sheets_rows h in let l = rows_push (sheets h) sheet in omega arith
  sheets_rows (proposed m sheet given (Err d) left ∷ h) = sheets_rows h
  sheets_rows (filed body answer ∷ h) = sheets_rows h
  sheets_rows (fetched k buffer answer buffer' ∷ h) = sheets_rows h

  pub bodies_long : (h : History M C L) → length (bodies h) ≡ records_in h
  bodies_long [] = refl
  bodies_long (proposed m sheet given answer left ∷ h) = bodies_long h
  bodies_long (filed body (Ok k) ∷ h) = let e = bodies_long h in let l = length_push (bodies h) (record { bytes = body; edition = length (sheets h) }) in omega arith
  bodies_long (filed body (Err f) ∷ h) = bodies_long h
  bodies_long (fetched k buffer answer buffer' ∷ h) = bodies_long h

  pub bodies_bytes : (h : History M C L) → bytes_in (bodies h) ≡ bytes_taken h
  bodies_bytes [] = refl
  bodies_bytes (proposed m sheet given answer left ∷ h) = bodies_bytes h
  bodies_bytes (filed body (Ok k) ∷ h) = let e = bodies_bytes h in let l = bytes_push (bodies h) (record { bytes = body; edition = length (sheets h) }) in omega arith
  bodies_bytes (filed body (Err f) ∷ h) = bodies_bytes h
  bodies_bytes (fetched k buffer answer buffer' ∷ h) = bodies_bytes h

  pub newest_is : (h : History M C L) → newest (sheets h) ≡ newest_in h
  newest_is [] = refl
  newest_is (proposed m sheet given (Ok k) left ∷ h) = last_push none (sheets h) sheet
  newest_is (proposed m sheet given (Err d) left ∷ h) = newest_is h
  newest_is (filed body answer ∷ h) = newest_is h
  newest_is (fetched k buffer answer buffer' ∷ h) = newest_is h

-- Every accepted call told the next number.
abbrev pub Next : {M C L : Type 0} → History M C L → Event M C L → Type 0
Next h (proposed m sheet given (Ok k) left) = k ≡ editions_in h + 1
Next h (proposed m sheet given (Err d) left) = Unit {0}
Next h (filed body (Ok k)) = k ≡ records_in h + 1
Next h (filed body (Err f)) = Unit {0}
Next h (fetched k buffer answer buffer') = Unit {0}

abbrev pub Counted : {M C L : Type 0} → History M C L → Type 0
Counted [] = Unit {0}
Counted (e ∷ h) = Next h e × Counted h

module _ {M C L : Type 0} (model : M → Costs C) (rows : List Row) (bytes : List ℕ) where
  pub told_is : (h : History M C L) (s : Held) → Run model rows bytes h s → s ≡ told rows bytes h
  told_is [] s r = r
  told_is (proposed m sheet given (Ok k) left ∷ h) s r =
      let i = told_is h r.0 r.1.0 in
      let d = drop-drop (length sheet) (rows_taken h) rows in
      r.1.1.leaves ∙ ap (λ (x : Held). with_edition x sheet) i ∙ ap (λ (left : List Row). record { editions = sheets h ++ sheet ∷ []; kept = bodies h; rows_left = left; bytes_left = drop (bytes_taken h) bytes }) d
  told_is (proposed m sheet given (Err d) left ∷ h) s r = r.1.1.leaves ∙ told_is h r.0 r.1.0
  told_is (filed body (Ok k) ∷ h) s r =
      let i = told_is h r.0 r.1.0 in
      let d = drop-drop (length body) (bytes_taken h) bytes in
      r.1.1.leaves ∙ ap (λ (x : Held). with_record x body) i ∙ ap (λ (left : List ℕ). record { editions = sheets h; kept = bodies h ++ (record { bytes = body; edition = length (sheets h) }) ∷ []; rows_left = drop (rows_taken h) rows; bytes_left = left }) d
  told_is (filed body (Err f) ∷ h) s r = r.1.1.leaves ∙ told_is h r.0 r.1.0
  told_is (fetched k buffer answer buffer' ∷ h) s r = r.1.1.1 ∙ told_is h r.0 r.1.0

  -- In a run every accepted call told the next number.
  run_next : (h : History M C L) (s : Held) → Run model rows bytes h s → (e : Event M C L) (s' : Held) → Step model e s s' → Next h e
  run_next h s r (proposed m sheet given (Ok n) left) s' t =
      t.answers.1.0 ∙ ap (λ (x : Held). length x.editions + 1) (told_is h s r) ∙ ap (λ (k : ℕ). k + 1) (sheets_long h)
  run_next h s r (proposed m sheet given (Err d) left) s' t = tt
  run_next h s r (filed body (Ok n)) s' t = t.answers.1 ∙ ap (λ (x : Held). length x.kept + 1) (told_is h s r) ∙ ap (λ (k : ℕ). k + 1) (bodies_long h)
  run_next h s r (filed body (Err f)) s' t = tt
  run_next h s r (fetched k buffer answer buffer') s' t = tt

  pub run_counted : (h : History M C L) (s : Held) → Run model rows bytes h s → Counted h
  run_counted [] s r = tt
  run_counted (e ∷ h) s r = (run_next h r.0 r.1.0 e s r.1.1, run_counted h r.0 r.1.0)

module _ {M C L : Type 0} where
  edition_next : (h : History M C L) (n : ℕ) → n ≡ editions_in h + 1 → n ≡ length (sheets h) + 1
  edition_next h n e = e ∙ ap (λ (k : ℕ). k + 1) (sym (sheets_long h))

  record_next : (h : History M C L) (n : ℕ) → n ≡ records_in h + 1 → n ≡ length (bodies h) + 1
  record_next h n e = e ∙ ap (λ (k : ℕ). k + 1) (sym (bodies_long h))

  -- what was accepted with a number stands at that number
  pub accepted_is : (h : History M C L) → Counted h → (k : ℕ) (w : List ℕ) (e : ℕ) → Accepted h k w e → numbered (bodies h) k ≡ some (record { bytes = w; edition = e })
  accepted_is [] r k w e a = absurd a
  accepted_is (proposed m sheet given answer left ∷ h) r k w e a = accepted_is h r.1 k w e a
  accepted_is (filed body (Ok n) ∷ h) r k w e (inl a) =
      let x : Kept = record { bytes = body; edition = length (sheets h) } in
      let f : k ≡ length (bodies h) + 1 = a.0 ∙ record_next h n r.0 in
      let b = a.1 in
      let c = a.2 in
      let v = sheets_long h in
      let g : x ≡ record { bytes = w; edition = e } = cc in
      numbered_new (bodies h) x k f ∙ ap some g
  accepted_is (filed body (Ok n) ∷ h) r k w e (inr a) =
      let x : Kept = record { bytes = body; edition = length (sheets h) } in
      let i = accepted_is h r.1 k w e a in
      let b = numbered_within (bodies h) k (record { bytes = w; edition = e }) i in
      numbered_old (bodies h) x k b.1 ∙ i
  accepted_is (filed body (Err f) ∷ h) r k w e a = accepted_is h r.1 k w e a
  accepted_is (fetched n buffer answer buffer' ∷ h) r k w e a = accepted_is h r.1 k w e a

  pub accepted_at : (h : History M C L) → Counted h → (k : ℕ) (x : Kept) → numbered (bodies h) k ≡ some x → Accepted h k x.bytes x.edition
  accepted_at [] r k x e = absurd (cc)
  accepted_at (proposed m sheet given answer left ∷ h) r k x e = accepted_at h r.1 k x e
  accepted_at (filed body (Ok n) ∷ h) r k x e =
      let new : Kept = record { bytes = body; edition = length (sheets h) } in
      elim (numbered_cases (bodies h) new k x e) [
        | inl old ↦ inr (accepted_at h r.1 k x old)
        | inr last ↦ inl (last.0 ∙ sym (record_next h n r.0), ap (λ (z : Kept). z.bytes) last.1, ap (λ (z : Kept). z.edition) last.1 ∙ sheets_long h)
      ]
  accepted_at (filed body (Err f) ∷ h) r k x e = accepted_at h r.1 k x e
  accepted_at (fetched n buffer answer buffer' ∷ h) r k x e = accepted_at h r.1 k x e

  pub edition_is : (h : History M C L) → Counted h → (k : ℕ) (x : Sheet) → Edition h k x → numbered (sheets h) k ≡ some x
  edition_is [] r k x a = absurd a
  edition_is (proposed m sheet given (Ok n) left ∷ h) r k x (inl a) =
      let f : k ≡ length (sheets h) + 1 = a.0 ∙ edition_next h n r.0 in
      numbered_new (sheets h) sheet k f ∙ ap some (sym a.1)
  edition_is (proposed m sheet given (Ok n) left ∷ h) r k x (inr a) =
      let i = edition_is h r.1 k x a in
      let b = numbered_within (sheets h) k x i in
      numbered_old (sheets h) sheet k b.1 ∙ i
  edition_is (proposed m sheet given (Err d) left ∷ h) r k x a = edition_is h r.1 k x a
  edition_is (filed body answer ∷ h) r k x a = edition_is h r.1 k x a
  edition_is (fetched n buffer answer buffer' ∷ h) r k x a = edition_is h r.1 k x a

  pub edition_at : (h : History M C L) → Counted h → (k : ℕ) (x : Sheet) → numbered (sheets h) k ≡ some x → Edition h k x
  edition_at [] r k x e = absurd (cc)
  edition_at (proposed m sheet given (Ok n) left ∷ h) r k x e =
      elim (numbered_cases (sheets h) sheet k x e) [
        | inl old ↦ inr (edition_at h r.1 k x old)
        | inr last ↦ inl (last.0 ∙ sym (edition_next h n r.0), last.1)
      ]
  edition_at (proposed m sheet given (Err d) left ∷ h) r k x e = edition_at h r.1 k x e
  edition_at (filed body answer ∷ h) r k x e = edition_at h r.1 k x e
  edition_at (fetched n buffer answer buffer' ∷ h) r k x e = edition_at h r.1 k x e
