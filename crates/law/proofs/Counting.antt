-- Numbers count up, the newest edition reads every record, and no limit is passed.
use Rattle.std.proofs.Common.{◌≡◌, ℕ, ◌<◌, ◌≤◌, ◌↔◌, List, [], ◌∷◌, length, take, drop, Ok, Err, Result, sym, refl, ap, ◌∙◌, subst, inl, inr, arith}
use Rattle.std.proofs.Math.Option.{Option, none, some}
use Rattle.std.proofs.Math.Seq.{take-append_seam}
use Rattle.forest.specs.declared.fault.Fault.{Fault}
use Rattle.rows.specs.Sheet.{Sheet}
use Rattle.rows.specs.declared.row.Row.{Row}
use Rattle.measure.specs.Measure.{Costs}
use Rattle.law.specs.Calls.{Kept, newest, numbered, RecordOfNewest}
use Rattle.law.specs.Law.{Event, proposed, filed, fetched, History, newest_in, editions_in, records_in, Edition, Accepted, Answered, Standing, Lawful}
use Rattle.law.specs.Follows.{GivenReads, NewestReads, ToldNext, CountsUp, Within}
use Rattle.law.proofs.Lists.{numbered_within, numbered_there, last_numbered}
use Rattle.law.proofs.Told.{Next, Counted, sheets, bodies, sheets_long, bodies_long, newest_is, accepted_is, accepted_at, edition_is, edition_at}

same_item : {X : Type 0} {x y : X} → some x ≡ some y → x ≡ y
same_item e = cc

same_told : {a b : ℕ × ℕ} → ◌≡◌ {A = Result (ℕ × ℕ) Fault} (Ok a) (Ok b) → a ≡ b
same_told e = cc

newest_numbered : (xs : List Sheet) (x : Sheet) → newest xs ≡ some x → numbered xs (length xs) ≡ some x
newest_numbered [] x e = absurd (cc)
newest_numbered (y ∷ ys) x e =
    let t = numbered_there (y ∷ ys) (length (y ∷ ys)) (omega arith) (omega arith) in
    let l = last_numbered none (y ∷ ys) t.0 t.1 in
    t.1 ∙ (sym l ∙ e)

module _ {M C L : Type 0} (model : M → Costs C) (rows : List Row) (bytes : List ℕ) where
  next : (h : History M C L) (e : Event M C L) → Answered model rows bytes h e → ToldNext h e
  next h (proposed m sheet given (Ok k) left) a = (a.decided.1.0, inl (refl, refl))
  next h (proposed m sheet given (Err d) left) a = tt
  next h (filed body (Ok k)) a = (a.decided.1, inl (refl, refl, refl))
  next h (filed body (Err f)) a = tt
  next h (fetched k buffer answer buffer') a = tt

  next_number : (h : History M C L) (e : Event M C L) → Answered model rows bytes h e → Next h e
  next_number h (proposed m sheet given (Ok k) left) a = a.decided.1.0
  next_number h (proposed m sheet given (Err d) left) a = tt
  next_number h (filed body (Ok k)) a = a.decided.1
  next_number h (filed body (Err f)) a = tt
  next_number h (fetched k buffer answer buffer') a = tt

  edition_stays : (h : History M C L) (e : Event M C L) (k : ℕ) (x : Sheet) → Edition h k x → Edition (e ∷ h) k x
  edition_stays h (proposed m sheet given (Ok n) left) k x a = inr a
  edition_stays h (proposed m sheet given (Err d) left) k x a = a
  edition_stays h (filed body answer) k x a = a
  edition_stays h (fetched n buffer answer buffer') k x a = a

  record_stays : (h : History M C L) (e : Event M C L) (k : ℕ) (w : List ℕ) (i : ℕ) → Accepted h k w i → Accepted (e ∷ h) k w i
  record_stays h (proposed m sheet given answer left) k w i a = a
  record_stays h (filed body (Ok n)) k w i a = inr a
  record_stays h (filed body (Err f)) k w i a = a
  record_stays h (fetched n buffer answer buffer') k w i a = a

  counted : (h : History M C L) → Lawful model rows bytes h → Counted h
  counted [] l = tt
  counted (e ∷ h) l = (next_number h e l.0, counted h l.2)

  module _ (h : History M C L) (l : Lawful model rows bytes h) where
    edition_within : (k : ℕ) (x : Sheet) → Edition h k x → (0 < k) × (k ≤ editions_in h)
    edition_within k x a = subst (λ (n : ℕ). (0 < k) × (k ≤ n)) (sheets_long h) (numbered_within (sheets h) k x (edition_is h (counted h l) k x a))

    edition_there : (k : ℕ) → (0 < k) × (k ≤ editions_in h) → (x : Sheet) × Edition h k x
    edition_there k p =
        let n = sheets_long h in
        let q = p.1 in
        let t = numbered_there (sheets h) k p.0 (omega arith) in
        (t.0, edition_at h (counted h l) k t.0 t.1)

    record_within : (k : ℕ) (w : List ℕ) (e : ℕ) → Accepted h k w e → (0 < k) × (k ≤ records_in h)
    record_within k w e a = subst (λ (n : ℕ). (0 < k) × (k ≤ n)) (bodies_long h) (numbered_within (bodies h) k (record { bytes = w; edition = e }) (accepted_is h (counted h l) k w e a))

    record_there : (k : ℕ) → (0 < k) × (k ≤ records_in h) → (w : List ℕ) × (e : ℕ) × Accepted h k w e
    record_there k p =
        let n = bodies_long h in
        let q = p.1 in
        let t = numbered_there (bodies h) k p.0 (omega arith) in
        (t.0.bytes, t.0.edition, accepted_at h (counted h l) k t.0 t.1)

    pub one_record : (k : ℕ) (w v : List ℕ) (e d : ℕ) → Accepted h k w e → Accepted h k v d → (w ≡ v) × (e ≡ d)
    one_record k w v e d a b =
        let z = same_item (sym (accepted_is h (counted h l) k w e a) ∙ accepted_is h (counted h l) k v d b) in
        (ap (λ (x : Kept). x.bytes) z, ap (λ (x : Kept). x.edition) z)

    newest_one : (x : Sheet) → (newest_in h ≡ some x) ↔ Edition h (editions_in h) x
    newest_one x = (
      λ e. edition_at h (counted h l) (editions_in h) x (subst (λ (n : ℕ). numbered (sheets h) n ≡ some x) (sheets_long h) (newest_numbered (sheets h) x (newest_is h ∙ e))),
      λ a. sym (newest_is h) ∙ last_numbered none (sheets h) x (subst (λ (n : ℕ). numbered (sheets h) n ≡ some x) (sym (sheets_long h)) (edition_is h (counted h l) (editions_in h) x a)),
    )

    pub counts_up : CountsUp model rows bytes h
    counts_up =
        record {
          next = next h;
          editions = λ k. (edition_there k, λ z. edition_within k z.0 z.1);
          one_edition = λ k x y a b. same_item (sym (edition_is h (counted h l) k x a) ∙ edition_is h (counted h l) k y b);
          records = λ k. (record_there k, λ z. record_within k z.0 z.1 z.2);
          one_record = one_record;
          newest = newest_one;
          edition_stays = edition_stays h;
          record_stays = record_stays h;
        }

    reads_from : Standing h → (k : ℕ) (w : List ℕ) (e : ℕ) → Accepted h k w e → RecordOfNewest (newest_in h) w
    reads_from st k w e a =
        let u = st.under k w e a in
        let b = edition_within e u.0 u.1 in
        let p = b.0 in
        let q = b.1 in
        let t = edition_there (editions_in h) (omega arith, omega arith) in
        subst (λ (o : Option Sheet). RecordOfNewest o w) (sym ((newest_one t.0).1 t.1)) (st.belongs k w e a (editions_in h) t.0 t.1 b.1)

  standing : (h : History M C L) → Lawful model rows bytes h → Standing h
  standing [] l = record { under = λ k w e a. absurd a; belongs = λ k w e a. absurd a }
  standing (e ∷ h) l = l.1

  pub reads : (h : History M C L) → Lawful model rows bytes h → NewestReads model rows bytes h
  reads h l = record { accepted = acc; given = giv }
    where
      acc : (k : ℕ) (w : List ℕ) (e : ℕ) → Accepted h k w e → RecordOfNewest (newest_in h) w
      acc = reads_from h l (standing h l)

      fetch : (k : ℕ) (buffer : List ℕ) (told : ℕ × ℕ) (buffer' : List ℕ) → Answered model rows bytes h (fetched k buffer (Ok told) buffer') → RecordOfNewest (newest_in h) (take told.0 buffer')
      fetch k buffer told buffer' (inl (w, e, a, inl g)) =
          let n : told.0 ≡ length w = ap (λ (x : ℕ × ℕ). x.0) (same_told g.1) in
          subst (λ (v : List ℕ). RecordOfNewest (newest_in h) v) (sym (ap (λ (m : ℕ). take m buffer') n ∙ ap (take (length w)) g.2 ∙ take-append_seam w (drop (length w) buffer))) (acc k w e a)
      fetch k buffer told buffer' (inl (w, e, a, inr g)) = absurd g.1
      fetch k buffer told buffer' (inr g) = absurd g.1.0

      giv : (e : Event M C L) → Answered model rows bytes h e → GivenReads h e
      giv (proposed m sheet given answer left) a = tt
      giv (filed body answer) a = tt
      giv (fetched k buffer (Ok told) buffer') a = fetch k buffer told buffer' a
      giv (fetched k buffer (Err f) buffer') a = tt

  -- Every accepted call had room.
  pub within : (h : History M C L) → Lawful model rows bytes h → Within rows bytes h
  within [] l = record { editions = omega arith; records = omega arith; rows_fit = (omega arith, omega arith); bytes_fit = (omega arith, omega arith) }
  within (proposed m sheet given (Ok k) left ∷ h) l =
      let i = within h l.2 in
      let p = l.0.decided.0.1.0 in
      let p0 = p.0 in
      let p1 = p.1 in
      let r0 = i.rows_fit.0 in
      let r1 = i.rows_fit.1 in
      record { editions = omega arith; records = i.records; rows_fit = (omega arith, omega arith); bytes_fit = i.bytes_fit }
  within (proposed m sheet given (Err d) left ∷ h) l = let i = within h l.2 in record { editions = i.editions; records = i.records; rows_fit = i.rows_fit; bytes_fit = i.bytes_fit }
  within (filed body (Ok k) ∷ h) l =
      let i = within h l.2 in
      let p = l.0.decided.0.1.1.1.0 in
      let p0 = p.0 in
      let p1 = p.1 in
      let r0 = i.bytes_fit.0 in
      let r1 = i.bytes_fit.1 in
      record { editions = i.editions; records = omega arith; rows_fit = i.rows_fit; bytes_fit = (omega arith, omega arith) }
  within (filed body (Err f) ∷ h) l = let i = within h l.2 in record { editions = i.editions; records = i.records; rows_fit = i.rows_fit; bytes_fit = i.bytes_fit }
  within (fetched n buffer answer buffer' ∷ h) l = let i = within h l.2 in record { editions = i.editions; records = i.records; rows_fit = i.rows_fit; bytes_fit = i.bytes_fit }
