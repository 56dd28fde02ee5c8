-- Calls at their bounds.
use Rattle.std.proofs.Common.{◌≡◌, ℕ, ◌+◌, ◌<◌, ◌≤◌, min, true, false, ◌⊎◌, List, [], ◌∷◌, ◌++◌, length, take, drop, sym, refl, ap, ◌∙◌, subst, inl, inr, arith, length-append, length-drop}
use Rattle.std.proofs.Math.Option.{Option, none, some}
use Rattle.std.proofs.Math.Seq.{drop-length, take-append_seam}
use Rattle.std.proofs.lemmas.List.{append-nil}
use Rattle.std.proofs.lemmas.Slice.{drop-append-drop}
use Rattle.forest.specs.declared.fault.Fault.{Fault}
use Rattle.forest.specs.Refusals.{told}
use Rattle.forest.specs.Forest.{Forest, bytes_of}
use Rattle.rows.specs.Sheet.{Sheet}
use Rattle.sheet.specs.Meaning.{OfSheet}
use Rattle.measure.specs.Measure.{Costs, cost_of}
use Rattle.measure.proofs.Lengths.{counts_bytes}
use Rattle.judge.specs.Judging.{Told, Lost, front}
use Rattle.law.specs.declared.Declined.TheVariants.{Refused}
use Rattle.law.specs.Calls.{Held, numbered, Reason, reason, refusal}
use Rattle.law.specs.Bounds.{FilingBounds, FetchingBounds, ProposalBounds, MemoryBounds, LossShows, CallBounds}
use Rattle.law.proofs.Lists.{one_forest, numbered_within, rows_push, bytes_push}

filing_bounds : FilingBounds
filing_bounds =
    record {
      no_edition = λ n free body f t. inl (λ z. z, t);
      no_record = λ x n free body f d. inr (tt, inl d);
      not_of_newest = λ x n free body forest f s o t.
          inr (tt, inr ((forest, s), inl (λ r. o (subst (OfSheet x) (one_forest body r.forest forest r.stands s) r.belongs), t)));
      one_too_many = λ x free body f r t. inr (tt, inr ((r.forest, r.stands), inr (r, inl (λ p. let q = p.0 in omega arith, t))));
      one_byte_short = λ x n free body f r e t. inr (tt, inr ((r.forest, r.stands), inr (r, inl (λ p. let q = p.1 in omega arith, t))));
      last = λ x body r. ((tt, ((r.forest, r.stands), (r, ((omega arith, omega arith), tt)))), refl);
    }

numbered_0 : {X : Type 0} (xs : List X) → numbered xs 0 ≡ none
numbered_0 [] = refl
numbered_0 (x ∷ xs) = refl

numbered_past : {X : Type 0} (xs : List X) (k : ℕ) → length xs < k → numbered xs k ≡ none
numbered_past {X} xs k l = go (numbered xs k) refl
  where
    go : (o : Option X) → numbered xs k ≡ o → numbered xs k ≡ none
    go none e = e
    go (some x) e = let b = numbered_within xs k x e in let c = b.1 in absurd (omega arith)

front_all : (w buffer : List ℕ) → length buffer ≡ length w → w ≡ front w buffer
front_all w buffer e = sym (ap (λ (n : ℕ). w ++ drop n buffer) (sym e) ∙ ap (λ (v : List ℕ). w ++ v) (drop-length buffer) ∙ append-nil w)

fetching_bounds : (s : Held) → FetchingBounds s
fetching_bounds s =
    record {
      none_is_0 = λ buffer f t. rw (numbered_0 s.kept) (t, refl);
      past_last = λ buffer f t. rw (numbered_past s.kept (length s.kept + 1) (omega arith)) (t, refl);
      fits = λ k r buffer e l. rw e (inl (omega arith, refl, front_all r.bytes buffer l));
      one_byte_short = λ k r buffer f e l t. rw e (inr (omega arith, t, refl));
    }

-- what a fault tells, it tells as the reason of a proposal that is declined
refuses : {C : Type 0} (f : Fault) (n : ℕ) → told f ≡ (n, 0) → reason {C = C} (Refused f) ≡ refusal n 0
refuses {C} f n t = ap tells t
  where
    tells : ℕ × ℕ → Reason C
    tells x = refusal x.0 x.1

proposal_bounds : {C : Type 0} (L : Type 0) (costs : Costs C) (sheet : Sheet) → ProposalBounds L costs sheet
proposal_bounds L costs sheet =
    record {
      no_list = λ given x n free f e t. inl (λ p. let q = p.0 in omega arith, refuses f _ t, refl);
      long_list = λ given x n free f e t. inl (λ p. let q = p.1 in omega arith, refuses f _ t, refl);
      one_too_many = λ given x free f e t. inr ((omega arith, omega arith), inl (λ p. let q = p.0 in omega arith, refuses f _ t, refl));
      one_row_short = λ given x n free f e l t. inr ((omega arith, omega arith), inl (λ p. let q = p.1 in omega arith, refuses f _ t, refl));
      first = λ given e. (((omega arith, omega arith), ((omega arith, omega arith), tt)), (refl, refl));
      more_sorts = λ given left old f e m b t. inr ((omega arith, omega arith), inr ((omega arith, omega arith), inl (rw e m, refuses f _ t, b)));
      last = λ given left old e m k b. (((omega arith, omega arith), ((omega arith, omega arith), (rw e m, (k, tt)))), (refl, b));
      loss = λ given left old l e m t.
          inr ((omega arith, omega arith), inr ((omega arith, omega arith), inr (rw e m, inl (record { cost = l.cost; size = l.length; shown = l.shown; tells = refl; told = t }))));
    }

memory_bounds : MemoryBounds
memory_bounds =
    record {
      at_first = λ rows bytes s b. rw b (refl, refl);
      edition_takes = λ s x l.
          let d = length-drop (length x) s.rows_left in
          let p = rows_push s.editions x in
          (omega arith, refl);
      record_takes = λ s w l.
          let d = length-drop (length w) s.bytes_left in
          let p = bytes_push s.kept (record { bytes = w; edition = length s.editions }) in
          (omega arith, refl);
    }

loss_shows : {C : Type 0} (costs : Costs C) (old new : Sheet) → LossShows costs old new
loss_shows costs old new = record { shown = shown; not_shown = not_shown }
  where
    shown : (cost : _) (size : ℕ) (buffer buffer' : List ℕ) → Told costs old new cost size true buffer buffer'
        → (f : Forest) × Lost old new f × (cost ≡ cost_of costs.rules f) × (take size buffer' ≡ bytes_of f)
        × (drop size buffer' ≡ drop size buffer) × (size ≤ 65535) × (length buffer' ≡ length buffer)
    shown cost size buffer buffer' t =
        let w = bytes_of t.one in
        let a = t.shows.0 in
        let c = counts_bytes t.one in
        let i = t.size_is in
        let n : size ≡ length w = omega arith in
        let e = t.shows.1 in (
          t.one,
          t.lost,
          t.cost_is,
          rw (n, e) (take-append_seam w (drop (length w) buffer)),
          rw (n, e) (drop-append-drop (length w) buffer w (length w) (omega arith) refl),
          omega arith,
          rw e (let x = length-append w (drop (length w) buffer) in let y = length-drop (length w) buffer in omega arith),
        )

    not_shown : (cost : _) (size : ℕ) (buffer buffer' : List ℕ) → Told costs old new cost size false buffer buffer'
        → (f : Forest) × Lost old new f × (cost ≡ cost_of costs.rules f) × (size ≡ min (length (bytes_of f)) 1000000000)
        × (buffer' ≡ buffer) × ((length buffer < size) ⊎ (65535 < size))
    not_shown cost size buffer buffer' t =
        let a = t.shows.0 in
        let c = counts_bytes t.one in
        let i = t.size_is in
        (t.one, t.lost, t.cost_is, i ∙ c, t.shows.1, grind arith)

pub call_bounds : {M C : Type 0} (L : Type 0) (model : M → Costs C) → CallBounds L model
call_bounds L model =
    record {
      filing = filing_bounds;
      fetching = fetching_bounds;
      proposal = λ m sheet. proposal_bounds L (model m) sheet;
      memory = memory_bounds;
      loss_shows = λ m old new. loss_shows (model m) old new;
    }
