-- Sorts and losses between worked sheets.
use Rattle.std.proofs.Common.{◌≡◌, ℕ, zero, suc, ◌<◌, ◌≤◌, T, ◌⊎◌, ◌↔◌, List, [], ◌∷◌, sym, refl, ap, ◌∙◌, subst, inl, inr, arith}
use Rattle.forest.specs.Forest.{Forest, nil, text, node, join, Proper}
use Rattle.sheet.specs.Meaning.{Admits, of_text, of_named, OfSheet, Stands}
use Rattle.sheet.proofs.Tests.{nullable, opening, closing, following}
use Rattle.rows.proofs.Sounding.{well_formed}
use Rattle.measure.specs.Measure.{cost_of}
use Rattle.measure.specs.Lengths.{length_rules}
use Rattle.judge.specs.Judging.{SameStanding, OneSort, MoreSorts, Lost}
use Rattle.worked.specs.Examples.{IsSheet, only_empty, one_text, S1, S2, r}
use Rattle.worked.specs.Judgements.{Judgements}
use Rattle.worked.proofs.Evaluate.{stands?, stands_iff, in_sheet, out_of_sheet}
use Rattle.worked.proofs.Made.{made_sheet, made_record, stands_for}
use Rattle.worked.proofs.Worked.{sheet_only_empty, sheet_one_text, sheet_endless, sheet_S1, sheet_S2, forest_r, forest_both}
use Rattle.worked.proofs.Invert.{admits_row, admitted}

is_only_empty : IsSheet only_empty sheet_only_empty
is_only_empty = made_sheet sheet_only_empty refl refl

is_S1 : IsSheet S1 sheet_S1
is_S1 = made_sheet sheet_S1 refl refl

is_S2 : IsSheet S2 sheet_S2
is_S2 = made_sheet sheet_S2 refl refl

-- Over the sheet of the empty forest, no other forest stands anywhere.
text_nowhere : (t : List ℕ) (r : Forest) (q : ℕ) → Stands sheet_only_empty (text t r) q → ⊥
text_nowhere t r q h = (stands_iff sheet_only_empty (well_formed is_only_empty.passes.sound) (text t r) q).1 h

node_nowhere : (l : ℕ) (c r : Forest) (q : ℕ) → Stands sheet_only_empty (node l c r) q → ⊥
node_nowhere l c r q h = (stands_iff sheet_only_empty (well_formed is_only_empty.passes.sound) (node l c r) q).1 h

empty_stands : Stands sheet_only_empty nil 1
unfolding nullable closing
empty_stands = (stands_iff sheet_only_empty (well_formed is_only_empty.passes.sound) nil 1).0 tt

abbrev Nowhere : Forest → Type 0
Nowhere f = (q : ℕ) → Stands sheet_only_empty f q → ⊥

kind : (f : Forest) → (f ≡ nil) ⊎ Nowhere f
kind nil = inl refl
kind (text t r) = inr (text_nowhere t r)
kind (node l c r) = inr (node_nowhere l c r)

abbrev OfOneSort : Forest → Forest → Type 0
OfOneSort f g = OneSort sheet_only_empty sheet_only_empty f g

both_nil : (f g : Forest) → f ≡ nil → g ≡ nil → OfOneSort f g
both_nil f g p q =
    let e : f ≡ g = p ∙ sym q in
    let same : SameStanding sheet_only_empty f g =
    λ row. (λ h. subst (λ (x : Forest). Stands sheet_only_empty x row) e h, λ h. subst (λ (x : Forest). Stands sheet_only_empty x row) (sym e) h) in
    (same, same)

both_nowhere : (f g : Forest) → Nowhere f → Nowhere g → OfOneSort f g
both_nowhere f g p q = (λ row. (λ h. absurd (p row h), λ h. absurd (q row h)), λ row. (λ h. absurd (p row h), λ h. absurd (q row h)))

-- Of three forests two are of one sort.
two_sorts : MoreSorts sheet_only_empty sheet_only_empty 2 → ⊥
two_sorts m = go (kind (m.forest 0)) (kind (m.forest 1)) (kind (m.forest 2))
  where
    clash : (i j : ℕ) → i ≤ 2 → j ≤ 2 → i < j → OfOneSort (m.forest i) (m.forest j) → ⊥
    clash i j p q l s = let e = m.apart i j p q s in omega arith

    go : (m.forest 0 ≡ nil) ⊎ Nowhere (m.forest 0) → (m.forest 1 ≡ nil) ⊎ Nowhere (m.forest 1) → (m.forest 2 ≡ nil) ⊎ Nowhere (m.forest 2) → ⊥
    go (inl a) (inl b) c = clash 0 1 (omega arith) (omega arith) (omega arith) (both_nil _ _ a b)
    go (inr a) (inr b) c = clash 0 1 (omega arith) (omega arith) (omega arith) (both_nowhere _ _ a b)
    go (inl a) (inr b) (inl c) = clash 0 2 (omega arith) (omega arith) (omega arith) (both_nil _ _ a c)
    go (inl a) (inr b) (inr c) = clash 1 2 (omega arith) (omega arith) (omega arith) (both_nowhere _ _ b c)
    go (inr a) (inl b) (inl c) = clash 1 2 (omega arith) (omega arith) (omega arith) (both_nil _ _ b c)
    go (inr a) (inl b) (inr c) = clash 0 2 (omega arith) (omega arith) (omega arith) (both_nowhere _ _ a c)

abbrev two : ℕ → Forest
two zero = nil
two (suc n) = text [] nil

more_than_one : MoreSorts sheet_only_empty sheet_only_empty 1
more_than_one = record { forest = two; proper = proper; apart = apart }
  where
    proper : (i : ℕ) → i ≤ 1 → Proper (two i)
    proper zero l = tt
    proper (suc i) l = ((tt, omega arith), tt)

    apart : (i j : ℕ) → i ≤ 1 → j ≤ 1 → OneSort sheet_only_empty sheet_only_empty (two i) (two j) → i ≡ j
    apart zero zero p q s = refl
    apart zero (suc j) p q s = absurd (text_nowhere [] nil 1 ((s.0 1).0 empty_stands))
    apart (suc i) zero p q s = absurd (text_nowhere [] nil 1 ((s.0 1).1 empty_stands))
    apart (suc i) (suc j) p q s = omega arith

-- Over the sheet of one text, three forests stand apart.
is_one_text : IsSheet one_text sheet_one_text
is_one_text = made_sheet sheet_one_text refl refl

abbrev three : ℕ → Forest
three zero = nil
three (suc zero) = text [] nil
three (suc (suc n)) = text [] (text [] nil)

over_one_text : (f : Forest) (q : ℕ) → T (stands? sheet_one_text f q) ↔ Stands sheet_one_text f q
over_one_text f q = stands_iff sheet_one_text (well_formed is_one_text.passes.sound) f q

three_proper : (i : ℕ) → i ≤ 2 → Proper (three i)
three_proper zero l = tt
three_proper (suc zero) l = ((tt, omega arith), tt)
three_proper (suc (suc i)) l = ((tt, omega arith), ((tt, omega arith), tt))

three_apart : (i j : ℕ) → i ≤ 2 → j ≤ 2 → SameStanding sheet_one_text (three i) (three j) → i ≡ j
unfolding nullable closing opening following
three_apart zero zero p q s = refl
three_apart zero (suc zero) p q s = absurd ((over_one_text (text [] nil) 0).1 ((s 0).0 ((over_one_text nil 0).0 tt)))
three_apart zero (suc (suc j)) p q s = absurd ((over_one_text (text [] (text [] nil)) 0).1 ((s 0).0 ((over_one_text nil 0).0 tt)))
three_apart (suc zero) zero p q s = absurd ((over_one_text (text [] nil) 0).1 ((s 0).1 ((over_one_text nil 0).0 tt)))
three_apart (suc zero) (suc zero) p q s = refl
three_apart (suc zero) (suc (suc j)) p q s = absurd ((over_one_text (text [] (text [] nil)) 1).1 ((s 1).0 ((over_one_text (text [] nil) 1).0 tt)))
three_apart (suc (suc i)) zero p q s = absurd ((over_one_text (text [] (text [] nil)) 0).1 ((s 0).1 ((over_one_text nil 0).0 tt)))
three_apart (suc (suc i)) (suc zero) p q s = absurd ((over_one_text (text [] (text [] nil)) 1).1 ((s 1).1 ((over_one_text (text [] nil) 1).0 tt)))
three_apart (suc (suc i)) (suc (suc j)) p q s = omega arith

same_content : {l k : ℕ} {c d r q : Forest} → node l c r ≡ node k d q → d ≡ c
same_content e = cc

-- No forest belongs to the sheet whose only definition is a node of itself.
none_in_endless : (f : Forest) → Admits sheet_endless 0 f → ⊥
none_in_endless nil a = let z = (admits_row a).1 in cc
none_in_endless (text t r) a = let z = (admits_row a).1 in cc
none_in_endless (node l c r) a =
    let z = admits_row a in
    none_in_endless c (subst (λ (g : Forest). Admits sheet_endless 0 g) (same_content z.1) (admitted {e = 1} {x = 0} (record { is = refl; number = refl }) z.2))

-- A forest of S2.
abbrev one_part : List ℕ → Forest
one_part t = node 10 (node 11 (text t nil) nil) nil

abbrev two_parts : List ℕ → List ℕ → Forest
two_parts t u = node 10 (node 11 (text t nil) (node 12 (text u nil) nil)) nil

part_text : (c : Forest) → Admits sheet_S2 8 c → (t : List ℕ) × (c ≡ text t nil)
part_text c a = admits_row a

in_S2 : (f : Forest) → OfSheet sheet_S2 f → ((t : List ℕ) × (f ≡ one_part t)) ⊎ ((t : List ℕ) × (u : List ℕ) × (f ≡ two_parts t u))
in_S2 f b =
    let z = admits_row (admitted {e = 1} {x = 0} (record { is = refl; number = refl }) b) in
    let y = admits_row (admitted {e = 7} {x = 6} (record { is = refl; number = refl }) z.2) in
    let x = admits_row y.3 in
    let w = part_text x.0 (admitted {e = 9} {x = 8} (record { is = refl; number = refl }) x.2) in
    elim (admits_row y.4) [
      | inl a ↦
          let v = admits_row a in
          let t = part_text v.0 (admitted {e = 9} {x = 8} (record { is = refl; number = refl }) v.2) in
          let z1 = z.1 in let y2 = y.2 in let x1 = x.1 in let w1 = w.1 in let v1 = v.1 in let t1 = t.1 in
          inr (w.0, t.0, z1 ∙ ap (λ (c : Forest). node 10 c nil) (y2 ∙ ap (λ (g : Forest). join g y.1) (x1 ∙ ap (λ (c : Forest). node 11 c nil) w1) ∙ ap (λ (h : Forest). node 11 (text w.0 nil) h) (v1 ∙ ap (λ (c : Forest). node 12 c nil) t1)))
      | inr a ↦
          let v = admits_row a in
          let z1 = z.1 in let y2 = y.2 in let x1 = x.1 in let w1 = w.1 in
          inl (w.0, z1 ∙ ap (λ (c : Forest). node 10 c nil) (y2 ∙ ap (λ (g : Forest). join g y.1) (x1 ∙ ap (λ (c : Forest). node 11 c nil) w1) ∙ ap (λ (h : Forest). node 11 (text w.0 nil) h) v))
    ]

in_S1 : (t : List ℕ) → OfSheet sheet_S1 (one_part t)
in_S1 t = record {
  row = 1;
  expression = 0;
  defines = record { is = refl; number = refl };
  admits = of_named {w = 3} {x = 2} refl (record { is = refl; number = refl }) (of_named {w = 5} {x = 4} refl (record { is = refl; number = refl }) (of_text refl));
}

lost_both : Lost sheet_S2 sheet_S1 forest_both
unfolding nullable closing opening following
lost_both = record {
  proper = (made_record forest_both refl).proper;
  of_old = in_sheet sheet_S2 is_S2.passes.sound 1 0 forest_both (record { is = refl; number = refl }) refl;
  not_of_new = out_of_sheet sheet_S1 is_S1.passes.sound 1 0 forest_both (record { is = refl; number = refl }) refl;
}

least_16 : (f : Forest) → Lost sheet_S2 sheet_S1 f → 16 ≤ cost_of length_rules f
least_16 f l = elim (in_S2 f l.of_old) [
  | inl z ↦ absurd (l.not_of_new (subst (OfSheet sheet_S1) (sym z.1) (in_S1 z.0)))
  | inr z ↦ subst (λ (g : Forest). 16 ≤ cost_of length_rules g) (sym z.2) (omega arith)
]

pub judgements : Judgements
unfolding nullable closing opening following
judgements =
    record {
      more_than_one = record { old_sheet = sheet_only_empty; new_sheet = sheet_only_empty; is_old = is_only_empty; is_new = is_only_empty; holds = more_than_one };
      not_more_than_two = record { old_sheet = sheet_only_empty; new_sheet = sheet_only_empty; is_old = is_only_empty; is_new = is_only_empty; holds = two_sorts };
      more_than_two = record {
        old_sheet = sheet_only_empty;
        new_sheet = sheet_one_text;
        is_old = is_only_empty;
        is_new = is_one_text;
        holds = record { forest = three; proper = three_proper; apart = λ i j p q s. three_apart i j p q s.1 };
      };
      more_than_two_back = record {
        old_sheet = sheet_one_text;
        new_sheet = sheet_only_empty;
        is_old = is_one_text;
        is_new = is_only_empty;
        holds = record { forest = three; proper = three_proper; apart = λ i j p q s. three_apart i j p q s.0 };
      };
      none_to_lose = record {
        old_sheet = sheet_endless;
        new_sheet = sheet_only_empty;
        is_old = made_sheet sheet_endless refl refl;
        is_new = is_only_empty;
        holds = λ f p b. absurd (none_in_endless f (admitted {e = 1} {x = 0} (record { is = refl; number = refl }) b));
      };
      not_all_kept = record {
        old_sheet = sheet_only_empty;
        new_sheet = sheet_one_text;
        is_old = is_only_empty;
        is_new = is_one_text;
        holds = λ k.
            out_of_sheet sheet_one_text is_one_text.passes.sound 1 0 nil (record { is = refl; number = refl }) refl
            (k nil tt (in_sheet sheet_only_empty is_only_empty.passes.sound 1 0 nil (record { is = refl; number = refl }) refl));
      };
      both_lost = record { old_sheet = sheet_S2; new_sheet = sheet_S1; is_old = is_S2; is_new = is_S1; holds = (forest_both, stands_for forest_both refl refl, lost_both) };
      r_kept = record {
        old_sheet = sheet_S2;
        new_sheet = sheet_S1;
        is_old = is_S2;
        is_new = is_S1;
        holds = (forest_r, stands_for forest_r refl refl, λ l. l.not_of_new (in_S1 (78 ∷ [])));
      };
      both_not_lost_back = record {
        old_sheet = sheet_S1;
        new_sheet = sheet_S2;
        is_old = is_S1;
        is_new = is_S2;
        holds = (forest_both, stands_for forest_both refl refl, λ l. lost_both.not_of_new l.of_old);
      };
      told = record {
        old_sheet = sheet_S2;
        new_sheet = sheet_S1;
        is_old = is_S2;
        is_new = is_S1;
        holds = record { one = forest_both; lost = lost_both; cost_is = refl; size_is = refl; shows = (omega arith, refl); least = least_16 };
      };
      told_unshown = record {
        old_sheet = sheet_S2;
        new_sheet = sheet_S1;
        is_old = is_S2;
        is_new = is_S1;
        holds = record { one = forest_both; lost = lost_both; cost_is = refl; size_is = refl; shows = (omega arith, refl); least = least_16 };
      };
    }
