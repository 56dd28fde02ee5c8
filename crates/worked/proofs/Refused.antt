-- The refusals, by tests that compute.
use Rattle.std.proofs.Common.{◌≡◌, ℕ, zero, suc, ◌+◌, ◌-◌, ◌%◌, ◌<◌, Bool, true, false, ◌&&◌, ◌||◌, T, eqb, ltb, leb, List, [], ◌∷◌, ◌++◌, length, take, replicate, sym, refl, ap, ◌∙◌, subst, arith, le→leb, eqb→eq, ltb→lt, lt→ltb, leb→le}
use Rattle.std.proofs.Math.Dec.{eqb_refl}
use Rattle.std.proofs.lemmas.Bool.{or_parts}
use Rattle.forest.specs.Forest.{Forest, nil, text, node, Bytes, Proper, bytes_of}
use Rattle.forest.specs.Reading as reading
use Rattle.forest.specs.Reading.{Token, opening, chars, closing, all_written, LeavesOpen, Wrong, DueWithin}
use Rattle.forest.specs.Reading.{cut_short, in_opening, in_count, in_text, no_token, label_zero, stray_closing, never_closed, too_deep, too_long, within}
use Rattle.rows.specs.declared.row.Row.{Row}
use Rattle.rows.specs.declared.row.Row.TheVariants.{Empty as empty, Text as one_text, Named as named, Any as any, Seq as seq, Alt as alt, Many as many, Def as def}
use Rattle.rows.specs.Sheet.{Sheet, at, definitions, places, Place, Names, first, second, seq_second, many_part, by_named, by_any, a_leaf, a_definition, leaf_text}
use Rattle.rows.specs.declared.raw.RawRow.{RawRow}
use Rattle.rows.specs.Raw.{Body, laid, AllSay}
use Rattle.rows.specs.Parts.{uses}
use Rattle.rows.specs.Checking.{PartsFit, GoodFront, WrongOverAll, not_once, not_there, too_many, says_nothing, parts_astray, over_all}
use Rattle.rows.proofs.Fronts.{say_last, say_push}
use Rattle.rows.proofs.Tallies.{used_once}
use Rattle.rows.proofs.Taking.{Unsaid, unsaid}
use Rattle.worked.specs.Refusals.{JustRead, ReadingRefused, SheetRefused, no_rows, bad_rows, SheetsRefused, nodes, beside, longest, joined_texts, NotSound}
use Rattle.worked.proofs.Sounds.{both, all_below, shape?, once?, all_once?, content?, all_there?, plain?, not_plain, front?, fronted, sized, once_below, there_below, all_there}
use Rattle.worked.proofs.Made.{true_is, bytes?, are_bytes, made_record, stands_for, raw_of, raws_of, Labelled, row_says, all_say, is_body, made_sheet}

-- Reading.
abbrev leaves? : ℕ → List Token → ℕ → Bool
leaves? d [] e = eqb d e
leaves? d (opening l ∷ ts) e = (ltb 0 l && ltb l 65536) && (ltb d 64 && leaves? (suc d) ts e)
leaves? d (chars t ∷ ts) e = (bytes? t && ltb (length t) 256) && leaves? d ts e
leaves? d (closing ∷ ts) e = ltb 0 d && leaves? (d - 1) ts e

leaves_open : (d : ℕ) (ts : List Token) (e : ℕ) → T (leaves? d ts e) → LeavesOpen d ts e
leaves_open d [] e h = eqb→eq d e h
leaves_open d (opening l ∷ ts) e h =
    let z = both (ltb 0 l && ltb l 65536) (ltb d 64 && leaves? (suc d) ts e) h in
    let y = both (ltb 0 l) (ltb l 65536) z.0 in
    let x = both (ltb d 64) (leaves? (suc d) ts e) z.1 in
    ((ltb→lt 0 l y.0, ltb→lt l 65536 y.1), ltb→lt d 64 x.0, leaves_open (suc d) ts e x.1)
leaves_open d (chars t ∷ ts) e h =
    let z = both (bytes? t && ltb (length t) 256) (leaves? d ts e) h in
    let y = both (bytes? t) (ltb (length t) 256) z.0 in
    ((are_bytes t y.0, ltb→lt (length t) 256 y.1), leaves_open d ts e z.1)
leaves_open d (closing ∷ ts) e h = let z = both (ltb 0 d) (leaves? (d - 1) ts e) h in (ltb→lt 0 d z.0, leaves_open (d - 1) ts e z.1)

-- After the tokens, with so many nodes open, stands what is wrong.
due : {body : List ℕ} {n p : ℕ} (before : List Token) (left : List ℕ) (deep : ℕ) → leb (length body) 4096 ≡ true → body ≡ all_written before ++ left
    → leaves? 0 before deep ≡ true → p ≡ length (all_written before) → Wrong deep left n → reading.Due body n p
due {body} before left deep s e l o w =
    within (leb→le (length body) 4096 (true_is _ s))
    (record { before = before; left = left; «open» = deep; splits = e; leaves = leaves_open 0 before deep (true_is _ l); offset_is = o; wrong = w })

long : (body : List ℕ) → ltb 4096 (length body) ≡ true → reading.Due body 3 0
long body q = too_long (ltb→lt 4096 (length body) (true_is _ q))

abbrev tokens : ℕ → List Token
tokens n = replicate n (opening 1)

pub reading_refused : ReadingRefused
reading_refused =
    record {
      one_byte_too_long = long (replicate 4097 3) refl;
      cut_after_01 = due [] (1 ∷ []) 0 refl refl refl refl (cut_short (in_opening (omega arith)));
      cut_in_label = due (chars [] ∷ []) (1 ∷ 0 ∷ []) 0 refl refl refl refl (cut_short (in_opening (omega arith)));
      cut_after_03 = due (chars [] ∷ []) (3 ∷ []) 0 refl refl refl refl (cut_short in_count);
      cut_in_text = due (opening 1 ∷ []) (3 ∷ 2 ∷ 78 ∷ []) 1 refl refl refl refl (cut_short (in_text (omega arith)));
      mark_00 = due [] (0 ∷ []) 0 refl refl refl refl (no_token (λ e. omega arith) (λ e. omega arith) (λ e. omega arith));
      mark_04 = due (chars (9 ∷ []) ∷ []) (4 ∷ []) 0 refl refl refl refl (no_token (λ e. omega arith) (λ e. omega arith) (λ e. omega arith));
      label_0 = due (opening 1 ∷ []) (1 ∷ 0 ∷ 0 ∷ 2 ∷ 2 ∷ []) 1 refl refl refl refl label_zero;
      none_open = due (opening 1 ∷ closing ∷ []) (2 ∷ []) 0 refl refl refl refl (stray_closing refl);
      still_open = due (opening 1 ∷ chars [] ∷ []) [] 1 refl refl refl refl (never_closed (omega arith));
      node_65 = due (tokens 64) (1 ∷ 0 ∷ 1 ∷ replicate 65 2) 64 refl refl refl refl (too_deep (omega arith, omega arith) (omega arith));
      cut_before_label_0 = due [] (1 ∷ 0 ∷ []) 0 refl refl refl refl (cut_short (in_opening (omega arith)));
      cut_before_depth = due (tokens 64) (1 ∷ 0 ∷ []) 64 refl refl refl refl (cut_short (in_opening (omega arith)));
      label_0_before_depth = due (tokens 64) (1 ∷ 0 ∷ 0 ∷ []) 64 refl refl refl refl label_zero;
      length_first = long (0 ∷ replicate 4096 0) refl;
    }

bytes_join : (a b : List ℕ) → Bytes a → Bytes b → Bytes (a ++ b)
bytes_join [] b p q = q
bytes_join (x ∷ a) b p q = (p.0, bytes_join a b p.1 q)

written_in_bytes : (f : Forest) → Proper f → Bytes (bytes_of f)
written_in_bytes nil p = tt
written_in_bytes (text t r) p = (omega arith, (p.0.1, bytes_join t (bytes_of r) p.0.0 (written_in_bytes r p.1)))
written_in_bytes (node l c r) p =
    let h = p.0.1 in
    (omega arith, (omega arith, (omega arith, bytes_join (bytes_of c) (2 ∷ bytes_of r) (written_in_bytes c p.1) (omega arith, written_in_bytes r p.2))))

pub just_read : JustRead
just_read =
    record {
      longest_text = stands_for (text (replicate 255 255) nil) refl refl;
      highest_label = stands_for (node 65535 nil nil) refl refl;
      label_high_first = stands_for (node 258 nil nil) refl refl;
      deepest = stands_for (nodes 64 nil) refl refl;
      longest_is_a_record = made_record longest refl;
      longest_length = refl;
      beside_65 = stands_for (beside 65) refl refl;
      two_texts_side_by_side = stands_for (text (5 ∷ []) (text (6 ∷ []) nil)) refl refl;
      content_then_rest = stands_for (node 9 (text [] nil) (node 8 nil nil)) refl refl;
      written_in_bytes = written_in_bytes;
    }

-- Rows.
-- Whether four bytes say a row.
abbrev case? : Bool → Bool → Bool
case? true b = b
case? false b = false

abbrev said? : ℕ → ℕ → ℕ → ℕ → Bool
said? k a b c =
    case? (eqb k 0) (eqb (a + b + c) 0) || (case? (eqb k 1) (eqb (a + b + c) 0) || (case? (eqb k 2) (ltb 0 (a + b)) || (case? (eqb k 3) (eqb (a + b) 0)
    || (case? (eqb k 4) (eqb c 0) || (case? (eqb k 5) (eqb c 0) || (case? (eqb k 6) (eqb (b + c) 0) || case? (eqb k 7) (eqb (b + c) 0)))))))

not_both : (x y : ℕ) (b : Bool) → case? (eqb x y) b ≡ false → x ≡ y → T b → ⊥
not_both x y b q e h = subst (λ (v : Bool). T v) (sym (ap (λ (v : Bool). case? v b) (true_of (eqb x y) (subst (λ (n : ℕ). T (eqb x n)) e (eqb_refl x)))) ∙ q) h
  where
    true_of : (v : Bool) → T v → v ≡ true
    true_of true h = refl
    true_of false h = absurd h

same : (x y : ℕ) → x ≡ y → T (eqb x y)
same x y e = subst (λ (n : ℕ). T (eqb x n)) e (eqb_refl x)

nothing_said : (k a b c : ℕ) → said? k a b c ≡ false → Unsaid k a b c
nothing_said k a b c q =
    let z0 = or_parts (case? (eqb k 0) (eqb (a + b + c) 0)) _ q in
    let z1 = or_parts (case? (eqb k 1) (eqb (a + b + c) 0)) _ z0.1 in
    let z2 = or_parts (case? (eqb k 2) (ltb 0 (a + b))) _ z1.1 in
    let z3 = or_parts (case? (eqb k 3) (eqb (a + b) 0)) _ z2.1 in
    let z4 = or_parts (case? (eqb k 4) (eqb c 0)) _ z3.1 in
    let z5 = or_parts (case? (eqb k 5) (eqb c 0)) _ z4.1 in
    let z6 = or_parts (case? (eqb k 6) (eqb (b + c) 0)) _ z5.1 in (
      λ e h. not_both k 0 _ z0.0 e (same _ 0 h),
      λ e h. not_both k 1 _ z1.0 e (same _ 0 h),
      λ e h. not_both k 2 _ z2.0 e (lt→ltb 0 (a + b) h),
      λ e h. not_both k 3 _ z3.0 e (same _ 0 h),
      λ e h. not_both k 4 _ z4.0 e (same _ 0 h),
      λ e h. not_both k 5 _ z5.0 e (same _ 0 h),
      λ e h. not_both k 6 _ z6.0 e (same _ 0 h),
      λ e h. not_both k 7 _ z6.1 e (same _ 0 h),
    )

abbrev body? : List ℕ → Bool
body? b = ltb 0 (length b) && (leb (length b) 512 && eqb (length b % 4) 0)

a_body : (b : List ℕ) → body? b ≡ true → Body b
a_body b q =
    let z = both (ltb 0 (length b)) (leb (length b) 512 && eqb (length b % 4) 0) (true_is _ q) in
    let y = both (leb (length b) 512) (eqb (length b % 4) 0) z.1 in
    (ltb→lt 0 (length b) z.0, leb→le (length b) 512 y.0, eqb→eq (length b % 4) 0 y.1)

no_body : (b : List ℕ) → body? b ≡ false → Body b → ⊥
no_body b q x =
    let z : T (body? b) = all_three (ltb 0 (length b)) (leb (length b) 512) (eqb (length b % 4) 0) (lt→ltb 0 (length b) x.0) (le→leb (length b) 512 x.1) (same (length b % 4) 0 x.2) in
    subst (λ (v : Bool). T v) q z
  where
    all_three : (a b c : Bool) → T a → T b → T c → T (a && (b && c))
    all_three true true true p q r = tt
    all_three true true false p q r = absurd r
    all_three true false c p q r = absurd q
    all_three false b c p q r = absurd p

-- Rows that are said, then one more, then whatever follows.
front_raws : (s : Sheet) (r : RawRow) (rest : List RawRow) → take (length s) (raws_of s ++ r ∷ rest) ≡ raws_of s
front_raws [] r rest = refl
front_raws (x ∷ s) r rest = ap (λ (rs : List RawRow). raw_of x ∷ rs) (front_raws s r rest)

next_raws : (s : Sheet) (r : RawRow) (rest : List RawRow) → take (suc (length s)) (raws_of s ++ r ∷ rest) ≡ raws_of s ++ r ∷ []
next_raws [] r rest = refl
next_raws (x ∷ s) r rest = ap (λ (rs : List RawRow). raw_of x ∷ rs) (next_raws s r rest)

within_raws : (s : Sheet) (r : RawRow) (rest : List RawRow) → length s < length (raws_of s ++ r ∷ rest)
within_raws [] r rest = omega arith
within_raws (x ∷ s) r rest = let i = within_raws s r rest in omega arith

good_front : (s : Sheet) (r : RawRow) (rest : List RawRow) → front? s ≡ true → GoodFront (raws_of s ++ r ∷ rest) (length s) s
good_front s r rest q =
    let w = fronted s (true_is _ q) in
    record { say = subst (λ (rs : List RawRow). AllSay rs s) (sym (front_raws s r rest)) (all_say s w.labelled); fit = w.fit }

ten : (s : Sheet) (r : RawRow) (rest : List RawRow) {body : List ℕ} → body? body ≡ true → laid (raws_of s ++ r ∷ rest) ≡ body → front? s ≡ true
    → said? r.kind r.first r.second r.third ≡ false → SheetRefused body 10 (length s)
ten s r rest {body} b e q n =
    bad_rows (a_body body b) e (says_nothing (within_raws s r rest) (good_front s r rest q) (λ s' a.
    let z = say_last (raws_of s) r s' (subst (λ (rs : List RawRow). AllSay rs s') (next_raws s r rest) a) in
    unsaid z.1 (nothing_said r.kind r.first r.second r.third n)))

eleven : (s : Sheet) (x : Row) (rest : List RawRow) {body : List ℕ} → body? body ≡ true → laid (raws_of s ++ raw_of x ∷ rest) ≡ body → front? s ≡ true
    → Labelled x → (PartsFit (s ++ x ∷ []) (length s) → ⊥) → SheetRefused body 11 (length s)
eleven s x rest {body} b e q l n =
    bad_rows (a_body body b) e (parts_astray (within_raws s (raw_of x) rest) (good_front s (raw_of x) rest q)
    (subst (λ (rs : List RawRow). AllSay rs (s ++ x ∷ [])) (sym (next_raws s (raw_of x) rest)) (say_push (all_say s (fronted s (true_is _ q)).labelled) (row_says x l))) n)

-- The whole sheet.
whole : (s : Sheet) {body : List ℕ} {n p : ℕ} → shape? s ≡ true → laid (raws_of s) ≡ body → WrongOverAll s n p → SheetRefused body n p
whole s q e w =
    let z = sized s (true_is _ q) in
    bad_rows (subst Body e (is_body s z.0 z.1)) e (over_all (record { say = all_say s z.2.labelled; fit = z.2.fit }) w)

twelve : (s : Sheet) (p : ℕ) → ltb p (length s) ≡ true → all_below p (λ a. once? s a (at s a)) ≡ true → plain? (at s p) ≡ true → eqb (uses s (length s) p) 1 ≡ false
    → WrongOverAll s 12 p
twelve s p l o r u =
    let h : p < length s = ltb→lt p (length s) (true_is _ l) in
    not_once h (once_below s p (omega arith) (true_is _ o)) (λ z.
    let y = used_once s p (λ x i. not_plain s p x (true_is _ r) i) z in subst (λ (v : Bool). T v) u (same (uses s (length s) p) 1 y))

thirteen : (s : Sheet) (p d : ℕ) → all_once? s ≡ true → ltb p (length s) ≡ true → all_below p (λ q. content? s (at s q)) ≡ true → Names s p d → leb (definitions s) d ≡ true
    → WrongOverAll s 13 p
thirteen s p d o l c n m =
    not_there (once_below s (length s) (omega arith) (true_is _ o)) (ltb→lt p (length s) (true_is _ l)) (there_below s p (true_is _ c))
    (λ z. let y = z d n in let x = leb→le (definitions s) d (true_is _ m) in omega arith)

fourteen : (s : Sheet) (p : ℕ) → all_once? s ≡ true → all_there? s ≡ true → Place s p → places (take p s) ≡ 64 → WrongOverAll s 14 p
fourteen s p o c l n = too_many (once_below s (length s) (omega arith) (true_is _ o)) (all_there s (true_is _ c)) l n

abbrev defined_texts : ℕ → ℕ → Sheet
defined_texts zero row = []
defined_texts (suc n) row = one_text ∷ (def row ∷ defined_texts n (row + 2))

abbrev largest_sheet : Sheet
largest_sheet = one_text ∷ joined_texts 62 1 (many 124 ∷ many 125 ∷ def 126 ∷ [])

abbrev four : ℕ → ℕ → ℕ → ℕ → RawRow
four k a b c = record { kind = k; first = a; second = b; third = c }

pub sheets_refused : SheetsRefused
sheets_refused =
    record {
      no_bytes = no_rows (no_body [] refl);
      five_bytes = no_rows (no_body (0 ∷ 0 ∷ 0 ∷ 0 ∷ 0 ∷ []) refl);
      rows_129 = no_rows (no_body (replicate 516 0) refl);
      rows_128 = a_body (replicate 512 0) refl;
      kind_8 = ten (empty ∷ []) (four 8 0 0 0) [] refl refl refl refl;
      empty_first = ten [] (four 0 1 0 0) [] refl refl refl refl;
      empty_second = ten [] (four 0 0 1 0) [] refl refl refl refl;
      empty_third = ten [] (four 0 0 0 1) [] refl refl refl refl;
      text_first = ten [] (four 1 1 0 0) [] refl refl refl refl;
      text_second = ten [] (four 1 0 1 0) [] refl refl refl refl;
      text_third = ten [] (four 1 0 0 1) [] refl refl refl refl;
      named_label_0 = ten [] (four 2 0 0 0) [] refl refl refl refl;
      any_first = ten [] (four 3 1 0 0) [] refl refl refl refl;
      any_second = ten [] (four 3 0 1 0) [] refl refl refl refl;
      seq_third = ten [] (four 4 0 0 1) [] refl refl refl refl;
      alt_third = ten [] (four 5 0 0 1) [] refl refl refl refl;
      many_second = ten [] (four 6 0 1 0) [] refl refl refl refl;
      many_third = ten [] (four 6 0 0 1) [] refl refl refl refl;
      def_second = ten [] (four 7 0 1 0) [] refl refl refl refl;
      def_third = ten [] (four 7 0 0 1) [] refl refl refl refl;
      part_itself = eleven (empty ∷ []) (seq 0 1) [] refl refl refl tt (λ f. let z = (f second 1 (seq_second refl)).0 in omega arith);
      part_above = eleven [] (many 1) (four 8 0 0 0 ∷ []) refl refl refl tt (λ f. let z = (f first 1 (many_part refl)).0 in omega arith);
      part_definition = eleven (empty ∷ def 0 ∷ []) (many 1) (four 7 2 0 0 ∷ []) refl refl refl tt (λ f. (f first 1 (many_part refl)).1 0 refl);
      ten_first = ten [] (four 8 0 0 0) (four 6 1 0 0 ∷ []) refl refl refl refl;
      twice_a_part = whole (empty ∷ seq 0 0 ∷ def 1 ∷ []) refl refl (twelve _ 0 refl refl refl refl);
      part_of_two = whole (empty ∷ one_text ∷ alt 0 1 ∷ def 2 ∷ def 1 ∷ []) refl refl (twelve _ 1 refl refl refl refl);
      no_part = whole (named 1 9 ∷ empty ∷ def 0 ∷ []) refl refl (twelve _ 1 refl refl refl refl);
      unused = whole (empty ∷ empty ∷ def 0 ∷ []) refl refl (twelve _ 1 refl refl refl refl);
      two_unused = whole (empty ∷ empty ∷ empty ∷ def 2 ∷ []) refl refl (twelve _ 0 refl refl refl refl);
      named_missing = whole (named 1 1 ∷ def 0 ∷ []) refl refl (thirteen _ 0 1 refl refl refl (by_named refl) refl);
      any_missing = whole (any 0 ∷ def 0 ∷ any 2 ∷ def 2 ∷ []) refl refl (thirteen _ 2 2 refl refl refl (by_any refl) refl);
      two_missing = whole (any 5 ∷ def 0 ∷ any 6 ∷ def 2 ∷ []) refl refl (thirteen _ 0 5 refl refl refl (by_any refl) refl);
      missing_first = whole (defined_texts 32 0 ++ any 33 ∷ def 64 ∷ []) refl refl (thirteen _ 64 33 refl refl refl (by_any refl) refl);
      places_66 = whole (defined_texts 33 0) refl refl (fourteen _ 64 refl refl (a_leaf (leaf_text refl)) refl);
      places_65 = whole (defined_texts 32 0 ++ empty ∷ def 64 ∷ []) refl refl (fourteen _ 65 refl refl (a_definition refl) refl);
      places_64 = (defined_texts 32 0, made_sheet (defined_texts 32 0) refl refl);
      largest = (largest_sheet, made_sheet largest_sheet refl refl);
    }

pub not_sound : NotSound
not_sound =
    record {
      no_row = λ w. let h = w.filled in omega arith;
      rows_129 = λ w. le→leb _ 128 w.short;
      label_0 = λ w. let h = (w.labelled 0 0 0 refl).0 in omega arith;
    }
