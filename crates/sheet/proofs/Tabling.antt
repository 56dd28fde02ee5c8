-- Filling the tables of a sheet, row by row.
use Rattle.std.proofs.Common.{◌≡◌, ℕ, ◌+◌, ◌^◌, ◌<◌, ◌≤◌, ◌⊎◌, ◌↔◌, List, length, get_or, take, set, sym, refl, ap, ◌∙◌, subst, inl, inr, arith, get_or-set_other, get_or-set_same}
use mathlib.Core.Option.{some}
use lib.Bits.{bit_or}
use Rattle.rows.specs.Sheet.{Sheet, at, definitions, Defines, leaf_named, leaf_any}
use Rattle.rows.specs.declared.row.Row.{Row}
use Rattle.rows.specs.declared.row.Row.TheVariants.{Text as one_text, Named as named, Any as any, Def as def}
use Rattle.rows.specs.Sheet.{Place, a_definition, a_leaf, places, Numbered, Names, by_named, by_any}
use Rattle.sheet.specs.Standing.{Bit, SetOf}
use Rattle.rows.specs.Steps.{Nullable, Next}
use Rattle.rows.specs.Parts.{KeptBelow}
use Rattle.sheet.specs.Shapes.{Shape, Ready, Shaped, Grown, LeadsAt, EndsAt, LeadsBelow, EndsBelow, Holds}
use Rattle.sheet.specs.Compiled.{Tabled, TextAt, NamedAt, AnyAt, HoldsBelow, Labels}
use Rattle.rows.proofs.Numbers.{numbered_once, numbered_within, defines_once}
use Rattle.sheet.proofs.PlaceSets.{set_same, set_or, set_one}
use Rattle.sheet.proofs.Growing.{grown_then, grown_same, grown_link}
use Rattle.rows.proofs.Checks.{NamesOne, names_row, names_below}
use Rattle.rows.proofs.Fronts.{below_or_not}
use Rattle.rows.proofs.Taking.{same_row}

-- A place has its number.
pub place_number : {s : Sheet} {e : ℕ} → Place s e → Numbered s (places (take e s)) e
place_number p = record { is = p; number = refl }

pub number_small : (s : Sheet) (ns : List ℕ) (e : ℕ) → Ready s ns → e < length s → Place s e → get_or ns e 0 < 64
number_small s ns e r h p = let n = numbered_within (place_number p) in omega (arith, r.numbered e h, r.few)

pub home_small : (s : Sheet) (e x : ℕ) → places s ≤ 64 → at s e ≡ some (def x) → places (take e s) < 64
home_small s e x f i = let n = numbered_within {s = s} {e = e} (place_number (a_definition i)) in omega arith

-- One definition.
pub define_empty : {s : Sheet} {e x own : ℕ} {r : Shape} → Place s e → own ≡ 2 ^ places (take e s) → Shaped s x r → Nullable s x
    → SetOf s (bit_or own r.closing) (EndsAt s e x)
define_empty {s} {e} {x} {own} p q u n =
    let o : SetOf s own (λ (w : ℕ). w ≡ e) = rw q (set_one (place_number p)) in
    set_same (λ w. (λ z. elim z [ inl y ↦ inl (y, n) | inr y ↦ inr y ], λ z. elim z [ inl y ↦ inl y.0 | inr y ↦ inr y ])) (set_or o u.closing)

pub define_grown : {s : Sheet} {e x own : ℕ} {r : Shape} {t u : List ℕ} (v : List ℕ) → Place s e → own ≡ 2 ^ places (take e s) → Shaped s x r
    → Grown s t u (λ q p. Next s q p x) → KeptBelow own u v
    → ((i j : ℕ) → Bit i (get_or v j 0) ↔ (Bit i (get_or u j 0) ⊎ (Bit j r.opening × Bit i own)))
    → Grown s t v (LeadsAt s e x)
define_grown {s} {e} {x} {own} {r} {t} {u} v p q f g k b =
    let o : SetOf s own (λ (w : ℕ). w ≡ e) = rw q (set_one (place_number p)) in
    grown_same (λ q p. (λ z. elim z [ inl y ↦ inr y | inr y ↦ inl y ], λ z. elim z [ inl y ↦ inr y | inr y ↦ inl y ]))
    (grown_then g (grown_link u v o f.opening k b))

-- Tables.
pub tabled_same : {s : Sheet} {t : List ℕ} {R S : ℕ → ℕ → Type 0} → ((q p : ℕ) → R q p ↔ S q p) → Tabled s t R → Tabled s t S
tabled_same f x =
    record { bits = λ i j q p n m. (λ b. (f q p).0 ((x.bits i j q p n m).0 b), λ r. (x.bits i j q p n m).1 ((f q p).1 r)); bound = x.bound }

pub tabled_grown : {s : Sheet} {t u : List ℕ} {R S : ℕ → ℕ → Type 0} → Tabled s t R → Grown s t u S → Tabled s u (λ q p. R q p ⊎ S q p)
tabled_grown x g =
    record {
      bits = λ i j q p n m. (
        λ b. elim ((g.bits i j q p n m).0 b) [ inl c ↦ inl ((x.bits i j q p n m).0 c) | inr r ↦ inr r ],
        λ z. (g.bits i j q p n m).1 (elim z [ inl r ↦ inl ((x.bits i j q p n m).1 r) | inr r ↦ inr r ]),
      );
      bound = g.bound x.bound;
    }

-- What holds through a definition among the first rows.
abbrev pub Through : Sheet → (ℕ → ℕ → Type 0) → ℕ → Type 0
Through s D k = (e x : ℕ) × (e < k) × (at s e ≡ some (def x)) × D e x

pub through_none : (s : Sheet) (D : ℕ → ℕ → Type 0) → Through s D 0 → ⊥
through_none s D z = let h = z.2 in omega arith

same_part : {a b : ℕ} → some (def a) ≡ some (def b) → a ≡ b
same_part h = cc

pub through_more : (s : Sheet) (D : ℕ → ℕ → Type 0) (k x : ℕ) → at s k ≡ some (def x) → (Through s D k ⊎ D k x) ↔ Through s D (k + 1)
through_more s D k x i = (forth, back)
  where
    forth : Through s D k ⊎ D k x → Through s D (k + 1)
    forth (inl z) = let h = z.2 in (z.0, z.1, omega arith, z.3, z.4)
    forth (inr d) = (k, x, omega arith, i, d)

    back : Through s D (k + 1) → Through s D k ⊎ D k x
    back z =
        elim (below_or_not z.0 k) [
          | inl h ↦ inl (z.0, z.1, h, z.3, z.4)
          | inr h ↦
              let l = z.2 in
              let q : z.0 ≡ k = omega arith in
              let j : at s k ≡ some (def z.1) = subst (λ (e : ℕ). at s e ≡ some (def z.1)) q z.3 in
              let r : z.1 ≡ x = same_part (sym j ∙ i) in
              inr (subst (λ (y : ℕ). D k y) r (subst (λ (e : ℕ). D e z.1) q z.4))
        ]

pub through_stay : (s : Sheet) (D : ℕ → ℕ → Type 0) (k : ℕ) → ((x : ℕ) → at s k ≡ some (def x) → ⊥) → Through s D k ↔ Through s D (k + 1)
through_stay s D k n = (forth, back)
  where
    forth : Through s D k → Through s D (k + 1)
    forth z = let h = z.2 in (z.0, z.1, omega arith, z.3, z.4)

    back : Through s D (k + 1) → Through s D k
    back z =
        elim (below_or_not z.0 k) [
          | inl h ↦ (z.0, z.1, h, z.3, z.4)
          | inr h ↦
              let l = z.2 in
              let q : z.0 ≡ k = omega arith in
              absurd (n z.1 (subst (λ (e : ℕ). at s e ≡ some (def z.1)) q z.3))
        ]

pub ends_more : {s : Sheet} {m n : ℕ} (k x : ℕ) → at s k ≡ some (def x) → SetOf s m (EndsBelow s k) → SetOf s n (EndsAt s k x)
    → SetOf s (bit_or m n) (EndsBelow s (k + 1))
ends_more {s} k x i a b = set_same (λ q. through_more s (λ e x. EndsAt s e x q) k x i) (set_or a b)

pub ends_stay : {s : Sheet} {m : ℕ} (k : ℕ) → ((x : ℕ) → at s k ≡ some (def x) → ⊥) → SetOf s m (EndsBelow s k) → SetOf s m (EndsBelow s (k + 1))
ends_stay {s} k n a = set_same (λ q. through_stay s (λ e x. EndsAt s e x q) k n) a

pub leads_more : {s : Sheet} {t u : List ℕ} (k x : ℕ) → at s k ≡ some (def x) → Tabled s t (LeadsBelow s k) → Grown s t u (LeadsAt s k x)
    → Tabled s u (LeadsBelow s (k + 1))
leads_more {s} k x i a b = tabled_same (λ q p. through_more s (λ e x. LeadsAt s e x q p) k x i) (tabled_grown a b)

pub leads_stay : {s : Sheet} {t : List ℕ} (k : ℕ) → ((x : ℕ) → at s k ≡ some (def x) → ⊥) → Tabled s t (LeadsBelow s k) → Tabled s t (LeadsBelow s (k + 1))
leads_stay {s} k n a = tabled_same (λ q p. through_stay s (λ e x. LeadsAt s e x q p) k n) a

-- One more row.
below_step : (q k : ℕ) → q < k + 1 → (q < k) ⊎ (q ≡ k)
below_step q k h = elim (below_or_not q k) [ inl l ↦ inl l | inr l ↦ inr (omega arith) ]

-- What holds of a row among the first k.
abbrev pub Reached : (ℕ → Type 0) → ℕ → ℕ → Type 0
Reached P k p = (p < k) × P p

pub leaf_more : {s : Sheet} {m n : ℕ} (P : ℕ → Type 0) (k : ℕ) → P k → Place s k → n ≡ 2 ^ places (take k s)
    → SetOf s m (Reached P k) → SetOf s (bit_or m n) (Reached P (k + 1))
leaf_more {s} {m} {n} P k y p w a =
    let o : SetOf s n (λ (v : ℕ). v ≡ k) = rw w (set_one (place_number p)) in
    set_same (λ q. (
      λ z. elim z [ inl u ↦ let h = u.0 in (omega arith, u.1) | inr u ↦ (omega arith, subst P (sym u) y) ],
      λ z. elim (below_step q k z.0) [ inl h ↦ inl (h, z.1) | inr h ↦ inr h ],
    ))
    (set_or a o)

pub leaf_stay : {s : Sheet} {m : ℕ} (P : ℕ → Type 0) (k : ℕ) → (P k → ⊥) → SetOf s m (Reached P k) → SetOf s m (Reached P (k + 1))
leaf_stay {s} P k n a =
    set_same (λ q. (
      λ z. let h = z.0 in (omega arith, z.1),
      λ z. elim (below_step q k z.0) [ inl h ↦ (h, z.1) | inr h ↦ absurd (n (subst P h z.1)) ],
    ))
    a

pub leaf_all : {s : Sheet} {m : ℕ} (P : ℕ → Type 0) (k : ℕ) → ((p : ℕ) → P p → p < k) → SetOf s m (Reached P k) → SetOf s m P
leaf_all P k h a = set_same (λ q. (λ z. z.1, λ z. (h q z, z))) a

-- A row that is no leaf of a kind.
pub not_text : (s : Sheet) (p : ℕ) {r : Row} → at s p ≡ some r → (r ≡ one_text → ⊥) → TextAt s p → ⊥
not_text s p i n j = n (same_row (sym i ∙ j))

pub not_named : (s : Sheet) (p : ℕ) {r : Row} → at s p ≡ some r → ((l d : ℕ) → r ≡ named l d → ⊥) → NamedAt s p → ⊥
not_named s p i n z = n z.0 z.1 (same_row (sym i ∙ z.2))

pub not_any : (s : Sheet) (p : ℕ) {r : Row} → at s p ≡ some r → ((d : ℕ) → r ≡ any d → ⊥) → AnyAt s p → ⊥
not_any s p i n z = n z.0 (same_row (sym i ∙ z.1))

-- Labels.
pub label_more : (s : Sheet) (ls : List ℕ) (k n l d : ℕ) → at s k ≡ some (named l d) → n ≡ places (take k s) → n < length ls
    → Labels s k ls → Labels s (k + 1) (set ls n l)
label_more s ls k n l d i q w f p m c h j =
    elim (below_step p k h) [
      | inl b ↦
          let ne : ¬ (places (take p s) ≡ n) = λ z.
          let u : Numbered s n p = record { is = a_leaf (leaf_named j); number = z } in
          let v : Numbered s n k = record { is = a_leaf (leaf_named i); number = sym q } in
          let y = numbered_once u v in omega arith in
          get_or-set_other ls n (places (take p s)) l 0 ne ∙ f p m c b j
      | inr b ↦
          let e : places (take p s) ≡ n = ap (λ (v : ℕ). places (take v s)) b ∙ sym q in
          let r : l ≡ m = same_label (sym i ∙ subst (λ (v : ℕ). at s v ≡ some (named m c)) b j) in
          ap (λ (v : ℕ). get_or (set ls n l) v 0) e ∙ get_or-set_same ls n l 0 w ∙ r
    ]
  where
    same_label : {a b c d : ℕ} → some (named a b) ≡ some (named c d) → a ≡ c
    same_label h = cc

pub label_stay : (s : Sheet) (ls : List ℕ) (k : ℕ) → ((l d : ℕ) → at s k ≡ some (named l d) → ⊥) → Labels s k ls → Labels s (k + 1) ls
label_stay s ls k n f p m c h j =
    elim (below_step p k h) [
      | inl b ↦ f p m c b j
      | inr b ↦ absurd (n m c (subst (λ (v : ℕ). at s v ≡ some (named m c)) b j))
    ]

-- Homes of definitions.
abbrev pub HomesBelow : Sheet → ℕ → List ℕ → Type 0
HomesBelow s k hs = (d w x : ℕ) → w < k → Defines s d w x → get_or hs d 0 ≡ places (take w s)

pub home_more : (s : Sheet) (hs : List ℕ) (k x n : ℕ) → at s k ≡ some (def x) → n ≡ places (take k s) → definitions (take k s) < length hs
    → HomesBelow s k hs → HomesBelow s (k + 1) (set hs (definitions (take k s)) n)
home_more s hs k x n i q w f d v y h j =
    elim (below_step v k h) [
      | inl b ↦
          let ne : ¬ (d ≡ definitions (take k s)) = λ z.
          let u : Defines s d k x = record { is = i; number = sym z } in
          let r = defines_once j u in omega arith in
          get_or-set_other hs (definitions (take k s)) d n 0 ne ∙ f d v y b j
      | inr b ↦
          let e : d ≡ definitions (take k s) = sym j.number ∙ ap (λ (a : ℕ). definitions (take a s)) b in
          ap (λ (a : ℕ). get_or (set hs (definitions (take k s)) n) a 0) e ∙ get_or-set_same hs (definitions (take k s)) n 0 w ∙ q
          ∙ ap (λ (a : ℕ). places (take a s)) (sym b)
    ]

pub home_stay : (s : Sheet) (hs : List ℕ) (k : ℕ) → ((x : ℕ) → at s k ≡ some (def x) → ⊥) → HomesBelow s k hs → HomesBelow s (k + 1) hs
home_stay s hs k n f d v y h j =
    elim (below_step v k h) [
      | inl b ↦ f d v y b j
      | inr b ↦ absurd (n y (subst (λ (a : ℕ). at s a ≡ some (def y)) b j.is))
    ]

-- Holders of content.
pub names_place : {s : Sheet} {p d : ℕ} → Names s p d → Place s p
names_place (by_named i) = a_leaf (leaf_named i)
names_place (by_any i) = a_leaf (leaf_any i)

pub holder_more : {s : Sheet} {t u : List ℕ} {own home : ℕ} (k c e x : ℕ) → Names s k c → Defines s c e x
    → own ≡ 2 ^ places (take k s) → home ≡ 2 ^ places (take e s) → KeptBelow own t u
    → ((i j : ℕ) → Bit i (get_or u j 0) ↔ (Bit i (get_or t j 0) ⊎ (Bit j home × Bit i own)))
    → Tabled s t (HoldsBelow s k) → Tabled s u (HoldsBelow s (k + 1))
holder_more {s} {t} {u} {own} {home} k c e x n d q r w f a =
    let o : SetOf s own (λ (v : ℕ). v ≡ k) = rw q (set_one (place_number (names_place n))) in
    let h : SetOf s home (λ (v : ℕ). v ≡ e) = rw r (set_one (place_number (a_definition d.is))) in
    tabled_same (λ p v. (
      λ z. elim z [
        | inl y ↦ let l = y.0 in (omega arith, y.1)
        | inr y ↦ (omega arith, (c, x, subst (λ (m : ℕ). Names s m c) (sym y.0) n, subst (λ (m : ℕ). Defines s c m x) (sym y.1) d))
      ],
      λ z. elim (below_step p k z.0) [
        | inl l ↦ inl (l, z.1)
        | inr l ↦
            let g : c ≡ z.1.0 = one_name n (subst (λ (m : ℕ). Names s m z.1.0) l z.1.2) in
            inr (l, defines_once z.1.3 (subst (λ (m : ℕ). Defines s m e x) g d))
      ],
    ))
    (tabled_grown a (grown_link t u o h w f))
  where
    one_name : {s : Sheet} {p c d : ℕ} → Names s p c → Names s p d → c ≡ d
    one_name {s} {p} (by_named i) m = sym (rw i at (names_row m))
    one_name {s} {p} (by_any i) m = sym (rw i at (names_row m))

pub holder_stay : {s : Sheet} {t : List ℕ} (k : ℕ) → ((d : ℕ) → Names s k d → ⊥) → Tabled s t (HoldsBelow s k) → Tabled s t (HoldsBelow s (k + 1))
holder_stay {s} k n a =
    tabled_same (λ p v. (
      λ z. let l = z.0 in (omega arith, z.1),
      λ z. elim (below_step p k z.0) [ inl l ↦ (l, z.1) | inr l ↦ absurd (n z.1.0 (subst (λ (m : ℕ). Names s m z.1.0) l z.1.2)) ],
    ))
    a

pub holder_all : {s : Sheet} {t : List ℕ} (k : ℕ) → length s ≤ k → Tabled s t (HoldsBelow s k) → Tabled s t (Holds s)
holder_all {s} k h a =
    tabled_same (λ p v. (λ z. z.1, λ z. let l = names_below z.2 in (omega arith, z))) a

pub named_one : {s : Sheet} {p d : ℕ} (r : Row) → at s p ≡ some r → NamesOne r d → Names s p d
named_one r i (inl z) = by_named (i ∙ ap some z.1)
named_one r i (inr z) = by_any (i ∙ ap some z)

pub top_set : {s : Sheet} {e x m : ℕ} → Defines s 0 e x → m ≡ 2 ^ places (take e s) → SetOf s m (λ w. (y : ℕ) × Defines s 0 w y)
top_set {s} {e} {x} {m} d q =
    let o : SetOf s m (λ (v : ℕ). v ≡ e) = rw q (set_one (place_number (a_definition d.is))) in
    set_same (λ w. (λ z. (x, subst (λ (v : ℕ). Defines s 0 v x) (sym z) d), λ z. defines_once z.1 d)) o
