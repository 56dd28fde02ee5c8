-- What the tables of a sound sheet are worked out from.
use Rattle.std.proofs.Common.{◌≡◌, ℕ, zero, suc, ◌<◌, List, length, get_or, take, replicate, refl, subst, arith}
use mathlib.Core.Option.{some}
use Rattle.rows.specs.Sheet.{Sheet, at, Side, first, def_part, places, Sound, Names}
use Rattle.rows.specs.declared.row.Row.TheVariants.{Named as named, Def as def}
use Rattle.rows.specs.Checking.{PartsFit, OnceAPart, is_definition, is_part}
use Rattle.rows.specs.Parts.{Numbers}
use Rattle.sheet.specs.Shapes.{Ready}
use Rattle.sheet.specs.Compiled.{AllThere}
use Rattle.sheet.specs.Held.{only_empty}
use Rattle.rows.proofs.Fronts.{PartRow, part_row}
use Rattle.rows.proofs.Sounding.{sound_from, sound_fits, sound_once, has_definition}
use Rattle.rows.proofs.Checks.{names_row}
use mathlib.Core.Logic.{∥∥₁_elim}
use native.Mathlib.Bridge.{le_prop}
use Rattle.sheet.proofs.Deciding.{formed}

pub made_ready : {s : Sheet} {ns : List ℕ} → ∥ Sound s ∥₁ → Numbers s ns → length ns ≡ 128 → Ready s ns
made_ready t n l =
    record {
      formed = formed t;
      numbered = n;
      few = ∥∥₁_elim t le_prop (λ w. w.few);
      short = ∥∥₁_elim t le_prop (λ w. w.short);
      long = l;
    }

pub made_there : {s : Sheet} → ∥ Sound s ∥₁ → AllThere s
made_there {s} t =
    record {
      named = λ p d m. ∥∥₁_elim t le_prop (λ w. w.there m);
      top = ∥∥₁_elim t le_prop (λ w. has_definition s w.filled (sound_fits w) (sound_once w));
    }

-- The sheet of the empty forest.
empty_fit : (e : ℕ) → PartsFit only_empty e
empty_fit zero k a x = elim (part_row x) [ ]
empty_fit (suc zero) k a x =
    let z = part_row x in
    let q = z.1 in
    (omega arith, λ y i. let r = subst (λ (n : ℕ). at only_empty n ≡ some (def y)) q i in cc)
empty_fit (suc (suc e)) k a x = elim (part_row x) [ ]

empty_only : (e : ℕ) (k : Side) → PartRow k 0 (at only_empty e) → (e ≡ 1) × (k ≡ first)
empty_only zero k x = elim x [ ]
empty_only (suc zero) k x = (refl, x.0)
empty_only (suc (suc e)) k x = elim x [ ]

empty_once : (a : ℕ) → a < 2 → OnceAPart only_empty a
empty_once zero h = is_part (def_part {e = 1} refl) (λ e' k' y. empty_only e' k' (part_row y))
empty_once (suc zero) h = is_definition refl
empty_once (suc (suc a)) h = absurd (omega arith)

empty_names : (p d : ℕ) → Names only_empty p d → ⊥
empty_names zero d n = elim (names_row n) [ ]
empty_names (suc zero) d n = elim (names_row n) [ ]
empty_names (suc (suc p)) d n = elim (names_row n) [ ]

empty_label : (e l d : ℕ) → at only_empty e ≡ some (named l d) → ⊥
empty_label zero l d i = cc
empty_label (suc zero) l d i = cc
empty_label (suc (suc e)) l d i = cc

pub empty_sound : Sound only_empty
empty_sound =
    sound_from only_empty (omega arith) (omega arith) (λ e l d i. absurd (empty_label e l d i)) empty_fit empty_once
    (λ p d n. absurd (empty_names p d n)) (omega arith)

pub empty_numbers : (e : ℕ) → e < 2 → ◌≡◌ {A = ℕ} (get_or (replicate 128 0) e 0) (places (take e only_empty))
empty_numbers zero h = refl
empty_numbers (suc zero) h = refl
empty_numbers (suc (suc e)) h = absurd (omega arith)
