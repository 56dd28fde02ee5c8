-- Standings as sets of rows and as numbers.
use Rattle.std.proofs.Common.{inl, inr}
use Rattle.std.specs.Prelude.{ℕ, take, refl}
use Rattle.forest.specs.Forest.{Forest}
use Rattle.rows.specs.Sheet.{Sheet, Place, Numbered, places}
use Rattle.sheet.specs.Standing.{IsStanding, AreLeaves, Reads, a_node}
use Rattle.sheet.proofs.PlaceSets.{set_same}
use Rattle.sheet.proofs.Standing.{leaf_fits}
use Rattle.sheet.proofs.Stepping.{stands_place}
use Rattle.judge.specs.Labels.{Mentions}
use Rattle.judge.specs.Judging.{SameStanding}

numbered : (s : Sheet) (e : ℕ) → Place s e → Numbered s (places (take e s)) e
numbered s e p = record { is = p; number = refl }

-- Forests with one number have one standing, and the other way round.
pub same_standing : (s : Sheet) (m : ℕ) (f g : Forest) → IsStanding s m f → IsStanding s m g → SameStanding s f g
same_standing s m f g p q row = (
  (λ h. let n = numbered s row (stands_place h) in (q.bits _ row n).0 ((p.bits _ row n).1 h)),
  λ h. let n = numbered s row (stands_place h) in (p.bits _ row n).0 ((q.bits _ row n).1 h),
)

pub same_number : (s : Sheet) (m : ℕ) (f g : Forest) → SameStanding s f g → IsStanding s m f → IsStanding s m g
same_number s m f g same p = set_same same p

-- A node of a label that no row names is read by the leaves that read one of another such label.
moved : (s : Sheet) (k l : ℕ) (c : Forest) → (Mentions s k → ⊥) → (e : ℕ) → Reads s (a_node k c) e → Reads s (a_node l c) e
moved s k l c un e r =
    let fits = leaf_fits s e r.0 in
    (r.0, (fits.to_node l c).1 (elim ((fits.to_node k c).0 r.1) [ inl z ↦ absurd (un (e, z.0, z.1)) | inr z ↦ inr z ]))

pub unnamed : (s : Sheet) (m k l : ℕ) (c : Forest) → (Mentions s k → ⊥) → (Mentions s l → ⊥) → AreLeaves s m (a_node k c) → AreLeaves s m (a_node l c)
unnamed s m k l c p q h = set_same (λ e. (moved s k l c p e, moved s l k c q e)) h
