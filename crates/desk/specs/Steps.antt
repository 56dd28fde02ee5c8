-- What the functions that handle an entry promise each other.
use Rattle.std.specs.Prelude.{◌≡◌, ℕ, ◌⊎◌, List}
use Rattle.rows.specs.Checking.{Due, Passes}
use Rattle.rows.specs.Raw.{Body, laid}
use Rattle.rows.specs.declared.raw.RawRow.{RawRow}
use Rattle.rows.specs.Sheet.{Sheet}

-- The body is a sound sheet.
pub record IsSheet (body : List ℕ) (s : Sheet) : Type 0 where
  pub raws : List RawRow
  pub are_laid : body ≡ laid raws
  pub is_body : Body body
  pub passes : Passes raws s

-- A refusal of the body is due: 9, or one of its rows.
pub record BadRows (body : List ℕ) (n p : ℕ) : Type 0 where
  pub raws : List RawRow
  pub are_laid : body ≡ laid raws
  pub is_body : Body body
  pub due : Due raws n p

abbrev pub NotASheet : List ℕ → ℕ → ℕ → Type 0
NotASheet body n p = ((Body body → ⊥) × (n ≡ 9) × (p ≡ 0)) ⊎ BadRows body n p
