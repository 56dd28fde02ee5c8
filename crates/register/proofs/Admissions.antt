-- What belonging says, in the words of a register.
use Rattle.std.proofs.Common.{◌≡◌, ℕ, Bool, T, false, List, Ok, Err, sym, subst, inl, inr}
use Rattle.std.proofs.Math.Option.{Option, some}
use Rattle.forest.specs.declared.fault.Fault.{Fault}
use Rattle.forest.specs.Refusals.{told}
use Rattle.rows.specs.Sheet.{Sheet}
use Rattle.sheet.specs.Belonging.{Belonging}
use Rattle.sheet.specs.Meaning.{OfSheet}
use Rattle.law.specs.Calls.{ThereIs, RecordOfNewest}
use Rattle.law.proofs.Lists.{one_forest}
use Rattle.register.specs.Inner.{Admitting}

-- a record that does not belong to the newest edition
pub strange : (x : Option Sheet) (body : List ℕ) (s : Sheet) (belongs : Bool) (f : Fault) → x ≡ some s → Belonging s body (Ok belongs) → belongs ≡ false → told f ≡ (32, 0) → Admitting x body (Err f)
strange x body s belongs f e t not is =
    let other : RecordOfNewest (some s) body → ⊥ = λ o. subst T not (t.2.1 (subst (OfSheet s) (one_forest body o.forest t.0 o.stands t.1) o.belongs)) in
    inr (subst ThereIs (sym e) tt, inr ((t.0, t.1), inl (subst (λ (y : Option Sheet). RecordOfNewest y body → ⊥) (sym e) other, is)))
