-- What is known of the rows of a sound sheet.
use Rattle.std.proofs.Math.Logic.{∥∥₁_elim}
use Rattle.std.proofs.Common.{ℕ}
use Rattle.std.proofs.Math.Bridge.{le_prop}
use Rattle.forest.specs.Forest.{Label}
use Rattle.sheet.specs.declared.sound.SoundSheet.{SoundSheet}
use Rattle.sheet.specs.Held.{rows_of}
use Rattle.judge.specs.Labels.{Mentions}

pub labelled : (s : SoundSheet) (l : ℕ) → Mentions (rows_of s) l → Label l
labelled s l m = (∥∥₁_elim s.checked.sound le_prop (λ h. (h.labelled m.0 l m.1 m.2).0), ∥∥₁_elim s.checked.sound le_prop (λ h. (h.labelled m.0 l m.1 m.2).1))
