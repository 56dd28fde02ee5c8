use Rattle.std.proofs.Common.{◌≡◌, ◌+◌, ◌*◌, ◌<◌, ◌∙◌, inl, inr, arith, rules}
use Rattle.rows.specs.Sheet.{seq, alt, many, def}
use Rattle.rows.proofs.Taking.{astray, as_named, as_seq, as_alt, as_many, as_def}
use Rattle.rows.proofs.take.take_row.Goals as goal
use Rattle.rows.proofs.take.take_row.Goals.{in-6+then-second-eq0-4+then-third-eq0-5+else-a-3, in-6+then-second-eq0-4+else-third-eq0-5, in-6+else-second-eq0-4}
use Rattle.rows.proofs.take.take_row.Goals.{in-7+then-second-eq0-5+then-third-eq0-6+else-a-4, in-7+then-second-eq0-5+else-third-eq0-6, in-7+else-second-eq0-5}
use Rattle.rows.proofs.take.take_row.Goals.{in-4+then-third-eq0-3+then-a+else-b, in-4+then-third-eq0-3+else-a, in-4+else-third-eq0-3}
use Rattle.rows.proofs.take.take_row.Goals.{in-5+then-third-eq0-4+then-a-2+else-b-2, in-5+then-third-eq0-4+else-a-2, in-5+else-third-eq0-4}

pub returns-in-2 : goal.returns-in-2
returns-in-2 c =
    let u : 0 < c.args.raw.first + c.args.raw.second = elim c.if-second-ne0.either [ inl z ↦ omega arith | inr z ↦ omega arith ] in
    let f : c.args.raw.first < 256 = search rules in
    let g : c.args.raw.second < 256 = search rules in
    let n : c.from_be_bytes.result ≡ 256 * c.args.raw.first + c.args.raw.second = c.from_be_bytes.ensures ∙ omega arith in
    record { says = as_named c.in-2.is (omega arith, omega arith) n; sit = tt }

pub returns-in-6-2 : goal.returns-in-6-2
returns-in-6-2 c =
    let raw = c.args.raw in
    let below = c.args.below.now in
    elim c.in-6-2-1.branch [
      | in-6+then-second-eq0-4+then-third-eq0-5+else-a-3 w ↦
          astray raw below (many raw.first) (as_many w.in-6.is (omega arith) (omega arith)) (λ p. w.if-a-3.ensures.1 p)
      | in-6+then-second-eq0-4+else-third-eq0-5 w ↦ absurd (omega arith)
      | in-6+else-second-eq0-4 w ↦ absurd (omega arith)
      | in-7+then-second-eq0-5+then-third-eq0-6+else-a-4 w ↦
          astray raw below (def raw.first) (as_def w.in-7.is (omega arith) (omega arith)) (λ p. w.if-a-4.ensures.1 p)
      | in-7+then-second-eq0-5+else-third-eq0-6 w ↦ absurd (omega arith)
      | in-7+else-second-eq0-5 w ↦ absurd (omega arith)
    ]

pub returns-in-4-2 : goal.returns-in-4-2
returns-in-4-2 c =
    let raw = c.args.raw in
    let below = c.args.below.now in
    elim c.in-4-2-1.branch [
      | in-4+then-third-eq0-3+then-a+else-b w ↦
          astray raw below (seq raw.first raw.second) (as_seq w.in-4.is (omega arith)) (λ p. w.if-b.ensures.1 p.1)
      | in-4+then-third-eq0-3+else-a w ↦
          astray raw below (seq raw.first raw.second) (as_seq w.in-4.is (omega arith)) (λ p. w.if-a.ensures.1 p.0)
      | in-4+else-third-eq0-3 w ↦ absurd (omega arith)
      | in-5+then-third-eq0-4+then-a-2+else-b-2 w ↦
          astray raw below (alt raw.first raw.second) (as_alt w.in-5.is (omega arith)) (λ p. w.if-b-2.ensures.1 p.1)
      | in-5+then-third-eq0-4+else-a-2 w ↦
          astray raw below (alt raw.first raw.second) (as_alt w.in-5.is (omega arith)) (λ p. w.if-a-2.ensures.1 p.0)
      | in-5+else-third-eq0-4 w ↦ absurd (omega arith)
    ]
