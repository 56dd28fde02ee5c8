use Rattle.std.proofs.Common.{ℕ, ◌+◌, length, sym, ap, ◌∙◌, inl}
use Rattle.forest.specs.Refusals.{told}
use Rattle.register.proofs.Holdings.{kept_count, takes_record, record_taken}
use Rattle.register.proofs.Changes.{record_more}
use Rattle.register.proofs.register.Register.keep.Goals as goal

pub returns-in_default-clause-told : goal.returns-in_default-clause-told
returns-in_default-clause-told c = inl (λ t. c.in_default.ensures.0 (record_taken c.args.self.now (length c.args.body.now) t), ap told c.refused.ensures)

pub returns-clause-told : goal.returns-clause-told
returns-clause-told c =
    let a = c.in-Ok.ensures in
    ((takes_record c.args.self.now (length c.args.body.now) a.0, tt), ap (λ (n : ℕ). n + 1) (a.1 ∙ sym (kept_count c.args.self.now)))

pub returns-clause-leaves : goal.returns-clause-leaves
returns-clause-leaves c = let a = c.in-Ok.ensures in record_more c.args.self.now c.args.body.now c.append.new.self c.in-Ok.index c.count.result c.count.ensures a.1 a.0 a.2
