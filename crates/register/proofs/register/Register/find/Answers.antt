use Rattle.register.proofs.Changes.{no_such, there}
use Rattle.register.proofs.register.Register.find.Goals as goal

pub returns-in_err-body : goal.returns-in_err-body
returns-in_err-body c =
    let e = c.in_ok-index.ensures in
    rw c.from_residual-in_err-body.ensures (no_such c.args.self.now c.args.number c.in_ok-index.index e.0 e.1 c.in_err-body.ensures)

pub returns : goal.returns
returns c =
    let e = c.in_ok-index.ensures in
    let f = c.in_ok-body.ensures in
    there c.args.self.now c.args.number c.in_ok-index.index e.0 e.1 f.0 c.in_ok-body.body.now f.1
