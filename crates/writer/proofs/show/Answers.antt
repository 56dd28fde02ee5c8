use Rattle.std.proofs.Common.{ℕ, ◌++◌, length, drop, ap, ◌∙◌, arith}
use Rattle.forest.specs.Forest.{Forest, bytes_of}
use Rattle.writer.proofs.Fits.{no_fit, fits}
use Rattle.writer.proofs.Rebuilds.{ready}
use Rattle.writer.proofs.show.Goals as goal

pub returns-then-size-min : goal.returns-then-size-min
returns-then-size-min g c =
    let z = c.requires.readable c.args.index (omega arith) in
    record { forest = z.0; spelled = z.1; put = no_fit z.0 c.args.out.now _ c.min.result (z.2 c.index-list-index.result) c.min.ensures c.if-size-min.true }

pub write-requires-clause-lower : goal.write-requires-clause-lower
write-requires-clause-lower g c = (ready c.args.list.now c.fill.new.table c.args.index c.index-list-index.result c.requires.bounds.0 c.requires.readable (c.fill.ensures c.index-list-index.result)).low

pub write-requires-clause-room : goal.write-requires-clause-room
write-requires-clause-room g c =
    let z = ready c.args.list.now c.fill.new.table c.args.index c.index-list-index.result c.requires.bounds.0 c.requires.readable (c.fill.ensures c.index-list-index.result) in
    let same = ap (λ (f : Forest). length (bytes_of f)) z.is in
    let h = fits z.made_of c.args.out.now _ c.min.result (z.told c.index-list-index.result) c.min.ensures c.if-size-min.false in
    omega (arith, same, h.1)

pub write-requires-clause-few : goal.write-requires-clause-few
write-requires-clause-few g c =
    let z = ready c.args.list.now c.fill.new.table c.args.index c.index-list-index.result c.requires.bounds.0 c.requires.readable (c.fill.ensures c.index-list-index.result) in
    let same = ap (λ (f : Forest). length (bytes_of f)) z.is in
    let h = fits z.made_of c.args.out.now _ c.min.result (z.told c.index-list-index.result) c.min.ensures c.if-size-min.false in
    omega (arith, same, h.0)

pub returns : goal.returns
returns g c =
    let z = ready c.args.list.now c.fill.new.table c.args.index c.index-list-index.result c.requires.bounds.0 c.requires.readable (c.fill.ensures c.index-list-index.result) in
    let h = fits z.made_of c.args.out.now _ c.min.result (z.told c.index-list-index.result) c.min.ensures c.if-size-min.false in
    record {
      forest = z.made_of;
      spelled = z.spelled;
      put = (
        h.0,
        h.1,
        c.write.ensures.front ∙ ap (λ (f : Forest). bytes_of f ++ drop (length (bytes_of f)) c.args.out.now) z.is,
      );
    }
