use Rattle.std.proofs.Common.{refl}
use Rattle.store.proofs.Packed.{apart_after, filled_after, lists_after, free_after}
use Rattle.store.proofs.Store.push.Goals as goal

pub invariant_of-self-clause-apart : goal.invariant_of-self-clause-apart
invariant_of-self-clause-apart g c = apart_after c.args.self.now c.args.body.now c.requires

pub invariant_of-self-clause-filled : goal.invariant_of-self-clause-filled
invariant_of-self-clause-filled g c = filled_after c.args.self.now c.args.body.now c.requires c.deref_mut.result.now c.copy_from_slice.new.self c.deref_mut.ensures.value c.copy_from_slice.ensures.after

pub returns-clause-appended : goal.returns-clause-appended
returns-clause-appended g c = record {
  listed = lists_after c.args.self.now c.args.body.now c.requires c.deref_mut.result.now c.copy_from_slice.new.self c.deref_mut.ensures.value c.copy_from_slice.ensures.after;
  left = free_after c.args.self.now c.args.body.now c.requires c.deref_mut.result.now c.copy_from_slice.new.self c.deref_mut.ensures.value c.copy_from_slice.ensures.after;
  same_limit = refl;
}
