use Rattle.wit_resolved.proofs.resolved.ResolvedGroup.nested.Goals as goal

pub invariant_of-result : goal.invariant_of-result
invariant_of-result c = record { made = rw c.as_slice.ensures c.args.self.now.nested }
