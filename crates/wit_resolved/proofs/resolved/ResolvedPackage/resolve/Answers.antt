use Rattle.wit_resolved.proofs.resolved.ResolvedPackage.resolve.Goals as goal

pub invariant_of-result : goal.invariant_of-result
invariant_of-result c = record { made = ∣ (c.args.resolver.files.items, record { legal = c.in_ok-resolved.ensures.legal; whole = c.in_ok-resolved.ensures.made }) ∣₁ }
