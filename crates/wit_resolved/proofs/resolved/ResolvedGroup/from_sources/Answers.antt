use Rattle.wit_resolved.proofs.Making.{main_made, nested_made}
use Rattle.wit_resolved.proofs.resolved.ResolvedGroup.from_sources.Goals as goal

pub invariant_of-result-clause-main : goal.invariant_of-result-clause-main
invariant_of-result-clause-main c = ∣ main_made _ _ _ c.in-Ok.ensures.group ∣₁

pub invariant_of-result-clause-nested : goal.invariant_of-result-clause-nested
invariant_of-result-clause-nested c = ∣ nested_made _ _ _ c.in-Ok.ensures.group ∣₁
