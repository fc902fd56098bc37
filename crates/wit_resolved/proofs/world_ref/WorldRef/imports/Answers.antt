use Rattle.wit_arena.proofs.Common.{∥∥₁_map}
use Rattle.wit_resolved.proofs.Validity.{imports_valid}
use Rattle.wit_resolved.proofs.world_ref.WorldRef.imports.Goals as goal

pub invariant_of-result-clause-each : goal.invariant_of-result-clause-each
invariant_of-result-clause-each c = ∥∥₁_map c.args.self.now.valid (λ v. imports_valid _ _ _ v c.get.ensures)
