use Rattle.wit_arena.proofs.Common.{∥∥₁_map}
use Rattle.wit_resolved.proofs.Validity.{functions_valid}
use Rattle.wit_resolved.proofs.interface_ref.InterfaceRef.functions.Goals as goal

pub invariant_of-result-clause-each : goal.invariant_of-result-clause-each
invariant_of-result-clause-each c = ∥∥₁_map c.args.self.now.valid (λ v. functions_valid _ _ _ v c.get.ensures)
