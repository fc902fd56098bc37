use Rattle.std.proofs.Common.{refl}
use Rattle.wit_resolved.proofs.Validity.{function_valid}
use Rattle.wit_resolved.proofs.item_ref.ItemRef.function.Goals as goal

pub invariant_of-result-clause-within : goal.invariant_of-result-clause-within
invariant_of-result-clause-within c = function_valid _ _ _ _ c.args.self.now.within (rw (c.in-Name-Function.is-0, c.in-Name-Function.is-1) refl)
