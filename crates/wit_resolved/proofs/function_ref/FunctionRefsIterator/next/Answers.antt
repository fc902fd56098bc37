use Rattle.std.proofs.Common.{sym}
use Rattle.wit_resolved.proofs.Searching.{functions_step}
use Rattle.wit_resolved.proofs.Validity.{function_at}
use Rattle.wit_resolved.proofs.function_ref.FunctionRefsIterator.next.Goals as goal

pub invariant_of-result-clause-within : goal.invariant_of-result-clause-within
invariant_of-result-clause-within c = function_at _ _ _ _ _ c.args.self.now.each (sym c.in-Some.ensures)

pub returns-clause-steps : goal.returns-clause-steps
returns-clause-steps c = functions_step c.args.self.now.of.now c.args.self.now.functions.now c.args.self.now.next c.in-Some.field-0-0.now c.in-Some.function.now (sym c.in-Some.ensures)
