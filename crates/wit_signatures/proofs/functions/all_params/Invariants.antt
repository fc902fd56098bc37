use Rattle.std.proofs.Common.{◌≡◌, ◌≤◌, ◌+◌, ℕ, [], ◌++◌, Some, None, length, map, take}
use Rattle.wit_walk.proofs.Common.{Param as Written, first_after, param_fault}
use Rattle.wit_arena.proofs.Common.{all_handles, env_of, written_param}
use Rattle.wit_entries.specs.EntryFaults.{IsExtended, Requires}
use Rattle.wit_rules.specs.Signatures.{function_view, AreParamsOver}
use Rattle.wit_signatures.specs.FunctionsOfScope.{fault_at}
use Rattle.wit_signatures.proofs.functions.all_params.Given as goal

abbrev pub invariant-loop-written : goal.invariant-loop-written
invariant-loop-written l = record {
  params : AreParamsOver l.fn.types l.types (env_of l.scope.names.now) ((function_view l.function).given ++ map written_param (take l.written-index l.all)) l.params.items;
  count : length l.params.items ≡ length (function_view l.function).given + l.written-index;
  distinct : (k : ℕ) → l.repeated ≡ Some k → length (function_view l.function).given ≤ k → length (function_view l.function).given + l.written-index ≤ k;
  none : first_after (param_fault (fault_at l.scope l.types l.place) (function_view l.function)) [] (take l.written-index l.all) ≡ None;
  handled : Requires (env_of l.scope.names.now) l.types (all_handles (map (λ (p : Written). p.ty) (take l.written-index l.all))) l.fn.required.items l.required.items;
  extended : IsExtended l.fn.types l.types;
}
