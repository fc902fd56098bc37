use Rattle.std.proofs.Common.{◌≡◌, ◌++◌, take}
use Rattle.wit_arena.proofs.Common.{case_types}
use Rattle.wit_scopes.proofs.Placed.{type_words}
use Rattle.wit_scopes.proofs.written_names.collect_case_deps.Given as goal

abbrev pub invariant-loop-case : goal.invariant-loop-case
invariant-loop-case l = l.deps.items ≡ l.fn.deps.items ++ type_words (case_types (take l.case-index l.cases))
