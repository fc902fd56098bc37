use Rattle.std.proofs.Common.{◌≡◌, ◌++◌, take}
use Rattle.wit_scopes.proofs.Placed.{type_words}
use Rattle.wit_scopes.proofs.written_names.+deps.Given as goal

abbrev pub invariant-collect_all_deps-loop-ty : goal.invariant-collect_all_deps-loop-ty
invariant-collect_all_deps-loop-ty l = l.deps.items ≡ l.fn.deps.items ++ type_words (take l.ty-index l.types)
