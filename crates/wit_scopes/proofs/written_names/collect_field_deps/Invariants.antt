use Rattle.std.proofs.Common.{◌≡◌, ◌++◌, take}
use Rattle.wit_arena.proofs.Common.{field_types}
use Rattle.wit_scopes.proofs.Placed.{type_words}
use Rattle.wit_scopes.proofs.written_names.collect_field_deps.Given as goal

abbrev pub invariant-loop-field : goal.invariant-loop-field
invariant-loop-field l = l.deps.items ≡ l.fn.deps.items ++ type_words (field_types (take l.field-index l.fields))
