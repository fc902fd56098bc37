use Rattle.std.proofs.Common.{take}
use Rattle.wit_entries.proofs.Resolves.{ResolvedTypes}
use Rattle.wit_entries.proofs.types.+types.Given as goal

abbrev pub invariant-resolve_types-loop-part : goal.invariant-resolve_types-loop-part
invariant-resolve_types-loop-part l = ResolvedTypes l.scope l.given l.fn.types l.types l.fn.required.items l.required.items (take l.part-index l.parts) l.resolved.items
