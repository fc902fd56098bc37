use Rattle.std.proofs.Common.{sym, arith}
use Rattle.wit_resolved.proofs.Ending.{handle_within}
use Rattle.wit_resolved.proofs.type_ref.TypeRef.resource.Goals as goal

pub end_of-requires-clause-within : goal.end_of-requires-clause-within
end_of-requires-clause-within c =
    let low = handle_within _ _ _ _ c.args.self.now.valid c.get.ensures (sym c.in-Some.ensures) in
    omega (arith, low, c.index.ensures)
