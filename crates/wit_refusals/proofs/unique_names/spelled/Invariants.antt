use Rattle.std.proofs.Common.{◌≡◌, map, take}
use Rattle.wit_refusals.proofs.unique_names.spelled.Given as goal

abbrev pub invariant-loop-id : goal.invariant-loop-id
invariant-loop-id l = map (λ t. t.now) l.texts.items ≡ map (λ id. id.name.now) (take l.id-index l.names)
