use Rattle.std.proofs.Common.{◌≡◌, Some, take, length}
use Rattle.std.specs.List.{flat_map}
use Rattle.wit_functions.specs.Futures.{futures}
use Rattle.wit_functions.proofs.function.Function.find_futures_and_streams.Given as goal

abbrev pub invariant-loop-param : goal.invariant-loop-param
invariant-loop-param l = l.found.items ≡ flat_map (λ p. futures l.types (length l.types) (Some p.ty)) (take l.param-index l.self.params)
