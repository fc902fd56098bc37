use Rattle.std.proofs.Common.{◌≡◌, ◌++◌, take}
use Rattle.wit_arena.proofs.Common.{map}
use Rattle.wit_rules.specs.Signatures.{function_view}
use Rattle.wit_rules.proofs.function_rules.param_names.Given as goal

abbrev pub invariant-loop-param : goal.invariant-loop-param
invariant-loop-param l = map (λ t. t.now) l.names.items ≡ map (λ p. p.name) (function_view l.function).given ++ map (λ p. p.name.name.now) (take l.param-index l.params)
