use Rattle.std.proofs.Common.{◌≡◌, ℕ, Option, map, take}
use Rattle.std.specs.List.{enumerate_from}
use Rattle.std.specs.Option.{option_copied}
use Rattle.wit_functions.specs.declared.function.Function.{Function}
use Rattle.wit_functions.proofs.function_items.stated_items.Given as goal

abbrev pub invariant-loop-place : goal.invariant-loop-place
invariant-loop-place g l = map {B = ℕ × Option Function} (λ t. (t.0, option_copied t.1)) l.maybe_function.items ≡ map (λ z. (z.0, g.T.MaybeFunction.function_at z.1)) (take l.place (enumerate_from 0 l.items))
