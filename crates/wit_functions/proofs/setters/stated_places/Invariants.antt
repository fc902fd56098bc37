use Rattle.std.proofs.Common.{◌≡◌, ℕ, Option, map, take}
use Rattle.std.specs.List.{enumerate_from}
use Rattle.std.specs.Option.{option_copied}
use Rattle.wit_functions.specs.SettersPlaced.{Computes}
use Rattle.wit_functions.specs.declared.function.Function.{Function}
use Rattle.wit_functions.proofs.setters.stated_places.Given as goal

abbrev pub invariant-loop-place : goal.invariant-loop-place
invariant-loop-place g l =
    (function_at : g.row.V.Denot → Option Function) → Computes g.F.Fn l.func function_at
    → map {B = ℕ × Option Function} (λ t. (t.0, option_copied t.1)) l.places.items ≡ map (λ z. (z.0, function_at z.1.1)) (take l.place (enumerate_from 0 (g.M.FunctionMap.entries l.map)))
