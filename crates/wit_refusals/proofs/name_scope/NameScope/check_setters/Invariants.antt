use Rattle.std.proofs.Common.{ℕ, ◌<◌}
use Rattle.wit_refusals.specs.NameScopes.{IsLoneSetter}
use Rattle.wit_refusals.proofs.name_scope.NameScope.check_setters.Given as goal

abbrev pub invariant-loop-place : goal.invariant-loop-place
invariant-loop-place l = (i : ℕ) → i < l.place → IsLoneSetter l.self i → ⊥
