use Rattle.std.proofs.Common.{◌≡◌, ◌<◌, ℕ, Some, slice_get}
use Rattle.wit_types.specs.InnerTypes.{IsBelow}
use Rattle.wit_types.specs.declared.types.TypeDef.{TypeDef}
use Rattle.wit_types.proofs.backward.is_backward.Given as goal

abbrev pub invariant-loop-place : goal.invariant-loop-place
invariant-loop-place l = (j : ℕ) (d : TypeDef) → j < l.place → slice_get l.entries j ≡ Some d → IsBelow j d.kind
