use Rattle.std.proofs.Common.{ℕ, ◌<◌}
use Rattle.wit_arena.proofs.Common.{At, IsUnnamedOf, TypeDef}
use Rattle.wit_entries.proofs.entries.find_unnamed.Given as goal

abbrev pub invariant-loop-place : goal.invariant-loop-place
invariant-loop-place l = (j : ℕ) → j < l.place → (e : TypeDef) → At l.types j e → IsUnnamedOf l.kind e → ⊥
