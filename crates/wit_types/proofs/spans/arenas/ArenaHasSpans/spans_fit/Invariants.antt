use Rattle.std.proofs.Common.{◌≡◌, ◌<◌, ℕ, Some, slice_get}
use Rattle.wit_types.specs.Spans.{AllFit}
use Rattle.wit_types.proofs.spans.arenas.ArenaHasSpans.spans_fit.Given as goal

abbrev pub invariant-loop-place : goal.invariant-loop-place
invariant-loop-place g l = (j : ℕ) (x : g.row.T.Denot) → j < l.place → slice_get l.values j ≡ Some x → AllFit l.offset (g.T.HasSpans.spans x)
