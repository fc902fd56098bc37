use Rattle.std.proofs.Common.{◌≡◌, ◌<◌, ℕ, Some, List, slice_get}
use Rattle.wit_types.specs.Spans.{AllFit}
use Rattle.wit_types.proofs.spans.tables.TextTableHasSpans.spans_fit.Given as goal

abbrev pub invariant-loop-place : goal.invariant-loop-place
invariant-loop-place g l = (j : ℕ) (e : List ℕ × g.row.V.Denot) → j < l.place → slice_get l.self j ≡ Some e → AllFit l.offset (g.V.HasSpans.spans e.1)
