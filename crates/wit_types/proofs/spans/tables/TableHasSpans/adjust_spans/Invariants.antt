use Rattle.std.proofs.Common.{◌≡◌}
use Rattle.wit_types.specs.Spans.{on_value}
use Rattle.wit_types.proofs.Moving.{turned}
use Rattle.wit_types.proofs.spans.tables.TableHasSpans.adjust_spans.Given as goal

abbrev pub invariant-loop-place : goal.invariant-loop-place
invariant-loop-place g l = l.self ≡ turned (on_value (g.V.HasSpans.moved l.offset)) l.place l.initial.self
