use Rattle.std.proofs.Common.{◌≡◌}
use Rattle.wit_types.proofs.Moving.{turned}
use Rattle.wit_types.proofs.spans.arenas.ArenaHasSpans.adjust_spans.Given as goal

abbrev pub invariant-loop-place : goal.invariant-loop-place
invariant-loop-place g l = l.self ≡ turned (g.T.HasSpans.moved l.offset) l.place l.initial.self
