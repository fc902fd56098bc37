use Rattle.wit_lex.proofs.LineEnds.{start_boundary}
use Rattle.wit_lex.proofs.source.Source.place.Goals as goal

pub range-requires-clause-start_boundary : goal.range-requires-clause-start_boundary
range-requires-clause-start_boundary c _ = start_boundary c.as_str-text.result.now _ _ _ c.as_str-text.utf8 c.as_bytes.ensures.value (rw c.as_str-text.ensures.value c.in-Some.ensures.found.low.0) c.line_start-start.ensures

pub range-requires-2-clause-start_boundary : goal.range-requires-2-clause-start_boundary
range-requires-2-clause-start_boundary c _ = start_boundary c.as_str-text.result.now _ _ _ c.as_str-text.utf8 c.as_bytes.ensures.value (rw c.as_str-text.ensures.value c.in-Some.ensures.found.low.0) c.line_start-start.ensures
