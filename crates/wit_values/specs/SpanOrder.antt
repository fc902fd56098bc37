-- How spans are ordered.
use Rattle.std.specs.Ordering.{nat_cmp, ordering_then}
use Rattle.std.specs.declared.cmp.Ordering.{Ordering}
use Rattle.wit_values.specs.declared.span.Span.{Span}

-- by their first places, and then by their ends
abbrev pub span_cmp : Span → Span → Ordering
span_cmp a b = ordering_then (nat_cmp a.start b.start) (nat_cmp a.end b.end)
