-- Sources in the order of their paths.
use Rattle.std.specs.Prelude.{List, string_bytes}
use Rattle.std.specs.List.Sorted.{IsPermutation, IsSortedByKey, IsStableByKey}
use Rattle.std.specs.Cmp.Lexicographic.{slice_cmp}
use Rattle.std.specs.Ordering.{nat_cmp}
use Rattle.wit_lex.specs.declared.source.Source.{Source}

-- the same sources, ordered by path, byte by byte; those of one path keep their order
pub record IsByPath (sources turn : List Source) : Type 0 where
  pub same : IsPermutation sources turn
  pub sorted : IsSortedByKey (λ s. string_bytes s.path) (slice_cmp nat_cmp) turn
  pub stable : IsStableByKey (λ s. string_bytes s.path) (slice_cmp nat_cmp) sources turn
