use Rattle.wit_arena.proofs.Common.{∥∥₁_map}
use Rattle.wit_resolved.proofs.package_ref.known.Goals as goal

pub returns : goal.returns
returns c = ∥∥₁_map c.requires (λ m. record {
  within = c.ids_are_within.ensures m.0 m.1.legal m.1.whole;
  backward = c.ids_point_backward.ensures m.0 m.1.legal m.1.whole;
  marks = c.functions_have_marks.ensures m.0 m.1.whole;
})
