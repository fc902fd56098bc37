use Rattle.std.proofs.Common.{inl, inr, arith, sym, subst}
use Rattle.wit_syntax.proofs.Common.{three_ways}
use Rattle.wit_setters.specs.Paired.{IsPaired}
use Rattle.wit_setters.proofs.paired.are_paired.Goals as goal

pub loop-place-preserved : goal.loop-place-preserved
loop-place-preserved c = λ i lt. elim (three_ways i c.loop-place.place) [
  | inl less ↦ c.loop-place.invariant i less
  | inr rest ↦ elim rest [
    | inl same ↦ subst (IsPaired c.args.functions.now) (sym same) (c.is_paired.ensures c.if-not-is_paired.false)
    | inr more ↦ absurd (omega arith)
  ]
]
