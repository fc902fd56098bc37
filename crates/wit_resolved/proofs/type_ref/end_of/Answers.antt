use Rattle.std.proofs.Common.{◌<◌, sym, arith}
use Rattle.wit_resolved.specs.AliasEnds.IsAlias.{Here, On}
use Rattle.wit_resolved.proofs.Ending.{alias_earlier}
use Rattle.wit_resolved.proofs.type_ref.end_of.Goals as goal

pub loop-next-init : goal.loop-next-init
loop-next-init c = (c.requires.within, Here)

pub loop-next-smaller : goal.loop-next-smaller
loop-next-smaller c =
    let low = alias_earlier _ _ _ c.requires.valid (sym c.in-Some.ensures) in
    omega (arith, low, c.index-end.ensures)

pub loop-next-preserved : goal.loop-next-preserved
loop-next-preserved c =
    let low : c.in-Some.next < c.loop-next.end = alias_earlier _ _ _ c.requires.valid (sym c.in-Some.ensures) in
    rw c.index-end.ensures (omega (arith, low, c.loop-next.invariant.0), On _ _ c.loop-next.invariant.1 (sym c.in-Some.ensures))
