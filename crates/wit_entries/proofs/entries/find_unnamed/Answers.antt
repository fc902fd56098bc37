use Rattle.std.proofs.Common.{below_more}
use Rattle.wit_entries.proofs.entries.find_unnamed.Goals as goal

pub loop-place-preserved : goal.loop-place-preserved
loop-place-preserved c =
    below_more _ _ c.loop-place.invariant (λ e at is.
    let here = c.get.ensures in
    let place = c.id_at-id.ensures in
    let there = at.is in
    let name = is.name in
    let kind = is.kind in
    let wrong = c.if-is_unnamed_of.ensures.1 (record { name = cc; kind = cc }) in
    cc wrong)
