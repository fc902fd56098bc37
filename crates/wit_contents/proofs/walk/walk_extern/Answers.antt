use Rattle.std.proofs.Common.{[], ◌∷◌, subst, arith}
use Rattle.wit_contents.proofs.Names.{IsNext, SideItem, on_ok_weaker, walk_of}
use Rattle.wit_contents.proofs.MemberFaults.{next_side, next_there, next_within}
use Rattle.wit_contents.proofs.walk.walk_extern.Goals as goal

pub bounds-there-next : goal.bounds-there-next
bounds-there-next c = next_within (rw c.in-Interface.is at c.requires) c.inside-there.result.now c.on-next.result c.inside-there.ensures c.on-next.ensures

pub offset_bounds-there-next : goal.offset_bounds-there-next
offset_bounds-there-next c =
    let within = next_within (rw c.in-Interface.is at c.requires) c.inside-there.result.now c.on-next.result c.inside-there.ensures c.on-next.ensures in
    omega arith

pub walk_inline-requires-clause-next : goal.walk_inline-requires-clause-next
walk_inline-requires-clause-next c =
    let n = rw c.in-Interface.is at c.requires in
    subst (λ (x : SideItem). IsNext (walk_of c.args.item.now c.args.walk.now) (x ∷ []) c.args.walked.now) (next_side n c.inside-there.result.now c.on-next.result c.inside-there.ensures c.on-next.ensures c.index-there-next.result c.index-there-next.is) n

pub walk_inline-requires-clause-there : goal.walk_inline-requires-clause-there
walk_inline-requires-clause-there c = next_there (rw c.in-Interface.is at c.requires) c.inside-there.result.now c.on-next.result c.inside-there.ensures c.on-next.ensures c.index-there-next.result c.index-there-next.is

pub walk_function-requires : goal.walk_function-requires
walk_function-requires c = rw (c.in-Func.is, ← c.extern_part_function-borrowed.ensures) at c.requires

pub walk_link-requires : goal.walk_link-requires
walk_link-requires c = rw c.in-Path.is at c.requires

pub walk_link-requires-in-NamedPath : goal.walk_link-requires-in-NamedPath
walk_link-requires-in-NamedPath c = rw c.in-NamedPath.is at c.requires

pub returns-in-Interface-clause-adds : goal.returns-in-Interface-clause-adds
returns-in-Interface-clause-adds c =
    let same = next_side (rw c.in-Interface.is at c.requires) c.inside-there.result.now c.on-next.result c.inside-there.ensures c.on-next.ensures c.index-there-next.result c.index-there-next.is in
    rw (c.in-Interface.is, same) c.walk_inline.ensures.adds

pub returns-in-Func-clause-adds : goal.returns-in-Func-clause-adds
returns-in-Func-clause-adds c = rw (c.in-Func.is, ← c.extern_part_function-borrowed.ensures) c.walk_function.ensures.adds

pub returns-in-Path-clause-adds : goal.returns-in-Path-clause-adds
returns-in-Path-clause-adds c = rw c.in-Path.is (on_ok_weaker c.walk_link.result (λ adds. adds c.args.growing.now) c.walk_link.ensures.adds)

pub returns-in-NamedPath-clause-adds : goal.returns-in-NamedPath-clause-adds
returns-in-NamedPath-clause-adds c = rw c.in-NamedPath.is (on_ok_weaker c.walk_link-in-NamedPath.result (λ adds. adds c.args.growing.now) c.walk_link-in-NamedPath.ensures.adds)

pub returns-in-Interface-clause-first : goal.returns-in-Interface-clause-first
returns-in-Interface-clause-first c =
    let same = next_side (rw c.in-Interface.is at c.requires) c.inside-there.result.now c.on-next.result c.inside-there.ensures c.on-next.ensures c.index-there-next.result c.index-there-next.is in
    rw (c.in-Interface.is, same) c.walk_inline.ensures.first

pub returns-in-Func-clause-first : goal.returns-in-Func-clause-first
returns-in-Func-clause-first c = rw (c.in-Func.is, ← c.extern_part_function-borrowed.ensures) c.walk_function.ensures.first

pub returns-in-Path-clause-first : goal.returns-in-Path-clause-first
returns-in-Path-clause-first c = rw c.in-Path.is (c.walk_link.ensures.first c.args.growing.now)

pub returns-in-NamedPath-clause-first : goal.returns-in-NamedPath-clause-first
returns-in-NamedPath-clause-first c = rw c.in-NamedPath.is (c.walk_link-in-NamedPath.ensures.first c.args.growing.now)
