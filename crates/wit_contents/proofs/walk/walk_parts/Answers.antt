use Rattle.std.proofs.Common.{refl}
use Rattle.wit_contents.proofs.Names.{err_from_is_err_and, stage, walk_of}
use Rattle.wit_contents.proofs.MemberFaults.{all_done, all_sides, nothing_done, part_done, part_first, part_kept, part_next, part_sides}
use Rattle.wit_contents.proofs.walk.walk_parts.Goals.{in-TypeDef+in_ok-walk_definition-in-TypeDef, in-Use, in-Include, in-Extern+in_ok-walk_extern-in-Extern}
use Rattle.wit_contents.proofs.walk.walk_parts.Goals as goal

pub declared_world-world-requires : goal.declared_world-world-requires
declared_world-world-requires c = c.requires.walk.world.sort

pub loop-part-init : goal.loop-part-init
loop-part-init c = nothing_done (walk_of c.args.item.now c.args.walk.now) _ (stage c.args.growing.now c.args.walked.now)

pub walk_definition-requires : goal.walk_definition-requires
walk_definition-requires c = part_next part_sides c.world_items-part-items.result.now c.loop-part.invariant (all_sides c.args.item.now _ c.declared_world-world.ensures c.world_items-part-items.ensures) c.loop-part-test.true c.part-item.is c.in-TypeDef.is c.requires

pub walk_extern-requires : goal.walk_extern-requires
walk_extern-requires c = part_next part_sides c.world_items-part-items.result.now c.loop-part.invariant (all_sides c.args.item.now _ c.declared_world-world.ensures c.world_items-part-items.ensures) c.loop-part-test.true c.part-item.is c.in-Extern.is c.requires

pub loop-part-preserved : goal.loop-part-preserved
loop-part-preserved c =
    elim c.match-part.branch [
      | in-TypeDef+in_ok-walk_definition-in-TypeDef e ↦ (
          let says = e.in_ok-walk_definition-in-TypeDef.ensures in
          rw (e.growing-is, e.walked-is) (part_done part_sides c.world_items-part-items.result.now c.loop-part.invariant (all_sides c.args.item.now _ c.declared_world-world.ensures c.world_items-part-items.ensures) c.loop-part-test.true c.part-item.is e.in-TypeDef.is _ says.adds says.first))
      | in-Use e ↦ rw (e.growing-is, e.walked-is) (part_kept part_sides c.world_items-part-items.result.now c.loop-part.invariant (all_sides c.args.item.now _ c.declared_world-world.ensures c.world_items-part-items.ensures) c.loop-part-test.true c.part-item.is e.in-Use.is refl)
      | in-Include e ↦ rw (e.growing-is, e.walked-is) (part_kept part_sides c.world_items-part-items.result.now c.loop-part.invariant (all_sides c.args.item.now _ c.declared_world-world.ensures c.world_items-part-items.ensures) c.loop-part-test.true c.part-item.is e.in-Include.is refl)
      | in-Extern+in_ok-walk_extern-in-Extern e ↦ (
          let says = e.in_ok-walk_extern-in-Extern.ensures in
          rw (e.growing-is, e.walked-is) (part_done part_sides c.world_items-part-items.result.now c.loop-part.invariant (all_sides c.args.item.now _ c.declared_world-world.ensures c.world_items-part-items.ensures) c.loop-part-test.true c.part-item.is e.in-Extern.is _ says.adds says.first))
    ]

-- all parts were done
pub returns-clause-adds : goal.returns-clause-adds
returns-clause-adds c = (all_done part_sides c.world_items-part-items.result.now c.loop-part.invariant (all_sides c.args.item.now _ c.declared_world-world.ensures c.world_items-part-items.ensures) c.loop-part-test.false).adds

pub returns-clause-first : goal.returns-clause-first
returns-clause-first c = (all_done part_sides c.world_items-part-items.result.now c.loop-part.invariant (all_sides c.args.item.now _ c.declared_world-world.ensures c.world_items-part-items.ensures) c.loop-part-test.false).none

pub returns-in_err-walk_definition-in-TypeDef-clause-first : goal.returns-in_err-walk_definition-in-TypeDef-clause-first
returns-in_err-walk_definition-in-TypeDef-clause-first c =
    let p = err_from_is_err_and c.from_residual.result c.from_residual.ensures.1 in
    rw (p.1, p.2) (part_first part_sides c.world_items-part-items.result.now c.loop-part.invariant (all_sides c.args.item.now _ c.declared_world-world.ensures c.world_items-part-items.ensures) c.loop-part-test.true c.part-item.is c.in-TypeDef.is _ c.in_err-walk_definition-in-TypeDef.ensures.first)

pub returns-in_err-walk_extern-in-Extern-clause-first : goal.returns-in_err-walk_extern-in-Extern-clause-first
returns-in_err-walk_extern-in-Extern-clause-first c =
    let p = err_from_is_err_and c.from_residual-in_err-walk_extern-in-Extern.result c.from_residual-in_err-walk_extern-in-Extern.ensures.1 in
    rw (p.1, p.2) (part_first part_sides c.world_items-part-items.result.now c.loop-part.invariant (all_sides c.args.item.now _ c.declared_world-world.ensures c.world_items-part-items.ensures) c.loop-part-test.true c.part-item.is c.in-Extern.is _ c.in_err-walk_extern-in-Extern.ensures.first)
