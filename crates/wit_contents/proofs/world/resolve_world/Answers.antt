use Rattle.std.proofs.Common.{sym, ap, ◌∙◌}
use Rattle.wit_contents.proofs.Names.{Id, err_from_is_err_and, finds_memory, item_view, on_ok_weaker}
use Rattle.wit_contents.proofs.world.resolve_world.Goals as goal

pub world_of-requires : goal.world_of-requires
world_of-requires c = c.requires

pub add_world-requires : goal.add_world-requires
add_world-requires c = c.in_ok-world.ensures.named ∙ ap (λ (id : Id). id.name.now) (sym c.declared_name-id.ensures)

pub returns-clause-adds : goal.returns-clause-adds
returns-clause-adds c =
    let added = c.in_ok-world.world in
    on_ok_weaker c.add_world.result (λ puts. record { added = added; puts = puts; adds = c.in_ok-world.ensures.adds }) c.add_world.ensures.puts

pub returns-in_err-world-clause-first : goal.returns-in_err-world-clause-first
returns-in_err-world-clause-first c =
    let p = err_from_is_err_and c.from_residual.result c.from_residual.ensures.1 in
    rw (p.1, p.2) c.in_err-world.ensures.first

pub returns-clause-first : goal.returns-clause-first
returns-clause-first c = λ wrong right. finds_memory (wrong (item_view c.args.item.now)) c.add_world.result (c.in_ok-world.ensures.first wrong right) c.add_world.ensures.refused
