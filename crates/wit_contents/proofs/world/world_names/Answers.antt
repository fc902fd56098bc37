use Rattle.std.proofs.Common.{◌≡◌, map, sym, ap, ◌∙◌, subst}
use Rattle.wit_contents.proofs.Names.{AreNamesPlaced, item_view, name_view, prefix_of, scope_names}
use Rattle.wit_contents.proofs.world.world_names.Goals as goal

pub resolve_names-requires : goal.resolve_names-requires
resolve_names-requires c =
    record { placed = subst (AreNamesPlaced (prefix_of c.args.resolved.now.interfaces.files)) (sym c.deref.ensures.value) c.requires.placed.own }

pub returns-clause-adds : goal.returns-clause-adds
returns-clause-adds c =
    let same : map name_view c.deref.result.now ≡ scope_names (item_view c.args.item.now) = ap (map name_view) c.deref.ensures.value ∙ c.requires.named in
    rw (c.next_id.ensures, same) at c.resolve_names.ensures.adds

pub returns-clause-first : goal.returns-clause-first
returns-clause-first c = rw (c.next_id.ensures, c.deref.ensures.value) at c.resolve_names.ensures.first
