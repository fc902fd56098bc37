use Rattle.std.proofs.Common.{refl}
use Rattle.wit_contents.proofs.Names.{TheWorld, declared_metadata}
use Rattle.wit_arena.proofs.MadeWorlds.{world_from, world_stated}
use Rattle.wit_contents.proofs.world.world_with.Goals as goal

pub returns-clause-is : goal.returns-clause-is
returns-clause-is c =
    let written = c.args.written.now in
    let stated = declared_metadata (TheWorld written) in
    world_stated written.name.name.now written.name.span stated _ _ _ _ _ _ _ (world_from written.name.name.now written.name.span stated _ c.in_ok-name.ensures refl c.in_ok-docs.ensures c.requires refl) c.shrunk.ensures c.shrunk-2.ensures refl
