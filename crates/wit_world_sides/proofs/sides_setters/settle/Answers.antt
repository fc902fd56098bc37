use Rattle.wit_arena.proofs.Common.{Exported, Imported}
use Rattle.wit_world_sides.proofs.Putting.{keyed_differ}
use Rattle.wit_world_sides.proofs.sides_setters.settle.Goals as goal

pub place_setters-requires-clause-distinct : goal.place_setters-requires-clause-distinct
place_setters-requires-clause-distinct c = keyed_differ c.args.members c.requires Imported

pub place_setters-requires-clause-named : goal.place_setters-requires-clause-named
place_setters-requires-clause-named c = c.requires.called Imported

pub place_setters-requires-2-clause-distinct : goal.place_setters-requires-2-clause-distinct
place_setters-requires-2-clause-distinct c = keyed_differ c.args.members c.requires Exported

pub place_setters-requires-2-clause-named : goal.place_setters-requires-2-clause-named
place_setters-requires-2-clause-named c = c.requires.called Exported
