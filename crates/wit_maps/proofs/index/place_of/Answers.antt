use Rattle.std.proofs.Common.{sym}
use Rattle.std.specs.Map.{keys_of}
use Rattle.wit_maps.proofs.Indexed.{position_apart, position_nowhere}
use Rattle.wit_maps.proofs.index.place_of.Goals as goal

pub returns-in-Entry : goal.returns-in-Entry
returns-in-Entry g c = sym (position_apart g.K.PartialEq.eq (keys_of c.args.entries.now) c.requires.indexed.apart (g.Q.Equivalent.equivalent c.args.key) (g.met.Q.Equivalent.respects_eq c.args.key) c.in-Entry.place c.in-Entry.ensures)

pub returns-in-Room : goal.returns-in-Room
returns-in-Room g c = sym (position_nowhere (g.Q.Equivalent.equivalent c.args.key) (keys_of c.args.entries.now) c.in-Room.ensures.0)

pub returns-in-Full : goal.returns-in-Full
returns-in-Full g c = sym (position_nowhere (g.Q.Equivalent.equivalent c.args.key) (keys_of c.args.entries.now) c.in-Full.ensures.0)
