use Rattle.std.specs.Map.{keys_of}
use Rattle.wit_maps.proofs.Indexed.{nowhere_kept, nowhere_with_room}
use Rattle.wit_maps.proofs.index.sight_of.Goals as goal

pub returns-in-None : goal.returns-in-None
returns-in-None g c = (
  nowhere_kept g.K.Ord.cmp g.K.Hash.hash_input c.args.slots.now c.args.keys.now (keys_of c.args.entries.now) c.requires.indexed.known (g.Q.Equivalent.equivalent c.args.key) c.args.home c.requires.home c.in-Full.ensures.0 c.place_in.result c.place_in.ensures c.in-None.ensures.missed,
  c.in-Full.ensures.1,
)

pub returns-in-Room : goal.returns-in-Room
returns-in-Room g c = (
  nowhere_with_room g.K.Ord.cmp g.K.Hash.hash_input c.args.slots.now c.args.keys.now (keys_of c.args.entries.now) c.requires.indexed.known (g.Q.Equivalent.equivalent c.args.key) c.args.home c.requires.home c.in-Room.ensures.0 c.in-Room.slot c.in-Room.ensures.1,
  c.in-Room.ensures.1,
)
