use Rattle.std.specs.Map.{keys_of}
use Rattle.wit_maps.proofs.Indexed.{apart_of, position_found}
use Rattle.wit_maps.proofs.index.place_in.Goals as goal

pub returns-in-None : goal.returns-in-None
returns-in-None g c =
    let eq = g.K.PartialEq.eq in
    let ks = keys_of c.args.entries.now in
    position_found eq ks (apart_of eq g.K.Ord.cmp g.K.Hash.hash_input ks c.args.index.now c.requires.kept) (g.Q.Equivalent.equivalent c.args.key) (g.met.Q.Equivalent.respects_eq c.args.key) c.place_among.result c.place_among.ensures.found c.place_among.ensures.missed
