use Rattle.std.specs.Map.{keys_of}
use Rattle.std.specs.Box.{with_value}
use Rattle.std.proofs.lemmas.Result.{IfOk-weaker}
use Rattle.wit_maps.proofs.Indexed.{apart_of, kept_by_found, kept_with}
use Rattle.wit_maps.proofs.index.place_or_note.Goals as goal

pub returns-then-is_looked_through-clause-found : goal.returns-then-is_looked_through-clause-found
returns-then-is_looked_through-clause-found g c =
    let eq = g.K.PartialEq.eq in
    let cmp = g.K.Ord.cmp in
    let writes = g.K.Hash.hash_input in
    let ks = keys_of c.args.entries.now in
    kept_by_found eq cmp writes ks c.args.index.now (apart_of eq cmp writes ks c.args.index.now c.requires) c.args.key.now (λ l. g.met.K.Eq.laws.symm l c.args.key.now) (c.is_looked_through.ensures c.if-is_looked_through.true) c.place_among.result c.place_among.ensures.found c.place_among.ensures.missed

pub returns-clause-found : goal.returns-clause-found
returns-clause-found g c =
    let eq = g.K.PartialEq.eq in
    let cmp = g.K.Ord.cmp in
    let writes = g.K.Hash.hash_input in
    let ks = keys_of c.args.entries.now in
    IfOk-weaker c.find_or_note.result _ _ (kept_with eq cmp writes ks c.args.key.now (λ l. g.met.K.Eq.laws.symm l c.args.key.now) (with_value c.in-Some.index c.find_or_note.new.index) c.find_or_note.ensures.kept) c.find_or_note.ensures.found
