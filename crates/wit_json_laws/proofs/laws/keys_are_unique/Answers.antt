use Rattle.wit_json.proofs.DistinctKeys.{group_keys}
use Rattle.wit_json_laws.specs.Laws.{group_of}
use Rattle.wit_json_laws.proofs.Owned.{own_maps}
use Rattle.wit_json_laws.proofs.laws.keys_are_unique.Goals as goal

pub returns : goal.returns
returns c read =
    let g = c.args.group.now in
    group_keys (group_of g) (own_maps g.source_map.sources.items g.main g.nested read) (c.groups_are_plain.ensures read)
