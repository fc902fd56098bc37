use Rattle.std.proofs.Common.{subst}
use Rattle.wit_arena.proofs.Common.{All}
use Rattle.wit_json_laws.specs.Laws.{IsPlainWhereMade}
use Rattle.wit_json_laws.proofs.PlainGroups.{plain_group}
use Rattle.wit_json_laws.proofs.laws.groups_are_plain.Goals as goal

pub returns : goal.returns
returns c read =
    let g = c.args.group.now in
    plain_group g.source_map.sources.items g.main g.nested read c.packages_are_plain.ensures (subst (All IsPlainWhereMade) c.as_slice.ensures c.each_is_plain.ensures)
