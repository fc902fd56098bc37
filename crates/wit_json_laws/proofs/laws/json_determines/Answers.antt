use Rattle.wit_json.proofs.StatedPackages.{json_determines}
use Rattle.wit_json_laws.specs.Laws.{group_of}
use Rattle.wit_json_laws.proofs.Alike.{alike_stated}
use Rattle.wit_json_laws.proofs.laws.json_determines.Goals as goal

pub returns-clause-gives : goal.returns-clause-gives
returns-clause-gives c one other short same =
    json_determines (group_of c.args.first.now) (group_of c.args.second.now) (c.groups_are_plain.ensures one) (c.groups_are_plain-2.ensures other) short same

pub returns-clause-alike : goal.returns-clause-alike
returns-clause-alike c same = alike_stated (group_of c.args.first.now) (group_of c.args.second.now) same
