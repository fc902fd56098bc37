use Rattle.std.proofs.Common.{arith}
use Rattle.wit_json_laws.proofs.PlainPackage.{package_made_plain}
use Rattle.wit_json_laws.proofs.laws.packages_are_plain.Goals as goal

pub returns : goal.returns
returns c files legal plain made =
    package_made_plain files legal plain c.args.«package».now made
    (c.ids_are_within.ensures files legal made) (omega (arith, c.len-interfaces.ensures))
