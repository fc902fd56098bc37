use Rattle.wit_json.proofs.StatedPackages.{json_determines}
use Rattle.wit_json.proofs.laws.json_determines.Goals as goal

pub returns : goal.returns
returns c = json_determines
