use Rattle.wit_json.proofs.DistinctKeys.{group_keys}
use Rattle.wit_json.proofs.laws.keys_are_unique.Goals as goal

pub returns : goal.returns
returns c = group_keys
