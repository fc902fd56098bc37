use Rattle.wit_json_laws.proofs.Owned.{own_entries, own_maps}
use Rattle.wit_json_laws.proofs.laws.maps_have_own_keys.Goals as goal

pub returns-clause-packages : goal.returns-clause-packages
returns-clause-packages c = own_entries

pub returns-clause-groups : goal.returns-clause-groups
returns-clause-groups c = own_maps
