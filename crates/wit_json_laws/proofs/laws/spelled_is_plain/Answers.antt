use Rattle.wit_json_laws.proofs.SpelledFiles.{spelled_plain}
use Rattle.wit_json_laws.proofs.laws.spelled_is_plain.Goals as goal

pub returns : goal.returns
returns c = spelled_plain
