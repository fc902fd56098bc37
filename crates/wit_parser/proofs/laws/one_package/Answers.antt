use Rattle.wit_items.proofs.Common.{one_made}
use Rattle.wit_parser.proofs.laws.one_package.Goals as goal

pub returns : goal.returns
returns c files p q legal a b = one_made files p q legal a b
