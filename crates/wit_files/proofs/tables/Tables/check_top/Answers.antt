use Rattle.wit_syntax.proofs.Common.{all_items}
use Rattle.wit_files.proofs.Gathering.{names_declared}
use Rattle.wit_files.proofs.tables.Tables.check_top.Goals as goal

pub returns : goal.returns
returns c = λ files names. c.check_top_uses.ensures (all_items files) (names_declared files c.args.names.now names)
