use Rattle.wit_lex.proofs.Versions.{no_patch}
use Rattle.wit_lex.proofs.version_end.numbers_end.Goals as goal

pub returns-clause-missing : goal.returns-clause-missing
returns-clause-missing c = no_patch c.args.bytes.now c.args.from c.in_ok-minor.minor c.dot_number_end-2.result c.in_ok-minor.ensures.found c.dot_number_end-2.ensures.missing
