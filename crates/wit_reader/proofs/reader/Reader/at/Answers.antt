use Rattle.std.proofs.Common.{◌∙◌}
use Rattle.wit_reader.proofs.KindCodes.{is_same, tested}
use Rattle.wit_reader.proofs.reader.Reader.at.Goals as goal

pub returns-clause-kind : goal.returns-clause-kind
returns-clause-kind c = is_same c.eq.result c.args.self.now.token.kind c.args.kind (c.eq.ensures ∙ tested c.args.self.now.token.kind c.args.kind)

pub returns-clause-same : goal.returns-clause-same
returns-clause-same c = c.eq.ensures ∙ tested c.args.self.now.token.kind c.args.kind
