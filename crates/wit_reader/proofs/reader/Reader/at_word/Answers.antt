use Rattle.std.proofs.Common.{◌∙◌}
use Rattle.wit_lex.specs.declared.kind.Kind.TheVariants.{Word}
use Rattle.wit_reader.proofs.KindCodes.{is_same, tested_word, stated_none}
use Rattle.wit_reader.proofs.reader.Reader.at_word.Goals as goal

pub returns-in-Word-clause-known : goal.returns-in-Word-clause-known
returns-in-Word-clause-known c = is_same c.eq.result c.args.self.now.token.kind (Word c.args.word) (c.eq.ensures ∙ tested_word c.args.self.now.token.kind c.in-Word.found c.args.word c.in-Word.is)

pub returns-in-Word-clause-same : goal.returns-in-Word-clause-same
returns-in-Word-clause-same c = c.eq.ensures ∙ tested_word c.args.self.now.token.kind c.in-Word.found c.args.word c.in-Word.is

pub returns-in_default-clause-same : goal.returns-in_default-clause-same
returns-in_default-clause-same c = stated_none c.args.self.now.token.kind c.args.word c.in_default.not-Word
