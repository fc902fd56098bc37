use Rattle.std.proofs.Common.{sym}
use Rattle.wit_lex.specs.Lexis.{lexeme}
use Rattle.wit_reader.specs.Reading.{spot}
use Rattle.wit_reader.proofs.Steps.{text_span}
use Rattle.wit_reader.proofs.reader.Reader.expect_text.Goals as goal

pub returns-clause-reads : goal.returns-clause-reads
returns-clause-reads c =
    let p = c.in_ok-read_text.ensures.reads in
    rw (sym (text_span (spot c.args.self.now) _ (lexeme c.args.self.now.token) c.args.text.now _ c.args.self.now.next p.parses)) p
