use Rattle.std.proofs.lemmas.Result.{err_from_is_err_and}
use Rattle.wit_grammar.specs.Grammar.{run}
use Rattle.wit_grammar.specs.ItemRules.{file}
use Rattle.wit_grammar.specs.Laws.{start}
use Rattle.wit_reader.proofs.Courses.{stops_at}
use Rattle.wit_text.proofs.Ends.{unlexed_file}
use Rattle.wit_text.proofs.file.read_source.Goals as goal

pub returns-clause-reads : goal.returns-clause-reads
returns-clause-reads c = (_, c.in_ok-file.ensures.reads.parses)

pub returns-in_err-token-clause-stops : goal.returns-in_err-token-clause-stops
returns-in_err-token-clause-stops c =
    let p = err_from_is_err_and c.from_residual.result c.from_residual.ensures.1 in
    let e = c.in_err-token.field-0.0 in
    let s = start c.args.source.now c.args.offset in
    rw (p.1, p.2) (stops_at (run file s) e (unlexed_file s e c.in_err-token.ensures.lexed))
