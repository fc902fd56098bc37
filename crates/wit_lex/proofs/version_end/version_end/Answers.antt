use Rattle.std.proofs.Common.{rules, sym, ◌∙◌}
use Rattle.std.proofs.lemmas.Result.{IfErr-at_err, err_from_is_err_and}
use Rattle.wit_lex.specs.VersionEnds.{IsNoNumbers}
use Rattle.wit_lex.proofs.VersionLexing.{version_ends, version_missing}
use Rattle.wit_lex.proofs.version_end.version_end.Goals as goal

pub returns-in_err-numbers-clause-lexed : goal.returns-in_err-numbers-clause-lexed
returns-in_err-numbers-clause-lexed c =
    let p = err_from_is_err_and c.from_residual.result c.from_residual.ensures.1 in
    p.1 ∙ sym (version_missing c.args.bytes.now c.args.from p.0 (IfErr-at_err (IsNoNumbers c.args.bytes.now c.args.from) p.1 (search rules)))

pub returns-clause-lexed : goal.returns-clause-lexed
returns-clause-lexed c = sym (version_ends c.args.bytes.now c.args.from c.marked_end.result (search rules))
