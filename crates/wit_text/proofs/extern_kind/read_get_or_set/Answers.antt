use Rattle.std.proofs.Common.{rules}
use Rattle.std.proofs.lemmas.Result.{err_from_is_err_and}
use Rattle.wit_grammar.specs.Seen.{see_name}
use Rattle.wit_text.proofs.Externs.{path_parsed, path_stops, signed_parsed, signed_stops}
use Rattle.wit_text.proofs.extern_kind.read_get_or_set.Goals as goal

pub returns-then-not-at-clause-reads : goal.returns-then-not-at-clause-reads
returns-then-not-at-clause-reads c = path_parsed (see_name c.args.name) _ (search rules) c.in_ok-word.ensures.name c.in_ok-word.ensures.reads c.in_ok-kind.ensures.reads

pub returns-clause-reads : goal.returns-clause-reads
returns-clause-reads c = signed_parsed (see_name c.args.name) (search rules) c.in_ok-word.ensures.reads c.in_ok-params.ensures.reads

pub returns-in_err-kind-clause-stops : goal.returns-in_err-kind-clause-stops
returns-in_err-kind-clause-stops c =
    let p = err_from_is_err_and c.from_residual-in_err-kind.result c.from_residual-in_err-kind.ensures.1 in
    rw (p.1, p.2) (path_stops c.in_err-kind.field-0.0 c.in_ok-word.ensures.reads (search rules) c.in_err-kind.ensures.stops)

pub returns-in_err-params-clause-stops : goal.returns-in_err-params-clause-stops
returns-in_err-params-clause-stops c =
    let p = err_from_is_err_and c.from_residual-in_err-params.result c.from_residual-in_err-params.ensures.1 in
    rw (p.1, p.2) (signed_stops c.in_err-params.field-0.0 c.in_ok-word.ensures.reads (search rules) c.in_err-params.ensures.stops)
