use Rattle.std.proofs.lemmas.Result.{err_from_is_err_and}
use Rattle.wit_lex.specs.declared.kind.Kind.TheVariants.{OpenParen, CloseParen}
use Rattle.wit_grammar.specs.Seen.{see_param}
use Rattle.wit_grammar.specs.Grammar.{run}
use Rattle.wit_grammar.specs.Rules.{param, params}
use Rattle.wit_reader.specs.Reading.{spot}
use Rattle.wit_reader.proofs.Lists.{listing_opened, listing_more, listing_closed, open_stops, item_stops, next_stops}
use Rattle.wit_interface_reader.proofs.function.read_params.Goals as goal

pub params-init : goal.params-init
unfolding params
params-init c = rw c.new-params.ensures.items (listing_opened see_param (run param) OpenParen CloseParen c.in_ok-more.more c.in_ok-more.ensures.reads)

pub params-preserved : goal.params-preserved
params-preserved c =
    listing_more c.add.new.items.items c.in_ok-param.param c.in_ok-more-2.more (rw c.params-test.true at c.params.invariant) c.in_ok-param.ensures.reads c.in_ok-add.ensures c.in_ok-more-2.ensures.reads

pub returns-clause-reads : goal.returns-clause-reads
returns-clause-reads c = listing_closed (rw c.params-test.false at c.params.invariant)

pub returns-in_err-param-clause-stops : goal.returns-in_err-param-clause-stops
returns-in_err-param-clause-stops c =
    let p = err_from_is_err_and c.from_residual-in_err-param.result c.from_residual-in_err-param.ensures.1 in
    rw (p.1, p.2) (item_stops _ (rw c.params-test.true at c.params.invariant) c.in_err-param.ensures.stops)

pub returns-in_err-more-2-clause-stops : goal.returns-in_err-more-2-clause-stops
returns-in_err-more-2-clause-stops c =
    let p = err_from_is_err_and c.from_residual-in_err-more-2.result c.from_residual-in_err-more-2.ensures.1 in
    rw (p.1, p.2) (next_stops _ _ (rw c.params-test.true at c.params.invariant) c.in_ok-param.ensures.reads c.in_err-more-2.ensures.stops)

pub returns-in_err-more-clause-stops : goal.returns-in_err-more-clause-stops
unfolding params
returns-in_err-more-clause-stops c =
    let p = err_from_is_err_and c.from_residual.result c.from_residual.ensures.1 in
    rw (p.1, p.2) (open_stops (run param) OpenParen CloseParen (spot c.args.reader.now) _ c.in_err-more.ensures.stops)
