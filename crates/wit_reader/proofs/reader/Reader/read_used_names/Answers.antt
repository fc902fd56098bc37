use Rattle.std.proofs.lemmas.Result.{err_from_is_err_and}
use Rattle.wit_lex.specs.declared.kind.Kind.TheVariants.{OpenBrace, CloseBrace}
use Rattle.wit_grammar.specs.Seen.{see_used}
use Rattle.wit_grammar.specs.Grammar.{run}
use Rattle.wit_grammar.specs.Rules.{used_name, used_names}
use Rattle.wit_reader.specs.Reading.{spot}
use Rattle.wit_reader.proofs.Lists.{listing_opened, listing_more, listing_closed, open_stops, item_stops, next_stops}
use Rattle.wit_reader.proofs.reader.Reader.read_used_names.Goals as goal

pub names-init : goal.names-init
unfolding used_names
names-init c = rw c.new-names.ensures.items (listing_opened see_used (run used_name) OpenBrace CloseBrace c.in_ok-more.more c.in_ok-more.ensures.reads)

pub names-preserved : goal.names-preserved
names-preserved c =
    listing_more c.add.new.items.items c.in_ok-used.used c.in_ok-more-2.more (rw c.names-test.true at c.names.invariant) c.in_ok-used.ensures.reads c.in_ok-add.ensures c.in_ok-more-2.ensures.reads

pub returns-clause-reads : goal.returns-clause-reads
returns-clause-reads c = rw c.shrunk.ensures (listing_closed (rw c.names-test.false at c.names.invariant))

pub returns-in_err-used-clause-stops : goal.returns-in_err-used-clause-stops
returns-in_err-used-clause-stops c =
    let p = err_from_is_err_and c.from_residual-in_err-used.result c.from_residual-in_err-used.ensures.1 in
    rw (p.1, p.2) (item_stops _ (rw c.names-test.true at c.names.invariant) c.in_err-used.ensures.stops)

pub returns-in_err-more-2-clause-stops : goal.returns-in_err-more-2-clause-stops
returns-in_err-more-2-clause-stops c =
    let p = err_from_is_err_and c.from_residual-in_err-more-2.result c.from_residual-in_err-more-2.ensures.1 in
    rw (p.1, p.2) (next_stops _ _ (rw c.names-test.true at c.names.invariant) c.in_ok-used.ensures.reads c.in_err-more-2.ensures.stops)

pub returns-in_err-more-clause-stops : goal.returns-in_err-more-clause-stops
unfolding used_names
returns-in_err-more-clause-stops c =
    let p = err_from_is_err_and c.from_residual.result c.from_residual.ensures.1 in
    rw (p.1, p.2) (open_stops (run used_name) OpenBrace CloseBrace (spot c.args.self.now) _ c.in_err-more.ensures.stops)
