use Rattle.std.proofs.lemmas.Result.{err_from_is_err_and}
use Rattle.wit_lex.specs.declared.kind.Kind.TheVariants.{OpenBrace, CloseBrace}
use Rattle.wit_grammar.specs.Seen.{see_field}
use Rattle.wit_grammar.specs.Grammar.{run}
use Rattle.wit_grammar.specs.ItemRules.{field}
use Rattle.wit_reader.specs.Reading.{spot}
use Rattle.wit_reader.proofs.Lists.{listing_opened, listing_more, listing_closed, open_stops, item_stops, next_stops}
use Rattle.wit_interface_reader.proofs.in_braces.read_fields.Goals as goal

pub fields-init : goal.fields-init
fields-init c = rw c.new-fields.ensures.items (listing_opened see_field (run field) OpenBrace CloseBrace c.in_ok-more.more c.in_ok-more.ensures.reads)

pub fields-preserved : goal.fields-preserved
fields-preserved c =
    listing_more c.add.new.items.items c.in_ok-field.field c.in_ok-more-2.more (rw c.fields-test.true at c.fields.invariant) c.in_ok-field.ensures.reads c.in_ok-add.ensures c.in_ok-more-2.ensures.reads

pub returns-clause-reads : goal.returns-clause-reads
returns-clause-reads c = rw c.shrunk.ensures (listing_closed (rw c.fields-test.false at c.fields.invariant))

pub returns-in_err-field-clause-stops : goal.returns-in_err-field-clause-stops
returns-in_err-field-clause-stops c =
    let p = err_from_is_err_and c.from_residual-in_err-field.result c.from_residual-in_err-field.ensures.1 in
    rw (p.1, p.2) (item_stops _ (rw c.fields-test.true at c.fields.invariant) c.in_err-field.ensures.stops)

pub returns-in_err-more-2-clause-stops : goal.returns-in_err-more-2-clause-stops
returns-in_err-more-2-clause-stops c =
    let p = err_from_is_err_and c.from_residual-in_err-more-2.result c.from_residual-in_err-more-2.ensures.1 in
    rw (p.1, p.2) (next_stops _ _ (rw c.fields-test.true at c.fields.invariant) c.in_ok-field.ensures.reads c.in_err-more-2.ensures.stops)

pub returns-in_err-more-clause-stops : goal.returns-in_err-more-clause-stops
returns-in_err-more-clause-stops c =
    let p = err_from_is_err_and c.from_residual.result c.from_residual.ensures.1 in
    rw (p.1, p.2) (open_stops (run field) OpenBrace CloseBrace (spot c.args.reader.now) _ c.in_err-more.ensures.stops)
