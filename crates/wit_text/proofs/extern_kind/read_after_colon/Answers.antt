use Rattle.std.proofs.Common.{rules}
use Rattle.std.proofs.lemmas.Result.{err_from_is_err_and}
use Rattle.wit_grammar.specs.Seen.{see_name}
use Rattle.wit_grammar.specs.ItemRules.{extern_path, get_or_set, inline_items, worded_function}
use Rattle.wit_reader.specs.Reading.{spot}
use Rattle.wit_text.proofs.Externs.{at_accessor, at_inline, at_second, at_worded, inline_way, name_stops, same_made, second_parsed, second_stops, way_made, worded_way}
use Rattle.wit_text.proofs.Makings.{made_stops, same_parsed, same_stops}
use Rattle.wit_text.proofs.extern_kind.read_after_colon.Goals as goal

pub returns-then-at_word-clause-reads : goal.returns-then-at_word-clause-reads
returns-then-at_word-clause-reads c =
    let r = c.args.reader.now in
    same_parsed (way_made (see_name c.args.name) inline_way inline_items (spot r) (at_inline r (search rules))) c.in_ok-kind.ensures.reads

pub returns-then-at_func-clause-reads : goal.returns-then-at_func-clause-reads
returns-then-at_func-clause-reads c =
    let r = c.args.reader.now in
    same_parsed (way_made (see_name c.args.name) worded_way worded_function (spot r) (at_worded r (search rules) (search rules))) c.in_ok-kind-2.ensures.reads

pub returns-then-at_accessor-clause-reads : goal.returns-then-at_accessor-clause-reads
returns-then-at_accessor-clause-reads c =
    let r = c.args.reader.now in
    same_parsed (same_made (see_name c.args.name) get_or_set (spot r) (at_accessor r (search rules) (search rules) (search rules))) c.in_ok-kind-3.ensures.reads

pub returns-clause-reads : goal.returns-clause-reads
returns-clause-reads c =
    let r = c.args.reader.now in
    same_parsed (same_made (see_name c.args.name) extern_path (spot r) (at_second r (search rules) (search rules) (search rules))) (second_parsed (see_name c.args.name) (search rules) c.in_ok-second.ensures.reads c.in_ok-kind-4.ensures.reads)

pub returns-in_err-kind-clause-stops : goal.returns-in_err-kind-clause-stops
returns-in_err-kind-clause-stops c =
    let p = err_from_is_err_and c.from_residual.result c.from_residual.ensures.1 in
    rw (p.1, p.2) (same_stops c.in_err-kind.field-0.0 (at_inline c.args.reader.now (search rules)) (made_stops inline_way inline_items (spot c.args.reader.now) c.in_err-kind.field-0.0 c.in_err-kind.ensures.stops))

pub returns-in_err-kind-2-clause-stops : goal.returns-in_err-kind-2-clause-stops
returns-in_err-kind-2-clause-stops c =
    let p = err_from_is_err_and c.from_residual-in_err-kind-2.result c.from_residual-in_err-kind-2.ensures.1 in
    rw (p.1, p.2) (same_stops c.in_err-kind-2.field-0.0 (at_worded c.args.reader.now (search rules) (search rules)) (made_stops worded_way worded_function (spot c.args.reader.now) c.in_err-kind-2.field-0.0 c.in_err-kind-2.ensures.stops))

pub returns-in_err-kind-3-clause-stops : goal.returns-in_err-kind-3-clause-stops
returns-in_err-kind-3-clause-stops c =
    let p = err_from_is_err_and c.from_residual-in_err-kind-3.result c.from_residual-in_err-kind-3.ensures.1 in
    rw (p.1, p.2) (same_stops c.in_err-kind-3.field-0.0 (at_accessor c.args.reader.now (search rules) (search rules) (search rules)) c.in_err-kind-3.ensures.stops)

pub returns-in_err-second-clause-stops : goal.returns-in_err-second-clause-stops
returns-in_err-second-clause-stops c =
    let p = err_from_is_err_and c.from_residual-in_err-second.result c.from_residual-in_err-second.ensures.1 in
    rw (p.1, p.2) (same_stops c.in_err-second.field-0.0 (at_second c.args.reader.now (search rules) (search rules) (search rules)) (name_stops c.args.reader.now c.in_err-second.field-0.0 (search rules) c.in_err-second.ensures.stops))

pub returns-in_err-kind-4-clause-stops : goal.returns-in_err-kind-4-clause-stops
returns-in_err-kind-4-clause-stops c =
    let p = err_from_is_err_and c.from_residual-in_err-kind-4.result c.from_residual-in_err-kind-4.ensures.1 in
    rw (p.1, p.2) (same_stops c.in_err-kind-4.field-0.0 (at_second c.args.reader.now (search rules) (search rules) (search rules)) (second_stops c.in_err-kind-4.field-0.0 c.in_ok-second.ensures.reads (search rules) c.in_err-kind-4.ensures.stops))
