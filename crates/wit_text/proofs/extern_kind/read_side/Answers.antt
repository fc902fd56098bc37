use Rattle.std.proofs.lemmas.Result.{err_from_is_err_and}
use Rattle.wit_grammar.specs.Seen.{see_prefix}
use Rattle.wit_grammar.specs.ItemRules.{extern, extern_kind, extern_of, side}
use Rattle.wit_reader.specs.Reading.{spot}
use Rattle.wit_text.proofs.Makings.{both_first, both_parsed, both_stops}
use Rattle.wit_text.proofs.extern_kind.read_side.Goals as goal

pub returns-clause-reads : goal.returns-clause-reads
unfolding extern
returns-clause-reads c = both_parsed (extern_of (see_prefix c.args.prefix.docs c.args.prefix.attributes.items)) (λ a b. (a, b)) side extern_kind c.in_ok-side.ensures.reads c.in_ok-kind.ensures.reads

pub returns-in_err-side-clause-stops : goal.returns-in_err-side-clause-stops
unfolding extern
returns-in_err-side-clause-stops c =
    let p = err_from_is_err_and c.from_residual.result c.from_residual.ensures.1 in
    rw (p.1, p.2) (both_first (λ a b. (a, b)) side extern_kind (spot c.args.reader.now) c.in_err-side.field-0.0 c.in_err-side.ensures.stops)

pub returns-in_err-kind-clause-stops : goal.returns-in_err-kind-clause-stops
unfolding extern
returns-in_err-kind-clause-stops c =
    let p = err_from_is_err_and c.from_residual-in_err-kind.result c.from_residual-in_err-kind.ensures.1 in
    rw (p.1, p.2) (both_stops (λ a b. (a, b)) side extern_kind c.in_err-kind.field-0.0 c.in_ok-side.ensures.reads c.in_err-kind.ensures.stops)
