use Rattle.std.proofs.Common.{map, refl}
use Rattle.std.proofs.lemmas.Result.{err_from_is_err_and}
use Rattle.wit_grammar.specs.Seen.{see_attribute}
use Rattle.wit_grammar.specs.ItemRules.{include_of}
use Rattle.wit_text.proofs.Included.{include_parsed, include_stops}
use Rattle.wit_text.proofs.world.read_include.Goals as goal

pub returns-clause-reads : goal.returns-clause-reads
returns-clause-reads c =
    include_parsed (include_of (map see_attribute c.args.attributes.items)) (rw c.in_ok-from.ensures.both.0 refl) c.in_ok-expect_word.ensures.reads c.in_ok-path.ensures.reads
    (rw c.in_ok-from.ensures.both.1 at c.read_renames.ensures.reads)

pub returns-in_err-from-clause-stops : goal.returns-in_err-from-clause-stops
returns-in_err-from-clause-stops c =
    let p = err_from_is_err_and c.from_residual-in_err-from.result c.from_residual-in_err-from.ensures.1 in
    rw (p.1, p.2) (include_stops c.in_err-from.field-0.0 c.in_ok-expect_word.ensures.reads c.in_ok-path.ensures.reads (rw c.in_err-from.ensures.refused at c.read_renames.ensures.stops))
