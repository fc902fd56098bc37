use Rattle.std.proofs.Common.{◌∙◌, sym, refl, true, false}
use Rattle.std.proofs.lemmas.Result.{err_from_is_err_and}
use Rattle.wit_grammar.specs.Seen.{see_attribute}
use Rattle.wit_grammar.specs.Grammar.{run, starts}
use Rattle.wit_grammar.specs.Rules.{attribute, attributes}
use Rattle.wit_reader.proofs.Attributed.{attribute_begins}
use Rattle.wit_reader.proofs.Several.{several_opened, several_more, several_closed, several_stops}
use Rattle.wit_reader.proofs.reader.Reader.read_attributes.Goals as goal

pub attributes-init : goal.attributes-init
unfolding attributes
attributes-init c = rw c.new-attributes.ensures.items (several_opened see_attribute (starts attribute) (run attribute) refl)

pub attributes-preserved : goal.attributes-preserved
attributes-preserved c =
    several_more c.add.new.items.items c.in_ok-attribute.attribute c.attributes.invariant (attribute_begins c.attributes.self true (sym c.at.ensures.same ∙ c.attributes-test.true)) c.in_ok-attribute.ensures.reads c.in_ok-add.ensures

pub returns-clause-reads : goal.returns-clause-reads
returns-clause-reads c = several_closed c.attributes.invariant (attribute_begins c.attributes.self false (sym c.at.ensures.same ∙ c.attributes-test.false))

pub returns-in_err-attribute-clause-stops : goal.returns-in_err-attribute-clause-stops
returns-in_err-attribute-clause-stops c =
    let p = err_from_is_err_and c.from_residual.result c.from_residual.ensures.1 in
    rw (p.1, p.2) (several_stops _ c.attributes.invariant (attribute_begins c.attributes.self true (sym c.at.ensures.same ∙ c.attributes-test.true)) c.in_err-attribute.ensures.stops)
