use Rattle.std.proofs.Common.{◌∙◌, sym}
use Rattle.wit_grammar.specs.Rules.{deprecated_attribute, since_attribute, unstable_attribute}
use Rattle.wit_reader.proofs.Attributed.{attribute_made, attribute_stops, deprecated_next, made_deprecated, made_since, made_unstable, since_next, unstable_next}
use Rattle.wit_reader.proofs.reader.Reader.read_after_at.Goals as goal

pub returns-then-at_text-clause-reads : goal.returns-then-at_text-clause-reads
returns-then-at_text-clause-reads c =
    let self = c.args.self.now in
    rw (attribute_made c.args.at made_since since_attribute self (since_next self (sym c.at_text.ensures ∙ c.if-at_text.true))) c.read_since.ensures.reads

pub returns-then-at_text-clause-stops : goal.returns-then-at_text-clause-stops
returns-then-at_text-clause-stops c =
    let self = c.args.self.now in
    attribute_stops made_since since_attribute self _ (since_next self (sym c.at_text.ensures ∙ c.if-at_text.true)) c.read_since.ensures.stops

pub returns-then-at_text-2-clause-reads : goal.returns-then-at_text-2-clause-reads
returns-then-at_text-2-clause-reads c =
    let self = c.args.self.now in
    let next = unstable_next self (sym c.at_text.ensures ∙ c.if-at_text.false) (sym c.at_text-2.ensures ∙ c.if-at_text-2.true) in
    rw (attribute_made c.args.at made_unstable unstable_attribute self next) c.read_unstable.ensures.reads

pub returns-then-at_text-2-clause-stops : goal.returns-then-at_text-2-clause-stops
returns-then-at_text-2-clause-stops c =
    let self = c.args.self.now in
    let next = unstable_next self (sym c.at_text.ensures ∙ c.if-at_text.false) (sym c.at_text-2.ensures ∙ c.if-at_text-2.true) in
    attribute_stops made_unstable unstable_attribute self _ next c.read_unstable.ensures.stops

pub returns-clause-reads : goal.returns-clause-reads
returns-clause-reads c =
    let self = c.args.self.now in
    let next = deprecated_next self (sym c.at_text.ensures ∙ c.if-at_text.false) (sym c.at_text-2.ensures ∙ c.if-at_text-2.false) in
    rw (attribute_made c.args.at made_deprecated deprecated_attribute self next) c.read_deprecated.ensures.reads

pub returns-clause-stops : goal.returns-clause-stops
returns-clause-stops c =
    let self = c.args.self.now in
    let next = deprecated_next self (sym c.at_text.ensures ∙ c.if-at_text.false) (sym c.at_text-2.ensures ∙ c.if-at_text-2.false) in
    attribute_stops made_deprecated deprecated_attribute self _ next c.read_deprecated.ensures.stops
