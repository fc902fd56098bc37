use Rattle.std.proofs.Common.{◌∙◌, ap, map}
use Rattle.std.proofs.lemmas.Result.{err_from_is_err_and}
use Rattle.wit_lex.specs.declared.kind.Kind.TheVariants as kind
use Rattle.wit_lex.specs.declared.kind.Kind.TheVariants.{OpenAngle}
use Rattle.wit_lex.specs.declared.word.Word.TheVariants as word
use Rattle.wit_grammar.specs.Grammar.{run}
use Rattle.wit_grammar.specs.Rules.{types}
use Rattle.wit_grammar.specs.Seen.{see_name, see_type}
use Rattle.wit_reader.proofs.Alternatives.{by_reader, by_sign, by_word, deep_stops, name_parses, name_stops, tuple_parses}
use Rattle.wit_reader.proofs.Lists.{item_stops, listing_closed, listing_more, listing_opened, next_stops}
use Rattle.wit_reader.proofs.Seen.{seen_tuple}
use Rattle.wit_reader.proofs.reader.Reader.+types.Goals as goal

pub read_tuple-returns-clause-reads : goal.read_tuple-returns-clause-reads
read_tuple-returns-clause-reads t c =
    tuple_parses (types c.args.left) c.in_ok-span.span (map see_type c.in_ok-types.types.items) (seen_tuple c.in_ok-span.span c.in_ok-types.types) c.in_ok-span.ensures.reads c.in_ok-types.ensures.reads

pub read_types-types-init : goal.read_types-types-init
read_types-types-init t c = rw c.new-types.ensures.items (listing_opened see_type (run (types c.args.left)) OpenAngle kind.CloseAngle c.in_ok-more.more c.in_ok-more.ensures.reads)

pub read_types-types-preserved : goal.read_types-types-preserved
read_types-types-preserved t c =
    listing_more c.push.new.items.items c.in_ok-ty.ty c.in_ok-more-2.more (rw c.types-test.true at c.types.invariant) c.in_ok-ty.ensures.reads c.in_ok-push.ensures c.in_ok-more-2.ensures.reads

pub read_types-returns-clause-reads : goal.read_types-returns-clause-reads
read_types-returns-clause-reads t c = listing_closed (rw c.types-test.false at c.types.invariant)

pub read_types-returns-in_err-ty-clause-stops : goal.read_types-returns-in_err-ty-clause-stops
read_types-returns-in_err-ty-clause-stops t c =
    let p = err_from_is_err_and c.from_residual-in_err-ty.result c.from_residual-in_err-ty.ensures.1 in
    rw (p.1, p.2) (item_stops _ (rw c.types-test.true at c.types.invariant) c.in_err-ty.ensures.stops)

pub read_types-returns-in_err-more-2-clause-stops : goal.read_types-returns-in_err-more-2-clause-stops
read_types-returns-in_err-more-2-clause-stops t c =
    let p = err_from_is_err_and c.from_residual-in_err-more-2.result c.from_residual-in_err-more-2.ensures.1 in
    rw (p.1, p.2) (next_stops _ _ (rw c.types-test.true at c.types.invariant) c.in_ok-ty.ensures.reads c.in_err-more-2.ensures.stops)

pub read_type-returns-then-left-eq0-clause-stops : goal.read_type-returns-then-left-eq0-clause-stops
read_type-returns-then-left-eq0-clause-stops t c = rw c.refuse_deeper.ensures (deep_stops c.args.self.now c.args.left c.if-left-eq0.true)

pub read_type-returns-in-List-clause-reads : goal.read_type-returns-in-List-clause-reads
read_type-returns-in-List-clause-reads t c =
    rw (by_reader c.args.self.now c.args.left (kind.Word word.List) c.if-left-eq0.false (c.in-Word.is ∙ ap kind.Word c.in-List.is)) c.read_list.ensures.reads

pub read_type-returns-in-List-clause-stops : goal.read_type-returns-in-List-clause-stops
read_type-returns-in-List-clause-stops t c =
    rw (by_reader c.args.self.now c.args.left (kind.Word word.List) c.if-left-eq0.false (c.in-Word.is ∙ ap kind.Word c.in-List.is)) c.read_list.ensures.stops

pub read_type-returns-in-Map-clause-reads : goal.read_type-returns-in-Map-clause-reads
read_type-returns-in-Map-clause-reads t c =
    rw (by_reader c.args.self.now c.args.left (kind.Word word.Map) c.if-left-eq0.false (c.in-Word.is ∙ ap kind.Word c.in-Map.is)) c.read_map.ensures.reads

pub read_type-returns-in-Map-clause-stops : goal.read_type-returns-in-Map-clause-stops
read_type-returns-in-Map-clause-stops t c =
    rw (by_reader c.args.self.now c.args.left (kind.Word word.Map) c.if-left-eq0.false (c.in-Word.is ∙ ap kind.Word c.in-Map.is)) c.read_map.ensures.stops

pub read_type-returns-in-Option-clause-reads : goal.read_type-returns-in-Option-clause-reads
read_type-returns-in-Option-clause-reads t c =
    rw (by_reader c.args.self.now c.args.left (kind.Word word.Option) c.if-left-eq0.false (c.in-Word.is ∙ ap kind.Word c.in-Option.is)) c.read_option.ensures.reads

pub read_type-returns-in-Option-clause-stops : goal.read_type-returns-in-Option-clause-stops
read_type-returns-in-Option-clause-stops t c =
    rw (by_reader c.args.self.now c.args.left (kind.Word word.Option) c.if-left-eq0.false (c.in-Word.is ∙ ap kind.Word c.in-Option.is)) c.read_option.ensures.stops

pub read_type-returns-in-Result-clause-reads : goal.read_type-returns-in-Result-clause-reads
read_type-returns-in-Result-clause-reads t c =
    rw (by_reader c.args.self.now c.args.left (kind.Word word.Result) c.if-left-eq0.false (c.in-Word.is ∙ ap kind.Word c.in-Result.is)) c.read_result.ensures.reads

pub read_type-returns-in-Result-clause-stops : goal.read_type-returns-in-Result-clause-stops
read_type-returns-in-Result-clause-stops t c =
    rw (by_reader c.args.self.now c.args.left (kind.Word word.Result) c.if-left-eq0.false (c.in-Word.is ∙ ap kind.Word c.in-Result.is)) c.read_result.ensures.stops

pub read_type-returns-in-Tuple-clause-reads : goal.read_type-returns-in-Tuple-clause-reads
read_type-returns-in-Tuple-clause-reads t c =
    rw (by_reader c.args.self.now c.args.left (kind.Word word.Tuple) c.if-left-eq0.false (c.in-Word.is ∙ ap kind.Word c.in-Tuple.is)) c.read_tuple.ensures.reads

pub read_type-returns-in-Tuple-clause-stops : goal.read_type-returns-in-Tuple-clause-stops
read_type-returns-in-Tuple-clause-stops t c =
    rw (by_reader c.args.self.now c.args.left (kind.Word word.Tuple) c.if-left-eq0.false (c.in-Word.is ∙ ap kind.Word c.in-Tuple.is)) c.read_tuple.ensures.stops

pub read_type-returns-in-Future-clause-reads : goal.read_type-returns-in-Future-clause-reads
read_type-returns-in-Future-clause-reads t c =
    rw (by_reader c.args.self.now c.args.left (kind.Word word.Future) c.if-left-eq0.false (c.in-Word.is ∙ ap kind.Word c.in-Future.is)) c.read_future.ensures.reads

pub read_type-returns-in-Future-clause-stops : goal.read_type-returns-in-Future-clause-stops
read_type-returns-in-Future-clause-stops t c =
    rw (by_reader c.args.self.now c.args.left (kind.Word word.Future) c.if-left-eq0.false (c.in-Word.is ∙ ap kind.Word c.in-Future.is)) c.read_future.ensures.stops

pub read_type-returns-in-Stream-clause-reads : goal.read_type-returns-in-Stream-clause-reads
read_type-returns-in-Stream-clause-reads t c =
    rw (by_reader c.args.self.now c.args.left (kind.Word word.Stream) c.if-left-eq0.false (c.in-Word.is ∙ ap kind.Word c.in-Stream.is)) c.read_stream.ensures.reads

pub read_type-returns-in-Stream-clause-stops : goal.read_type-returns-in-Stream-clause-stops
read_type-returns-in-Stream-clause-stops t c =
    rw (by_reader c.args.self.now c.args.left (kind.Word word.Stream) c.if-left-eq0.false (c.in-Word.is ∙ ap kind.Word c.in-Stream.is)) c.read_stream.ensures.stops

pub read_type-returns-in-Own-clause-reads : goal.read_type-returns-in-Own-clause-reads
read_type-returns-in-Own-clause-reads t c =
    rw (by_reader c.args.self.now c.args.left (kind.Word word.Own) c.if-left-eq0.false (c.in-Word.is ∙ ap kind.Word c.in-Own.is)) c.read_own.ensures.reads

pub read_type-returns-in-Own-clause-stops : goal.read_type-returns-in-Own-clause-stops
read_type-returns-in-Own-clause-stops t c =
    rw (by_reader c.args.self.now c.args.left (kind.Word word.Own) c.if-left-eq0.false (c.in-Word.is ∙ ap kind.Word c.in-Own.is)) c.read_own.ensures.stops

pub read_type-returns-in-Borrow-clause-reads : goal.read_type-returns-in-Borrow-clause-reads
read_type-returns-in-Borrow-clause-reads t c =
    rw (by_reader c.args.self.now c.args.left (kind.Word word.Borrow) c.if-left-eq0.false (c.in-Word.is ∙ ap kind.Word c.in-Borrow.is)) c.read_borrow.ensures.reads

pub read_type-returns-in-Borrow-clause-stops : goal.read_type-returns-in-Borrow-clause-stops
read_type-returns-in-Borrow-clause-stops t c =
    rw (by_reader c.args.self.now c.args.left (kind.Word word.Borrow) c.if-left-eq0.false (c.in-Word.is ∙ ap kind.Word c.in-Borrow.is)) c.read_borrow.ensures.stops

pub read_type-returns-in_default-word-clause-reads : goal.read_type-returns-in_default-word-clause-reads
read_type-returns-in_default-word-clause-reads t c =
    rw (by_word c.args.self.now c.args.left c.in-Word.word c.if-left-eq0.false c.in-Word.is
    c.in_default-word.not-List c.in_default-word.not-Map c.in_default-word.not-Option c.in_default-word.not-Result c.in_default-word.not-Tuple c.in_default-word.not-Future c.in_default-word.not-Stream c.in_default-word.not-Own c.in_default-word.not-Borrow) c.read_primitive.ensures.reads

pub read_type-returns-in_default-word-clause-stops : goal.read_type-returns-in_default-word-clause-stops
read_type-returns-in_default-word-clause-stops t c =
    rw (by_word c.args.self.now c.args.left c.in-Word.word c.if-left-eq0.false c.in-Word.is
    c.in_default-word.not-List c.in_default-word.not-Map c.in_default-word.not-Option c.in_default-word.not-Result c.in_default-word.not-Tuple c.in_default-word.not-Future c.in_default-word.not-Stream c.in_default-word.not-Own c.in_default-word.not-Borrow) c.read_primitive.ensures.stops

pub read_type-returns-in_ok-id-in-Name-clause-reads : goal.read_type-returns-in_ok-id-in-Name-clause-reads
read_type-returns-in_ok-id-in-Name-clause-reads t c =
    name_parses c.args.left (see_name c.in_ok-id-in-Name.id) c.if-left-eq0.false c.in-Name.is c.in_ok-id-in-Name.ensures.reads

pub read_type-returns-in_err-id-in-Name-clause-stops : goal.read_type-returns-in_err-id-in-Name-clause-stops
read_type-returns-in_err-id-in-Name-clause-stops t c =
    let p = err_from_is_err_and c.from_residual.result c.from_residual.ensures.1 in
    rw (p.1, p.2) (name_stops c.args.self.now c.args.left _ c.if-left-eq0.false c.in-Name.is c.in_err-id-in-Name.ensures.stops)

pub read_type-returns-in_default-clause-reads : goal.read_type-returns-in_default-clause-reads
read_type-returns-in_default-clause-reads t c =
    rw (by_sign c.args.self.now c.args.left c.if-left-eq0.false c.in_default.not-Word c.in_default.not-Name) c.read_primitive-in_default.ensures.reads

pub read_type-returns-in_default-clause-stops : goal.read_type-returns-in_default-clause-stops
read_type-returns-in_default-clause-stops t c =
    rw (by_sign c.args.self.now c.args.left c.if-left-eq0.false c.in_default.not-Word c.in_default.not-Name) c.read_primitive-in_default.ensures.stops
