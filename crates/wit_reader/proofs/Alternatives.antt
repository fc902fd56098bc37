-- The type that a kind of token begins.
use Rattle.std.proofs.Common.{◌≡◌, ℕ, zero, suc, ◌-◌, List, refl, ap, ◌∙◌, arith, false}
use Rattle.std.specs.Prelude.{Ok, Err, ◌||◌, cond, if◌then◌else◌}
use Rattle.wit_values.specs.declared.span.Span.{Span}
use Rattle.wit_lex.specs.declared.fault.ReadError.{ReadError}
use Rattle.wit_lex.specs.declared.fault.ReadError.TheVariants.{Fault, OutOfMemory}
use Rattle.wit_lex.specs.declared.fault.ReadFault.TheVariants as fault
use Rattle.wit_lex.specs.declared.kind.Kind.{Kind}
use Rattle.wit_lex.specs.declared.kind.Kind.TheVariants as kind
use Rattle.wit_lex.specs.declared.kind.Kind.TheVariants.{OpenAngle, CloseAngle}
use Rattle.wit_lex.specs.declared.word.Word.{Word}
use Rattle.wit_lex.specs.declared.word.Word.TheVariants as word
use Rattle.wit_lex.specs.Lexis.{Lexeme, Stops, lexeme}
use Rattle.wit_grammar.specs.Grammar.{Gram, run, listed, act, name, primitives}
use Rattle.wit_grammar.specs.TokenKinds.{same_kind}
use Rattle.wit_grammar.specs.Leaves.{Spot, Read, lexed, spanned_at, name_at, deeper_at, is_among}
use Rattle.wit_grammar.specs.Rules.{type_kinds, types, tuples, lists, maps_of, options, results, futures, streams, owns, borrows}
use Rattle.wit_grammar.specs.Trees.{Name, Ty, named, tuple, tys}
use Rattle.wit_reader.specs.declared.reader.Reader.{Reader}
use Rattle.wit_reader.specs.Deeper.{deeper_fault, kind_begins_type}
use Rattle.wit_reader.specs.Reading.{Parses, spot}
use Rattle.wit_reader.proofs.KindCodes.{by_table, other, other_word}

-- the alternatives in their order, by the kind of the token
abbrev chosen : Gram Ty → Spot → Kind → Read Ty
chosen t s k =
    if same_kind k (kind.Word word.List) || false then run (lists t) s
    else if same_kind k (kind.Word word.Map) || false then run (maps_of t) s
    else if same_kind k (kind.Word word.Option) || false then run (options t) s
    else if same_kind k (kind.Word word.Result) || false then run (results t) s
    else if same_kind k (kind.Word word.Tuple) || false then run (tuples t) s
    else if same_kind k (kind.Word word.Future) || false then run (futures t) s
    else if same_kind k (kind.Word word.Stream) || false then run (streams t) s
    else if same_kind k (kind.Word word.Own) || false then run owns s
    else if same_kind k (kind.Word word.Borrow) || false then run borrows s
    else if same_kind k kind.Name || false then run (act named name) s
    else run primitives s

types_chosen : (n : ℕ) (s : Spot) (t : Lexeme) → lexed s ≡ Ok t → run (types (suc n)) s ≡ chosen (types n) s t.kind
unfolding types lists maps_of options results tuples futures streams owns borrows
types_chosen n s t h = rw h refl

abbrev pub type_by : Gram Ty → Kind → Gram Ty
type_by t (kind.Word word.List) = lists t
type_by t (kind.Word word.Map) = maps_of t
type_by t (kind.Word word.Option) = options t
type_by t (kind.Word word.Result) = results t
type_by t (kind.Word word.Tuple) = tuples t
type_by t (kind.Word word.Future) = futures t
type_by t (kind.Word word.Stream) = streams t
type_by t (kind.Word word.Own) = owns
type_by t (kind.Word word.Borrow) = borrows
type_by t kind.Name = act named name
type_by t other = primitives

chosen_by : (t : Gram Ty) (s : Spot) (k : Kind) → chosen t s k ≡ run (type_by t k) s
unfolding same_kind
chosen_by t s k = by_table (chosen t s) (λ j. run (type_by t j) s) refl k

at_reader : (r : Reader) (n : ℕ) → (n ≡ 0 → ⊥) → run (types n) (spot r) ≡ chosen (types (n - 1)) (spot r) r.token.kind
at_reader r zero some = absurd (some refl)
at_reader r (suc m) some = let less : m ≡ suc m - 1 = omega arith in types_chosen m (spot r) (lexeme r.token) r.next ∙ ap (λ i. chosen (types i) (spot r) r.token.kind) less

pub by_reader : (r : Reader) (n : ℕ) (k : Kind) → (n ≡ 0 → ⊥) → r.token.kind ≡ k → run (types n) (spot r) ≡ run (type_by (types (n - 1)) k) (spot r)
by_reader r n k some e = at_reader r n some ∙ ap (chosen (types (n - 1)) (spot r)) e ∙ chosen_by (types (n - 1)) (spot r) k

-- what begins none of the others is a primitive type, or refused as none
rest : (t : Gram Ty) (s : Spot) (k : Kind) → (k ≡ kind.Word word.List → ⊥) → (k ≡ kind.Word word.Map → ⊥) → (k ≡ kind.Word word.Option → ⊥) → (k ≡ kind.Word word.Result → ⊥) → (k ≡ kind.Word word.Tuple → ⊥) → (k ≡ kind.Word word.Future → ⊥) → (k ≡ kind.Word word.Stream → ⊥) → (k ≡ kind.Word word.Own → ⊥) → (k ≡ kind.Word word.Borrow → ⊥) → (k ≡ kind.Name → ⊥) → chosen t s k ≡ run primitives s
rest t s k no_list no_map no_option no_result no_tuple no_future no_stream no_own no_borrow no_name =
    rw (other k _ no_list, other k _ no_map, other k _ no_option, other k _ no_result, other k _ no_tuple, other k _ no_future, other k _ no_stream, other k _ no_own, other k _ no_borrow, other k _ no_name) refl

pub by_word : (r : Reader) (n : ℕ) (w : Word) → (n ≡ 0 → ⊥) → r.token.kind ≡ kind.Word w → (w ≡ word.List → ⊥) → (w ≡ word.Map → ⊥) → (w ≡ word.Option → ⊥) → (w ≡ word.Result → ⊥) → (w ≡ word.Tuple → ⊥) → (w ≡ word.Future → ⊥) → (w ≡ word.Stream → ⊥) → (w ≡ word.Own → ⊥) → (w ≡ word.Borrow → ⊥) →
    run (types n) (spot r) ≡ run primitives (spot r)
by_word r n w some e no_list no_map no_option no_result no_tuple no_future no_stream no_own no_borrow =
    at_reader r n some ∙ ap (chosen (types (n - 1)) (spot r)) e
    ∙ rest (types (n - 1)) (spot r) (kind.Word w) (other_word no_list) (other_word no_map) (other_word no_option) (other_word no_result) (other_word no_tuple) (other_word no_future) (other_word no_stream) (other_word no_own) (other_word no_borrow) (λ (f : kind.Word w ≡ kind.Name). cc)

pub by_sign : (r : Reader) (n : ℕ) → (n ≡ 0 → ⊥) → ((w : Word) → r.token.kind ≡ kind.Word w → ⊥) → (r.token.kind ≡ kind.Name → ⊥) → run (types n) (spot r) ≡ run primitives (spot r)
by_sign r n some no_word no_name =
    at_reader r n some ∙ rest (types (n - 1)) (spot r) r.token.kind (no_word word.List) (no_word word.Map) (no_word word.Option) (no_word word.Result) (no_word word.Tuple) (no_word word.Future) (no_word word.Stream) (no_word word.Own) (no_word word.Borrow) no_name

-- a name alone
name_goes : (s e : Spot) (n : Name) → name_at s ≡ Ok (n, e) → run (act named name) s ≡ Ok (named n, e)
name_goes s e n h = rw h refl

name_fault : (s : Spot) (e : ReadError) → name_at s ≡ Err e → run (act named name) s ≡ Err e
name_fault s e h = rw h refl

pub name_parses : {a b : Reader} (n : ℕ) (id : Name) → (n ≡ 0 → ⊥) → a.token.kind ≡ kind.Name → Parses a (name_at (spot a)) id b → Parses a (run (types n) (spot a)) (named id) b
name_parses {a} {b} n id some e p = record {
  source = p.source;
  offset = p.offset;
  onward = p.onward;
  parses = by_reader a n kind.Name some e ∙ name_goes (spot a) (spot b) id p.parses;
}

pub name_stops : (r : Reader) (n : ℕ) (e : ReadError) → (n ≡ 0 → ⊥) → r.token.kind ≡ kind.Name → Stops (name_at (spot r)) e → Stops (run (types n) (spot r)) e
name_stops r n (Fault f a b) some e h = by_reader r n kind.Name some e ∙ name_fault (spot r) (Fault f a b) h
name_stops r n OutOfMemory some e h = tt

-- no further level
begins : (k : Kind) → is_among type_kinds k ≡ kind_begins_type k
unfolding same_kind
begins k = by_table (is_among type_kinds) kind_begins_type refl k

zero_deep : (r : Reader) → run (types 0) (spot r) ≡ Err (deeper_fault r.token)
unfolding types deeper_at
zero_deep r = rw r.next (ap (λ b. Err (Fault (cond b fault.Nesting fault.Token) r.token.start r.token.end)) (begins r.token.kind))

pub deep_stops : (r : Reader) (n : ℕ) → n ≡ 0 → Stops (run (types n) (spot r)) (deeper_fault r.token)
deep_stops r n e = rw e (zero_deep r)

-- a tuple of types that were read as a list
pub tuple_parses : {a b c : Reader} {t : Ty} (g : Gram Ty) (span : Span) (ts : List Ty) → t ≡ tuple span (tys ts) → Parses a (spanned_at (kind.Word word.Tuple) (spot a)) span b →
    Parses b (run (listed OpenAngle CloseAngle g) (spot b)) ts c → Parses a (run (tuples g) (spot a)) t c
unfolding tuples
tuple_parses {a} {b} {c} {t} g span ts e p q =
    let one = p.onward in
    let two = q.onward in
    record { source = q.source ∙ p.source; offset = q.offset ∙ p.offset; onward = omega arith; parses = rw (e, p.parses, q.parses) refl }
