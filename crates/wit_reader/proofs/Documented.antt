-- Docs by the grammar's leaf, and the token after them.
use Rattle.std.proofs.Common.{◌≡◌, ℕ, ◌∙◌, arith, refl}
use Rattle.std.specs.Prelude.{Ok}
use Rattle.wit_type_tree.specs.declared.leaves.Docs.{Docs}
use Rattle.wit_lex.specs.DocsLexis.{AreDocsFrom}
use Rattle.wit_lex.specs.Lexis.{Lexeme, first_token, lexeme}
use Rattle.wit_grammar.specs.Leaves.{Spot, docs_at, docs_of, lexed, moved}
use Rattle.wit_grammar.specs.Seen.{see_docs}
use Rattle.wit_grammar.proofs.Tokens.{token_placed}
use Rattle.wit_reader.specs.declared.reader.Reader.{Reader}
use Rattle.wit_reader.specs.Reading.{spot, ParsesOn}

-- the token is the first one from its own beginning on too
pub token_stays : (r : Reader) → first_token r.source.now r.token.start ≡ Ok (lexeme r.token)
token_stays r =
    let prefix = r.prefix in
    let order = r.within.order in
    let within = r.within.within in
    (token_placed r.source.now r.before (lexeme r.token) (omega arith) r.next).same ∙ r.next

docs_given : (s : Spot) (t : Lexeme) → lexed s ≡ Ok t → docs_at s ≡ Ok (docs_of s, moved s t.start)
unfolding docs_at
docs_given s t h = rw h refl

-- the docs that were found before the token
pub docs_parsed : {a b : Reader} (docs : Docs) (to : ℕ) → b.source ≡ a.source → b.offset ≡ a.offset → b.before ≡ a.token.start → AreDocsFrom a.source.now a.offset a.before docs to →
    ParsesOn a (docs_at (spot a)) (see_docs docs) b
docs_parsed {a} {b} docs to source offset place h =
    let prefix = a.prefix in
    record {
      source = source;
      offset = offset;
      onward = omega arith;
      parses = docs_given (spot a) (lexeme a.token) a.next ∙ rw (h.texts, h.span, source, offset, place) refl;
    }
