-- What a world includes, after its path.
use Rattle.std.proofs.Common.{◌≡◌, ◌∙◌, arith, refl}
use Rattle.std.specs.Prelude.{List}
use Rattle.wit_lex.specs.declared.fault.ReadError.{ReadError}
use Rattle.wit_lex.specs.declared.fault.ReadError.TheVariants.{Fault, OutOfMemory}
use Rattle.wit_lex.specs.declared.kind.Kind.TheVariants.{Word}
use Rattle.wit_lex.specs.declared.word.Word.TheVariants as word
use Rattle.wit_lex.specs.Lexis.{Stops}
use Rattle.wit_grammar.specs.Trees.{Include, Path, RenamedName}
use Rattle.wit_grammar.specs.Leaves.{mark_at}
use Rattle.wit_grammar.specs.Grammar.{act, run}
use Rattle.wit_grammar.specs.Rules.{path}
use Rattle.wit_grammar.specs.ItemRules.{include, renames}
use Rattle.wit_reader.specs.declared.reader.Reader.{Reader}
use Rattle.wit_reader.specs.Reading.{Parses, Passes, spot}

pub include_parsed : {a b c d : Reader} {from : Path} {names : List RenamedName} {answer : Include} (make : Path × List RenamedName → Include) → answer ≡ make (from, names) →
    Passes a (mark_at (Word word.Include) (spot a)) b → Parses b (run path (spot b)) from c → Parses c (run renames (spot c)) names d → Parses a (run (act make include) (spot a)) answer d
unfolding include
include_parsed {a} {b} {c} {d} {from} {names} {answer} make made begun way rest =
    let one = begun.onward in
    let two = way.onward in
    let three = rest.onward in
    record {
      source = rest.source ∙ way.source ∙ begun.source;
      offset = rest.offset ∙ way.offset ∙ begun.offset;
      onward = omega arith;
      parses = rw (begun.passes, way.parses, rest.parses, made) refl;
    }

pub include_stops : {a b c : Reader} {from : Path} (e : ReadError) → Passes a (mark_at (Word word.Include) (spot a)) b → Parses b (run path (spot b)) from c →
    Stops (run renames (spot c)) e → Stops (run include (spot a)) e
unfolding include
include_stops (Fault f start end) begun way h = rw (begun.passes, way.parses, h) refl
include_stops OutOfMemory begun way h = tt
