-- What is read of a source is one, but for addresses.
use Rattle.std.proofs.Common.{◌≡◌, sym, ◌∙◌, string_bytes}
use Rattle.wit_items.proofs.Common.{Err}
use Rattle.wit_lex.specs.declared.fault.ReadError.TheVariants.{Fault as Stopped}
use Rattle.wit_lex.specs.declared.source.Source.{Source}
use Rattle.wit_grammar.specs.Seen.{see_file}
use Rattle.wit_grammar.proofs.Whole.{one_tree, stopped_spells_none}
use Rattle.wit_groups.specs.SourceFaults.{Read, Tree, Stop, IsRead, AreAlike}

pub one_reading : (s : Source) (one other : Read) → IsRead s one → IsRead s other → AreAlike one other
one_reading s (Tree a) (Tree b) x y = one_tree (string_bytes s.contents) s.offset (see_file a) (see_file b) x y
one_reading s (Tree a) (Stop g) x y = stopped_spells_none (string_bytes s.contents) s.offset y.0 y.1 y.2 (see_file a) y.3 x
one_reading s (Stop f) (Tree b) x y = stopped_spells_none (string_bytes s.contents) s.offset x.0 x.1 x.2 (see_file b) x.3 y
one_reading s (Stop f) (Stop g) x y = (
    let same : Err (Stopped x.0 x.1 x.2) ≡ Err (Stopped y.0 y.1 y.2) = sym x.3 ∙ y.3 in
    let one = x.4 in
    let other = y.4 in
    cc)
