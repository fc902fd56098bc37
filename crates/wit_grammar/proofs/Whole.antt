-- A source spells the tree that is read of it, and no other.
use Rattle.std.proofs.Common.{◌≡◌, ℕ, [], ◌∷◌, ◌∙◌, sym, refl, arith, true, false, ◌⊎◌, inl, inr}
use Rattle.std.specs.Prelude.{Ok, Err}
use Rattle.std.proofs.lemmas.Bool.{or_left}
use Rattle.wit_lex.specs.declared.fault.ReadError.TheVariants.{Fault, OutOfMemory}
use Rattle.wit_lex.specs.declared.fault.ReadFault.{ReadFault}
use Rattle.wit_lex.specs.declared.kind.Kind.TheVariants.{End}
use Rattle.wit_grammar.specs.Trees.{File}
use Rattle.wit_grammar.specs.Leaves.{Spot, Read}
use Rattle.wit_grammar.specs.Grammar.{of_kind, closes, spells, run}
use Rattle.wit_grammar.specs.OneToken.{more}
use Rattle.wit_grammar.specs.ItemRules.{file}
use Rattle.wit_grammar.specs.Laws.{start, IsSpelled, StopsAt, ReadIsSpelled, SpelledIsRead, OneTree, StoppedSpellsNone, TreeOrFault}
use Rattle.wit_grammar.proofs.Onward.{misses}
use Rattle.wit_grammar.proofs.Spelled.{sound, same_made}
use Rattle.wit_grammar.proofs.ReadAgain.{complete}
use Rattle.wit_grammar.proofs.Stopping.{Goes, goes_by}
use Rattle.wit_grammar.proofs.Shapes.{file_one, file_last}

-- a file goes up to the end of its text
at_end : (tree : File) (s e : Spot) → spells file tree s e → closes End e ≡ true
unfolding file
at_end tree s e h = h.5.1

pub read_is_spelled : ReadIsSpelled
read_is_spelled source offset tree h = (h.0, sound file tree (start source offset) h.0 h.1)

pub spelled_is_read : SpelledIsRead
spelled_is_read source offset tree h =
    let last = misses (of_kind End ∷ []) (more file) h.0 file_last (or_left (closes End h.0) false (at_end tree (start source offset) h.0 h.1)) in
    (h.0, complete file tree (start source offset) h.0 file_one (omega arith) h.1 last)

pub one_tree : OneTree
one_tree source offset one other h k =
    let a = spelled_is_read source offset one h in
    let b = spelled_is_read source offset other k in
    same_made one other a.0 b.0 (sym a.1 ∙ b.1)

pub stopped_spells_none : StoppedSpellsNone
stopped_spells_none source offset fault from to tree stops h =
    let read = spelled_is_read source offset tree h in
    let both = sym read.1 ∙ stops in
    absurd (cc)

pub tree_or_fault : TreeOrFault
tree_or_fault source offset = by_cases (run file (start source offset)) refl (goes_by file (start source offset) file_one (omega arith))
  where
    by_cases : (r : Read File) → run file (start source offset) ≡ r → Goes r →
        ((tree : File) × IsSpelled source offset tree) ⊎ ((fault : ReadFault) × (from : ℕ) × (to : ℕ) × StopsAt source offset fault from to)
    by_cases (Ok x) is goes = inl (x.0, read_is_spelled source offset x.0 (x.1, is))
    by_cases (Err (Fault fault from to)) is goes = inr (fault, from, to, is)
    by_cases (Err OutOfMemory) is goes = absurd (goes)
