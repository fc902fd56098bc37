-- What a text spells, and that this is what is read of it.
use Rattle.std.specs.Prelude.{◌≡◌, ◌≤◌, ◌⊎◌, ℕ, List, length, Ok, Err}
use Rattle.wit_lex.specs.declared.fault.ReadError.TheVariants.{Fault}
use Rattle.wit_lex.specs.declared.fault.ReadFault.{ReadFault}
use Rattle.wit_grammar.specs.Trees.{File}
use Rattle.wit_grammar.specs.Leaves.{Spot}
use Rattle.wit_grammar.specs.Grammar.{spells, run}
use Rattle.wit_grammar.specs.ItemRules.{file}

-- the beginning of a source, whose first byte has the place `offset`
abbrev pub start : List ℕ → ℕ → Spot
start source offset = record { source = source; offset = offset; place = 0 }

-- the source spells this tree, from its beginning to its end
abbrev pub IsSpelled : List ℕ → ℕ → File → Type 0
IsSpelled source offset tree = (end : Spot) × spells file tree (start source offset) end

-- this tree is what is read of the source by one token
abbrev pub IsReadAs : List ℕ → ℕ → File → Type 0
IsReadAs source offset tree = (end : Spot) × (run file (start source offset) ≡ Ok (tree, end))

abbrev pub ReadIsSpelled : Type 0
ReadIsSpelled = (source : List ℕ) (offset : ℕ) (tree : File) → IsReadAs source offset tree → IsSpelled source offset tree

abbrev pub SpelledIsRead : Type 0
SpelledIsRead = (source : List ℕ) (offset : ℕ) (tree : File) → IsSpelled source offset tree → IsReadAs source offset tree

abbrev pub OneTree : Type 0
OneTree = (source : List ℕ) (offset : ℕ) (one other : File) → IsSpelled source offset one → IsSpelled source offset other → one ≡ other

-- reading it by one token stops at this fault
abbrev pub StopsAt : List ℕ → ℕ → ReadFault → (from to : ℕ) → Type 0
StopsAt source offset fault from to = run file (start source offset) ≡ Err (Fault fault from to)

abbrev pub StoppedSpellsNone : Type 0
StoppedSpellsNone = (source : List ℕ) (offset : ℕ) (fault : ReadFault) (from to : ℕ) (tree : File) → StopsAt source offset fault from to → IsSpelled source offset tree → ⊥

abbrev pub TreeOrFault : Type 0
TreeOrFault =
    (source : List ℕ) (offset : ℕ) → ((tree : File) × IsSpelled source offset tree) ⊎ ((fault : ReadFault) × (from : ℕ) × (to : ℕ) × StopsAt source offset fault from to)

abbrev pub FaultsLieWithin : Type 0
FaultsLieWithin = (source : List ℕ) (offset : ℕ) (fault : ReadFault) (from to : ℕ) → StopsAt source offset fault from to → (from ≤ to) × (to ≤ length source)
