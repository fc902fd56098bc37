-- What reading a file comes to: the tree that its source spells, or the fault at which reading stops.
use Rattle.std.proofs.Common.{◌≡◌, ℕ, List, ◌∙◌, sym, arith}
use Rattle.wit_type_tree.specs.declared.error.ParseError.{ParseError}
use Rattle.wit_type_tree.specs.RefusalText.{IsAllocationFailure}
use Rattle.wit_lex.specs.declared.fault.ReadError.{ReadError}
use Rattle.wit_lex.specs.declared.fault.ReadError.TheVariants.{Fault, OutOfMemory}
use Rattle.wit_lex.specs.TextFaults.{IsRefusalOf, IsWithin}
use Rattle.wit_lex.specs.Lexis.{Stops}
use Rattle.wit_grammar.specs.Trees.{File}
use Rattle.wit_grammar.specs.Grammar.{run}
use Rattle.wit_grammar.specs.ItemRules.{file}
use Rattle.wit_grammar.specs.Laws.{IsReadAs, IsSpelled, start}
use Rattle.wit_grammar.proofs.Whole.{one_tree, read_is_spelled, spelled_is_read}
use Rattle.wit_grammar.proofs.Within.{fault_within}
use Rattle.wit_text.specs.Files.{IsFaultOf, At, Wanted}

-- no other tree is spelled than that which is read
pub no_other : (source : List ℕ) (offset : ℕ) (one other : File) → IsReadAs source offset one → IsSpelled source offset other → one ≡ other
no_other source offset one other h k = one_tree source offset one other (read_is_spelled source offset one h) k

-- none is spelled where reading stops, unless memory ran out
pub none_spelled : (source : List ℕ) (offset : ℕ) (e : ReadError) (r : ParseError) → Stops (run file (start source offset)) e → IsRefusalOf e offset r → (tree : File) → IsSpelled source offset tree → IsAllocationFailure r
none_spelled source offset (Fault f from to) r h as_stated tree k =
    let read = spelled_is_read source offset tree k in
    absurd (let both = sym read.1 ∙ h in cc)
none_spelled source offset OutOfMemory r h as_stated tree k = as_stated

pub stops_within : (source : List ℕ) (offset : ℕ) (e : ReadError) → Stops (run file (start source offset)) e → IsWithin source e
stops_within source offset e h = fault_within file (start source offset) e (omega arith) h

pub fault_of : (source : List ℕ) (offset : ℕ) (e : ReadError) (r : ParseError) → Stops (run file (start source offset)) e → IsRefusalOf e offset r → IsFaultOf source offset r
fault_of source offset (Fault f from to) r h as_stated = At (Fault f from to) h (stops_within source offset (Fault f from to) h) as_stated
fault_of source offset OutOfMemory r h as_stated = Wanted as_stated
