-- The line of a refusal, and its plain values, by its fault.
use Rattle.std.specs.Prelude.{◌≡◌, ℕ, List, Some}
use Rattle.wit_type_tree.specs.declared.error.ParseError.{ParseError}
use Rattle.wit_type_tree.specs.RefusalText.{kind_text}
use Rattle.wit_lex.specs.declared.source.Source.{Source}
use Rattle.wit_bundle.specs.Laid.{AreLaid}
use Rattle.wit_listing.specs.ErrorLine.{IsErrorLine}
use Rattle.wit_syntax.specs.Fault.{Fault, fault_of}
use Rattle.wit_groups.specs.Groups.{IsUnparsed}
use Rattle.wit_groups.specs.SourceFaults.{HaveFirst, TextHasFirst}
use Rattle.wit_outcome.specs.declared.plain.Plain.{Plain}
use Rattle.wit_outcome.specs.Plain.{IsPlain}
use Rattle.wit_tool.specs.FaultLine.{IsFaultLine, fault_text}

-- a refusal says what its fault says, and its line is that of its fault
abbrev pub TextIsOfFault : Type 0
TextIsOfFault = (e : ParseError) → kind_text e.kind ≡ fault_text (fault_of e)

abbrev pub LineIsOfFault : Type 0
LineIsOfFault = (sources : List Source) (e : ParseError) (text : List ℕ) → IsErrorLine sources e text → IsFaultLine sources (fault_of e) text

-- a fault has one line, whichever sources of these paths and texts it is of
abbrev pub OneLineOfFault : Type 0
OneLineOfFault = (parts : List (List ℕ × List ℕ)) (sources others : List Source) (f : Fault) (text another : List ℕ) → AreLaid parts sources → AreLaid parts others →
    IsFaultLine sources f text → IsFaultLine others f another → text ≡ another

-- so have refusals that state the first fault of sources of these paths and texts
abbrev pub OneLineOfSources : Type 0
OneLineOfSources = (parts : List (List ℕ × List ℕ)) (sources others : List Source) (e other : ParseError) (text another : List ℕ) → AreLaid parts sources → AreLaid parts others →
    HaveFirst sources (Some (fault_of e)) → HaveFirst others (Some (fault_of other)) → IsErrorLine sources e text → IsErrorLine others other another → text ≡ another

-- and of a text
abbrev pub OneLineOfText : Type 0
OneLineOfText = (path contents : List ℕ) (sources others : List Source) (e other : ParseError) (text another : List ℕ) → IsUnparsed path contents sources e → IsUnparsed path contents others other →
    TextHasFirst path contents (Some (fault_of e)) → TextHasFirst path contents (Some (fault_of other)) → IsErrorLine sources e text → IsErrorLine others other another → text ≡ another

-- refusals that state one fault are one in plain values, of sources of the same paths and texts
abbrev pub OnePlain : Type 0
OnePlain = (parts : List (List ℕ × List ℕ)) (sources others : List Source) (e other : ParseError) (p q : Plain) → AreLaid parts sources → AreLaid parts others → fault_of e ≡ fault_of other →
    IsPlain sources e p → IsPlain others other q → p ≡ q
