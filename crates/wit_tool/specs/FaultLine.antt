-- The line of a fault: its number, its place and its words.
use Rattle.std.specs.Prelude.{◌≡◌, ℕ, List, [], ◌++◌, Option, Some, None, codes}
use Rattle.wit_lex.specs.declared.source.Source.{Source}
use Rattle.wit_listing.specs.ErrorLine.{IsPlaceAt, Place, line_text}
use Rattle.wit_syntax.specs.Fault.{Fault, Saying, Said, Missing, Cyclic, Wanting}

-- a hint, where there is one
abbrev pub hint_text : Option (List ℕ) → List ℕ
hint_text None = []
hint_text (Some hint) = codes "; " ++ hint

-- what a fault says, in words
abbrev pub saying_text : Saying → List ℕ
saying_text (Said text) = text
saying_text (Missing name sort hint) = sort ++ (codes " `" ++ (name ++ codes "` does not exist")) ++ hint_text hint
saying_text (Cyclic name sort) = sort ++ (codes " `" ++ (name ++ codes "` depends on itself"))
saying_text Wanting = codes "out of memory"

abbrev pub fault_text : Fault → List ℕ
fault_text f = saying_text f.says

-- the line of a fault of these sources
abbrev pub IsFaultLine : List Source → Fault → List ℕ → Type 0
IsFaultLine sources f text = (place : Option Place) × IsPlaceAt sources f.rule f.span place × (text ≡ line_text f.rule place (fault_text f))
