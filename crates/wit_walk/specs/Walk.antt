-- The first fault of files: what `resolve` looks for, in this order.
use Rattle.std.specs.Prelude.{◌≡◌, ℕ, ◌≤◌, List, [], ◌∷◌, ◌++◌, map, Option, None, Some, if◌then◌else◌, is_none}
use Rattle.wit_tree.specs.declared.tree.PackageFile.{PackageFile}
use Rattle.wit_graph.specs.Table.{Row}
use Rattle.wit_syntax.specs.Broken.{last_header}
use Rattle.wit_syntax.specs.Fault.{Fault, fault, item_word, missing_at, missing_type_at, cyclic_at, type_word}
use Rattle.wit_syntax.specs.Foreign.{foreign_visits, ForeignVisit}
use Rattle.wit_syntax.specs.ScopeTables.{item_rows, rows_of, in_order, in_turn, used, defined, includes, interfaces_of, worlds_of}
use Rattle.wit_syntax.specs.Sides.{side_items}
use Rattle.wit_syntax.specs.SignatureRules.{name_called}
use Rattle.wit_syntax.specs.Source.{Item, about, address, all_items, scope_names}
use Rattle.wit_first.specs.AttributeFaults.{stability_fault}
use Rattle.wit_first.specs.FileFaults.{files_fault, tops_fault}
use Rattle.wit_first.specs.First.{first_in, first_after}
use Rattle.wit_first.specs.NameFaults.{item_names_fault}
use Rattle.wit_first.specs.UseFaults.{all_uses_fault}
use Rattle.wit_walk.specs.Definitions.{definition_fault, handle_fault}
use Rattle.wit_walk.specs.Members.{member_fault}
use Rattle.wit_walk.specs.Names.{name_fault, folded_fault}
use Rattle.wit_walk.specs.Orders.{Outcome, IsOutcome, order_of, order_fault}
use Rattle.wit_walk.specs.Paths.{include_fault}
use Rattle.wit_walk.specs.Setters.{setters_fault}

-- what is looked up: the outcome of ordering each table, and in how many steps the end of a name is looked for
pub record Known : Type 0 where
  pub outcome : List Row → Outcome
  pub steps : ℕ

-- the first of faults, one after another
abbrev pub earliest : List (Option Fault) → Option Fault
earliest faults = first_in (λ (o : Option Fault). o) faults

-- Of an item, where this is the outcome of ordering its definitions, and `inside` is the fault of an inline interface. A line a step: E30 to E34 of
-- the item; E12 to E14; E15 and E16; E30 to E35, E19 to E27 of definitions; E30 to E34, E11; E17 of types; the members; E18.
abbrev pub scope_faults : List PackageFile → ℕ → (Item → Option Fault) → Item → Outcome → List (Option Fault)
scope_faults files steps inside i outcome =
    (stability_fault (about i.declared).attributes
    ∷ first_after (name_fault files) [] (used (scope_names i) ++ defined (scope_names i))
    ∷ order_fault missing_type_at (cyclic_at 16 type_word) outcome
    ∷ first_in (definition_fault (handle_fault files steps (address i))) (defined (in_order (scope_names i) (order_of outcome)))
    ∷ first_in (include_fault files i.top) (includes i)
    ∷ first_after folded_fault [] (map name_called (in_turn (scope_names i) (order_of outcome)))
    ∷ first_after (member_fault files steps inside i (order_of outcome)) [] (side_items i)
    ∷ setters_fault i
    ∷ [])

abbrev pub ordered_fault : List PackageFile → Known → (Item → Option Fault) → Item → Option Fault
ordered_fault files known inside i = earliest (scope_faults files known.steps inside i (known.outcome (rows_of (scope_names i))))

abbrev pub contents_fault : List PackageFile → Known → Item → Option Fault
contents_fault files known i = ordered_fault files known (ordered_fault files known (λ (v : Item). None)) i

-- Of files, where this is the outcome of ordering their items. A line a step: E4; E30 to E34 before paths to other packages; E5; E6 and E7, file by
-- file; E7 and E8; E9 and E7; E30 to E35, E7 and E10 of uses; and what is in interfaces, and then in worlds.
abbrev pub walk_faults : List PackageFile → Known → Outcome → List (Option Fault)
walk_faults files known outcome =
    ((if is_none (last_header files) then Some (fault 4 (record { start = 0; end = 0 })) else None)
    ∷ first_in (λ (v : ForeignVisit). stability_fault v.attributes) (foreign_visits files)
    ∷ item_names_fault files
    ∷ files_fault files
    ∷ order_fault (missing_at 7 item_word) (cyclic_at 8 item_word) outcome
    ∷ tops_fault files
    ∷ all_uses_fault files
    ∷ first_in (contents_fault files known) (interfaces_of (in_order (all_items files) (order_of outcome)))
    ∷ first_in (contents_fault files known) (worlds_of (in_order (all_items files) (order_of outcome)))
    ∷ [])

abbrev pub first_fault : List PackageFile → Known → Option Fault
first_fault files known = earliest (walk_faults files known (known.outcome (item_rows files)))

-- that is what the walk comes to, in as many steps as it takes to find where names end, or more
pub record ComesTo (files : List PackageFile) (first : Option Fault) : Type 0 where
  pub outcome : List Row → Outcome
  pub outcomes : (rs : List Row) → IsOutcome rs (outcome rs)
  pub enough : ℕ
  pub is : (steps : ℕ) → enough ≤ steps → first_fault files (record { outcome = outcome; steps = steps }) ≡ first

-- a fault is the first of files; and files have none
abbrev pub IsFirst : List PackageFile → Fault → Type 0
IsFirst files f = ComesTo files (Some f)

abbrev pub IsFaultless : List PackageFile → Type 0
IsFaultless files = ComesTo files None
