-- The first fault of the names of a scope: E12 to E14 of each in source order, and E17 of each in resolution order.
use Rattle.std.specs.Prelude.{codes, if◌then◌else◌, List, Option, None, Some, is_none}
use Rattle.std.specs.List.{list_any}
use Rattle.std.specs.Option.{option_map_or, option_or}
use Rattle.wit_names.specs.Folded.{folded_key}
use Rattle.wit_type_tree.specs.declared.leaves.Id.{Id}
use Rattle.wit_tree.specs.declared.tree.PackageFile.{PackageFile}
use Rattle.wit_syntax.specs.Fault.{Fault, fault_in, missing_at, function_used, name_twice, name_word}
use Rattle.wit_syntax.specs.Words.{clash}
use Rattle.wit_syntax.specs.Function.{SourceFunction}
use Rattle.wit_syntax.specs.SignatureRules.{Called}
use Rattle.wit_syntax.specs.Source.{Item, ScopeName, Used, item_at, all_items, local_id, local_name, meaning, scope_names}
use Rattle.wit_syntax.specs.Sides.{functions}
use Rattle.wit_first.specs.First.{repeat_of, clash_of}
use Rattle.wit_walk.specs.Functions.{is_free}

-- a name that an interface is asked for is the written name of a function there that belongs to no resource, or nothing's
abbrev pub lost_use : Item → Id → Fault
lost_use from id = if list_any (λ (fn : SourceFunction). is_free id.name.now fn.role) (functions from) then function_used id else missing_at 12 name_word id

-- a name that is used from an interface of this package, where no type there has it; nothing is known of another package
abbrev pub use_fault : List PackageFile → ScopeName → Option Fault
use_fault files (Used from attributes n) = option_map_or (λ (target : Item). if is_none (meaning (scope_names target) n.name.name.now) then Some (lost_use target n.name) else None) (item_at (all_items files) from) None
use_fault files x = None

-- and then an earlier name of the scope is spelled alike
abbrev pub name_fault : List PackageFile → List ScopeName → ScopeName → Option Fault
name_fault files before x = option_or (use_fault files x) (repeat_of local_name (λ (y : ScopeName). name_twice (local_id y)) before x)

abbrev pub folded_fault : List Called → Called → Option Fault
folded_fault before c = clash_of (λ (d : Called). folded_key d.name) (λ (earlier later : Called). fault_in 17 later.span (clash (codes "name") earlier.name later.name)) before c
