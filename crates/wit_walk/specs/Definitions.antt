-- The first fault of a definition of a scope: E30 to E35, E19 to E21 and E23 to E25 of its list, and E22, E26 and E27 of the types in it.
use Rattle.std.specs.Prelude.{ℕ, List, Option, None, Some}
use Rattle.std.specs.Option.{option_or}
use Rattle.wit_type_tree.specs.declared.leaves.Id.{Id}
use Rattle.wit_type_tree.specs.TypeParts.{body_types}
use Rattle.wit_tree.specs.declared.tree.PackageFile.{PackageFile}
use Rattle.wit_syntax.specs.Address.{Address}
use Rattle.wit_syntax.specs.NameEnds.{End, Elsewhere, shape_end}
use Rattle.wit_syntax.specs.Fault.{Fault, no_resource}
use Rattle.wit_syntax.specs.Shape.{Word}
use Rattle.wit_syntax.specs.Source.{ScopeName, Defined}
use Rattle.wit_first.specs.AttributeFaults.{metadata_fault}
use Rattle.wit_first.specs.First.{first_in}
use Rattle.wit_first.specs.ListFaults.{list_fault}
use Rattle.wit_first.specs.TypeFaults.{type_fault}

-- a name in a handle ends neither at a resource nor at a name of another package
abbrev pub end_fault : Id → Option End → Option Fault
end_fault id (Some Elsewhere) = Some (no_resource id)
end_fault id end = None

-- the same, where its end is looked for in so many steps
abbrev pub handle_fault : List PackageFile → ℕ → Address → Id → Option Fault
handle_fault files steps s id = end_fault id (shape_end files steps s (Word id))

-- of a definition, where `handle` is the fault of a name in a handle: all names in it mean something
abbrev pub definition_fault : (Id → Option Fault) → ScopeName → Option Fault
definition_fault handle (Defined d) = option_or (metadata_fault d.attributes.items) (option_or (list_fault d.body) (first_in (type_fault (λ id. None) handle) (body_types d.body)))
definition_fault handle x = None
