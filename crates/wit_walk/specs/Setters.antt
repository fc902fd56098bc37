-- The first setter without its getter: E18.
use Rattle.std.specs.Prelude.{◌&&◌, ◌==◌, not, if◌then◌else◌, Bool, true, false, List, length, Option, None, Some}
use Rattle.std.specs.List.{list_any}
use Rattle.std.specs.Option.{option_or}
use Rattle.std.specs.Str.{bytes_eq}
use Rattle.wit_names.specs.Setter.{getter_of}
use Rattle.wit_type_tree.specs.declared.types.FuncForm.{FuncForm}
use Rattle.wit_type_tree.specs.declared.types.FuncForm.TheVariants as form
use Rattle.wit_tree.specs.declared.tree.WorldSide.{WorldSide}
use Rattle.wit_tree.specs.declared.tree.WorldSide.TheVariants.{Imported, Exported}
use Rattle.wit_syntax.specs.Fault.{Fault, lone_setter}
use Rattle.wit_syntax.specs.Function.{SourceFunction}
use Rattle.wit_syntax.specs.ScopeTables.{includes}
use Rattle.wit_syntax.specs.Sides.{functions, on_side}
use Rattle.wit_syntax.specs.Source.{Item}
use Rattle.wit_first.specs.First.{first_in}

abbrev pub is_setter : FuncForm → Bool
is_setter form.Setter = true
is_setter other = false

-- a setter, where none of these functions is its getter
abbrev pub setter_fault : List SourceFunction → SourceFunction → Option Fault
setter_fault fns fn = if is_setter fn.func.form && not (list_any (λ (g : SourceFunction). bytes_eq g.name (getter_of fn.name)) fns) then Some (lone_setter fn.name fn.span) else None

abbrev pub side_setters_fault : Item → WorldSide → Option Fault
side_setters_fault i side = first_in (setter_fault (on_side side (functions i))) (on_side side (functions i))

-- of an item that includes nothing: where a world is included, the getter may come with it
abbrev pub setters_fault : Item → Option Fault
setters_fault i = if length (includes i) == 0 then option_or (side_setters_fault i Imported) (side_setters_fault i Exported) else None
