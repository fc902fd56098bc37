-- The names of functions: the name of the item, and that of an export.
use Rattle.std.specs.Prelude.{⊤, ℕ, ◌==◌, IsTrue, List, ◌∷◌, ◌++◌, Option, Some, None, codes}
use Rattle.std.specs.List.{after_first, list_any}
use Rattle.wit_functions.specs.declared.abi.Mangling.{Mangling}
use Rattle.wit_functions.specs.declared.abi.Mangling.TheVariants as mangling
use Rattle.wit_functions.specs.declared.function.FunctionKind.{FunctionKind}
use Rattle.wit_functions.specs.declared.function.FunctionKind.TheVariants as kind

-- what comes after the first such byte
abbrev pub rest_after_first : ℕ → List ℕ → List ℕ
rest_after_first mark name = after_first (λ b. b == mark) name

-- the byte is in the name
abbrev pub HasMark : ℕ → List ℕ → Type 0
HasMark mark name = IsTrue (list_any (λ b. b == mark) name)

-- the byte that comes before the item's name: `]` of an accessor, `.` of a resource's function
abbrev pub mark_of : FunctionKind → Option ℕ
mark_of kind.Freestanding = None
mark_of kind.AsyncFreestanding = None
mark_of kind.Getter = Some 93
mark_of kind.Setter = Some 93
mark_of (kind.Method r) = Some 46
mark_of (kind.AsyncMethod r) = Some 46
mark_of (kind.MethodGetter r) = Some 46
mark_of (kind.MethodSetter r) = Some 46
mark_of (kind.Static r) = Some 46
mark_of (kind.AsyncStatic r) = Some 46
mark_of (kind.StaticGetter r) = Some 46
mark_of (kind.StaticSetter r) = Some 46
mark_of (kind.Constructor r) = None

-- the name has the byte, if one is wanted
abbrev pub HasMarkOf : Option ℕ → List ℕ → Type 0
HasMarkOf None name = ⊤
HasMarkOf (Some mark) name = HasMark mark name

-- the name of the item, of a constructor the word
abbrev pub item_name : FunctionKind → List ℕ → List ℕ
item_name (kind.Constructor r) name = codes "constructor"
item_name kind.Freestanding name = name
item_name kind.AsyncFreestanding name = name
item_name kind.Getter name = rest_after_first 93 name
item_name kind.Setter name = rest_after_first 93 name
item_name (kind.Method r) name = rest_after_first 46 name
item_name (kind.AsyncMethod r) name = rest_after_first 46 name
item_name (kind.MethodGetter r) name = rest_after_first 46 name
item_name (kind.MethodSetter r) name = rest_after_first 46 name
item_name (kind.Static r) name = rest_after_first 46 name
item_name (kind.AsyncStatic r) name = rest_after_first 46 name
item_name (kind.StaticGetter r) name = rest_after_first 46 name
item_name (kind.StaticSetter r) name = rest_after_first 46 name

-- `cm32p2|interface|name`, where no interface is an empty text
abbrev pub standard_name : Option (List ℕ) → List ℕ → List ℕ
standard_name None name = codes "cm32p2||" ++ name
standard_name (Some interface) name = codes "cm32p2|" ++ (interface ++ (124 ∷ name))

-- `interface#name`, or the name
abbrev pub legacy_name : Option (List ℕ) → List ℕ → List ℕ
legacy_name None name = name
legacy_name (Some interface) name = interface ++ (35 ∷ name)

-- the name of an export
abbrev pub export_name : Mangling → Option (List ℕ) → List ℕ → List ℕ
export_name mangling.Standard32 interface name = standard_name interface name
export_name mangling.Legacy interface name = legacy_name interface name
