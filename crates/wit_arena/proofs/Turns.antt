-- Words for what the definitions of occurrences, of turns and of kinds say in place.
use Rattle.wit_arena.proofs.Names.{Address, ForeignVisit, FuncForm, FunctionKind, Item, List, Occurrence, PackageFile, ScopeName, SourceFunction, Turned, [], about_name, flat_map, kinds_of, name_occurrences, scope, shapes_occurrences, turn_occurrences, unwrap_or, visited, ℕ, ◌∷◌}
use Rattle.wit_arena.proofs.Ordered.{Ordered}

abbrev pub item_of : Ordered → Item
item_of o = o.item

-- the names of a scope, and a function of it, each by itself
abbrev pub names_turn : Address → List ScopeName → Turned
names_turn s xs = record { address = s; names = xs; functions = [] }

abbrev pub function_turn : Address → SourceFunction → Turned
function_turn s fn = record { address = s; names = []; functions = fn ∷ [] }

-- an item of another package, with the names that are taken from it
abbrev pub foreign_turned : List PackageFile → ForeignVisit → Turned
foreign_turned files v = names_turn (visited v) (scope files (visited v))

-- what occurs in the parts of a name of a scope
abbrev pub parts_occurrences : Address → ScopeName → List Occurrence
parts_occurrences s x = shapes_occurrences (unwrap_or (about_name x).from s) (about_name x).metadata.stability (about_name x).body.parts

-- what occurs in names of a scope, and in scopes, in order
abbrev pub all_name_occurrences : Address → List ScopeName → List Occurrence
all_name_occurrences s xs = flat_map (name_occurrences s) xs

abbrev pub occurrences : List Turned → List Occurrence
occurrences ts = flat_map turn_occurrences ts

-- the kinds of functions, each by its form
abbrev pub freestanding_kind : FuncForm → FunctionKind
freestanding_kind form = (kinds_of form).freestanding

abbrev pub method_kind : FuncForm → ℕ → FunctionKind
method_kind form r = (kinds_of form).method r

abbrev pub static_kind : FuncForm → ℕ → FunctionKind
static_kind form r = (kinds_of form).static r
