-- The kinds and the names of functions, and what is on the sides of a world, after types.
use Rattle.std.specs.Prelude.{ℕ, List, [], ◌∷◌, map, Some, codes, if◌then◌else◌, Option}
use Rattle.wit_arena.specs.Names.{Extern, ExternalId, Function, FunctionKind, Id, Include, Link, WorldItem, WorldKey, WorldSide, docs_of, function_of, no_docs, option_map_or, option_to_list, path_id, placed, same_side, stability_of, stated_text, unwrap_or}
use Rattle.wit_names.specs.Prefix.{rest_after}
use Rattle.wit_type_tree.specs.declared.types.FuncForm.{FuncForm}
use Rattle.wit_type_tree.specs.declared.types.FuncForm.TheVariants as form
use Rattle.wit_functions.specs.declared.function.FunctionKind.TheVariants as kind
use Rattle.wit_model.specs.declared.world.WorldKey.TheVariants as key
use Rattle.wit_model.specs.declared.world.WorldItem.TheVariants as item

-- the kind of a function that is no resource's, and, over the place of its resource, that of a method and that of a static function
pub record Kinds : Type 0 where
  pub freestanding : FunctionKind
  pub method : ℕ → FunctionKind
  pub static : ℕ → FunctionKind

-- the kinds of functions of a form
abbrev pub kinds_of : FuncForm → Kinds
kinds_of form.Plain = record { freestanding = kind.Freestanding; method = kind.Method; static = kind.Static }
kinds_of form.Async = record { freestanding = kind.AsyncFreestanding; method = kind.AsyncMethod; static = kind.AsyncStatic }
kinds_of form.Getter = record { freestanding = kind.Getter; method = kind.MethodGetter; static = kind.StaticGetter }
kinds_of form.Setter = record { freestanding = kind.Setter; method = kind.MethodSetter; static = kind.StaticSetter }

-- the written name of a function that is no resource's
abbrev pub freestanding_names : FunctionKind → List ℕ → List (List ℕ)
freestanding_names kind.Freestanding name = name ∷ []
freestanding_names kind.AsyncFreestanding name = name ∷ []
freestanding_names kind.Getter name = option_to_list (rest_after (codes "[get]") name)
freestanding_names kind.Setter name = option_to_list (rest_after (codes "[set]") name)
freestanding_names k name = []

-- a function is at its name
abbrev pub by_name : Function → List ℕ × Function
by_name f = (f.name, f)

-- in an interface, each setter that is written before its getter comes directly after it
abbrev pub placed_functions : List Function → List (List ℕ × Function)
placed_functions fs = placed Some (map by_name fs)

-- in a world, a function is at its name
abbrev pub function_item : Function → WorldKey × WorldItem
function_item f = (key.Name f.name, item.Function f)

-- an interface without a name of its own goes by its place
abbrev pub link_key : Option Id → ℕ → WorldKey
link_key name place = option_map_or (λ (id : Id). key.Name id.name.now) name (key.Interface place)

-- an interface that is imported or exported, at its place, with what is stated of it there; it is where its name is, or else its path
abbrev pub link_item : Link → ℕ → WorldKey × WorldItem
link_item l place = (link_key l.name place, item.Interface place (stability_of l.attributes) (stated_text ExternalId l.attributes) (docs_of l.docs) (unwrap_or l.name (path_id l.path)).span)

-- an interface that is written there, at its place: what is stated of it is stated of the interface, but for the name that it has elsewhere
abbrev pub inline_entry : Extern → Id → ℕ → WorldKey × WorldItem
inline_entry x name place = (key.Name name.name.now, item.Interface place (stability_of x.attributes.items) (stated_text ExternalId x.attributes.items) no_docs name.span)

-- what is on a side is there before the others; what is on the other one does not
abbrev pub put_on : WorldSide → WorldSide → WorldKey × WorldItem → List (WorldKey × WorldItem) → List (WorldKey × WorldItem)
put_on side own x xs = if same_side side own then x ∷ xs else xs

-- A side of a world with these includes: where there is none, each setter that is written before its getter comes directly after it, as in
-- an interface; with an include, whose getters may come, all stays as it is written.
abbrev pub settled : List Include → List (WorldKey × WorldItem) → List (WorldKey × WorldItem)
settled [] xs = placed function_of xs
settled (i ∷ is) xs = xs
