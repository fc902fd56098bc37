-- What is on the sides of a scope, of which no two names may have one key, and the first fault of its functions where nothing else is there, E17, E22, E26 to E42, and of setters, E18.
use Rattle.std.specs.Prelude.{◌≡◌, ◌++◌, List, [], ◌∷◌, map, ℕ, Option, Contains, ◌⊎◌, codes, MatchResult, None, Result, Some, Vec}
use Rattle.wit_arena.specs.Common.{AllDiffer, Env, Exported, Fault, Global, Id, Imported, Names, ParseError, Required, ScopeName, SideFunction, SideItem, SideLink, SourceFunction, TypeDef, UsePath, WorldSide, all_handles, env_of, fault_in, fault_of, flat_map, item_function, items_on, keys_of, names_on, on_side, option_map_or, option_or, option_to_list, role_side, written_types}
use Rattle.wit_refusals.specs.NameScopes.{Name}
use Rattle.wit_sides.specs.SideNames.{defined_on}
use Rattle.wit_sides.specs.declared.sides.Sides.{Sides}
use Rattle.wit_signatures.specs.FunctionsOfScope.{name_key, name_of_id, name_of_function}
use Rattle.wit_externs.specs.declared.links.Links.{Links}
use Rattle.wit_type_tree.specs.declared.types.«Type».{«Type» as Written}
use Rattle.wit_type_tree.specs.RefusalText.{IsAllocationFailure}
use Rattle.wit_syntax.specs.Words.{clash}
use Rattle.wit_first.specs.First.{clash_of, first_after, first_in}
use Rattle.wit_first.specs.TypeFaults.{type_fault}
use Rattle.wit_walk.specs.Functions.{function_fault, lost_word}
use Rattle.wit_walk.specs.Setters.{setter_fault}
use Rattle.wit_rules.specs.Signatures.{IsScopeOf, functions_view}
use Rattle.wit_rules.specs.declared.function_scope.FunctionScope.{FunctionScope}
use Rattle.wit_entries.specs.EntryFaults.{end_fault, end_in, name_fault, Requires}
use Rattle.wit_syntax.specs.Sides.{item_called}

-- the name that it has: an interface may have none of its own
abbrev pub item_names : SideItem → List Name
item_names x = map (λ c. (c.name, c.span)) (item_called x)

-- after the names on each side those of these were defined there
abbrev pub DefinesNames : Sides → Sides → List SideItem → Type 0
DefinesNames old new items = (side : WorldSide) → defined_on side new ≡ defined_on side old ++ flat_map item_names (items_on side items)

-- on a side on which no two names had one key, none have
abbrev pub StayApart : Sides → Sides → Type 0
StayApart old new = (side : WorldSide) → AllDiffer (map name_key (defined_on side old)) → AllDiffer (map name_key (defined_on side new))

-- the names on the sides are those of types, and then those of what comes after them
abbrev pub AreNamesOf : Sides → List Id → List SideItem → Type 0
AreNamesOf names ids items = (side : WorldSide) → defined_on side names ≡ names_on side (map name_of_id ids) ++ flat_map item_names (items_on side items)

-- and of what comes after them these are the functions
abbrev pub AreNamesWith : Sides → List Id → List SourceFunction → Type 0
AreNamesWith names ids fns = (items : List SideItem) × (flat_map item_function items ≡ fns) × AreNamesOf names ids items

-- the place of an interface that has no name of its own
abbrev pub bare_place : (UsePath → Option ℕ) → SideItem → List ℕ
bare_place lead (SideLink link) = option_map_or (λ id. []) link.name (option_to_list (lead link.path))
bare_place lead x = []

-- the places of the interfaces on a side that have no name of their own
abbrev pub linked_on : WorldSide → Links → List ℕ
linked_on Imported l = keys_of l.imports
linked_on Exported l = keys_of l.exports

-- an interface is put after these, and was none of them
abbrev pub IsPutAfter : List ℕ → List ℕ → ℕ → Type 0
IsPutAfter old new id = (new ≡ old ++ id ∷ []) × (Contains old id → ⊥)

-- of a name in a handle that means something, this is the fault of where that ends in an arena
abbrev pub EndsIn : Env → List TypeDef → (Id → Option Fault) → Type 0
EndsIn env es handle = (id : Id) (place : ℕ) → env id.name.now ≡ Some place → handle id ≡ end_fault id (end_in es place)

-- a test of names in handles finds nothing where the end of one in an arena is right
abbrev pub IsSafe : Env → List TypeDef → (Id → Option Fault) → Type 0
IsSafe env es handle = (id : Id) (place : ℕ) → env id.name.now ≡ Some place → end_fault id (end_in es place) ≡ None → handle id ≡ None

-- What a call finds, where a test of names in handles says which fault is the first: by each test that is right of an arena, that one; and where
-- there is none, each test that finds nothing right in it says so.
abbrev pub FindsIn : {T : Type 0} → Env → List TypeDef → ((Id → Option Fault) → Option Fault) → Result T ParseError → Type 0
FindsIn env es wrong r = MatchResult r (λ _. (handle : Id → Option Fault) → IsSafe env es handle → wrong handle ≡ None) (λ e. IsAllocationFailure e ⊎ ((handle : Id → Option Fault) → EndsIn env es handle → wrong handle ≡ Some (fault_of e)))

abbrev pub again_fault : List Name → Name → Option Fault
again_fault before n = clash_of name_key (λ (earlier : Name) (later : Name). fault_in 17 later.1 (clash (codes "name") earlier.0 later.0)) before n

-- of names that are defined after these, one after another
abbrev pub defined_fault : List Name → List Name → Option Fault
defined_fault before names = first_after (λ earlier. again_fault (before ++ earlier)) [] names

-- of a type in the signature of the last of these functions, where these are the faults of a name, and of one in a handle that means something
abbrev pub signed_by : (List SourceFunction → Id → Option Fault) → (Id → Option Fault) → List SourceFunction → Written → Option Fault
signed_by word handle fns t = type_fault (word fns) (λ (id : Id). option_or (word fns id) (handle id)) t

-- of functions, one after another
abbrev pub alone_faults : (List SourceFunction → Id → Option Fault) → (Id → Option Fault) → List ScopeName → (WorldSide → List Name) → List SourceFunction → Option Fault
alone_faults word handle xs names fns = first_after (λ (before : List SourceFunction) (fn : SourceFunction). option_or (function_fault (signed_by word handle (before ++ fn ∷ [])) xs fn) (again_fault (names (role_side fn.role) ++ flat_map item_names (items_on (role_side fn.role) (map SideFunction before))) (name_of_function fn))) [] fns

-- of setters: the first of functions that has no getter among them
abbrev pub lone_setters : List SourceFunction → Option Fault
lone_setters fns = first_in (setter_fault fns) fns

-- of both sides
abbrev pub sides_setters : List SourceFunction → Option Fault
sides_setters fns = option_or (lone_setters (on_side Imported fns)) (lone_setters (on_side Exported fns))

-- this is what the handles in the signatures of functions require
abbrev pub SignaturesRequire : Names → List TypeDef → List SourceFunction → Vec Required Global → Vec Required Global → Type 0
SignaturesRequire names types fns before after = Requires (env_of names) types (all_handles (flat_map written_types fns)) before.items after.items

-- what a call finds of the functions of a scope, whichever its names are, after the names that are defined
abbrev pub FindsAlone : {T : Type 0} → FunctionScope → List TypeDef → Sides → Result T ParseError → Type 0
FindsAlone scope types names r = (xs : List ScopeName) → IsScopeOf scope xs → FindsIn (env_of scope.names.now) types (λ handle. alone_faults (λ (fns : List SourceFunction) (id : Id). name_fault (lost_word fns) (env_of scope.names.now) id) handle xs (λ s. defined_on s names) (functions_view scope)) r
