-- The rules, and what it is that breaks each.
use Rattle.std.specs.Prelude.{◌≡◌, ◌≢◌, ℕ, ◌⊎◌, Bool, true, false, List, [], ◌∷◌, ◌++◌, Option, Some, None, take, Contains, slice_get}
use Rattle.std.specs.List.{filter_map, flat_map}
use Rattle.std.specs.Option.{option_map, option_or}
use Rattle.semver.specs.Identifiers.{parts_of}
use Rattle.wit_type_tree.specs.declared.error.ParseError.{ParseError}
use Rattle.wit_type_tree.specs.RefusalText.{IsAllocationFailure}
use Rattle.wit_type_tree.specs.declared.leaves.Id.{Id}
use Rattle.wit_type_tree.specs.declared.leaves.Attribute.{Attribute}
use Rattle.wit_tree.specs.declared.tree.WorldSide.{WorldSide}
use Rattle.wit_tree.specs.declared.tree.Use.{Use as WrittenUse}
use Rattle.wit_tree.specs.declared.tree.Include.{Include}
use Rattle.wit_type_tree.specs.declared.types.TypeDef.{TypeDef}
use Rattle.wit_tree.specs.declared.tree.UsePath.{UsePath}
use Rattle.wit_tree.specs.declared.tree.UseName.{UseName}
use Rattle.wit_tree.specs.declared.tree.ToplevelUse.{ToplevelUse}
use Rattle.wit_tree.specs.declared.tree.AstItem.{AstItem}
use Rattle.wit_tree.specs.declared.tree.AstItem.TheVariants.{Use as ToplevelItem}
use Rattle.wit_tree.specs.declared.tree.PackageName.{PackageName as Header}
use Rattle.wit_tree.specs.declared.tree.PackageFile.{PackageFile}
use Rattle.wit_graph.specs.Order.{ReachesCycle}
use Rattle.wit_graph.specs.Table.{Row, IsEdge, Leads, target}
use Rattle.wit_syntax.specs.Metadata.{IsBrokenStability, IsBrokenMetadata}
use Rattle.wit_syntax.specs.Bodies.{IsSecond, IsBrokenBody}
use Rattle.wit_syntax.specs.Fault.{Fault, fault_of, fault, fault_in, item_word, missing_at, missing_type_at, cyclic_at, function_used, interface_there, item_twice, name_twice, name_word, top_twice, type_word, world_there, linked_twice}
use Rattle.wit_syntax.specs.Address.{Address, ForeignNamed, package_of}
use Rattle.wit_syntax.specs.Words.{mismatch}
use Rattle.wit_syntax.specs.Source.{path_id, path_scope, Target, Local, Foreign, leads, TopName, top_names, Item, item_name, is_world, all_items, item_named, ScopeName, Used, Defined, local_id, local_name, scope_names, meaning, address, about, top_text}
use Rattle.wit_syntax.specs.Foreign.{ForeignVisit, foreign_visits, foreign_at}
use Rattle.wit_syntax.specs.Function.{SourceFunction, role_names}
use Rattle.wit_syntax.specs.Sides.{on_side, all_scopes, Link, SideLink, side_items, items_on, IsBrokenSides, functions, item_types}
use Rattle.wit_syntax.specs.SignatureRules.{IsNoType, IsBrokenFunction, IsUnpairedSetter}
use Rattle.wit_syntax.specs.NameEnds.{IsNoResource}
use Rattle.wit_syntax.specs.ScopesOfTrees.{scope}
use Rattle.wit_syntax.specs.ScopeTables.{use_paths, include_paths, uses, includes, item_rows, rows_of, used, defined}

-- the header of the last file that has one
abbrev pub last_header : List PackageFile → Option Header
last_header [] = None
last_header (f ∷ fs) = option_or (last_header fs) f.package_id

-- the headers of files, in push order
abbrev pub headers : List PackageFile → List Header
headers files = filter_map (λ f. f.package_id) files

-- a header has docs
abbrev pub IsDocumented : Header → Type 0
IsDocumented h = h.docs.docs.items ≢ []

-- two headers name one package, in one version or both in none
pub record IsSamePackage (a b : Header) : Type 0 where
  pub namespace : a.namespace.name.now ≡ b.namespace.name.now
  pub name : a.name.name.now ≡ b.name.name.now
  pub version : option_map parts_of a.version ≡ option_map parts_of b.version

-- a header names another package than the one before it
pub record IsMismatch (previous current : Option Header) (f : Fault) : Type 0 where
  pub before : Header
  pub own : Header
  pub was : previous ≡ Some before
  pub now : current ≡ Some own
  pub other : IsSamePackage before own → ⊥
  pub is : f ≡ fault_in 1 own.span (mismatch (package_of own) (package_of before))

-- a header that has docs comes after one that has docs
pub record IsSecondDocs (earlier : List Header) (current : Option Header) (f : Fault) : Type 0 where
  pub own : Header
  pub now : current ≡ Some own
  pub documented : IsDocumented own
  pub before : Header
  pub among : Contains earlier before
  pub documented_before : IsDocumented before
  pub is : f ≡ fault 2 own.docs.span

-- both a file's header and one of the files before it have docs
abbrev pub IsDocumentedTwice : List PackageFile → PackageFile → Fault → Type 0
IsDocumentedTwice files file f = IsSecondDocs (headers files) file.package_id f

-- a file's header names another package than the last header of the files before it
abbrev pub IsOtherPackage : List PackageFile → PackageFile → Fault → Type 0
IsOtherPackage files file f = IsMismatch (last_header files) file.package_id f

-- an edge of a table leads to no row
abbrev pub IsMissingEdge : (Id → Fault) → List Row → Fault → Type 0
IsMissingEdge as_stated rs f = (place index : ℕ) × (id : Id) × IsEdge rs place index id × (target rs id ≡ None) × (f ≡ as_stated id)

-- both ends of an edge of a table reach a cycle
abbrev pub IsCyclicEdge : ℕ → List ℕ → List Row → Fault → Type 0
IsCyclicEdge number sort rs f = (from index to : ℕ) × (id : Id) × IsEdge rs from index id × (target rs id ≡ Some to) × ReachesCycle (Leads rs) from × ReachesCycle (Leads rs) to × (f ≡ cyclic_at number sort id)

-- whether what is where a path leads is a world, if something is there
abbrev pub is_world_at : List PackageFile → Target → Option Bool
is_world_at files (Local id) = option_map is_world (item_named (all_items files) id.name.now)
is_world_at files (Foreign p id) = option_map (λ (v : ForeignVisit). v.wants_world) (foreign_at files (ForeignNamed p id.name.now))

-- what is wrong with a scope by itself, where it has these functions
pub data IsBrokenScope (xs : List ScopeName) (fns : List SourceFunction) (f : Fault) : Type 0 where
  DefinedTwice : IsSecond local_name (λ (x : ScopeName). name_twice (local_id x)) (used xs ++ defined xs) f → IsBrokenScope xs fns f
  MissingType : IsMissingEdge missing_type_at (rows_of xs) f → IsBrokenScope xs fns f
  CyclicType : IsCyclicEdge 16 type_word (rows_of xs) f → IsBrokenScope xs fns f
  Metadata : (d : TypeDef) → Contains xs (Defined d) → IsBrokenMetadata d.attributes.items f → IsBrokenScope xs fns f
  Body : (d : TypeDef) → Contains xs (Defined d) → IsBrokenBody d.body f → IsBrokenScope xs fns f
  Function : (k : ℕ) (fn : SourceFunction) → slice_get fns k ≡ Some fn → IsBrokenFunction xs fns k fn f → IsBrokenScope xs fns f

-- what is wrong with the names of the items that files declare, with those at the top of each, and with what paths of items lead to
pub data IsBrokenItems (files : List PackageFile) (f : Fault) : Type 0 where
  DuplicateItem : IsSecond item_name (λ (i : Item). item_twice (about i.declared).id) (all_items files) f → IsBrokenItems files f
  DuplicateTopName : (file : PackageFile) → Contains files file → IsSecond top_text (λ (n : TopName). top_twice n.id) (top_names file) f → IsBrokenItems files f
  MissingItem : IsMissingEdge (missing_at 7 item_word) (item_rows files) f → IsBrokenItems files f
  CyclicItem : IsCyclicEdge 8 item_word (item_rows files) f → IsBrokenItems files f

-- what is wrong with a `use` at the top of a file, where files declare these items
pub data IsWrongTop (items : List Item) (declarations : List AstItem) (f : Fault) : Type 0 where
  -- it has attributes
  AttributedUse : (u : ToplevelUse) → Contains declarations (ToplevelItem u) → u.attributes.items ≢ [] → f ≡ fault 9 u.span → IsWrongTop items declarations f
  -- its path is the name of no item
  LostUse : (u : ToplevelUse) → Contains declarations (ToplevelItem u) → (id : Id) → leads [] u.item ≡ Local id → item_named items id.name.now ≡ None → f ≡ missing_at 7 item_word id → IsWrongTop items declarations f

-- what is wrong with those, with attributes before paths to other packages, or with a `use` at the top of a file
pub data IsBrokenNames (files : List PackageFile) (f : Fault) : Type 0 where
  Items : IsBrokenItems files f → IsBrokenNames files f
  ForeignStability : (v : ForeignVisit) → Contains (foreign_visits files) v → IsBrokenStability v.attributes f → IsBrokenNames files f
  TopUse : (file : PackageFile) → Contains files file → IsWrongTop (all_items files) file.decl_list.items.items f → IsBrokenNames files f

-- what is wrong with where the path of a `use` of an item leads
pub data IsBrokenUse (files : List PackageFile) (i : Item) (f : Fault) : Type 0 where
  -- it leads to no item
  MissingUse : (path : UsePath) (id : Id) → Contains (use_paths i) path → leads i.top path ≡ Local id → item_named (all_items files) id.name.now ≡ None → f ≡ missing_at 7 item_word id → IsBrokenUse files i f
  -- it leads to a world
  WorldUsed : (path : UsePath) → Contains (use_paths i) path → is_world_at files (leads i.top path) ≡ Some true → f ≡ world_there (path_id path) → IsBrokenUse files i f

-- a setter has no getter on its side of an item that includes nothing: where a world is included, the getter may come with it
abbrev pub IsSetterAlone : Item → Fault → Type 0
IsSetterAlone i f = (includes i ≡ []) × (side : WorldSide) × IsUnpairedSetter (on_side side (functions i)) f

-- an earlier interface on a side of an item is the same one, where both have no name of their own
abbrev pub IsLinkedTwice : List PackageFile → Item → Fault → Type 0
IsLinkedTwice files i f = (side : WorldSide) × (place : ℕ) × (earlier later : Link) × Contains (take place (items_on side (side_items i))) (SideLink earlier) × (slice_get (items_on side (side_items i)) place ≡ Some (SideLink later))
    × (earlier.name ≡ None) × (later.name ≡ None) × (path_scope i.top earlier.path ≡ path_scope i.top later.path) × (is_world_at files (leads i.top later.path) ≡ Some false) × (f ≡ linked_twice later.side (path_id later.path).span)

-- what is wrong with files
pub data IsBroken (files : List PackageFile) (f : Fault) : Type 0 where
  -- no file has a header
  Headerless : last_header files ≡ None → f ≡ fault 4 (record { start = 0; end = 0 }) → IsBroken files f
  Names : IsBrokenNames files f → IsBroken files f
  ItemStability : (i : Item) → Contains (all_items files) i → IsBrokenStability (about i.declared).attributes f → IsBroken files f
  UseMetadata : (i : Item) → Contains (all_items files) i → (u : WrittenUse) → Contains (uses i) u → IsBrokenMetadata u.attributes.items f → IsBroken files f
  IncludeStability : (i : Item) → Contains (all_items files) i → (n : Include) → Contains (includes i) n → IsBrokenStability n.attributes.items f → IsBroken files f
  Use : (i : Item) → Contains (all_items files) i → IsBrokenUse files i f → IsBroken files f
  -- the path of an include leads to an interface
  InterfaceIncluded : (i : Item) → Contains (all_items files) i → (path : UsePath) → Contains (include_paths i) path → is_world_at files (leads i.top path) ≡ Some false → f ≡ interface_there (path_id path) → IsBroken files f
  -- a used name is none of the interface that it comes from, which is the first item of its name
  MissingName : (i : Item) → Contains (all_scopes files) i → (from : Address) (metadata : List Attribute) (n : UseName) → Contains (scope_names i) (Used from metadata n) → (target : Item) → from ≡ address target → item_named (all_items files) (item_name target) ≡ Some target
      → meaning (scope_names target) n.name.name.now ≡ None → IsNoType (Contains (flat_map (λ fn. role_names fn.role) (functions target)) n.name.name.now) (function_used n.name) (missing_at 12 name_word n.name) f → IsBroken files f
  Scope : (i : Item) → Contains (all_scopes files) i → IsBrokenScope (scope_names i) (functions i) f → IsBroken files f
  Sides : (i : Item) → Contains (all_scopes files) i → IsBrokenSides i f → IsBroken files f
  LinkedTwice : (i : Item) → Contains (all_items files) i → IsLinkedTwice files i f → IsBroken files f
  -- of an item whose names are those of its address, a name in a handle ends at no resource
  Handle : (i : Item) → Contains (all_scopes files) i → scope files (address i) ≡ scope_names i → IsNoResource files (address i) (item_types i) f → IsBroken files f
  Setter : (i : Item) → Contains (all_scopes files) i → IsSetterAlone i f → IsBroken files f

-- no rule is broken
abbrev pub IsLegal : List PackageFile → Type 0
IsLegal files = (f : Fault) → IsBroken files f → ⊥

-- a refusal is for a failed allocation, or says a fault of this kind
abbrev pub Refused : (Fault → Type 0) → ParseError → Type 0
Refused P e = IsAllocationFailure e ⊎ P (fault_of e)
