-- The parts of a package, and the names of scopes that are done.
use Rattle.std.proofs.Common.{◌≡◌, ℕ, List, Some, sym, ap, ◌∙◌, subst, arith, ◌++◌}
use Rattle.wit_arena.proofs.Names.{settled, Address, Exported, Function, Imported, Interface, Key, Occurrence, PackageFile, TypeDef, UnresolvedPackage, World, [], about, address, declared_metadata, dep, first_foreign_uses, foreign_packages, functions as item_functions, keys, map, placed_functions, type_imports, world_types, AreAt, Decls, Def, ScopeName, SourceFunction, TypeOwner, at_within, differ_at, kind_of, local_name, map_at, name_exprs, one, option_map, scope, slice_get, slice_get-map, slice_get_within, AreFunctions, Item, functions, interface, WorldItem, WorldKey, WorldSide, includes, side_items}
use Rattle.wit_arena.proofs.Ordered.{Ordered, ordered_names, turned}
use Rattle.wit_arena.proofs.OneKind.{all_at_untaken}
use Rattle.wit_arena.proofs.PlacingFunctions.{IsFunction, function_of, made_count, HasTypes, types_named}
use Rattle.wit_arena.proofs.Shape.{entry_of_key}
use Rattle.wit_arena.proofs.Resolving.{DoneScope, turn_of, IsPresent, keyed_in}
use Rattle.wit_arena.proofs.DoneWorlds.{decls}
use Rattle.wit_arena.proofs.MadeSides.{AreSideItems}

-- an interface of files, with its names in turn, and its functions
pub record IsResolvedInterface (ks : List Key) (o : Ordered) (i : Interface) : Type 0 where
  pub says : i ≡ interface (about o.item.declared).called i.types i.functions (declared_metadata o.item.declared) (about o.item.declared).id.span
  pub types : HasTypes ks (turned o) i.types
  pub functions : (fs : List Function) × AreFunctions ks (address o.item) (item_functions o.item) fs × (i.functions ≡ placed_functions fs)

-- A world of an item has these entries on a side: after some, what the item has there, and each setter after its getter where it includes
-- nothing.
abbrev pub HasSide : List Address → List Address → Item → WorldSide → List Function → List (WorldKey × WorldItem) → List (WorldKey × WorldItem) → Type 0
HasSide interfaces inside i side fs before entries = (on : List (WorldKey × WorldItem)) × AreSideItems interfaces i.top side (side_items i) fs inside on × (entries ≡ settled (includes i) (before ++ on))

-- After the names of types a world has on its sides what an item has there, with functions over the types of the package, and each setter
-- after its getter where nothing is included; the interfaces have these addresses, and those that are written in it have those.
pub record HasSides (ks : List Key) (interfaces inside : List Address) (o : Ordered) (w : World) : Type 0 where
  pub functions : List Function
  pub are : AreFunctions ks (address o.item) (item_functions o.item) functions
  pub imports : HasSide interfaces inside o.item Imported functions (type_imports (ordered_names o) (world_types w)) w.imports
  pub exports : HasSide interfaces inside o.item Exported functions [] w.exports

-- what the package names of others: each of them in the order of its first visit, with its items in the order of theirs, and the types
-- that are taken from them in the order of their first uses
abbrev pub NamesOthers : List PackageFile → UnresolvedPackage → Type 0
NamesOthers files p = (p.foreign_deps ≡ map (dep files) (foreign_packages files)) × (p.foreign_dep_spans ≡ map (λ v. v.of.span) (foreign_packages files)) × (p.unknown_type_spans ≡ map (λ t. t.id.span) (first_foreign_uses files))

-- The names of scopes that are done: each means its entry, and what is used is a name of the scope that it comes from.
module _ (files : List PackageFile) (decls : Decls) (written : List Occurrence) (cs : List DoneScope) (es : List TypeDef) (d : IsPresent files decls written cs es) where
  abbrev ks : List Key
  ks = keys d.seen

  pub has_types : (t : ℕ) (c : DoneScope) → slice_get cs t ≡ Some c → HasTypes ks (turn_of c) c.types
  has_types t c at = types_named ks c.address c.names c.functions c.types (d.each t c at).turn.differ (d.each t c at).listed (d.are_present t c at)

  -- a name in turn means its place
  pub named_at : (t : ℕ) (c : DoneScope) (k : ℕ) (x : ScopeName) → slice_get cs t ≡ Some c → slice_get c.names k ≡ Some x → (id : ℕ) × (slice_get c.types k ≡ Some (local_name x, id)) × (slice_get ks id ≡ Some (Def c.address (local_name x)))
  named_at t c k x at xat =
      let key : slice_get (map (λ (p : List ℕ × ℕ). p.0) c.types) k ≡ Some (local_name x) = ap (λ (l : List (List ℕ)). slice_get l k) (d.each t c at).listed ∙ slice_get-map local_name c.names k ∙ ap (option_map local_name) xat in
      let p = map_at (λ (p : List ℕ × ℕ). p.0) c.types k (local_name x) key in
      let present : slice_get c.types k ≡ Some (local_name x, p.0.1) = p.1 ∙ ap (λ (n : List ℕ). Some (n, p.0.1)) p.2 in
      (p.0.1, present, (has_types t c at).places k (local_name x) p.0.1 present)

  -- the entry of a name
  pub entry_of : (id : ℕ) (s : Address) (name : List ℕ) → slice_get ks id ≡ Some (Def s name) → (e : TypeDef) × (slice_get es id ≡ Some e)
  entry_of id s name here = entry_of_key decls ks es (keyed_in d) id (Def s name) here

  -- it is its scope's
  pub owner_at_name : (t : ℕ) (c : DoneScope) (id : ℕ) (name : List ℕ) (e : TypeDef) → slice_get cs t ≡ Some c → slice_get ks id ≡ Some (Def c.address name) → slice_get es id ≡ Some e → e.owner ≡ c.owner
  owner_at_name t c id name e at here there =
      let it = (keyed_in d).each id (Def c.address name) e here there in
      it.6 ∙ ap (λ (d : List ScopeName × TypeOwner). d.1) (d.own t c at)

  -- it has the parts of the name
  pub parts_at : (t : ℕ) (c : DoneScope) (k : ℕ) (x : ScopeName) (id : ℕ) (e : TypeDef) → slice_get cs t ≡ Some c → slice_get (scope files c.address) k ≡ Some x → slice_get ks id ≡ Some (Def c.address (local_name x)) → slice_get es id ≡ Some e → AreAt ks (name_exprs c.address x) (kind_of e.kind).1
  parts_at t c k x id e at xat here there =
      let s = c.address in
      let it = (keyed_in d).each id (Def s (local_name x)) e here there in
      let there : slice_get (scope files s) it.0 ≡ Some it.1 = ap (λ (d : List ScopeName × TypeOwner). slice_get d.0 it.0) (sym (d.own t c at)) ∙ it.2 in
      let place = differ_at local_name (scope files s) (d.each t c at).turn.distinct it.0 k it.1 x there xat it.3 in
      let one : Some it.1 ≡ Some x = sym there ∙ ap (slice_get (scope files s)) place ∙ xat in
      let same : it.1 ≡ x = cc in
      subst (λ (z : ScopeName). AreAt ks (name_exprs s z) (kind_of e.kind).1) same (all_at_untaken id ks (name_exprs s it.1) (kind_of e.kind).1 it.8)

  -- a function of a scope, and the one of the package that it is
  pub function_at : (t : ℕ) (c : DoneScope) (k : ℕ) (fn : SourceFunction) → slice_get cs t ≡ Some c → slice_get c.functions k ≡ Some fn → (f : Function) × (slice_get c.made k ≡ Some f) × IsFunction ks c.address fn f
  function_at t c k fn at fat =
      let are = d.made t c at in
      let lt = slice_get_within c.functions k fn fat in
      let count = made_count ks c.address d.occurrence.once c.functions c.made are in
      let f = at_within c.made k (omega arith) in
      (f.0, f.1, function_of ks c.address c.functions c.made are k fn f.0 fat f.1)
