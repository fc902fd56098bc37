-- A package that legal plain trees make is plain, where its interfaces have ids of 64 bits.
use Rattle.std.proofs.Common.{◌≡◌, ℕ, ◌≤◌, ◌^◌, Bool, true, false, cond, List, [], ◌∷◌, ◌++◌, length, map, Option, Some, None, Contains, refl, sym, subst, arith}
use Rattle.wit_arena.proofs.Common.{Address, All, AstItem, Def, DefinitionPart, Exported, ExternPart, ForeignVisit, Function, FunctionPart, Id, IfSome, Imported, Include, IncludePart, Interface, IsLegal, Item, Key, Makes, PackageFile, PackageName, Part, ScopeName, SideFunction, SideInline, SideItem, SideLink, SourceFunction, Stability, TopName, UnresolvedPackage, UsePart, World, WorldInclude, WorldItem, WorldKey, WorldSide, about, address, cons_option, dep, entries_on, entries_walked, filter, firsts_at, foreign_entry, foreign_interface, foreign_interfaces, foreign_items, foreign_packages, foreign_visits, foreign_world, foreign_worlds, function_in, function_of, functions, include_in, includes, inline_entry, inline_items, interface_scopes, kept_at, last_header, link_item, link_key, local_id, local_name, name_imports, names_in_turn, option_map, own_interface, own_interfaces, own_world, package_of, pairs, part_includes, parts, path_scope, placed, role_side, same_address, same_package, same_side, scope_place, scopes_declared, settled, side_entries, side_items, slice_get, stability_of, visited, world_entries, world_scopes, worlds_of, ⊤}
use Rattle.wit_tree.specs.declared.tree.PackageName.{PackageName as Header}
use Rattle.wit_arena.proofs.Settled.{placed_at}
use Rattle.wit_model.specs.declared.world.WorldItem.TheVariants as item
use Rattle.wit_model.specs.declared.world.WorldKey.TheVariants as key
use Rattle.wit_grammar.specs.Seen.{see_include, see_package_id}
use Rattle.wit_parser.specs.Ids.{AreIdsWithin, IsItemWithin, IsKeyWithin}
use Rattle.wit_json.specs.PlainPackages.{HasVersions, IsPlainDep, IsPlainExtern, IsPlainInterface, IsPlainItem, IsPlainKey, IsPlainName, IsPlainPackage, IsPlainWorld}
use Rattle.wit_json_laws.specs.PlainTrees.{HasPlainNames, IsPlainInclude, IsPlainPackageId, IsPlainText}
use Rattle.wit_json_laws.proofs.Deps.{Dep}
use Rattle.wit_json_laws.proofs.Lists.{all_at, all_both, all_map, all_more, all_none, all_tail, at_all}
use Rattle.wit_json_laws.proofs.Members.{interfaces_among, worlds_declared}
use Rattle.wit_json_laws.proofs.PlainItems.{IsPlainScope, IsPlainVisit, functions_plain, last_header_plain, scope_plain, sides_plain, visits_plain}
use Rattle.wit_json_laws.proofs.PlainMetadata.{all_flat, no_colon, package_plain, stability_plain}
use Rattle.wit_json_laws.proofs.PlainParts.{IsPlainPart, IsPlainScopeName, IsPlainSide, IsPlainSource}
use Rattle.wit_json_laws.proofs.PlainTypes.{turn_names, types_plain}

-- ---- setters placed
all_placed : {K V : Type 0} (gives : V → Option Function) (P : K × V → Type 0) (es : List (K × V)) → All P es → All P (placed gives es)
all_placed gives P es h = all_at P (placed gives es) (λ i x at. (let k = placed_at (pairs gives) es i x at in at_all P es h k.0 x k.1))

-- ---- interfaces
abbrev HasStability : List ℕ × Function → Type 0
HasStability f = HasVersions f.1.stability

abbrev function_entry : (Key → ℕ) → Address → SourceFunction → List ℕ × Function
function_entry id s fn = (fn.name, function_in id s fn)

members_plain : (id : Key → ℕ) (s : Address) (fns : List SourceFunction) → All IsPlainSource fns → All HasStability (placed Some (map (function_entry id s) fns))
members_plain id s fns h = all_placed Some HasStability (map (function_entry id s) fns) (all_map HasStability (function_entry id s) fns (λ k fn at. stability_plain fn.attributes (at_all IsPlainSource fns h k fn at).attributes))

own_interface_plain : (id : Key → ℕ) (order : Item → List ℕ) (i : Item) → IsPlainScope i → IsPlainInterface (own_interface id order i)
own_interface_plain id order i h = record { stability = stability_plain (about i.declared).attributes h.attributes; functions = members_plain id (address i) (functions i) (functions_plain i h) }

foreign_interface_plain : (files : List PackageFile) (id : Key → ℕ) (v : ForeignVisit) → IsPlainInterface (foreign_interface files id v)
foreign_interface_plain files id v = record { stability = tt; functions = all_none HasStability }

-- ---- imports and exports
abbrev Entry : Type 0
Entry = WorldKey × WorldItem

-- a name has no `:`
abbrev IsPlainCalled : WorldKey → Type 0
IsPlainCalled (key.Name name) = Contains name 58 → ⊥
IsPlainCalled (key.Interface id) = ⊤

abbrev IsPlainEntry : Entry → Type 0
IsPlainEntry e = IsPlainCalled e.0 × IsPlainItem e.1

imports_plain : (id : Key → ℕ) (s : Address) (xs : List ScopeName) → All IsPlainScopeName xs → All IsPlainEntry (name_imports id s xs)
imports_plain id s xs h =
    let import_of : ScopeName → Entry = λ x. (key.Name (local_name x), item.Type_ (id (Def s (local_name x))) (local_id x).span) in
    all_map IsPlainEntry import_of xs (λ k x at. (no_colon (local_name x) (at_all IsPlainScopeName xs h k x at).text, tt))

one_entry : (b : Bool) (e : Entry) (es : List Entry) → IsPlainEntry e → All IsPlainEntry es → All IsPlainEntry (cons_option (cond b (Some e) None) es)
one_entry true e es one rest = all_more IsPlainEntry e es one rest
one_entry false e es one rest = rest

link_called : (name : Option Id) (place : ℕ) → IfSome name (λ (id : Id). IsPlainText id.name.now) → IsPlainCalled (link_key name place)
link_called None place h = tt
link_called (Some id) place h = no_colon id.name.now h

on_plain : (id : Key → ℕ) (s : Address) (ss : List Address) (top : List TopName) (side : WorldSide) (xs : List SideItem) (is : List Item) → All IsPlainSide xs → All IsPlainEntry (entries_on side (side_entries (function_in id s) ss top xs is))
on_plain id s ss top side [] is h = all_none IsPlainEntry
on_plain id s ss top side (SideFunction fn ∷ xs) is h =
    let own = at_all IsPlainSide (SideFunction fn ∷ xs) h 0 (SideFunction fn) refl in
    one_entry (same_side side (role_side fn.role)) (key.Name fn.name, item.Function (function_in id s fn)) (entries_on side (side_entries (function_in id s) ss top xs is)) (no_colon fn.name own.name, stability_plain fn.attributes own.attributes) (on_plain id s ss top side xs is (all_tail IsPlainSide (SideFunction fn) xs h))
on_plain id s ss top side (SideLink link ∷ xs) is h =
    let own = at_all IsPlainSide (SideLink link ∷ xs) h 0 (SideLink link) refl in
    let place = scope_place ss (path_scope top link.path) in
    one_entry (same_side side link.side) (link_item link place) (entries_on side (side_entries (function_in id s) ss top xs is)) (link_called link.name place own.1, stability_plain link.attributes own.0) (on_plain id s ss top side xs is (all_tail IsPlainSide (SideLink link) xs h))
on_plain id s ss top side (SideInline x name items ∷ xs) [] h = on_plain id s ss top side xs [] (all_tail IsPlainSide (SideInline x name items) xs h)
on_plain id s ss top side (SideInline x name items ∷ xs) (i ∷ is) h =
    let own = at_all IsPlainSide (SideInline x name items ∷ xs) h 0 (SideInline x name items) refl in
    one_entry (same_side side x.side) (inline_entry x name (scope_place ss (address i))) (entries_on side (side_entries (function_in id s) ss top xs is)) (no_colon name.name.now own.1, stability_plain x.attributes.items own.0) (on_plain id s ss top side xs is (all_tail IsPlainSide (SideInline x name items) xs h))

settled_plain : (ns : List Include) (es : List Entry) → All IsPlainEntry es → All IsPlainEntry (settled ns es)
settled_plain [] es h = all_placed function_of IsPlainEntry es h
settled_plain (n ∷ ns) es h = h

-- ---- includes
abbrev IsPlainIncludeOf : Include → Type 0
IsPlainIncludeOf n = IsPlainInclude (see_include n)

part_includes_plain : (p : Part) → IsPlainPart p → All IsPlainIncludeOf (part_includes p)
part_includes_plain (DefinitionPart d) h = all_none IsPlainIncludeOf
part_includes_plain (UsePart u) h = all_none IsPlainIncludeOf
part_includes_plain (IncludePart n) h = all_more IsPlainIncludeOf n [] h (all_none IsPlainIncludeOf)
part_includes_plain (FunctionPart f) h = all_none IsPlainIncludeOf
part_includes_plain (ExternPart x) h = all_none IsPlainIncludeOf

includes_plain : (i : Item) → IsPlainScope i → All IsPlainIncludeOf (includes i)
includes_plain i h = all_flat IsPlainIncludeOf part_includes (parts i) (λ k p at. part_includes_plain p (at_all IsPlainPart (parts i) h.parts k p at))

abbrev HasIncluded : WorldInclude → Type 0
HasIncluded n = HasVersions n.stability

-- ---- worlds, but for the ids in their keys
record IsPlainBesides (v : World) : Type 0 where
  pub stability : HasVersions v.stability
  pub imports : All IsPlainEntry v.imports
  pub exports : All IsPlainEntry v.exports
  pub includes : All HasIncluded v.includes

foreign_world_plain : (v : ForeignVisit) → IsPlainBesides (foreign_world v)
foreign_world_plain v = record { stability = tt; imports = all_none IsPlainEntry; exports = all_none IsPlainEntry; includes = all_none HasIncluded }

own_world_plain : (id : Key → ℕ) (order : Item → List ℕ) (ss ws : List Address) (w : Item) → IsPlainScope w → All IsPlainScopeName (names_in_turn order w) → IsPlainBesides (own_world id order ss ws w)
own_world_plain id order ss ws w h names =
    let on = λ (side : WorldSide). entries_on side (world_entries id ss w) in
    let on_side : (side : WorldSide) → All IsPlainEntry (entries_on side (world_entries id ss w)) = λ side. subst (λ es. All IsPlainEntry (entries_on side es)) (sym (entries_walked w id ss)) (on_plain id (address w) ss w.top side (side_items w) (inline_items w) (sides_plain w h)) in
    let prefix = name_imports id (address w) (names_in_turn order w) in
    record {
      stability = stability_plain (about w.declared).attributes h.attributes;
      imports = settled_plain (includes w) (prefix ++ on Imported) (all_both IsPlainEntry prefix (on Imported) (imports_plain id (address w) (names_in_turn order w) names) (on_side Imported));
      exports = settled_plain (includes w) (on Exported) (on_side Exported);
      includes = all_map HasIncluded (include_in ws w.top) (includes w) (λ k n at. stability_plain n.attributes.items (at_all IsPlainIncludeOf (includes w) (includes_plain w h) k n at).attributes);
    }

-- ids of interfaces in few enough interfaces
key_plain : (p : UnresolvedPackage) → length p.interfaces ≤ 2 ^ 64 → (k : WorldKey) → IsPlainCalled k → IsKeyWithin p k → IsPlainKey k
key_plain p few (key.Name name) h within = h
key_plain p few (key.Interface id) h within = omega (arith, few, within)

externs_plain : (p : UnresolvedPackage) → length p.interfaces ≤ 2 ^ 64 → (es : List Entry) → All IsPlainEntry es → ((k : ℕ) (x : WorldKey × WorldItem) → slice_get es k ≡ Some x → IsKeyWithin p x.0 × IsItemWithin p x.1) → All IsPlainExtern es
externs_plain p few es h within = all_at IsPlainExtern es (λ k e at. (
    let own = at_all IsPlainEntry es h k e at in
    (key_plain p few e.0 own.0 (within k e at).0, own.1)))

-- ---- other packages
dep_plain : (files : List PackageFile) (v : ForeignVisit) → All IsPlainVisit (foreign_visits files) → IsPlainVisit v → IsPlainDep (dep files v)
dep_plain files v all own =
    let test = λ (u : ForeignVisit). same_package (package_of u.of) (package_of v.of) in
    let visits = λ (i : ForeignVisit). filter (λ (u : ForeignVisit). same_address (visited u) (visited i)) (foreign_visits files) in
    let entry : ForeignVisit → List ℕ × (AstItem × List Stability) = λ i. (i.id.name.now, (foreign_entry files i, map (λ (u : ForeignVisit). stability_of u.attributes) (visits i))) in
    record {
      name = package_plain v.of own.owner;
      items = all_map (λ (e : List ℕ × (AstItem × List Stability)). All HasVersions e.1.1) entry (filter test (foreign_items files)) (λ k i at.
          all_map HasVersions (λ (u : ForeignVisit). stability_of u.attributes) (visits i) (λ j u there. (
          let q = kept_at (λ (w : ForeignVisit). same_address (visited w) (visited i)) (foreign_visits files) j u there in
          stability_plain u.attributes (at_all IsPlainVisit (foreign_visits files) all q.0 u q.1).attributes)));
    }

name_plain : (o : Option Header) (n : PackageName) → IfSome o (λ (h : Header). IsPlainPackageId (see_package_id h)) → option_map package_of o ≡ Some n → IsPlainName n
name_plain None n h is = absurd (let f : ⊥ = cc in f)
name_plain (Some x) n h is = (let same : package_of x ≡ n = cc in subst IsPlainName same (package_plain x h))

module _ (files : List PackageFile) (legal : IsLegal files) (plain : All HasPlainNames files) (p : UnresolvedPackage) (m : Makes files p) where
  deps_plain : All IsPlainDep p.foreign_deps
  deps_plain =
      let same = λ (a b : ForeignVisit). same_package (package_of a.of) (package_of b.of) in
      subst (λ (l : List Dep). All IsPlainDep l) (sym m.deps) (all_map IsPlainDep (dep files) (foreign_packages files) (λ k v at. (
      let q = firsts_at same (foreign_visits files) k v at in
      dep_plain files v (visits_plain files plain) (at_all IsPlainVisit (foreign_visits files) (visits_plain files plain) q.0 v q.1))))

  interfaces_plain : All IsPlainInterface p.interfaces
  interfaces_plain = subst (λ (l : List Interface). All IsPlainInterface l) (sym m.interfaces)
      (all_both IsPlainInterface (map (foreign_interface files m.id) (foreign_interfaces files)) (map (own_interface m.id m.order) (own_interfaces m.items))
      (all_map IsPlainInterface (foreign_interface files m.id) (foreign_interfaces files) (λ k v at. foreign_interface_plain files m.id v))
      (all_map IsPlainInterface (own_interface m.id m.order) (own_interfaces m.items) (λ k i at. own_interface_plain m.id m.order i (scope_plain files plain i (interfaces_among files legal m.items m.in_order k i at).0))))

  world_plain : (k : ℕ) (w : Item) → slice_get (worlds_of m.items) k ≡ Some w → IsPlainBesides (own_world m.id m.order (interface_scopes files m.items) (world_scopes files m.items) w)
  world_plain k w at =
      let among = scopes_declared files w (worlds_declared files legal m.items m.in_order k w at) in
      own_world_plain m.id m.order (interface_scopes files m.items) (world_scopes files m.items) w (scope_plain files plain w among) (turn_names files plain m.order m.names_in_order w among)

  worlds_besides : All IsPlainBesides p.worlds
  worlds_besides =
      let own = own_world m.id m.order (interface_scopes files m.items) (world_scopes files m.items) in
      subst (λ (l : List World). All IsPlainBesides l) (sym m.worlds)
      (all_both IsPlainBesides (map foreign_world (foreign_worlds files)) (map own (worlds_of m.items)) (all_map IsPlainBesides foreign_world (foreign_worlds files) (λ k v at. foreign_world_plain v)) (all_map IsPlainBesides own (worlds_of m.items) world_plain))

  worlds_plain : AreIdsWithin p → length p.interfaces ≤ 2 ^ 64 → All IsPlainWorld p.worlds
  worlds_plain within few =
      all_at IsPlainWorld p.worlds (λ k w at. (
      let own = at_all IsPlainBesides p.worlds worlds_besides k w at in
      let there = within.worlds k w at in
      record {
        stability = own.stability;
        imports = externs_plain p few w.imports own.imports there.imports;
        exports = externs_plain p few w.exports own.exports there.exports;
        includes = own.includes;
      }))

  pub package_made_plain : AreIdsWithin p → length p.interfaces ≤ 2 ^ 64 → IsPlainPackage p
  package_made_plain within few = record {
    name = name_plain (last_header files) p.name (last_header_plain files plain) m.name;
    worlds = worlds_plain within few;
    interfaces = interfaces_plain;
    types = types_plain files plain legal p m;
    deps = deps_plain;
  }
