-- Interfaces and worlds that are resolved say of used names and of includes what files do.
use Rattle.std.proofs.Common.{◌≡◌, ℕ, ◌+◌, true, false, List, ◌++◌, length, map, Option, Some, None, ◌⊎◌, IsSome, inl, inr, refl, sym, ap, ◌∙◌, subst, arith, Contains, ◌<◌, zero, suc, Bool, [], ◌∷◌, take}
use Rattle.wit_contents.proofs.Names.{Address, AddsForeign, AllDiffer, AreUsableUses, AreWorldsDone, Attribute, Def, DefinitionPart, DoneScope, ExternPart, Fault, Foreign, ForeignNamed, ForeignVisit, FunctionPart, Id, Include, IncludePart, Interface, InterfaceNamed, Interfaces, InterfacesDone, IsForeignUse, IsFound, IsNameIndex, IsNoWorld, IsOrder, IsPlaced, IsResolvedUse, Local, Names, PackageFile, PackageName, Part, Required, ResolvedScope, ScopeName, Source as BorrowedSource, Target, Turned, TypeDef, UseName, UsePart, UsePath, Used, UsedName, World, WorldNamed, Resolved, address, all_declared, all_items, any_found, any_some, are_interfaces, are_worlds, at_back, at_contains, at_part, at_prefix, at_split, at_within, bytes_eq, cases_Bool, contains_at, env_of, find_passes, find_some, first_in, first_named, firsts_has, flat_map_at, flat_map_has, foreign_at, foreign_entry, foreign_interfaces, foreign_use_key, foreign_uses, foreign_worlds, free_functions, functions, if◌then◌else◌, in_order, include_fault, include_path, include_paths, included_fault, includes, interface_address, interface_there, interfaces, interfaces_at, is_foreign, is_none, is_world, is_world_at, item_at, item_name, item_named, item_rows, item_scopes, item_word, kept_early, keys, leads, length-map, list_any, local_name, lookup-place, lost_use, map_at, meaning, missing_at, name_equal, name_itself, named_at, named_within, needed_before, option_and_then, option_cases, option_map, option_map_or, option_or, ordered_at, own_declared, part_includes, parts, path_id, paths_of_world, prefix_resolved_scope, prefix_scopes, resolved_scope, resolved_scope_at, resolved_scope_of, resolved_scopes, resolved_scopes-append, same_address, same_address-equal, same_foreign_use, scope, scope_at, scope_names, scope_of, slice_get, slice_get-map, slice_get_within, some_of, source_target, source_view, stability_fault, unresolved_fault, unstated, use_fault, use_of_foreign, use_of_foreign-equal, use_of_foreign-from, use_view, used_listed, visited, visited_foreign, world_address, world_at, world_entry, world_list, world_missing, worlds, worlds_at, worlds_at-append, worlds_of, worlds_sort, interfaces_sort, lost_listed, source_place}
use Rattle.wit_arena.proofs.Common.{Imported, Item, by_name, functions_imported, interface_functions, map_map, placed, same_some, position_or_len, same_item, function_in, interfaces_count, worlds_count}
use Rattle.wit_items.proofs.Common.{interface_fault}
use Rattle.wit_arena.proofs.Placing.{gives_in, place_in}
use Rattle.wit_arena.proofs.Ordered.{item_order}
use Rattle.wit_arena.specs.Made.{own_interface}
use Rattle.wit_arena.proofs.ScopesInTurn.{laid_addresses}
use Rattle.wit_arena.proofs.Settled.{stated_placed}
use Rattle.wit_arena.proofs.FreeNames.{free_keyed, free_of, AreStated, free_stated, stated_free, free_names}
use Rattle.wit_item_entries.specs.ReachedFaults.{lost_name, used_fault}
use Rattle.wit_item_entries.proofs.ReachedFaults.{found_of, of_function, of_nothing, used_from}
use Rattle.wit_contents.proofs.Walked.{AreAsWalked}
use Rattle.wit_scopes.specs.declared.scope_name.Source.TheVariants as borrowed_source
use Rattle.wit_model.specs.declared.ast_item.AstItem.TheVariants as entry

-- names that are the same say the same of one that means nothing
lost_same : (fns gns : List (List ℕ)) (id : Id) → (Contains gns id.name.now → Contains fns id.name.now) → (Contains fns id.name.now → Contains gns id.name.now) → lost_name fns id ≡ lost_name gns id
lost_same fns gns id there back = elim (cases_Bool (list_any (bytes_eq id.name.now) gns)) [
  | inl hit ↦ (
      let it = any_found (bytes_eq id.name.now) gns hit in
      let among = contains_at gns it.0 id.name.now (it.2 ∙ ap Some (sym (name_equal id.name.now it.1 it.3))) in
      of_function fns id (there among) ∙ sym (of_function gns id among))
  | inr miss ↦ (
      let none : Contains gns id.name.now → ⊥ = λ among. (
      let k = at_contains gns id.name.now among in
      let wrong : false ≡ true = sym miss ∙ any_some (bytes_eq id.name.now) gns k.0 id.name.now k.1 (name_itself id.name.now) in
      cc) in
      of_nothing fns id (λ among. none (back among)) ∙ sym (of_nothing gns id none))
]

-- the item at an address has a name where the interface there does, once it is resolved
record IsItemAt (files : List PackageFile) (from : Address) (name : List ℕ) (c : ResolvedScope) : Type 0 where
  item : Item
  found : item_at (all_items files) from ≡ Some item
  sort : is_world item ≡ false
  missing : env_of c.types name ≡ None → meaning (scope_names item) name ≡ None
  meant : (place : ℕ) → env_of c.types name ≡ Some place → (x : ScopeName) × (meaning (scope_names item) name ≡ Some x)
  free : Contains (free_names item) name → Contains c.functions name
  stated : Contains c.functions name → Contains (free_names item) name

-- what files say of a name that is used, by the item at its address
abbrev said_at : UseName → Option Item → Option Fault
said_at n o = option_map_or (λ (target : Item). if is_none (meaning (scope_names target) n.name.name.now) then Some (lost_use target n.name) else None) o None

asked_same : (files : List PackageFile) (from : Address) (attributes : List Attribute) (n : UseName) (i : Interface) → IsItemAt files from n.name.name.now (resolved_scope_at from i) → (if is_none (env_of i.types n.name.name.now) then Some (lost_name (free_functions i) n.name) else None) ≡ use_fault files (Used from attributes n)
asked_same files from attributes n i t = by (env_of i.types n.name.name.now) refl ∙ sym (ap (said_at n) t.found)
  where
    lost : lost_name (free_functions i) n.name ≡ lost_use t.item n.name
    lost = lost_same (free_functions i) (free_names t.item) n.name t.free t.stated ∙ lost_listed t.item t.sort n.name

    by : (o : Option ℕ) → env_of i.types n.name.name.now ≡ o → (if is_none o then Some (lost_name (free_functions i) n.name) else None) ≡ (if is_none (meaning (scope_names t.item) n.name.name.now) then Some (lost_use t.item n.name) else None)
    by None free = ap Some lost ∙ sym (ap (λ (m : Option ScopeName). if is_none m then Some (lost_use t.item n.name) else None) (t.missing free))
    by (Some place) present = sym (ap (λ (m : Option ScopeName). if is_none m then Some (lost_use t.item n.name) else None) (t.meant place present).1)

none_far : (files : List PackageFile) (from : Address) → is_foreign from ≡ true → item_at (all_items files) from ≡ None
none_far files from far = option_cases (item_at (all_items files) from) (item_at (all_items files) from ≡ None) (λ w found. absurd (
    let same : address w ≡ from = same_address-equal (address w) from (find_passes (λ (v : Item). same_address (address v) from) (all_items files) w found) in
    let wrong : true ≡ false = sym far ∙ ap is_foreign (sym same) ∙ own_declared w.declared in
    cc)) (λ none. none)

-- what is meant in the same names
means_in : (xs ys : List ScopeName) (name : List ℕ) → xs ≡ ys → (x : ScopeName) × (meaning ys name ≡ Some x) → (x : ScopeName) × (meaning xs name ≡ Some x)
means_in xs ys name same m = (m.0, ap (λ (zs : List ScopeName). meaning zs name) same ∙ m.1)

-- an interface that has a name has no fault of it
asked_none : (id : Id) (i : Interface) → IsSome (env_of i.types id.name.now) → (if is_none (env_of i.types id.name.now) then Some (lost_name (free_functions i) id) else None) ≡ None
asked_none id i present = (let p = some_of (env_of i.types id.name.now) present in ap (λ (o : Option ℕ). if is_none o then Some (lost_name (free_functions i) id) else None) p.1)

module _ (files : List PackageFile) (places : List ℕ) (order : IsOrder (item_rows files) places) (differ : AllDiffer (map item_name (all_items files))) (uses : AreUsableUses files (all_items files)) (es : List TypeDef) (prefix : List Interface) (wprefix : List World) (foreign : AddsForeign files es prefix wprefix) where
  abbrev ss : List Address
  ss = map visited (foreign_interfaces files)

  abbrev is_items : List Item
  is_items = interfaces files places order differ

  as_many : length prefix ≡ length ss
  as_many = interfaces_count foreign ∙ sym (length-map (foreign_interfaces files) visited)

  all_scopes_of : (own : List Interface) → resolved_scopes ss (prefix ++ own) ≡ resolved_scopes ss prefix ++ map resolved_scope own
  all_scopes_of own = resolved_scopes-append ss prefix own as_many

  module _ (vs : List Item) (mid : List TypeDef) (own : List Interface) (rs : List Required) (d : InterfacesDone files is_items (worlds files places order differ) prefix vs mid own rs) where
    -- an interface of this package
    item_there : (name : List ℕ) (j : ℕ) (c : ResolvedScope) → slice_get (map resolved_scope own) j ≡ Some c → IsItemAt files c.address name c
    item_there name j c at =
        let are = are_interfaces files places order differ in
        let e = map_at resolved_scope_of d.scopes j c (ap (λ (x : List ResolvedScope). slice_get x j) d.laid.types ∙ at) in
        let o = ordered_at d.laid j e.0 e.1 in
        let v = o.0 in
        let there = d.laid.prefix j v o.1 in
        let same : address v ≡ e.0.address = ap (λ (x : Turned). x.address) o.2 in
        let here : address v ≡ c.address = same ∙ ap (λ (x : ResolvedScope). x.address) e.2 in
        let names : scope_names v ≡ scope files e.0.address = sym (scope_of files is_items (item_scopes files is_items are) j v there) ∙ ap (scope files) same in
        let place = length (prefix_scopes files prefix) + j in
        let e_at = at_back (prefix_scopes files prefix) d.scopes j e.0 e.1 in
        let done = d.done.each place e.0 e_at in
        let id = place_in (keys d.done.seen) 0 in
        let x = map_at resolved_scope own j c at in
        let both = ap (λ (l : List Interface). slice_get l j) (d.made id (gives_in (keys d.done.seen) 0 d.done.occurrence.once)) ∙ slice_get-map (own_interface id (item_order files)) vs j ∙ ap (option_map (own_interface id (item_order files))) o.1 in
        let is : x.0 ≡ own_interface id (item_order files) v = same_some (sym x.1 ∙ both) in
        let made = map (function_in id (address v)) (functions v) in
        let says : AreStated (functions v) made (interface_functions x.0) = stated_placed (functions v) made x.0 (functions_imported v ((interfaces_sort (in_order (all_items files) places)).each j v there)) (ap (λ (i : Interface). i.functions) is ∙ ap (placed Some) (sym (map_map by_name (function_in id (address v)) (functions v)))) in
        let present : free_of (interface_functions x.0) ≡ c.functions = free_keyed Imported x.0.functions ∙ ap (λ (y : ResolvedScope). y.functions) x.2 in
        let types : e.0.types ≡ c.types = ap (λ (x : ResolvedScope). x.types) e.2 in
        record {
          item = v;
          found = subst (λ (s : Address). item_at (all_items files) s ≡ Some v) here (first_named (all_items files) v (all_declared files) differ (are.found j v there));
          sort = (interfaces_sort (in_order (all_items files) places)).each j v there;
          missing = λ lacks. ap (λ (xs : List ScopeName). meaning xs name) names ∙ unstated files e.0 name done (ap (λ (t : Names). env_of t name) types ∙ lacks);
          meant = λ place has. (
              let p = lookup-place e.0.types name place (ap (λ (t : Names). env_of t name) types ∙ has) in
              let x = map_at local_name e.0.names p.0 name (ap (λ (l : List (List ℕ)). slice_get l p.0) (sym done.listed) ∙ slice_get-map (λ (q : List ℕ × ℕ). q.0) e.0.types p.0 ∙ ap (option_map (λ (q : List ℕ × ℕ). q.0)) p.1) in
              let k = done.turn.among p.0 x.0 x.1 in
              let passes : bytes_eq (local_name x.0) name ≡ true = ap (λ (m : List ℕ). bytes_eq m name) x.2 ∙ name_itself name in
              means_in (scope_names v) (scope files e.0.address) name names (find_some (λ (z : ScopeName). bytes_eq (local_name z) name) (scope files e.0.address) k.0 x.0 k.1 passes));
          free = λ h. subst (λ (l : List (List ℕ)). Contains l name) present (free_stated id (address v) v made (interface_functions x.0) refl says name h);
          stated = λ h. stated_free id (address v) v made (interface_functions x.0) refl says name (subst (λ (l : List (List ℕ)). Contains l name) (sym present) h);
        }

    -- an interface of another package has the names that are used from it
    far_has : (from : Address) (n : UseName) (t : ℕ) (s : Address) (i : Interface) → IsForeignUse files from n → slice_get ss t ≡ Some s → slice_get prefix t ≡ Some i → from ≡ s → IsSome (env_of i.types n.name.name.now)
    far_has from n t s i u at there same =
        let v = map_at visited (foreign_interfaces files) t s at in
        let x = firsts_has same_foreign_use foreign_use_key use_of_foreign-from use_of_foreign-equal (foreign_uses files) u.index (use_of_foreign from u.attributes n) u.in_use in
        let key : foreign_use_key x.1 ≡ Def from n.name.name.now = x.3 in
        let scope : x.1.from ≡ from = cc in
        let called : x.1.id.name.now ≡ n.name.name.now = cc in
        subst (λ m. IsSome (env_of i.types m)) called (used_listed files uses es prefix wprefix foreign t v.0 i v.1 there x.0 x.1 x.2 (scope ∙ same ∙ sym v.2))

    -- a name that an interface is asked for
    asked_walked : (from : Address) (attributes : List Attribute) (n : UseName) (i : Interface) → IsFound (resolved_scopes ss (prefix ++ own)) from (resolved_scope_at from i) → IsResolvedUse files places order differ vs from ⊎ IsForeignUse files from n → (if is_none (env_of i.types n.name.name.now) then Some (lost_name (free_functions i) n.name) else None) ≡ use_fault files (Used from attributes n)
    asked_walked from attributes n i f earlier =
        let c = resolved_scope_at from i in
        elim (at_split (resolved_scopes ss prefix) (map resolved_scope own) f.place c (ap (λ (l : List ResolvedScope). slice_get l f.place) (sym (all_scopes_of own)) ∙ f.at)) [
          | inl h ↦ (
              let v = prefix_resolved_scope ss prefix f.place c as_many h in
              let here : from ≡ v.0 = ap (λ (x : ResolvedScope). x.address) v.4 in
              let far : is_foreign from ≡ true = ap is_foreign here ∙ visited_foreign (foreign_interfaces files) f.place v.0 v.2 in
              elim earlier [
                | inl u ↦ absurd (let wrong : true ≡ false = sym far ∙ ap is_foreign u.is in cc)
                | inr u ↦ (
                    let types : v.1.types ≡ i.types = ap (λ (x : ResolvedScope). x.types) (sym v.4) in
                    let has : IsSome (env_of i.types n.name.name.now) = subst (λ (t : Names). IsSome (env_of t n.name.name.now)) types (far_has from n f.place v.0 v.1 u v.2 v.3 here) in
                    asked_none n.name i has ∙ sym (ap (said_at n) (none_far files from far)))
              ])
          | inr h ↦ asked_same files from attributes n i (item_there n.name.name.now h.0 c h.2)
        ]

    module _ (is : Interfaces) (same_files : is.files ≡ files) (arena : is.arena ≡ prefix ++ own) (index : IsNameIndex InterfaceNamed (interfaces_at ss (prefix ++ own)) is.by_name) where
      -- one of this package has a place by its name
      pub near_has : (from : Address) (name : List ℕ) → IsResolvedUse files places order differ vs from → from ≡ InterfaceNamed name → IsSome (env_of is.by_name name)
      near_has from name u same =
          let v = u.item in
          let c = scope_at d.laid u.place v u.at in
          let there : slice_get (map resolved_scope own) u.place ≡ Some (resolved_scope_of c.0) = ap (λ (x : List ResolvedScope). slice_get x u.place) (sym d.laid.types) ∙ slice_get-map resolved_scope_of d.scopes u.place ∙ ap (option_map resolved_scope_of) c.1 in
          let place = length (resolved_scopes ss prefix) + u.place in
          let declared : address v ≡ InterfaceNamed (item_name v) = interface_address files is_items (are_interfaces files places order differ) u.place v (d.laid.prefix u.place v u.at) u.sort in
          let called : c.0.address ≡ InterfaceNamed name = ap (λ (x : Turned). x.address) c.2 ∙ declared ∙ sym u.is ∙ same in
          index.has place name (slice_get-map (λ (x : ResolvedScope). x.address) (resolved_scopes ss (prefix ++ own)) place ∙ ap (option_map (λ (x : ResolvedScope). x.address)) (ap (λ (x : List ResolvedScope). slice_get x place) (all_scopes_of own) ∙ at_back (resolved_scopes ss prefix) (map resolved_scope own) u.place (resolved_scope_of c.0) there) ∙ ap Some called)

      -- so the interface that a name comes from is resolved
      record IsResolved (from : BorrowedSource) : Type 0 where
        interface : Interface
        none : unresolved_fault is.by_name (source_target from) ≡ None
        at : option_and_then (slice_get is.arena) (source_place is.by_name from) ≡ Some interface

      resolved : (from : BorrowedSource) (n : UseName) → IsPlaced ss from → IsResolvedUse files places order differ vs (source_view from) ⊎ IsForeignUse files (source_view from) n → IsResolved from
      resolved (borrowed_source.Declared path) n placed (inl u) =
          let t = some_of (env_of is.by_name path.name.now) (near_has (InterfaceNamed path.name.now) path.name.now u refl) in
          let i = at_within is.arena t.0 (named_within (length (map visited (foreign_interfaces is.files))) is.arena is.by_name path.name.now t.0 is.found t.1) in
          record {
            interface = i.0;
            none = ap (λ (o : Option ℕ). if is_none o then Some (missing_at 7 item_word path) else None) t.1;
            at = ap (option_and_then (slice_get is.arena)) t.1 ∙ i.1;
          }
      resolved (borrowed_source.Declared path) n placed (inr u) = absurd (
          let far : is_foreign (visited u.v) ≡ true = visited_foreign (foreign_interfaces files) u.place (visited u.v) (slice_get-map visited (foreign_interfaces files) u.place ∙ ap (option_map visited) u.at) in
          let wrong : true ≡ false = sym far ∙ ap is_foreign u.is in
          cc)
      resolved (borrowed_source.Foreign place of name) n placed earlier =
          let within = slice_get_within ss place _ placed in
          let count = as_many in
          let i = at_within prefix place (omega arith) in
          record {
            interface = i.0;
            none = refl;
            at = ap (λ (l : List Interface). slice_get l place) arena ∙ at_prefix prefix own place i.0 i.1;
          }

      -- each used name
      walked : (u : UsedName) → IsPlaced ss u.from → IsResolvedUse files places order differ vs (source_view u.from) ⊎ IsForeignUse files (source_view u.from) u.name.now → used_fault is u ≡ use_fault files (use_view u)
      walked u placed earlier =
          let r = resolved u.from u.name.now placed earlier in
          let own_placed : IsPlaced (map visited (foreign_interfaces is.files)) u.from = subst (λ (fs : List PackageFile). IsPlaced (map visited (foreign_interfaces fs)) u.from) (sym same_files) placed in
          let found = found_of is u.from r.interface own_placed r.at in
          let scopes : resolved_scopes (map visited (foreign_interfaces is.files)) is.arena ≡ resolved_scopes ss (prefix ++ own) = ap (λ (fs : List PackageFile). resolved_scopes (map visited (foreign_interfaces fs)) is.arena) same_files ∙ ap (resolved_scopes ss) arena in
          let there : IsFound (resolved_scopes ss (prefix ++ own)) (source_view u.from) (resolved_scope_at (source_view u.from) r.interface) = subst (λ (cs : List ResolvedScope). IsFound cs (source_view u.from) (resolved_scope_at (source_view u.from) r.interface)) scopes found in
          used_from is u r.interface r.none r.at ∙ asked_walked (source_view u.from) u.attributes.now u.name.now r.interface there earlier

      pub uses_as_walked : (us : List UsedName) → ((k : ℕ) (u : UsedName) → slice_get us k ≡ Some u → IsPlaced ss u.from) → ((k : ℕ) (u : UsedName) → slice_get us k ≡ Some u → IsResolvedUse files places order differ vs (source_view u.from) ⊎ IsForeignUse files (source_view u.from) u.name.now) → AreAsWalked files is us
      uses_as_walked us placed earlier = record { each = λ k u at. walked u (placed k u at) (earlier k u at) }

-- items of which two tests say the same
pub in_same : {X : Type 0} (f g : X → Option Fault) (xs : List X) → ((k : ℕ) (x : X) → slice_get xs k ≡ Some x → f x ≡ g x) → first_in f xs ≡ first_in g xs
in_same f g [] same = refl
in_same f g (x ∷ xs) same = ap (λ (o : Option Fault). option_or o (first_in f xs)) (same 0 x refl) ∙ ap (option_or (g x)) (in_same f g xs (λ k y at. same (suc k) y at))

-- an include is a part of its item
include_part : (p : Part) (j : ℕ) (n : Include) → slice_get (part_includes p) j ≡ Some n → p ≡ IncludePart n
include_part (IncludePart m) zero n at = (let same : m ≡ n = cc in ap IncludePart same)
include_part (IncludePart m) (suc j) n at = absurd (cc)
include_part (DefinitionPart d) j n at = absurd (cc)
include_part (UsePart u) j n at = absurd (cc)
include_part (FunctionPart g) j n at = absurd (cc)
include_part (ExternPart x) j n at = absurd (cc)

module _ (files : List PackageFile) (places : List ℕ) (order : IsOrder (item_rows files) places) (differ : AllDiffer (map item_name (all_items files))) (es : List TypeDef) (prefix : List Interface) (wprefix : List World) (foreign : AddsForeign files es prefix wprefix) (k p : ℕ) (w : Item) (next : slice_get places k ≡ Some p) (at : slice_get (all_items files) p ≡ Some w) (sort : is_world w ≡ true) (first : List DoneScope) (mid : List TypeDef) (arena : List World) (inline : List Interface) (rs : List Required) (e : AreWorldsDone files (interfaces files places order differ) (worlds files places order differ) wprefix first (worlds_of (in_order (all_items files) (take k places))) mid arena inline rs) (by_name : Names) (index : IsNameIndex WorldNamed (worlds_at (map visited (foreign_worlds files)) arena) by_name) (listed : (t : ℕ) (x : Address) → slice_get (worlds_at (map visited (foreign_worlds files)) arena) t ≡ Some x → slice_get (world_list files (worlds files places order differ)) t ≡ Some x) where
  abbrev all : List Item
  all = all_items files

  abbrev others : List Address
  others = map visited (foreign_worlds files)

  abbrev own_worlds : List Item
  own_worlds = worlds files places order differ

  -- a world that comes before it has a place
  has_place : (t q : ℕ) (v : Item) (name : List ℕ) → t < k → slice_get places t ≡ Some q → slice_get all q ≡ Some v → is_world v ≡ true → name ≡ item_name v → IsSome (env_of by_name name)
  has_place t q v name before at_t at_q world same =
      let j = kept_early is_world all places k t q v before at_t at_q world in
      let there : slice_get (map (λ (y : World). WorldNamed y.name) e.own) j.0 ≡ Some (WorldNamed name) =
      ap (λ (l : List Address). slice_get l j.0) (laid_addresses e.laid) ∙ slice_get-map address (worlds_of (in_order all (take k places))) j.0 ∙ ap (option_map address) j.1 ∙ ap Some (world_address v world ∙ ap WorldNamed (sym same)) in
      let named = map (λ (y : World). WorldNamed y.name) e.own in
      let whole : worlds_at others arena ≡ others ++ named = ap (worlds_at others) e.arena ∙ worlds_at-append others wprefix e.own (worlds_count foreign ∙ sym (length-map (foreign_worlds files) visited)) in
      let place = length others + j.0 in
      index.has place name (ap (λ (l : List Address). slice_get l place) whole ∙ at_back others named j.0 (WorldNamed name) there)

  -- where no world is resolved an interface is
  lost_path : (path : UsePath) → Contains (include_paths w) path → (t : Target) → leads w.top path ≡ t → IsNoWorld files by_name t → is_world_at files t ≡ Some false
  lost_path path among (Local id) lead none =
      let b = needed_before files places order k p w path id next at (subst (λ (l : List UsePath). Contains l path) (sym (paths_of_world w sort)) among) lead in
      let v = b.2 in
      elim (cases_Bool (is_world v)) [
        | inl world ↦ absurd (let wrong : IsSome {T = ℕ} None = subst (λ (y : Option ℕ). IsSome y) none (has_place b.0 b.1 v id.name.now b.3 b.4 b.5 world b.6) in cc)
        | inr right ↦ ap (option_map is_world) (named_at files differ id.name.now b.1 v b.5 b.6) ∙ ap Some right
      ]
  lost_path path among (Foreign q id) lead none = none

  -- where one is resolved a world is
  present : (t : Target) (j : ℕ) → world_at files by_name t ≡ Some j → is_world_at files t ≡ Some true
  present (Local id) j has = elim (at_part others (map address own_worlds) j (WorldNamed id.name.now) (listed j (WorldNamed id.name.now) (index.present id.name.now j has))) [
    | inl h ↦ absurd (let wrong : false ≡ true = visited_foreign (foreign_worlds files) h.0 (WorldNamed id.name.now) h.1 in cc)
    | inr h ↦ (
        let v = map_at address own_worlds h.0 (WorldNamed id.name.now) h.1 in
        let world = (worlds_sort (in_order all places)).each h.0 v.0 v.1 in
        let same : WorldNamed (item_name v.0) ≡ WorldNamed id.name.now = sym (world_address v.0 world) ∙ v.2 in
        let called : item_name v.0 ≡ id.name.now = cc in
        ap (λ (name : List ℕ). option_map is_world (item_named all name)) (sym called) ∙ ap (option_map is_world) ((are_worlds files places order differ).found h.0 v.0 v.1) ∙ ap Some world)
  ]
  present (Foreign q id) j has = of_entry (foreign_at files (ForeignNamed q id.name.now)) refl has
    where
      of_entry : (o : Option ForeignVisit) → foreign_at files (ForeignNamed q id.name.now) ≡ o → world_entry (option_map (foreign_entry files) o) ≡ Some j → option_map (λ (v : ForeignVisit). v.wants_world) (foreign_at files (ForeignNamed q id.name.now)) ≡ Some true
      of_entry None found is = absurd (cc)
      of_entry (Some v) found is = elim (cases_Bool v.wants_world) [
        | inl world ↦ ap (option_map (λ (v : ForeignVisit). v.wants_world)) found ∙ ap Some world
        | inr other ↦ absurd (let wrong : None ≡ Some j = ap (λ (b : Bool). world_entry (Some (if b then entry.World (position_or_len (λ (y : ForeignVisit). same_item y v) (foreign_worlds files)) else entry.Interface (position_or_len (λ (y : ForeignVisit). same_item y v) (foreign_interfaces files))))) (sym other) ∙ is in cc)
      ]

  module _ (ws : Resolved) (same_files : ws.interfaces.files ≡ files) (same_names : ws.world_names ≡ by_name) (visits : (n : Include) (m : ℕ) → slice_get (parts w) m ≡ Some (IncludePart n) → (q : PackageName) (id : Id) → leads w.top n.from ≡ Foreign q id → (v : ForeignVisit) × (foreign_at files (ForeignNamed q id.name.now) ≡ Some v)) where
    included : (n : Include) (j : ℕ) → slice_get (includes w) j ≡ Some n → included_fault ws w.top n ≡ include_fault files w.top n
    included n j there =
        let part = flat_map_at part_includes (parts w) j n there in
        let own : slice_get (parts w) part.0 ≡ Some (IncludePart n) = part.2 ∙ ap Some (include_part part.1 part.3.0 n part.3.1) in
        let path = flat_map_has include_path (parts w) part.0 0 (IncludePart n) n.from own refl in
        let t = leads w.top n.from in
        let g = interface_there (path_id n.from) in
        let by : (o : Option ℕ) → world_at files by_name t ≡ o → (if is_none (world_at files by_name t) then Some g else None) ≡ interface_fault (is_world_at files t) (path_id n.from) = of_place n t (λ none. lost_path n.from (contains_at (include_paths w) path.0 n.from path.1) t refl (world_missing files by_name t (visits n part.0 own) none)) (present t) in
        ap (λ (fs : List PackageFile). option_or (stability_fault n.attributes.items) (if is_none (world_at fs ws.world_names t) then Some g else None)) same_files
        ∙ ap (λ (names : Names). option_or (stability_fault n.attributes.items) (if is_none (world_at files names t) then Some g else None)) same_names
        ∙ ap (option_or (stability_fault n.attributes.items)) (by (world_at files by_name t) refl)
      where
        of_place : (n : Include) (t : Target) → (world_at files by_name t ≡ None → is_world_at files t ≡ Some false) → ((i : ℕ) → world_at files by_name t ≡ Some i → is_world_at files t ≡ Some true) → (o : Option ℕ) → world_at files by_name t ≡ o → (if is_none (world_at files by_name t) then Some (interface_there (path_id n.from)) else None) ≡ interface_fault (is_world_at files t) (path_id n.from)
        of_place n t none some None is = ap (λ (o : Option ℕ). if is_none o then Some (interface_there (path_id n.from)) else None) is ∙ sym (ap (λ (o : Option Bool). interface_fault o (path_id n.from)) (none is))
        of_place n t none some (Some i) is = ap (λ (o : Option ℕ). if is_none o then Some (interface_there (path_id n.from)) else None) is ∙ sym (ap (λ (o : Option Bool). interface_fault o (path_id n.from)) (some i is))

    pub includes_walked : first_in (included_fault ws w.top) (includes w) ≡ first_in (include_fault files w.top) (includes w)
    includes_walked = in_same (included_fault ws w.top) (include_fault files w.top) (includes w) (λ j n there. included n j there)
