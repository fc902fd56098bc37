-- Where the paths lead by which a world imports and exports interfaces: to places in the arena.
use Rattle.std.proofs.Common.{List, Option, Some, [], ap, ap₂, arith, length, map, refl, suc, sym, take, zero, ℕ, ◌++◌, ◌+◌, ◌∙◌, ◌∷◌, ◌≡◌, ◌≤◌}
use Rattle.wit_items.proofs.Common.{Address, length-append, AreFound, AreIncludes, Fault, ForeignNamed, GivesPlaces, Include, InlineAt, Interface, InterfaceNamed, IsPlaced, Names, PackageFile, ResolvedScope, Source as BorrowedSource, Span, Stability, TheWorld, TopName, WorldInclude, WorldNamed, append-nil, first_in, flat_map, flat_map-append, found_resolved_scope, in-parts, include_in, interfaces_at, interfaces_differ, item_in, leads, length-map, map-append, option_map, package_of, part_includes, path_id, place_at-found, position-Some, prefix_of, renamed, resolved_scopes, same_address, same_address-equal, scope_place, slice_get, slice_get-get_or, slice_get-map, source_place, source_target, stability_of, take_next, target_scope, top_at, world_part}
use Rattle.wit_links.specs.Links.{interface_place, included_fault, includes_fault}
use Rattle.wit_syntax.proofs.Common.{World as Written, WorldItem}
use Rattle.wit_links.specs.declared.resolved.Resolved.{Resolved}
use Rattle.wit_scopes.specs.declared.scope_name.Source.TheVariants as borrowed_source
use Rattle.wit_tree.specs.declared.tree.WorldItem.TheVariants as world_item
use Rattle.wit_model.specs.declared.world.IncludeName.{IncludeName}

-- the place of an interface that is borrowed is that of its address
pub source_placed : (files : List PackageFile) (by_name : Names) (source : BorrowedSource) → IsPlaced (prefix_of files) source → interface_place (prefix_of files) by_name (target_scope InterfaceNamed (source_target source)) ≡ source_place by_name source
source_placed files by_name (borrowed_source.Declared id) placed = refl
source_placed files by_name (borrowed_source.Foreign p of name) placed = place_at-found (prefix_of files) (ForeignNamed (package_of of.now) name.name.now) p (interfaces_differ files) placed

-- the interfaces of other packages come first
at_prefix : (ss : List Address) (is : List Interface) (t : ℕ) (s : Address) → length ss ≤ length is → slice_get ss t ≡ Some s → slice_get (interfaces_at ss is) t ≡ Some s
at_prefix [] is t s enough at = absurd (let f : ⊥ = cc in f)
at_prefix (r ∷ ss) [] t s enough at = absurd (let f : ⊥ = omega arith in f)
at_prefix (r ∷ ss) (i ∷ is) zero s enough at = at
at_prefix (r ∷ ss) (i ∷ is) (suc t) s enough at = at_prefix ss is t s (omega arith) at

-- there are as many addresses as interfaces
pub addresses_count : (ss : List Address) (is : List Interface) → length ss ≤ length is → length (interfaces_at ss is) ≡ length is
addresses_count [] is enough = length-map (resolved_scopes [] is) (λ c. c.address) ∙ length-map is _
addresses_count (s ∷ ss) [] enough = absurd (let f : ⊥ = omega arith in f)
addresses_count (s ∷ ss) (i ∷ is) enough = ap suc (addresses_count ss is (omega arith))

-- the address at the place of an interface is its own
pub called_at : (prefix : List Address) (is : List Interface) (by_name : Names) (s : Address) (id : ℕ) → length prefix ≤ length is → AreFound (λ (i : Interface). i.name) (length prefix) is by_name → interface_place prefix by_name s ≡ Some id → slice_get (interfaces_at prefix is) id ≡ Some s
called_at prefix is by_name (InterfaceNamed name) id enough found at =
    let i = found_resolved_scope prefix is id name (found name id at).0 (found name id at).1 in
    slice_get-map (λ (d : ResolvedScope). d.address) (resolved_scopes prefix is) id ∙ ap (option_map (λ (d : ResolvedScope). d.address)) i.2
called_at prefix is by_name (WorldNamed name) id enough found at = absurd (let f : ⊥ = cc in f)
called_at prefix is by_name (InlineAt world side place) id enough found at = absurd (let f : ⊥ = cc in f)
called_at prefix is by_name (ForeignNamed p name) id enough found at =
    let s = ForeignNamed p name in
    let it = position-Some (λ (a : Address). same_address a s) prefix id s at in
    at_prefix prefix is id s enough (slice_get-get_or prefix id s it.0 ∙ ap Some (same_address-equal _ s it.1))

-- Includes of a world, one more.
-- the includes among parts of a world
abbrev pub included : List WorldItem → List Include
included items = flat_map part_includes (map world_part items)

-- these are the includes that are written, wherever the worlds have these places
abbrev pub AreIncluded : List Address → List TopName → List Include → List WorldInclude → Type 0
AreIncluded worlds top written is = (length is ≡ length written) × ((ws : List Address) → GivesPlaces (scope_place ws) worlds → is ≡ map (include_in ws top) written)

included-append : (items : List WorldItem) (x : WorldItem) → included (items ++ x ∷ []) ≡ included items ++ flat_map part_includes (world_part x ∷ [])
included-append items x = ap (flat_map part_includes) (map-append world_part items (x ∷ [])) ∙ flat_map-append part_includes (map world_part items) (world_part x ∷ [])

-- one part more, which is an include
pub included_next : (items : List WorldItem) (k : ℕ) (i : Include) → slice_get items k ≡ Some (world_item.Include i) → included (take (k + 1) items) ≡ included (take k items) ++ i ∷ []
included_next items k i at = ap included (take_next items k (world_item.Include i) at) ∙ included-append (take k items) (world_item.Include i)

-- or which is none
pub included_past : (items : List WorldItem) (k : ℕ) (x : WorldItem) → slice_get items k ≡ Some x → part_includes (world_part x) ≡ [] → included (take (k + 1) items) ≡ included (take k items)
included_past items k x at none = ap included (take_next items k x at) ∙ included-append (take k items) x ∙ ap (λ is. included (take k items) ++ (is ++ [])) none ∙ append-nil (included (take k items))

-- a part that is no include has none
pub no_include : (x : WorldItem) → ((i : Include) → x ≡ world_item.Include i → ⊥) → part_includes (world_part x) ≡ []
no_include (world_item.TypeDef d) other = refl
no_include (world_item.Extern x) other = refl
no_include (world_item.Use u) other = refl
no_include (world_item.Include i) other = absurd (other i refl)

abbrev include : Stability → ℕ → List IncludeName → Span → WorldInclude
include stability id names span = record { stability = stability; id = id; names = names; span = span }

-- an include is given by what it says, field by field
pub include_from : (ws : List Address) (top : List TopName) (n : Include) (i : WorldInclude) → i.stability ≡ stability_of n.attributes.items → scope_place ws (target_scope WorldNamed (leads top n.from)) ≡ i.id → i.names ≡ map renamed n.names.items → i.span ≡ (path_id n.from).span → i ≡ include_in ws top n
include_from ws top n i stability place names span = (let same : include i.stability i.id i.names i.span ≡ include_in ws top n = cc in same)

-- one include more
pub included_more : (worlds : List Address) (top : List TopName) (ns : List Include) (is : List WorldInclude) (n : Include) (i : WorldInclude) → AreIncluded worlds top ns is → ((ws : List Address) → GivesPlaces (scope_place ws) worlds → i ≡ include_in ws top n) → AreIncluded worlds top (ns ++ n ∷ []) (is ++ i ∷ [])
included_more worlds top ns is n i are one = (omega (arith, are.0, length-append is (i ∷ []), length-append ns (n ∷ [])), λ ws gives. ap₂ (λ (l : List WorldInclude) (x : WorldInclude). l ++ x ∷ []) (are.1 ws gives) (one ws gives) ∙ sym (map-append (include_in ws top) ns (n ∷ [])))

-- the includes of a world are those of its item
pub includes_are : (worlds : List Address) (top : List TopName) (w : Written) (is : List WorldInclude) → AreIncluded worlds top (included w.items.items) is → AreIncludes worlds (record { top = top; declared = TheWorld w }) is
includes_are worlds top w is are = are

-- The first fault of includes, by the parts of a world.
-- of a part of a world: the fault of the include that it may be
abbrev pub part_fault : Resolved → List TopName → WorldItem → Option Fault
part_fault ws top x = first_in (included_fault ws top) (part_includes (world_part x))

pub parts_fault : (ws : Resolved) (place : ℕ) (w : Written) → first_in (part_fault ws (top_at ws.interfaces.files place)) w.items.items ≡ includes_fault ws (item_in ws.interfaces.files place (TheWorld w))
parts_fault ws place w = sym (in-parts (included_fault ws (top_at ws.interfaces.files place)) part_includes world_part w.items.items)
