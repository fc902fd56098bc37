-- What other packages put before the arenas, as scopes that are done.
use Rattle.std.proofs.Common.{◌≡◌, ℕ, zero, suc, ◌+◌, false, List, [], ◌∷◌, ◌++◌, length, take, Option, Some, None, inl, inr, refl, sym, ap, ◌∙◌, subst, arith, Contains}
use Rattle.wit_arena.proofs.Names.{Address, AddsForeign, AllDiffer, AreFunctions, AreNames, Declared, Decls, Def, ForeignName, ForeignNamed, ForeignUse, ForeignVisit, Imported, Interface, IsOccurrence, IsSome, Item, Key, Occurrence, PackageFile, PackageName, ScopeName, TheInterface, TypeDef, TypeOwner, World, about, all_items, all_scopes, at_part, at_prefix, at_within, differ_join, differ_none, env_of, first_foreign_uses, firsts_at, foreign_interfaces, foreign_type, foreign_use_occurrence, foreign_uses, foreign_worlds, functions, interface_functions, item_at, keys, length-map, local_name, lookup-place, map, map-append, map_at, option_map, option_map_or, owner_at, package_of, resolved_scopes, same_address, same_foreign_use, scope, slice_get, slice_get-map, slice_get_within, some_of, used_names, visited, GivesPlaces, foreign_interface, foreign_world, metadata, no_docs, interface, IsEntryOf, contains_at, named, stability_of}
use Rattle.wit_types.specs.declared.types.TypeDefKind.TheVariants.{Unknown}
use Rattle.wit_arena.proofs.OneKind.{same_some}
use Rattle.wit_arena.proofs.UsePart.{lookup-listed}
use Rattle.wit_arena.proofs.FreeNames.{free_keyed}
use Rattle.wit_arena.proofs.Placing.{gives_in, place_in}
use Rattle.wit_arena.proofs.PlacingFunctions.{IsForeignInterface, one_mapped, types_present}
use Rattle.wit_arena.proofs.Resolving.{DoneScope, done_address, resolved_scope_of, AreDoneNames, IsDoneScope, IsNameOf, IsDone}
use Rattle.wit_arena.proofs.Interfaces.{interface_owner_at}
use Rattle.wit_arena.proofs.Visits.{visited_addresses, interface_apart, AreUsableUses}
use Rattle.wit_arena.proofs.ForeignUses.{foreign_use_key, keys-foreign_uses, foreign_uses_seen, foreign_uses_differ, used_from, in_use_has, used_name_at, used_distinct}
use Rattle.wit_types.specs.declared.types.TypeOwner.TheVariants as owner

-- the scope of an interface of another package at a place, with the types that it has in the arena
abbrev pub interface_scope : List PackageFile → ℕ → ForeignVisit → Interface → DoneScope
interface_scope files t v i = record { address = visited v; owner = owner.Interface t; names = scope files (visited v); types = i.types; functions = []; made = []; stated = interface_functions i; required = [] }

-- the scope of a world of another package, from which nothing is taken
abbrev pub world_scope : ℕ → ForeignVisit → DoneScope
world_scope t v = record { address = visited v; owner = owner.World t; names = []; types = []; functions = []; made = []; stated = []; required = [] }

-- the scopes of interfaces from a place on
abbrev pub interface_scopes : List PackageFile → ℕ → List ForeignVisit → List Interface → List DoneScope
interface_scopes files t (v ∷ vs) (i ∷ is) = interface_scope files t v i ∷ interface_scopes files (suc t) vs is
interface_scopes files t vs is = []

-- and those of worlds
abbrev pub world_scopes : ℕ → List ForeignVisit → List DoneScope
world_scopes t [] = []
world_scopes t (v ∷ vs) = world_scope t v ∷ world_scopes (suc t) vs

-- all scopes in front, where these are the interfaces there
abbrev pub prefix_scopes : List PackageFile → List Interface → List DoneScope
prefix_scopes files prefix = interface_scopes files 0 (foreign_interfaces files) prefix ++ world_scopes 0 (foreign_worlds files)

module _ (files : List PackageFile) where
  -- the scope of an interface at a place, and the interface of a scope
  interface_scope_from : (n : ℕ) (vs : List ForeignVisit) (is : List Interface) (t : ℕ) (v : ForeignVisit) (i : Interface) → slice_get vs t ≡ Some v → slice_get is t ≡ Some i → slice_get (interface_scopes files n vs is) t ≡ Some (interface_scope files (n + t) v i)
  interface_scope_from n (u ∷ vs) (j ∷ is) zero v i at there = search arith
  interface_scope_from n (u ∷ vs) (j ∷ is) (suc t) v i at there = search (arith, interface_scope_from (suc n) vs is t v i at there)
  interface_scope_from n vs is t v i at there = cc

  pub interface_scope_at : (vs : List ForeignVisit) (is : List Interface) (t : ℕ) (v : ForeignVisit) (i : Interface) → slice_get vs t ≡ Some v → slice_get is t ≡ Some i → slice_get (interface_scopes files 0 vs is) t ≡ Some (interface_scope files t v i)
  interface_scope_at vs is t v i at there = search (arith, interface_scope_from 0 vs is t v i at there)

  -- of as many interfaces, the addresses and the scopes as they are used
  pub map-interface_scopes : (n : ℕ) (vs : List ForeignVisit) (is : List Interface) → length is ≡ length vs → map done_address (interface_scopes files n vs is) ≡ map visited vs
  map-interface_scopes n (v ∷ vs) (i ∷ is) count = cc (map-interface_scopes (suc n) vs is (omega arith))
  map-interface_scopes n vs is count = grind arith

  pub resolved_scopes-interface_scopes : (n : ℕ) (vs : List ForeignVisit) (is : List Interface) → length is ≡ length vs → map resolved_scope_of (interface_scopes files n vs is) ≡ resolved_scopes (map visited vs) is
  resolved_scopes-interface_scopes n (v ∷ vs) (i ∷ is) count = cc (free_keyed Imported i.functions, resolved_scopes-interface_scopes (suc n) vs is (omega arith))
  resolved_scopes-interface_scopes n [] [] count = refl
  resolved_scopes-interface_scopes n vs is count = absurd (omega arith)

world_scope_from : (n : ℕ) (vs : List ForeignVisit) (t : ℕ) (v : ForeignVisit) → slice_get vs t ≡ Some v → slice_get (world_scopes n vs) t ≡ Some (world_scope (n + t) v)
world_scope_from n [] t v at = cc
world_scope_from n (u ∷ vs) zero v at = search arith
world_scope_from n (u ∷ vs) (suc t) v at = search (arith, world_scope_from (suc n) vs t v at)

pub map-world_scopes : (n : ℕ) (vs : List ForeignVisit) → map done_address (world_scopes n vs) ≡ map visited vs
map-world_scopes n [] = refl
map-world_scopes n (v ∷ vs) = ap (λ l. visited v ∷ l) (map-world_scopes (suc n) vs)

-- a scope in front is that of an interface or of a world
pub data IsPrefix (files : List PackageFile) (prefix : List Interface) (t : ℕ) (c : DoneScope) : Type 0 where
  PrefixInterface : (place : ℕ) (v : ForeignVisit) (i : Interface) → slice_get (foreign_interfaces files) place ≡ Some v → slice_get prefix place ≡ Some i → c ≡ interface_scope files place v i → IsPrefix files prefix t c
  PrefixWorld : (place : ℕ) (v : ForeignVisit) → slice_get (foreign_worlds files) place ≡ Some v → c ≡ world_scope place v → IsPrefix files prefix t c

pub prefix_at : (files : List PackageFile) (prefix : List Interface) → length prefix ≡ length (foreign_interfaces files) → (t : ℕ) (c : DoneScope) → slice_get (prefix_scopes files prefix) t ≡ Some c → IsPrefix files prefix t c
prefix_at files prefix count t c at = elim (at_part (interface_scopes files 0 (foreign_interfaces files) prefix) (world_scopes 0 (foreign_worlds files)) t c at) [
  | inl h ↦ (
      let lt = slice_get_within (interface_scopes files 0 (foreign_interfaces files) prefix) h.0 c h.1 in
      let long : length (interface_scopes files 0 (foreign_interfaces files) prefix) ≡ length (foreign_interfaces files) = sym (length-map (interface_scopes files 0 (foreign_interfaces files) prefix) done_address) ∙ ap length (map-interface_scopes files 0 (foreign_interfaces files) prefix count) ∙ length-map (foreign_interfaces files) visited in
      let v = at_within (foreign_interfaces files) h.0 (omega arith) in
      let i = at_within prefix h.0 (omega arith) in
      PrefixInterface h.0 v.0 i.0 v.1 i.1 (same_some (sym h.1 ∙ interface_scope_at files (foreign_interfaces files) prefix h.0 v.0 i.0 v.1 i.1)))
  | inr h ↦ (
      let lt = slice_get_within (world_scopes 0 (foreign_worlds files)) h.0 c h.1 in
      let long : length (world_scopes 0 (foreign_worlds files)) ≡ length (foreign_worlds files) = sym (length-map (world_scopes 0 (foreign_worlds files)) done_address) ∙ ap length (map-world_scopes 0 (foreign_worlds files)) ∙ length-map (foreign_worlds files) visited in
      let v = at_within (foreign_worlds files) h.0 (omega arith) in
      let is : slice_get (world_scopes 0 (foreign_worlds files)) h.0 ≡ Some (world_scope h.0 v.0) = search (arith, world_scope_from 0 (foreign_worlds files) h.0 v.0 v.1) in
      PrefixWorld h.0 v.0 v.1 (same_some (sym h.1 ∙ is)))
]

-- no declared item is of another package
not_declared : (d : Declared) (p : PackageName) (name : List ℕ) → same_address (about d).address (ForeignNamed p name) ≡ false
not_declared (TheInterface i) p name = refl
not_declared _ p name = refl

no_item : (is : List Item) (p : PackageName) (name : List ℕ) → item_at is (ForeignNamed p name) ≡ None
no_item [] p name = refl
no_item (i ∷ is) p name = rw (not_declared i.declared p name) (no_item is p name)

pub no_functions : (ks : List Key) (s : Address) → AreFunctions ks s [] []
no_functions ks s = λ id gives. refl

-- what is taken is named
used_named : (files : List PackageFile) (ts : List ForeignUse) (i : ℕ) (e : TypeDef) → slice_get (map (foreign_type files) ts) i ≡ Some e → e.name ≡ None → ⊥
used_named files ts i e there none =
    let t = map_at (foreign_type files) ts i e there in
    cc (ap (λ (x : TypeDef). x.name) t.2)

-- the scope of an interface in front has its names in turn
pub prefix_interface_done : (files : List PackageFile) (ks : List Key) (i : ℕ) (v : ForeignVisit) (x : Interface) → IsForeignInterface files ks v x → IsDoneScope files (interface_scope files i v x)
prefix_interface_done files ks i v x is = record {
  turn = record { distinct = used_distinct files (visited v); differ = used_distinct files (visited v); among = λ k y yat. (k, yat); has = λ k y yat. (k, yat) };
  listed = is.1.names;
  functions = sym (ap (λ (o : Option Item). option_map_or functions o []) (no_item (all_scopes files) (package_of v.of) v.id.name.now));
  stated = rw is.2 (record { has = λ k fn f at. absurd (let f : ⊥ = cc in f); from = λ place key f at. absurd (let f : ⊥ = cc in f) });
}

-- what occurs of other packages, each once
foreign_keys_differ : (files : List PackageFile) → AllDiffer (keys (map foreign_use_occurrence (first_foreign_uses files)))
foreign_keys_differ files = subst AllDiffer (sym (keys-foreign_uses (first_foreign_uses files))) (foreign_uses_differ files)

module _ {files : List PackageFile} {es : List TypeDef} {is : List Interface} {ws : List World} (adds : AddsForeign files es is ws) where
  abbrev of_uses : List Key
  of_uses = keys (map foreign_use_occurrence (first_foreign_uses files))

  -- there are as many in front as other packages have
  pub interfaces_count : length is ≡ length (foreign_interfaces files)
  interfaces_count = ap length (adds.interfaces (place_in of_uses 0) (gives_in of_uses 0 (foreign_keys_differ files))) ∙ length-map (foreign_interfaces files) (foreign_interface files (place_in of_uses 0))

  pub worlds_count : length ws ≡ length (foreign_worlds files)
  worlds_count = ap length adds.worlds ∙ length-map (foreign_worlds files) foreign_world

  -- each has the names that are used from it
  pub interface_in_front : (t : ℕ) (v : ForeignVisit) (i : Interface) → slice_get (foreign_interfaces files) t ≡ Some v → slice_get is t ≡ Some i → IsForeignInterface files of_uses v i
  interface_in_front t v i at there =
      let made : (id : Key → ℕ) → GivesPlaces id of_uses → i ≡ foreign_interface files id v = λ id gives. one_mapped (foreign_interface files id) (foreign_interfaces files) is (adds.interfaces id gives) t v i at there in
      let here = made (place_in of_uses 0) (gives_in of_uses 0 (foreign_keys_differ files)) in (
        subst (λ (j : Interface). j ≡ interface None j.types j.functions (metadata no_docs []) v.id.span) (sym here) refl,
        types_present of_uses (foreign_keys_differ files) (record { address = visited v; names = scope files (visited v); functions = [] }) i.types (λ id gives. ap (λ (j : Interface). j.types) (made id gives)),
        ap (λ (j : Interface). j.functions) here,
      )

-- where uses lead to interfaces, nothing is taken from a world
module _ (files : List PackageFile) (uses : AreUsableUses files (all_items files)) where
  -- what is first taken is taken from an interface
  first_from : (j : ℕ) (t : ForeignUse) → slice_get (first_foreign_uses files) j ≡ Some t → (i : ℕ) × (v : ForeignVisit) × (slice_get (foreign_interfaces files) i ≡ Some v) × (visited v ≡ t.from)
  first_from j t at = let k = firsts_at same_foreign_use (foreign_uses files) j t at in used_from files uses k.0 t k.1

  none_from_world : (i : ℕ) (w : ForeignVisit) → slice_get (foreign_worlds files) i ≡ Some w → (j : ℕ) (t : ForeignUse) → slice_get (first_foreign_uses files) j ≡ Some t → t.from ≡ visited w → ⊥
  none_from_world i w at j t there same = let v = first_from j t there in interface_apart files v.0 i v.1 w v.2 at (v.3 ∙ same)

  -- so the scope of a world in front has no name
  pub prefix_world_done : (i : ℕ) (w : ForeignVisit) → slice_get (foreign_worlds files) i ≡ Some w → IsDoneScope files (world_scope i w)
  prefix_world_done i w at = record {
    turn = record {
      distinct = used_distinct files (visited w);
      differ = differ_none;
      among = λ k y yat. absurd (let f : ⊥ = cc in f);
      has = λ k y yat. (let t = used_name_at files (visited w) k y yat in absurd (none_from_world i w at t.0 t.1 t.2 t.3));
    };
    listed = refl;
    functions = sym (ap (λ (o : Option Item). option_map_or functions o []) (no_item (all_scopes files) (package_of w.of) w.id.name.now));
    stated = record { has = λ k fn f at. absurd (let f : ⊥ = cc in f); from = λ place key f at. absurd (let f : ⊥ = cc in f) };
  }

-- What is taken occurs once, and its entries are those of the scopes that it is taken from; `decls` declares each of these scopes by the
-- owner that the prefix alone gives it.
module _ (files : List PackageFile) (uses : AreUsableUses files (all_items files)) (es : List TypeDef) (prefix : List Interface) (ws : List World) (adds : AddsForeign files es prefix ws) where
  abbrev visits : List ForeignVisit
  visits = foreign_interfaces files

  abbrev ts : List ForeignUse
  ts = first_foreign_uses files

  abbrev seen : List Occurrence
  seen = map foreign_use_occurrence ts

  abbrev pub prefix_owner : Address → TypeOwner
  prefix_owner s = owner_at (map visited visits) (map visited (foreign_worlds files)) s

  foreign_use_of : (j : ℕ) (k : Key) → slice_get (keys seen) j ≡ Some k → (t : ForeignUse) × (slice_get ts j ≡ Some t) × (foreign_use_key t ≡ k)
  foreign_use_of j k at = map_at foreign_use_key ts j k (ap (λ l. slice_get l j) (sym (keys-foreign_uses ts)) ∙ at)

  -- a name that is taken from an interface is among its types
  pub used_listed : (i : ℕ) (v : ForeignVisit) (x : Interface) → slice_get visits i ≡ Some v → slice_get prefix i ≡ Some x → (j : ℕ) (t : ForeignUse) → slice_get ts j ≡ Some t → t.from ≡ visited v → IsSome (env_of x.types t.id.name.now)
  used_listed i v x at there j t in_use from =
      let k = in_use_has files (visited v) j t in_use from in
      lookup-listed x.types k.0 t.id.name.now (ap (λ l. slice_get l k.0) (interface_in_front adds i v x at there).1.names ∙ slice_get-map local_name (used_names files (visited v)) k.0 ∙ ap (option_map local_name) k.1)

  -- the names of an interface in front mean their places
  interface_present : (i : ℕ) (v : ForeignVisit) (x : Interface) → slice_get visits i ≡ Some v → slice_get prefix i ≡ Some x → AreNames (keys seen) (visited v) (env_of x.types)
  interface_present i v x at there = record {
    present = λ name id found. (let k = lookup-place x.types name id found in (interface_in_front adds i v x at there).1.places k.0 name id k.1);
    has = λ j name key. (
        let t = foreign_use_of j (Def (visited v) name) key in
        let from : t.0.from ≡ visited v = (let same = t.2 in cc) in
        let called : t.0.id.name.now ≡ name = (let same = t.2 in cc) in
        some_of (env_of x.types name) (subst (λ n. IsSome (env_of x.types n)) called (used_listed i v x at there j t.0 t.1 from)));
  }

  world_present : (i : ℕ) (w : ForeignVisit) → slice_get (foreign_worlds files) i ≡ Some w → AreNames (keys seen) (visited w) (env_of [])
  world_present i w at = record {
    present = λ name id found. absurd (let f : ⊥ = cc in f);
    has = λ j name key. (
        let t = foreign_use_of j (Def (visited w) name) key in
        let from : t.0.from ≡ visited w = (let same = t.2 in cc) in
        absurd (none_from_world files uses i w at j t.0 t.1 from));
  }

  prefix_differ : AllDiffer (map done_address (prefix_scopes files prefix))
  prefix_differ = subst AllDiffer (sym (map-append done_address (interface_scopes files 0 visits prefix) (world_scopes 0 (foreign_worlds files)) ∙ ap (λ l. l ++ map done_address (world_scopes 0 (foreign_worlds files))) (map-interface_scopes files 0 visits prefix (interfaces_count adds)) ∙ ap (λ l. map visited visits ++ l) (map-world_scopes 0 (foreign_worlds files)))) (differ_join (map visited visits) (map visited (foreign_worlds files)) (visited_addresses files).interfaces (visited_addresses files).worlds (visited_addresses files).apart)

  module _ (decls : Decls) (interfaces_own : (i : ℕ) (v : ForeignVisit) → slice_get visits i ≡ Some v → decls (visited v) ≡ (scope files (visited v), (owner.Interface i))) (worlds_own : (i : ℕ) (w : ForeignVisit) → slice_get (foreign_worlds files) i ≡ Some w → decls (visited w) ≡ (scope files (visited w), (owner.World i))) where
    -- a name that is taken is one of its scope, of its owner
    used_owned : (j : ℕ) (t : ForeignUse) → slice_get ts j ≡ Some t → Contains (decls t.from).0 (ForeignName t.attributes t.id) × (prefix_owner t.from ≡ (decls t.from).1)
    used_owned j t at =
        let s = t.from in
        let v = first_from files uses j t at in
        let o = owner.Interface v.0 in
        let k = in_use_has files s j t at refl in
        let names : scope files s ≡ used_names files s = ap (scope files) (sym v.3) ∙ ap (used_names files) v.3 in
        let declared : decls s ≡ (scope files s, o) = subst (λ z. decls z ≡ (scope files z, o)) v.3 (interfaces_own v.0 v.1 v.2) in
        let whose : prefix_owner s ≡ o = ap prefix_owner (sym v.3) ∙ interface_owner_at (map visited visits) (map visited (foreign_worlds files)) (visited_addresses files) v.0 (visited v.1) (slice_get-map visited visits v.0 ∙ ap (option_map visited) v.2) in
        (contains_at (decls s).0 k.0 (ForeignName t.attributes t.id) (ap (λ (d : List ScopeName × TypeOwner). slice_get d.0 k.0) declared ∙ ap (λ l. slice_get l k.0) names ∙ k.1), whose ∙ sym (ap (λ (d : List ScopeName × TypeOwner). d.1) declared))

    used_entry : (fs : List TypeDef) (id : Key → ℕ) (j : ℕ) (t : ForeignUse) → slice_get ts j ≡ Some t → IsEntryOf (λ s. (decls s).0) (λ s. (decls s).1) id fs (Def t.from t.id.name.now) t.id.span (stability_of t.attributes) (foreign_type files t)
    used_entry fs id j t at = (ForeignName t.attributes t.id, Unknown, (used_owned j t at).0, refl, refl, ap (λ (o : TypeOwner). named o t.id.name.now Unknown (metadata no_docs t.attributes) t.id.span) (used_owned j t at).1)

    used_occurrence : IsOccurrence decls seen es
    used_occurrence = record {
      count = ap length adds.types ∙ length-map ts (foreign_type files) ∙ sym (length-map ts foreign_use_occurrence);
      once = foreign_keys_differ files;
      named = λ j m s name at key. (
          let t = map_at foreign_use_occurrence ts j m at in
          let same : Def t.0.from t.0.id.name.now ≡ Def s name = ap (λ (m : Occurrence). m.key) t.2 ∙ key in
          let from : t.0.from ≡ s = cc in
          let called : t.0.id.name.now ≡ name = cc in
          (ForeignName t.0.attributes t.0.id, subst (λ z. Contains (decls z).0 (ForeignName t.0.attributes t.0.id)) from (used_owned j t.0 t.1).0, called, ap (λ (m : Occurrence). m.span) (sym t.2)));
      each = λ j m e at there id gives. (
          let t = map_at foreign_use_occurrence ts j m at in
          let u = map_at (foreign_type files) ts j e (ap (λ l. slice_get l j) (sym adds.types) ∙ there) in
          rw (← t.2, ← u.2, ← same_some (sym t.1 ∙ u.1)) (used_entry (take j es) id j t.0 t.1));
    }

    -- a name that occurred is one of its scope
    used_before : (j : ℕ) (s : Address) (name : List ℕ) → slice_get (keys seen) j ≡ Some (Def s name) → IsNameOf (prefix_scopes files prefix) s name
    used_before j s name key =
        let t = foreign_use_of j (Def s name) key in
        let from : t.0.from ≡ s = (let same = t.2 in cc) in
        let called : t.0.id.name.now ≡ name = (let same = t.2 in cc) in
        let v = first_from files uses j t.0 t.1 in
        let lt = slice_get_within visits v.0 v.1 v.2 in
        let count = interfaces_count adds in
        let x = at_within prefix v.0 (omega arith) in
        let k = in_use_has files (visited v.1) j t.0 t.1 (sym v.3) in
        record {
          place = v.0;
          resolved_scope = interface_scope files v.0 v.1 x.0;
          at = at_prefix (interface_scopes files 0 visits prefix) (world_scopes 0 (foreign_worlds files)) v.0 (interface_scope files v.0 v.1 x.0) (interface_scope_at files visits prefix v.0 v.1 x.0 v.2 x.1);
          scope = v.3 ∙ from;
          index = k.0;
          x = ForeignName t.0.attributes t.0.id;
          among = k.1;
          called = called;
        }

    -- what is so of each scope in front
    each_prefix : (t : ℕ) (c : DoneScope) → slice_get (prefix_scopes files prefix) t ≡ Some c → AreDoneNames files c × (decls c.address ≡ (scope files c.address, c.owner)) × AreNames (keys seen) c.address (env_of c.types)
    each_prefix t c at = elim (prefix_at files prefix (interfaces_count adds) t c at) [
      | PrefixInterface i v x v_at x_at is ↦ (let h = prefix_interface_done files (keys seen) i v x (interface_in_front adds i v x v_at x_at) in rw is (record { turn = h.turn; listed = h.listed }, interfaces_own i v v_at, interface_present i v x v_at x_at))
      | PrefixWorld i w w_at is ↦ (let h = prefix_world_done files uses i w w_at in rw is (record { turn = h.turn; listed = h.listed }, worlds_own i w w_at, world_present i w w_at))
    ]

    pub prefix_done : IsDone files decls (map foreign_use_occurrence (foreign_uses files)) (prefix_scopes files prefix) es
    prefix_done = record {
      seen = seen;
      collects = foreign_uses_seen files;
      occurrence = used_occurrence;
      each = λ t c at. (each_prefix t c at).0;
      own = λ t c at. (each_prefix t c at).1;
      are_present = λ t c at. (each_prefix t c at).2;
      before = used_before;
      unique = prefix_differ;
    }
