-- The arenas of other packages' items, with one item more, and with one name more.
use Rattle.std.proofs.Common.{◌≡◌, ℕ, ◌+◌, Bool, true, false, if◌then◌else◌, List, [], ◌∷◌, ◌++◌, length, Option, Some, None, inl, inr, nat_eq, refl, sym, ap, ◌∙◌, append_assoc, zero-add, Bor}
use Rattle.wit_items.proofs.Common.{Address, AllDiffer, AstItem, Attribute, Def, ForeignName, ForeignUse, ForeignVisit, HasTypes, Interface, Key, Names, PackageFile, Span, TypeDef, TypeOwner, UseName, World, append-nil, both_ways, cases_Bool, differ_at, filter, first_foreign_uses, firsts, firsts-more, firsts_at, firsts_has, flat_map, flat_map-append, foreign_interfaces, foreign_items, foreign_turned, foreign_use_key, foreign_use_occurrence, foreign_uses, insert_entry, keys, keys-foreign_uses, length-map, local_name, lookup, lookup-place, map, map-append, map_at, map_map, metadata, named, no_docs, option_copied, option_map, option_or, owner_at, place_at, place_at-found, pointwise, same_address, same_address-equal, same_address-from, same_foreign_use, slice_get, slice_get-map, slice_set, unwrap_or, use_of_foreign, use_of_foreign-equal, use_of_foreign-from, visited, visits_differ, GivesPlaces, foreign_interface}
use Rattle.std.specs.Prelude.{is_some}
use Rattle.wit_arena.proofs.PlacingFunctions.{types-places}
use Rattle.wit_types.specs.declared.types.TypeDefKind.TheVariants as kind
use Rattle.wit_types.specs.declared.types.TypeOwner.TheVariants as owner
use Rattle.wit_model.specs.declared.ast_item.AstItem.TheVariants as entry
use Rattle.wit_front.specs.declared.foreign.ForeignArenas.{ForeignArenas}
use Rattle.wit_front.specs.ForeignPrefix.{interface_with, with_types, bare_world, interfaces_among, worlds_among, addresses_among, entries_after, used_from, visited_interface, AreAdded, IsPrefix}
use Rattle.wit_front.proofs.Prefixes.{interfaces-more, interfaces-same, worlds-more, worlds-same, entries-more, in_use-more, names-used_from, used_from-at, used_from-has, insert_entry-last, slice_set-map, entries_after-among}

module _ (vs : List ForeignVisit) (v : ForeignVisit) (a a' : ForeignArenas) (before : AreAdded vs [] [] a) (spans : a'.spans.items ≡ a.spans.items) where
  -- one world more
  pub arenas-world : v.wants_world ≡ true → a'.interfaces ≡ a.interfaces → a'.worlds ≡ a.worlds ++ bare_world v.id.span ∷ [] → a'.entries.items ≡ a.entries.items ++ entry.World (length a.worlds) ∷ [] → AreAdded (vs ++ v ∷ []) [] [] a'
  arenas-world world interfaces worlds entries =
      let bare = λ (u : ForeignVisit). bare_world u.id.span in
      let is = interfaces-same vs v world in
      let count : length a.worlds ≡ 0 + length (worlds_among vs) = ap length before.worlds ∙ length-map (worlds_among vs) bare ∙ sym (zero-add (length (worlds_among vs))) in
      let last : entry.World (length a.worlds) ≡ (if v.wants_world then entry.World (0 + length (worlds_among vs)) else entry.Interface (0 + length (interfaces_among vs))) = rw world (ap entry.World count) in
      record {
        types = refl;
        interfaces = interfaces ∙ before.interfaces ∙ ap (map (visited_interface [])) (sym is);
        worlds = worlds ∙ ap (λ (l : List World). l ++ bare v ∷ []) before.worlds ∙ sym (map-append bare (worlds_among vs) (v ∷ [])) ∙ ap (map bare) (sym (worlds-more vs v world));
        entries = entries ∙ ap (λ (l : List AstItem). l ++ entry.World (length a.worlds) ∷ []) before.entries ∙ ap (λ (e : AstItem). entries_after 0 0 vs ++ e ∷ []) last ∙ sym (entries-more 0 0 vs v);
        spans = spans ∙ before.spans;
      }

  -- one interface more
  pub arenas-interface : v.wants_world ≡ false → a'.interfaces ≡ a.interfaces ++ interface_with v.id.span [] ∷ [] → a'.worlds ≡ a.worlds → a'.entries.items ≡ a.entries.items ++ entry.Interface (length a.interfaces) ∷ [] → AreAdded (vs ++ v ∷ []) [] [] a'
  arenas-interface world interfaces worlds entries =
      let is = interfaces-more vs v world in
      let count : length a.interfaces ≡ 0 + length (interfaces_among vs) = ap length before.interfaces ∙ length-map (interfaces_among vs) (visited_interface []) ∙ sym (zero-add (length (interfaces_among vs))) in
      let last : entry.Interface (length a.interfaces) ≡ (if v.wants_world then entry.World (0 + length (worlds_among vs)) else entry.Interface (0 + length (interfaces_among vs))) = rw world (ap entry.Interface count) in
      record {
        types = refl;
        interfaces = interfaces ∙ ap (λ (l : List Interface). l ++ visited_interface [] v ∷ []) before.interfaces ∙ sym (map-append (visited_interface []) (interfaces_among vs) (v ∷ [])) ∙ ap (map (visited_interface [])) (sym is);
        worlds = worlds ∙ before.worlds ∙ ap (map (λ (u : ForeignVisit). bare_world u.id.span)) (sym (worlds-same vs v world));
        entries = entries ∙ ap (λ (l : List AstItem). l ++ entry.Interface (length a.interfaces) ∷ []) before.entries ∙ ap (λ (e : AstItem). entries_after 0 0 vs ++ e ∷ []) last ∙ sym (entries-more 0 0 vs v);
        spans = spans ∙ before.spans;
      }

-- a name that was used before adds nothing
firsts-known : (ts : List ForeignUse) (t : ForeignUse) (j : ℕ) (u : ForeignUse) → slice_get (firsts same_foreign_use ts) j ≡ Some u → foreign_use_key u ≡ foreign_use_key t → firsts same_foreign_use (ts ++ t ∷ []) ≡ firsts same_foreign_use ts
firsts-known ts t j u at same = elim (firsts-more same_foreign_use ts t) [
  | inl known ↦ known.1
  | inr fresh ↦ absurd (let p = firsts_at same_foreign_use ts j u at in both_ways (same_foreign_use u t) (fresh.0 p.0 u p.1) (use_of_foreign-from u t same))
]

-- another one comes last
firsts-fresh : (ts : List ForeignUse) (t : ForeignUse) → ((j : ℕ) (u : ForeignUse) → slice_get (firsts same_foreign_use ts) j ≡ Some u → foreign_use_key u ≡ foreign_use_key t → ⊥) → firsts same_foreign_use (ts ++ t ∷ []) ≡ firsts same_foreign_use ts ++ t ∷ []
firsts-fresh ts t other = elim (firsts-more same_foreign_use ts t) [
  | inl known ↦ absurd (
      let y = firsts_has same_foreign_use foreign_use_key use_of_foreign-from use_of_foreign-equal ts known.0.place known.0.y known.0.at in
      other y.0 y.1 y.2 (y.3 ∙ use_of_foreign-equal known.0.y t known.0.is))
  | inr fresh ↦ fresh.1
]

-- what is there
some_of : (o : Option ℕ) → is_some o ≡ true → (x : ℕ) × (o ≡ Some x)
some_of None h = absurd (let f : ⊥ = cc in f)
some_of (Some x) h = (x, refl)

module _ (vs : List ForeignVisit) (ts : List ForeignUse) (s : Address) (attributes : List Attribute) (n : UseName) (id : ℕ) (i : Interface) (es : List TypeDef) (a : ForeignArenas) (place : slice_get (addresses_among vs) id ≡ Some s) (here : slice_get a.interfaces id ≡ Some i) (before : AreAdded vs ts es a) where
  abbrev xs : List ForeignVisit
  xs = interfaces_among vs

  abbrev fs : List ForeignUse
  fs = firsts same_foreign_use ts

  abbrev t : ForeignUse
  t = use_of_foreign s attributes n

  abbrev q : List ℕ
  q = n.name.name.now

  -- the visit whose interface is there
  visit : (v : ForeignVisit) × (slice_get xs id ≡ Some v) × (visited v ≡ s)
  visit = map_at visited xs id s place

  -- the interface is what was used from there
  is_after : i ≡ visited_interface fs visit.0
  is_after =
      let both : Some i ≡ Some (visited_interface fs visit.0) = sym here ∙ ap (λ (l : List Interface). slice_get l id) before.interfaces ∙ slice_get-map (visited_interface fs) xs id ∙ ap (option_map (visited_interface fs)) visit.1 in
      cc

  -- so are its types
  types_after : i.types ≡ used_from 0 (visited visit.0) fs
  types_after = ap (λ (x : Interface). x.types) is_after

  -- a name that the interface has
  pub in_use-known : is_some (lookup (pointwise nat_eq q) i.types) ≡ true → AreAdded vs (ts ++ t ∷ []) es a
  in_use-known has =
      let found = some_of (lookup (pointwise nat_eq q) i.types) has in
      let at = lookup-place i.types q found.0 found.1 in
      let it = used_from-at 0 (visited visit.0) fs at.0 q found.0 (sym (ap (λ (l : Names). slice_get l at.0) types_after) ∙ at.1) in
      let u = it.2 in
      let key : foreign_use_key u.t ≡ foreign_use_key t = ap (λ (x : Address). Def x u.t.id.name.now) (u.from ∙ visit.2) ∙ ap (Def s) u.name in
      let same : fs ≡ firsts same_foreign_use (ts ++ t ∷ []) = sym (firsts-known ts t it.0 u.t u.at key) in
      record {
        types = before.types ∙ ap (map (λ (t : ForeignUse). named (owner_at (addresses_among vs) (map visited (worlds_among vs)) t.from) t.id.name.now kind.Unknown (metadata no_docs t.attributes) t.id.span)) same;
        interfaces = before.interfaces ∙ ap (λ (l : List ForeignUse). map (visited_interface l) xs) same;
        worlds = before.worlds;
        entries = before.entries;
        spans = before.spans ∙ ap (map (λ (x : ForeignUse). x.id.span)) same;
      }

  module _ (apart : AllDiffer (addresses_among vs)) (none : lookup (pointwise nat_eq q) i.types ≡ None) where
    -- the name was not used from there
    missing : lookup (pointwise nat_eq q) (used_from 0 (visited visit.0) fs) ≡ None
    missing = sym (ap (lookup (pointwise nat_eq q)) types_after) ∙ none

    -- so it comes last
    fresh : firsts same_foreign_use (ts ++ t ∷ []) ≡ fs ++ t ∷ []
    fresh = firsts-fresh ts t (λ j u at same. (
        let from : u.from ≡ s = cc in
        let name : u.id.name.now ≡ q = cc in
        used_from-has 0 (visited visit.0) fs j u at (from ∙ sym visit.2) (ap (λ (x : List ℕ). lookup (pointwise nat_eq x) (used_from 0 (visited visit.0) fs)) name ∙ missing)))

    -- the package knows the interface by its place
    owner_is : owner_at (addresses_among vs) (map visited (worlds_among vs)) s ≡ owner.Interface id
    owner_is = ap (λ (o : Option ℕ). unwrap_or (option_or (option_map owner.Interface o) (option_map owner.World (place_at (map visited (worlds_among vs)) s))) owner.None) (place_at-found (addresses_among vs) s id apart place)

    -- there are as many types as names
    count : length es ≡ length fs
    count = ap length before.types ∙ length-map fs (λ (t : ForeignUse). named (owner_at (addresses_among vs) (map visited (worlds_among vs)) t.from) t.id.name.now kind.Unknown (metadata no_docs t.attributes) t.id.span)

    -- the interface with the name
    with_name : with_types i (insert_entry (pointwise nat_eq) i.types q (length es)) ≡ visited_interface (fs ++ t ∷ []) visit.0
    with_name =
        let v = visit.0 in
        let added : insert_entry (pointwise nat_eq) (used_from 0 (visited v) fs) q (length es) ≡ used_from 0 (visited v) fs ++ (q, length es) ∷ [] = insert_entry-last (used_from 0 (visited v) fs) q (length es) missing in
        let hit : same_address s (visited v) ≡ true = same_address-from s (visited v) (sym visit.2) in
        let extended : used_from 0 (visited v) (fs ++ t ∷ []) ≡ used_from 0 (visited v) fs ++ (q, 0 + length fs) ∷ [] = in_use-more 0 (visited v) fs t ∙ ap (λ (b : Bool). used_from 0 (visited v) fs ++ (if b then (q, 0 + length fs) ∷ [] else [])) hit in
        let names : insert_entry (pointwise nat_eq) (used_from 0 (visited v) fs) q (length es) ≡ used_from 0 (visited v) (fs ++ t ∷ []) = added ∙ ap (λ (k : ℕ). used_from 0 (visited v) fs ++ (q, k) ∷ []) (count ∙ sym (zero-add (length fs))) ∙ sym extended in
        ap (λ (x : Interface). with_types x (insert_entry (pointwise nat_eq) x.types q (length es))) is_after ∙ ap (interface_with v.id.span) names

    -- the others stay
    others : (j : ℕ) (y : ForeignVisit) → slice_get xs j ≡ Some y → (j ≡ id → ⊥) → visited_interface fs y ≡ visited_interface (fs ++ t ∷ []) y
    others j y at apart_from =
        let miss : same_address s (visited y) ≡ false = elim (cases_Bool (same_address s (visited y))) [
          | inl same ↦ absurd (apart_from (differ_at visited xs apart j id y visit.0 at visit.1 (sym (same_address-equal s (visited y) same) ∙ sym visit.2)))
          | inr other ↦ other
        ] in
        let extended : used_from 0 (visited y) (fs ++ t ∷ []) ≡ used_from 0 (visited y) fs = in_use-more 0 (visited y) fs t ∙ ap (λ (b : Bool). used_from 0 (visited y) fs ++ (if b then (q, 0 + length fs) ∷ [] else [])) miss ∙ append-nil (used_from 0 (visited y) fs) in
        ap (interface_with y.id.span) (sym extended)

    -- a name that the interface has not
    pub in_use-fresh : (es' : List TypeDef) (a' : ForeignArenas) → es' ≡ es ++ named (owner.Interface id) q kind.Unknown (metadata no_docs attributes) n.name.span ∷ [] → a'.interfaces ≡ slice_set a.interfaces id (with_types i (insert_entry (pointwise nat_eq) i.types q (length es))) → a'.worlds ≡ a.worlds → a'.entries.items ≡ a.entries.items → a'.spans.items ≡ a.spans.items ++ n.name.span ∷ [] → AreAdded vs (ts ++ t ∷ []) es' a'
    in_use-fresh es' a' types interfaces worlds entries spans = record {
      types = types ∙ ap (λ (l : List TypeDef). l ++ named (owner.Interface id) q kind.Unknown (metadata no_docs attributes) n.name.span ∷ []) before.types ∙ ap (λ (o : TypeOwner). map (λ (t : ForeignUse). named (owner_at (addresses_among vs) (map visited (worlds_among vs)) t.from) t.id.name.now kind.Unknown (metadata no_docs t.attributes) t.id.span) fs ++ named o q kind.Unknown (metadata no_docs attributes) n.name.span ∷ []) (sym owner_is) ∙ sym (map-append (λ (t : ForeignUse). named (owner_at (addresses_among vs) (map visited (worlds_among vs)) t.from) t.id.name.now kind.Unknown (metadata no_docs t.attributes) t.id.span) fs (t ∷ [])) ∙ ap (map (λ (t : ForeignUse). named (owner_at (addresses_among vs) (map visited (worlds_among vs)) t.from) t.id.name.now kind.Unknown (metadata no_docs t.attributes) t.id.span)) (sym fresh);
      interfaces = interfaces ∙ ap (λ (x : Interface). slice_set a.interfaces id x) with_name ∙ ap (λ (l : List Interface). slice_set l id (visited_interface (fs ++ t ∷ []) visit.0)) before.interfaces ∙ slice_set-map (visited_interface fs) (visited_interface (fs ++ t ∷ [])) xs id visit.0 visit.1 others ∙ ap (λ (l : List ForeignUse). map (visited_interface l) xs) (sym fresh);
      worlds = worlds ∙ before.worlds;
      entries = entries ∙ before.entries;
      spans = spans ∙ ap (λ (l : List Span). l ++ n.name.span ∷ []) before.spans ∙ sym (map-append (λ (x : ForeignUse). x.id.span) fs (t ∷ [])) ∙ ap (map (λ (x : ForeignUse). x.id.span)) (sym fresh);
    }

-- what is used after what was used, with one step more
pub foreign_uses-next : {X Y : Type 0} (f : Y → List ForeignUse) (g : X → Y) (ts : List ForeignUse) (xs : List X) (x : X) → ts ++ flat_map f (map g (xs ++ x ∷ [])) ≡ (ts ++ flat_map f (map g xs)) ++ f (g x)
foreign_uses-next {X} {Y} f g ts xs x =
    ap (λ (l : List Y). ts ++ flat_map f l) (map-append g xs (x ∷ []))
    ∙ ap (λ (l : List ForeignUse). ts ++ l) (flat_map-append f (map g xs) (g x ∷ []) ∙ ap (λ (l : List ForeignUse). flat_map f (map g xs) ++ l) (append-nil (f (g x))))
    ∙ sym (append_assoc ts (flat_map f (map g xs)) (f (g x)))

module _ (files : List PackageFile) (es : List TypeDef) (a : ForeignArenas) (done : AreAdded (foreign_items files) (foreign_uses files) es a) where
  abbrev all : List ForeignUse
  all = first_foreign_uses files

  -- the names of an interface of another package are those that are used from it
  has_types : (v : ForeignVisit) → HasTypes (keys (map foreign_use_occurrence all)) (foreign_turned files v) (used_from 0 (visited v) all)
  has_types v = record {
    names = names-used_from 0 (visited v) all ∙ sym (map_map local_name (λ (t : ForeignUse). ForeignName t.attributes t.id) (filter (λ t. same_address t.from (visited v)) all));
    places = λ k name id at. (
        let it = used_from-at 0 (visited v) all k name id at in
        let u = it.2 in
        let key : foreign_use_key u.t ≡ Def (visited v) name = ap (λ (x : Address). Def x u.t.id.name.now) u.from ∙ ap (Def (visited v)) u.name in
        ap (slice_get (keys (map foreign_use_occurrence all))) (it.1 ∙ zero-add it.0) ∙ ap (λ (l : List Key). slice_get l it.0) (keys-foreign_uses all) ∙ slice_get-map foreign_use_key all it.0 ∙ ap (option_map foreign_use_key) u.at ∙ ap Some key);
  }

  -- the interface of a visit
  visited_is : (id : Key → ℕ) → GivesPlaces id (keys (map foreign_use_occurrence all)) → (v : ForeignVisit) → visited_interface all v ≡ foreign_interface files id v
  visited_is id gives v = ap (interface_with v.id.span) (types-places id (keys (map foreign_use_occurrence all)) gives (foreign_turned files v) (used_from 0 (visited v) all) (has_types v))

  -- once all names were used, the prefix is made
  pub prefix_used : IsPrefix files es a
  prefix_used = record {
    adds = record {
      types = done.types;
      interfaces = λ id gives. done.interfaces ∙ (λ i. map (λ v. visited_is id gives v i) (foreign_interfaces files));
      worlds = done.worlds;
    };
    entries = done.entries ∙ entries_after-among (foreign_items files) (visits_differ files);
    spans = done.spans;
  }

-- what is of a reference is there where the reference is
pub is_some-copied : {X : Type 0} (o : Option (Bor X)) → is_some (option_copied o) ≡ is_some o
is_some-copied None = refl
is_some-copied (Some x) = refl

-- and is missing where the reference is
pub none_copied : {X : Type 0} (o : Option (Bor X)) → is_some o ≡ false → option_copied o ≡ None
none_copied None h = refl
none_copied (Some x) h = absurd (let f : ⊥ = cc in f)
