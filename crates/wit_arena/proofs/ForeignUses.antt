-- The names that items use from other packages, where each is first used.
use Rattle.std.proofs.Common.{◌≡◌, ℕ, Bool, true, List, [], ◌∷◌, ◌++◌, Some, Contains, inl, inr, refl, sym, ap, ◌∙◌, subst, append_assoc, ◌<◌, false, take, drop, Option, None, ◌⊎◌, arith}
use Rattle.wit_arena.proofs.Names.{Address, AllDiffer, AreDistinct, Collects, Def, Foreign, ForeignName, ForeignUse, ForeignVisit, Id, InterfaceNamed, Item, Key, Local, Occurrence, PackageFile, PackageName, ScopeName, Target, TopName, UseName, UsePart, all_items, and_from, and_parts, append-nil, at_contains, at_prefix, both_ways, bytes_eq, differ_at, differ_by, filter, first_foreign_uses, firsts, firsts-more, firsts_at, firsts_differ, firsts_has, flat_map, flat_map_at, flat_map_has, foreign_interfaces, foreign_use_occurrence, foreign_uses, is_foreign, item_foreign_uses, kept_at, kept_differ, kept_has, keys, leads, local_name, map, map-append, map_at, map_map, name_equal, name_itself, option_map, parts, path_scope, same_address, same_address-equal, same_address-from, same_foreign_use, slice_get, slice_get-map, target_scope, use_foreign_uses, use_of_foreign, used_names, uses, visited, Attribute, ForeignNamed, IsOrder, Row, UsePath, Used, all_scopes, at_within, contains_at, filter-append, find_at, find_passes, if◌then◌else◌, in_order, in_order-append, include_paths, inline_items, is_world, is_world_at, item_name, item_named, item_row, item_row_at, item_rows, local_target, named_found, needed-paths, needed_paths, place_of-Some, scope_names, slice_get_within, take-append-drop, target, use_paths, with_uses}
use Rattle.wit_syntax.proofs.Common.{Use, all_uses, all_uses_among, all_uses_has, foreign_uses-filtered}
use Rattle.wit_arena.proofs.Visits.{use_at, used_interface_visit, AreUsableUses, use_path_at}
use Rattle.wit_arena.proofs.OneKind.{same_some}
use Rattle.wit_arena.proofs.Itemizing.{used_part, length-item_rows}
use Rattle.wit_arena.proofs.Scoping.{row_before}

-- a name of a scope, as it occurs
abbrev pub foreign_use_key : ForeignUse → Key
foreign_use_key t = Def t.from t.id.name.now

pub use_of_foreign-from : (a b : ForeignUse) → foreign_use_key a ≡ foreign_use_key b → same_foreign_use a b ≡ true
use_of_foreign-from a b h = and_from (same_address a.from b.from) (bytes_eq a.id.name.now b.id.name.now) (same_address-from a.from b.from (cc)) (cc (name_itself b.id.name.now))

pub use_of_foreign-equal : (a b : ForeignUse) → same_foreign_use a b ≡ true → foreign_use_key a ≡ foreign_use_key b
use_of_foreign-equal a b h =
    let both = and_parts (same_address a.from b.from) (bytes_eq a.id.name.now b.id.name.now) h in
    ap (λ (s : Address). Def s a.id.name.now) (same_address-equal a.from b.from both.0) ∙ ap (Def b.from) (name_equal a.id.name.now b.id.name.now both.1)

pub keys-foreign_uses : (ts : List ForeignUse) → keys (map foreign_use_occurrence ts) ≡ map foreign_use_key ts
keys-foreign_uses ts = map_map (λ (m : Occurrence). m.key) foreign_use_occurrence ts

-- what occurs first is each name where it is first used
seen_firsts : (prefix ts : List ForeignUse) → Collects (map foreign_use_occurrence (firsts same_foreign_use prefix)) (map foreign_use_occurrence ts) (map foreign_use_occurrence (firsts same_foreign_use (prefix ++ ts)))
seen_firsts prefix [] = ap (λ l. map foreign_use_occurrence (firsts same_foreign_use l)) (append-nil prefix)
seen_firsts prefix (t ∷ ts) =
    let all : List Occurrence = map foreign_use_occurrence (firsts same_foreign_use (prefix ++ t ∷ ts)) in
    let rest : Collects (map foreign_use_occurrence (firsts same_foreign_use (prefix ++ t ∷ []))) (map foreign_use_occurrence ts) all = subst (λ l. Collects (map foreign_use_occurrence (firsts same_foreign_use (prefix ++ t ∷ []))) (map foreign_use_occurrence ts) (map foreign_use_occurrence (firsts same_foreign_use l))) (append_assoc prefix (t ∷ []) ts) (seen_firsts (prefix ++ t ∷ []) ts) in
    elim (firsts-more same_foreign_use prefix t) [
      | inl known ↦ (
          let y = firsts_has same_foreign_use foreign_use_key use_of_foreign-from use_of_foreign-equal prefix known.0.place known.0.y known.0.at in
          let same = y.3 ∙ use_of_foreign-equal known.0.y t known.0.is in
          let there : slice_get (keys (map foreign_use_occurrence (firsts same_foreign_use prefix))) y.0 ≡ Some (foreign_use_key t) = ap (λ l. slice_get l y.0) (keys-foreign_uses (firsts same_foreign_use prefix)) ∙ slice_get-map foreign_use_key (firsts same_foreign_use prefix) y.0 ∙ ap (option_map foreign_use_key) y.2 ∙ ap Some same in
          inl ((y.0, there), subst (λ l. Collects (map foreign_use_occurrence l) (map foreign_use_occurrence ts) all) known.1 rest))
      | inr fresh ↦ inr (
        λ was. (
            let y = map_at foreign_use_key (firsts same_foreign_use prefix) was.0 (foreign_use_key t) (ap (λ l. slice_get l was.0) (sym (keys-foreign_uses (firsts same_foreign_use prefix))) ∙ was.1) in
            let p = firsts_at same_foreign_use prefix was.0 y.0 y.1 in
            both_ways (same_foreign_use y.0 t) (fresh.0 p.0 y.0 p.1) (use_of_foreign-from y.0 t y.2)),
        subst (λ l. Collects l (map foreign_use_occurrence ts) all) (ap (map foreign_use_occurrence) fresh.1 ∙ map-append foreign_use_occurrence (firsts same_foreign_use prefix) (t ∷ [])) rest,
      )
    ]

pub foreign_uses_seen : (files : List PackageFile) → Collects [] (map foreign_use_occurrence (foreign_uses files)) (map foreign_use_occurrence (first_foreign_uses files))
foreign_uses_seen files = seen_firsts [] (foreign_uses files)

-- where a name is taken
pub record IsUsedAt (files : List PackageFile) (t : ForeignUse) : Type 0 where
  pub place : ℕ
  pub item : Item
  pub at : slice_get (all_items files) place ≡ Some item
  pub part : Use
  pub among : Contains (uses item) part
  pub name : UseName
  pub is : t ≡ use_of_foreign (path_scope item.top part.from) part.attributes.items name
  pub foreign : is_foreign t.from ≡ true

pub used_at : (files : List PackageFile) (k : ℕ) (t : ForeignUse) → slice_get (foreign_uses files) k ≡ Some t → IsUsedAt files t
used_at files k t at =
    let w = flat_map_at item_foreign_uses (all_items files) k t (ap (λ (l : List ForeignUse). slice_get l k) (sym (foreign_uses-filtered files)) ∙ at) in
    let kept = kept_at (λ (x : ForeignUse). is_foreign x.from) (flat_map (use_foreign_uses w.1.top) (all_uses w.1)) w.3.0 t w.3.1 in
    let u = flat_map_at (use_foreign_uses w.1.top) (all_uses w.1) kept.0 t kept.1 in
    let n = map_at (use_of_foreign (path_scope w.1.top u.1.from) u.1.attributes.items) u.1.names.items u.3.0 t u.3.1 in
    record { place = w.0; item = w.1; at = w.2; part = u.1; among = all_uses_among w.1 u.1 (contains_at (all_uses w.1) u.0 u.1 u.2); name = n.0; is = sym n.2; foreign = kept.2 }

-- what is used from another package is taken
pub foreign_use_has : (files : List PackageFile) (q : ℕ) (w : Item) (u : Use) (j : ℕ) (n : UseName) → slice_get (all_items files) q ≡ Some w → Contains (uses w) u → slice_get u.names.items j ≡ Some n → is_foreign (path_scope w.top u.from) ≡ true → (k : ℕ) × (slice_get (foreign_uses files) k ≡ Some (use_of_foreign (path_scope w.top u.from) u.attributes.items n))
foreign_use_has files q w u j n at among name foreign =
    let one = use_of_foreign (path_scope w.top u.from) u.attributes.items in
    let i = at_contains (all_uses w) u (all_uses_has w u among) in
    let inner = flat_map_has (use_foreign_uses w.top) (all_uses w) i.0 j u (one n) i.1 (slice_get-map one u.names.items j ∙ ap (option_map one) name) in
    let kept = kept_has (λ (y : ForeignUse). is_foreign y.from) (flat_map (use_foreign_uses w.top) (all_uses w)) inner.0 (one n) foreign inner.1 in
    let there = flat_map_has item_foreign_uses (all_items files) q kept.0 w (one n) at kept.1 in
    (there.0, ap (λ (l : List ForeignUse). slice_get l there.0) (foreign_uses-filtered files) ∙ there.1)

-- a scope of another package is used where a path leads there
pub foreign_target : (t : Target) → is_foreign (target_scope InterfaceNamed t) ≡ true → (p : PackageName) × (id : Id) × (t ≡ Foreign p id)
foreign_target (Local id) h = absurd (let f : ⊥ = cc in f)
foreign_target (Foreign p id) h = (p, id, refl)

-- where uses lead to interfaces, what is taken is taken from an interface
pub used_from : (files : List PackageFile) → AreUsableUses files (all_items files) → (k : ℕ) (t : ForeignUse) → slice_get (foreign_uses files) k ≡ Some t → (i : ℕ) × (v : ForeignVisit) × (slice_get (foreign_interfaces files) i ≡ Some v) × (visited v ≡ t.from)
used_from files usable k t at =
    let it = used_at files k t at in
    let from : t.from ≡ path_scope it.item.top it.part.from = ap (λ (x : ForeignUse). x.from) it.is in
    let to = foreign_target (leads it.item.top it.part.from) (sym (ap is_foreign from) ∙ it.foreign) in
    let v = used_interface_visit files usable it.place it.item it.part to.0 to.1 it.at it.among to.2 in
    (v.0, v.1, v.2, v.3 ∙ sym (from ∙ ap (target_scope InterfaceNamed) to.2))

module _ (files : List PackageFile) where
  pub foreign_uses_differ : AllDiffer (map foreign_use_key (first_foreign_uses files))
  foreign_uses_differ = firsts_differ same_foreign_use foreign_use_key use_of_foreign-from use_of_foreign-equal (foreign_uses files)

  module _ (s : Address) where
    abbrev test : ForeignUse → Bool
    test t = same_address t.from s

    -- a name that is taken from a scope is one of it
    pub in_use_has : (j : ℕ) (t : ForeignUse) → slice_get (first_foreign_uses files) j ≡ Some t → t.from ≡ s → (k : ℕ) × (slice_get (used_names files s) k ≡ Some (ForeignName t.attributes t.id))
    in_use_has j t at from =
        let k = kept_has test (first_foreign_uses files) j t (same_address-from t.from s from) at in
        (k.0, slice_get-map (λ (t : ForeignUse). ForeignName t.attributes t.id) (filter test (first_foreign_uses files)) k.0 ∙ ap (option_map (λ (t : ForeignUse). ForeignName t.attributes t.id)) k.1)

    -- and a name of it is taken
    pub used_name_at : (k : ℕ) (x : ScopeName) → slice_get (used_names files s) k ≡ Some x → (j : ℕ) × (t : ForeignUse) × (slice_get (first_foreign_uses files) j ≡ Some t) × (t.from ≡ s) × (x ≡ ForeignName t.attributes t.id)
    used_name_at k x at =
        let t = map_at (λ (t : ForeignUse). ForeignName t.attributes t.id) (filter test (first_foreign_uses files)) k x at in
        let it = kept_at test (first_foreign_uses files) k t.0 t.1 in
        (it.0, t.0, it.1, same_address-equal t.0.from s it.2, sym t.2)

    -- no two of them are one
    pub used_distinct : AreDistinct (used_names files s)
    used_distinct = differ_by local_name (used_names files s) (λ i j x y at_i at_j same. (
        let prefix = filter test (first_foreign_uses files) in
        let t = map_at (λ (t : ForeignUse). ForeignName t.attributes t.id) prefix i x at_i in
        let u = map_at (λ (t : ForeignUse). ForeignName t.attributes t.id) prefix j y at_j in
        let a = same_address-equal t.0.from s (kept_at test (first_foreign_uses files) i t.0 t.1).2 in
        let b = same_address-equal u.0.from s (kept_at test (first_foreign_uses files) j u.0 u.1).2 in
        let key : foreign_use_key t.0 ≡ foreign_use_key u.0 = cc (a, b, ap local_name t.2, same, ap local_name u.2) in
        differ_at foreign_use_key prefix (kept_differ foreign_use_key test (first_foreign_uses files) foreign_uses_differ) i j t.0 u.0 t.1 u.1 key))

-- Where the paths of items lead.
pub option_cases : {X : Type 0} (o : Option X) (R : Type 0) → ((x : X) → o ≡ Some x → R) → (o ≡ None → R) → R
option_cases None R some none = none refl
option_cases (Some x) R some none = some x refl

-- what a test keeps of those at the first places is in the prefix of what it keeps of all
pub kept_prefix : {X : Type 0} (test : X → Bool) (xs : List X) (places : List ℕ) (n i : ℕ) (x : X) → slice_get (filter test (in_order xs (take n places))) i ≡ Some x → slice_get (filter test (in_order xs places)) i ≡ Some x
kept_prefix test xs places n i x at =
    let prefix = in_order xs (take n places) in
    let back = in_order xs (drop n places) in
    let whole : filter test (in_order xs places) ≡ filter test prefix ++ filter test back = ap (λ ps. filter test (in_order xs ps)) (sym (take-append-drop n places)) ∙ ap (filter test) (in_order-append xs (take n places) (drop n places)) ∙ filter-append test prefix back in
    ap (λ l. slice_get l i) whole ∙ at_prefix (filter test prefix) (filter test back) i x at

-- an interface needs its uses, and a world its includes
pub paths_of_interface : (w : Item) → is_world w ≡ false → needed_paths w ≡ use_paths w
paths_of_interface w h = needed-paths w ∙ ap (λ (world : Bool). if world then include_paths w else use_paths w) h

pub paths_of_world : (w : Item) → is_world w ≡ true → needed_paths w ≡ include_paths w
paths_of_world w h = needed-paths w ∙ ap (λ (world : Bool). if world then include_paths w else use_paths w) h

module _ (files : List PackageFile) where
  abbrev pub all : List Item
  all = all_items files

  -- the row at the place of a name is that of an item of the name
  row_item : (id : Id) (b : ℕ) → target (item_rows files) id ≡ Some b → (v : Item) × (slice_get all b ≡ Some v) × (id.name.now ≡ item_name v)
  row_item id b found =
      let rs = item_rows files in
      let r = place_of-Some rs id.name.now b found in
      let lt = slice_get_within rs b r.0 r.1 in
      let v = at_within all b (omega (arith, length-item_rows files)) in
      let is = same_some (sym r.1 ∙ item_row_at files b v.0 v.1) in
      (v.0, v.1, r.2 ∙ (ap (λ (x : Row). x.name) is))

  -- what a path of an item that has to come before it leads to comes before it in the order
  pub needed_before : (places : List ℕ) → IsOrder (item_rows files) places → (k p : ℕ) (w : Item) (path : UsePath) (id : Id) → slice_get places k ≡ Some p → slice_get all p ≡ Some w → Contains (needed_paths w) path → leads w.top path ≡ Local id → (t : ℕ) × (q : ℕ) × (v : Item) × (t < k) × (slice_get places t ≡ Some q) × (slice_get all q ≡ Some v) × (id.name.now ≡ item_name v)
  needed_before places order k p w path id next at among lead =
      let i = at_contains (needed_paths w) path among in
      let j = flat_map_has (λ (x : UsePath). local_target (leads w.top x)) (needed_paths w) i.0 0 path id i.1 (ap (λ (t : Target). slice_get (local_target t) 0) lead) in
      let b = row_before (item_rows files) places order k p j.0 id next (item_row w, item_row_at files p w at, j.1) in
      let v = row_item id b.1 b.4 in
      (b.0, b.1, v.0, b.2, b.3, v.1, v.2)

  -- the item of a name is the one at a place that has it
  pub named_at : AllDiffer (map item_name all) → (name : List ℕ) (q : ℕ) (v : Item) → slice_get all q ≡ Some v → name ≡ item_name v → item_named all name ≡ Some v
  named_at differ name q v at same = ap (item_named all) same ∙ named_found all q v differ at

  -- a name is used from an interface of the package
  pub record IsOwnUse (from : Address) : Type 0 where
    pub place : ℕ
    pub item : Item
    pub at : slice_get all place ≡ Some item
    pub sort : is_world item ≡ false
    pub is : from ≡ InterfaceNamed (item_name item)

  -- and that interface comes before this place in an order
  pub record IsUseBefore (places : List ℕ) (k : ℕ) (from : Address) : Type 0 where
    pub own : IsOwnUse from
    pub index : ℕ
    pub before : index < k
    pub at : slice_get places index ≡ Some own.place

  -- a name is taken from an interface of another package
  pub record IsForeignUse (from : Address) (n : UseName) : Type 0 where
    pub place : ℕ
    pub v : ForeignVisit
    pub at : slice_get (foreign_interfaces files) place ≡ Some v
    pub is : visited v ≡ from
    pub attributes : List Attribute
    pub index : ℕ
    pub in_use : slice_get (foreign_uses files) index ≡ Some (use_of_foreign from attributes n)

  -- a scope is in an item, with its uses
  pub record IsScopeIn (i : Item) : Type 0 where
    pub place : ℕ
    pub item : Item
    pub at : slice_get all place ≡ Some item
    pub top : i.top ≡ item.top
    pub uses : (u : Use) → Contains (uses i) u → Contains (uses item) u

  pub scope_in : (i : Item) → Contains (all_scopes files) i → IsScopeIn i
  scope_in i here =
      let k = at_contains (all_scopes files) i here in
      let it = flat_map_at (λ (i : Item). i ∷ inline_items i) all k.0 i k.1 in
      let is = with_uses it.1 it.3.0 i it.3.1 in
      record { place = it.0; item = it.1; at = it.2; top = is.0; uses = is.1 }

  module _ (usable : AreUsableUses files all) where
    pub used_is_interface : (w v : Item) (u : Use) (id : Id) → Contains all w → Contains (uses w) u → leads w.top u.from ≡ Local id → item_named all id.name.now ≡ Some v → is_world v ≡ false
    used_is_interface w v u id here among lead found =
        same_some (sym (ap (option_map is_world) found) ∙ (sym (ap (is_world_at files) lead) ∙ usable.usable w u here among))

    -- what leads to another package is taken from it
    foreign_use : (q : ℕ) (w : Item) (u : Use) (j : ℕ) (n : UseName) (p : PackageName) (id : Id) → slice_get all q ≡ Some w → Contains (uses w) u → slice_get u.names.items j ≡ Some n → leads w.top u.from ≡ Foreign p id → IsForeignUse (path_scope w.top u.from) n
    foreign_use q w u j n p id at among name lead =
        let v = used_interface_visit files usable q w u p id at among lead in
        let from : path_scope w.top u.from ≡ ForeignNamed p id.name.now = ap (target_scope InterfaceNamed) lead in
        let t = foreign_use_has files q w u j n at among name (ap is_foreign from) in
        record { place = v.0; v = v.1; at = v.2; is = v.3 ∙ sym from; attributes = u.attributes.items; index = t.0; in_use = t.1 }

    -- a name that a scope uses comes from an interface of the package, or is taken from one of another
    pub used_interface : (i : Item) (from : Address) (attributes : List Attribute) (n : UseName) → Contains (all_scopes files) i → Contains (scope_names i) (Used from attributes n) → IsOwnUse from ⊎ IsForeignUse from n
    used_interface i from attributes n here among =
        let s = scope_in i here in
        let k = at_contains (scope_names i) (Used from attributes n) among in
        let it = used_part i.top (parts i) k.0 from attributes n k.1 in
        by_target s.place s.item it.1 it.3.0 s.at (s.uses it.1 (use_at i it.0 it.1 it.2)) it.3.1 (it.4 ∙ ap (λ (top : List TopName). path_scope top it.1.from) s.top) (leads s.item.top it.1.from) refl
      where
        by_target : (q : ℕ) (w : Item) (u : Use) (j : ℕ) → slice_get all q ≡ Some w → Contains (uses w) u → slice_get u.names.items j ≡ Some n → from ≡ path_scope w.top u.from → (t : Target) → leads w.top u.from ≡ t → IsOwnUse from ⊎ IsForeignUse from n
        by_target q w u j at used name is (Local id) lead =
            let own = contains_at all q w at in
            option_cases (item_named all id.name.now) (IsOwnUse from ⊎ IsForeignUse from n) (λ v found. (
            let p = find_at (λ (x : Item). bytes_eq (item_name x) id.name.now) all v found in
            let called = name_equal (item_name v) id.name.now (find_passes (λ (x : Item). bytes_eq (item_name x) id.name.now) all v found) in
            inl (record { place = p.0; item = v; at = p.1; sort = used_is_interface w v u id own used lead found; is = is ∙ ap (target_scope InterfaceNamed) lead ∙ ap InterfaceNamed (sym called) })))
            (λ none. cc (sym (ap (option_map is_world) none) ∙ (sym (ap (is_world_at files) lead) ∙ usable.usable w u own used)))
        by_target q w u j at used name is (Foreign p id) lead = inr (subst (λ (s : Address). IsForeignUse s n) (sym is) (foreign_use q w u j n p id at used name lead))

    -- what an interface of the package uses from comes before it in the order, or is of another package
    pub used_before : AllDiffer (map item_name all) → (places : List ℕ) → IsOrder (item_rows files) places → (k p : ℕ) (w : Item) (from : Address) (attributes : List Attribute) (n : UseName) → is_world w ≡ false → slice_get places k ≡ Some p → slice_get all p ≡ Some w → Contains (scope_names w) (Used from attributes n) → IsUseBefore places k from ⊎ IsForeignUse from n
    used_before differ places order k p w from attributes n sort next at among =
        let i = at_contains (scope_names w) (Used from attributes n) among in
        let it = used_part w.top (parts w) i.0 from attributes n i.1 in
        by_target it.0 it.1 it.3.0 it.2 it.3.1 it.4 (leads w.top it.1.from) refl
      where
        by_target : (m : ℕ) (u : Use) (j : ℕ) → slice_get (parts w) m ≡ Some (UsePart u) → slice_get u.names.items j ≡ Some n → from ≡ path_scope w.top u.from → (t : Target) → leads w.top u.from ≡ t → IsUseBefore places k from ⊎ IsForeignUse from n
        by_target m u j part name is (Local id) lead =
            let b = needed_before places order k p w u.from id next at (subst (λ (l : List UsePath). Contains l u.from) (sym (paths_of_interface w sort)) (use_path_at w m u part)) lead in
            let found = named_at differ id.name.now b.1 b.2 b.5 b.6 in
            let right = used_is_interface w b.2 u id (contains_at all p w at) (use_at w m u part) lead found in
            inl (record { own = record { place = b.1; item = b.2; at = b.5; sort = right; is = is ∙ ap (target_scope InterfaceNamed) lead ∙ ap InterfaceNamed b.6 }; index = b.0; before = b.3; at = b.4 })
        by_target m u j part name is (Foreign q id) lead = inr (subst (λ (s : Address). IsForeignUse s n) (sym is) (foreign_use p w u j n q id at (use_at w m u part) name lead))
