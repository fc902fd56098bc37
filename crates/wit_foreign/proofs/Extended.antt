-- The table of the items of visits, with a visit more.
use Rattle.std.proofs.Common.{◌≡◌, ℕ, Bool, true, false, cond, not, ◌&&◌, List, [], ◌∷◌, ◌++◌, Option, Some, None, length, map, nat_eq, if◌then◌else◌, refl, sym, ap, ◌∙◌}
use Rattle.wit_syntax.proofs.Common.{ForeignVisit, PackageName, Stability, and_parts, append-nil, bytes_eq, filter, filter-append, is_some, list_any, lookup, map-append, name_equal, name_itself, package_of, pointwise, same_address, same_item, same_package, same_package-equal, same_package-itself, unwrap_or, visited, position_or_len}
use Rattle.wit_model.specs.declared.ast_item.AstItem.{AstItem}
use Rattle.wit_model.specs.declared.ast_item.AstItem.TheVariants as entry
use Rattle.wit_foreign.specs.Kept.{Visited, Items, item_more, row_more, table_more, items_of, interfaces_in, worlds_in, packages_of, entry_in, visit_stability, item_in, row_in, table_in}
use Rattle.wit_foreign.proofs.Same.{same_package-flip, name-flip}
use Rattle.wit_foreign.proofs.Firsts.{firsts-more, Each, each_map, each_both, each_filter, each_firsts, each_passed, each_lost, filter_lost, map_each, Apart, apart_filter, apart_firsts, each_found, prefix_len-found, prefix_len-next, any-firsts, any-filter}
use Rattle.wit_foreign.proofs.Upserts.{upsert-map, is_some-lookup-map, lookup-as_stated}

abbrev name_of : ForeignVisit → List ℕ
name_of v = v.id.name.now

-- whether visits have the item, and the package, of one more
abbrev pub is_known : List ForeignVisit → ForeignVisit → Bool
is_known vs x = list_any (λ y. same_item y x) vs

abbrev pub is_named : List ForeignVisit → ForeignVisit → Bool
is_named vs x = list_any (λ y. same_package (package_of y.of) (package_of x.of)) vs

abbrev more : List ForeignVisit → ForeignVisit → List ForeignVisit
more vs x = vs ++ x ∷ []

abbrev new_one : Bool → ForeignVisit → List ForeignVisit
new_one known x = cond known [] (x ∷ [])

item_itself : (v : ForeignVisit) → same_item v v ≡ true
item_itself v = ap (λ b. b && bytes_eq (name_of v) (name_of v)) (same_package-itself (package_of v.of)) ∙ name_itself (name_of v)

pub items_of-more : (vs : List ForeignVisit) (x : ForeignVisit) → items_of (more vs x) ≡ items_of vs ++ new_one (is_known vs x) x
items_of-more vs x = firsts-more same_item vs x

-- the items of a kind, with a visit more
kind-more : (t : ForeignVisit → Bool) (vs : List ForeignVisit) (x : ForeignVisit) → filter t (items_of (more vs x)) ≡ filter t (items_of vs) ++ filter t (new_one (is_known vs x) x)
kind-more t vs x = ap (filter t) (items_of-more vs x) ∙ filter-append t (items_of vs) (new_one (is_known vs x) x)

-- the place of an item that is there stays
place_stays : (t : ForeignVisit → Bool) (vs : List ForeignVisit) (x u : ForeignVisit) → list_any (λ w. same_item w u) (filter t (items_of vs)) ≡ true → position_or_len (λ (y : ForeignVisit). same_item y u) (filter t (items_of (more vs x))) ≡ position_or_len (λ (y : ForeignVisit). same_item y u) (filter t (items_of vs))
place_stays t vs x u found = ap (λ l. position_or_len (λ (y : ForeignVisit). same_item y u) l) (kind-more t vs x) ∙ prefix_len-found (λ w. same_item w u) (filter t (items_of vs)) (filter t (new_one (is_known vs x) x)) found

abbrev no_world : ForeignVisit → Bool
no_world v = not v.wants_world

entry_stays : (vs : List ForeignVisit) (x u : ForeignVisit) → (u.wants_world ≡ true → list_any (λ w. same_item w u) (worlds_in vs) ≡ true) → (no_world u ≡ true → list_any (λ w. same_item w u) (interfaces_in vs) ≡ true) → entry_in (more vs x) u ≡ entry_in vs u
entry_stays vs x u world interface = go u.wants_world refl
  where
    go : (b : Bool) → u.wants_world ≡ b → entry_in (more vs x) u ≡ entry_in vs u
    go true e = ap (λ b. if b then entry.World (position_or_len (λ (y : ForeignVisit). same_item y u) (worlds_in (more vs x))) else entry.Interface (position_or_len (λ (y : ForeignVisit). same_item y u) (interfaces_in (more vs x)))) e ∙ (ap entry.World (place_stays (λ (v : ForeignVisit). v.wants_world) vs x u (world e)) ∙ sym (ap (λ b. if b then entry.World (position_or_len (λ (y : ForeignVisit). same_item y u) (worlds_in vs)) else entry.Interface (position_or_len (λ (y : ForeignVisit). same_item y u) (interfaces_in vs))) e))
    go false e = ap (λ b. if b then entry.World (position_or_len (λ (y : ForeignVisit). same_item y u) (worlds_in (more vs x))) else entry.Interface (position_or_len (λ (y : ForeignVisit). same_item y u) (interfaces_in (more vs x)))) e ∙ (ap entry.Interface (place_stays no_world vs x u (interface (ap not e))) ∙ sym (ap (λ b. if b then entry.World (position_or_len (λ (y : ForeignVisit). same_item y u) (worlds_in vs)) else entry.Interface (position_or_len (λ (y : ForeignVisit). same_item y u) (interfaces_in vs))) e))

entries_stay : (vs : List ForeignVisit) (x : ForeignVisit) → Each (λ u. entry_in (more vs x) u ≡ entry_in vs u) (items_of vs)
entries_stay vs x = each_map (λ u. (u.wants_world ≡ true → list_any (λ w. same_item w u) (worlds_in vs) ≡ true) × (no_world u ≡ true → list_any (λ w. same_item w u) (interfaces_in vs) ≡ true)) (λ u. entry_in (more vs x) u ≡ entry_in vs u) (items_of vs) (λ u h. entry_stays vs x u h.0 h.1) (each_both (λ u. u.wants_world ≡ true → list_any (λ w. same_item w u) (worlds_in vs) ≡ true) (λ u. no_world u ≡ true → list_any (λ w. same_item w u) (interfaces_in vs) ≡ true) (items_of vs) (each_found same_item item_itself (λ (v : ForeignVisit). v.wants_world) (items_of vs)) (each_found same_item item_itself no_world (items_of vs)))

-- the stability of each visit of an item
abbrev stabilities : List ForeignVisit → ForeignVisit → List Stability
stabilities vs u = map visit_stability (filter (λ v. same_address (visited v) (visited u)) vs)

stabilities-more : (vs : List ForeignVisit) (x u : ForeignVisit) → stabilities (more vs x) u ≡ stabilities vs u ++ cond (same_item x u) (visit_stability x ∷ []) []
stabilities-more vs x u =
    let t : ForeignVisit → Bool = λ v. same_address (visited v) (visited u) in
    ap (map visit_stability) (filter-append t vs (x ∷ [])) ∙ (map-append visit_stability (filter t vs) (filter t (x ∷ [])) ∙ ap (λ l. stabilities vs u ++ l) (one (t x)))
  where
    one : (b : Bool) → map visit_stability (cond b (x ∷ []) []) ≡ cond b (visit_stability x ∷ []) []
    one true = refl
    one false = refl

-- an item that is there gets one more stability if the visit is of it
item_in-more : (vs : List ForeignVisit) (x u : ForeignVisit) (e : AstItem) → entry_in (more vs x) u ≡ entry_in vs u → item_in (more vs x) u ≡ cond (same_item x u) (item_more (Some (item_in vs u)) e (visit_stability x)) (item_in vs u)
item_in-more vs x u e stays =
    let said = stabilities-more vs x u in
    let both : item_in (more vs x) u ≡ (entry_in vs u, stabilities vs u ++ cond (same_item x u) (visit_stability x ∷ []) []) = λ i. (stays i, said i) in
    both ∙ go (same_item x u)
  where
    go : (b : Bool) → (entry_in vs u, stabilities vs u ++ cond b (visit_stability x ∷ []) []) ≡ cond b (item_more (Some (item_in vs u)) e (visit_stability x)) (item_in vs u)
    go true = refl
    go false = ap (λ l. (entry_in vs u, l)) (append-nil (stabilities vs u))

lost : (vs : List ForeignVisit) (x : ForeignVisit) → is_known vs x ≡ false → Each (λ y. same_item y x ≡ false) vs
lost vs x new = each_lost (λ y. same_item y x) vs new

-- a new item comes after those of its kind
place_new : (t : ForeignVisit → Bool) (vs : List ForeignVisit) (x : ForeignVisit) → t x ≡ true → is_known vs x ≡ false → position_or_len (λ (y : ForeignVisit). same_item y x) (filter t (items_of (more vs x))) ≡ length (filter t (items_of vs))
place_new t vs x is new =
    let one : filter t (new_one (is_known vs x) x) ≡ x ∷ [] = ap (λ b. filter t (new_one b x)) new ∙ ap (λ b. cond b (x ∷ []) []) is in
    let far : Each (λ y. same_item y x ≡ false) (filter t (items_of vs)) = each_filter (λ y. same_item y x ≡ false) t (items_of vs) (each_firsts (λ y. same_item y x ≡ false) same_item vs (lost vs x new)) in
    ap (λ l. position_or_len (λ (y : ForeignVisit). same_item y x) l) (kind-more t vs x ∙ ap (λ l. filter t (items_of vs) ++ l) one) ∙ prefix_len-next (λ w. same_item w x) (filter t (items_of vs)) x far (item_itself x)

-- the entry that the item of a visit gets if it is new
abbrev pub entry_next : List ForeignVisit → ForeignVisit → AstItem
entry_next vs v = if v.wants_world then entry.World (length (worlds_in vs)) else entry.Interface (length (interfaces_in vs))

entry_in-new : (vs : List ForeignVisit) (x : ForeignVisit) → is_known vs x ≡ false → entry_in (more vs x) x ≡ entry_next vs x
entry_in-new vs x new = go x.wants_world refl
  where
    go : (b : Bool) → x.wants_world ≡ b → entry_in (more vs x) x ≡ entry_next vs x
    go true e = ap (λ b. if b then entry.World (position_or_len (λ (y : ForeignVisit). same_item y x) (worlds_in (more vs x))) else entry.Interface (position_or_len (λ (y : ForeignVisit). same_item y x) (interfaces_in (more vs x)))) e ∙ (ap entry.World (place_new (λ (v : ForeignVisit). v.wants_world) vs x e new) ∙ sym (ap (λ b. if b then entry.World (length (worlds_in vs)) else entry.Interface (length (interfaces_in vs))) e))
    go false e = ap (λ b. if b then entry.World (position_or_len (λ (y : ForeignVisit). same_item y x) (worlds_in (more vs x))) else entry.Interface (position_or_len (λ (y : ForeignVisit). same_item y x) (interfaces_in (more vs x)))) e ∙ (ap entry.Interface (place_new no_world vs x (ap not e) new) ∙ sym (ap (λ b. if b then entry.World (length (worlds_in vs)) else entry.Interface (length (interfaces_in vs))) e))

item_in-new : (vs : List ForeignVisit) (x : ForeignVisit) → is_known vs x ≡ false → item_in (more vs x) x ≡ item_more None (entry_next vs x) (visit_stability x)
item_in-new vs x new =
    let is = entry_in-new vs x new in
    let none : stabilities vs x ≡ [] = ap (map visit_stability) (filter_lost (λ v. same_address (visited v) (visited x)) vs (lost vs x new)) in
    let said : stabilities (more vs x) x ≡ visit_stability x ∷ [] = stabilities-more vs x x ∙ (ap (λ l. l ++ cond (same_item x x) (visit_stability x ∷ []) []) none ∙ ap (λ b. cond b (visit_stability x ∷ []) []) (item_itself x)) in
    λ i. (is i, said i)

-- the items of a package
abbrev group : List ForeignVisit → PackageName → List ForeignVisit
group vs p = filter (λ v. same_package (package_of v.of) p) (items_of vs)

-- items of one package are the same exactly where their names are
same_item-within : (p : PackageName) (a b : ForeignVisit) → same_package (package_of a.of) p ≡ true → same_package (package_of b.of) p ≡ true → same_item a b ≡ bytes_eq (name_of a) (name_of b)
same_item-within p a b ha hb =
    let one : package_of b.of ≡ (package_of a.of) = same_package-equal (package_of b.of) p hb ∙ sym (same_package-equal (package_of a.of) p ha) in
    ap (λ q. same_package (package_of a.of) q && bytes_eq (name_of a) (name_of b)) one ∙ ap (λ b'. b' && bytes_eq (name_of a) (name_of b)) (same_package-itself (package_of a.of))

-- an item of another package is not the same
same_item-apart : (p : PackageName) (x u : ForeignVisit) → same_package (package_of x.of) p ≡ false → same_package (package_of u.of) p ≡ true → same_item x u ≡ false
same_item-apart p x u other here = ap (λ q. same_package (package_of x.of) q && bytes_eq (name_of x) (name_of u)) (same_package-equal (package_of u.of) p here) ∙ ap (λ b. b && bytes_eq (name_of x) (name_of u)) other

-- of each item of a package: its entry stays, and it is of the package
in_group : (vs : List ForeignVisit) (x : ForeignVisit) (p : PackageName) → Each (λ u. (entry_in (more vs x) u ≡ entry_in vs u) × (same_package (package_of u.of) p ≡ true)) (group vs p)
in_group vs x p = each_both (λ u. entry_in (more vs x) u ≡ entry_in vs u) (λ u. same_package (package_of u.of) p ≡ true) (group vs p) (each_filter (λ u. entry_in (more vs x) u ≡ entry_in vs u) (λ v. same_package (package_of v.of) p) (items_of vs) (entries_stay vs x)) (each_passed (λ v. same_package (package_of v.of) p) (items_of vs))

abbrev item_row : List ForeignVisit → ForeignVisit → List ℕ × Visited
item_row vs v = (name_of v, item_in vs v)

-- other packages keep their items
row_in-other : (vs : List ForeignVisit) (x : ForeignVisit) (p : PackageName) → same_package (package_of x.of) p ≡ false → row_in (more vs x) p ≡ row_in vs p
row_in-other vs x p other =
    let t : ForeignVisit → Bool = λ v. same_package (package_of v.of) p in
    let same_group : group (more vs x) p ≡ group vs p = kind-more t vs x ∙ (ap (λ l. group vs p ++ l) (none (is_known vs x)) ∙ append-nil (group vs p)) in
    ap (map (item_row (more vs x))) same_group ∙ map_each (item_row (more vs x)) (item_row vs) (group vs p) (each_map (λ u. (entry_in (more vs x) u ≡ entry_in vs u) × (same_package (package_of u.of) p ≡ true)) (λ u. item_row (more vs x) u ≡ item_row vs u) (group vs p) (λ u h. stays u h.0 h.1) (in_group vs x p))
  where
    none : (known : Bool) → filter (λ v. same_package (package_of v.of) p) (cond known [] (x ∷ [])) ≡ []
    none true = refl
    none false = ap (λ b. cond b (x ∷ []) []) other

    stays : (u : ForeignVisit) → entry_in (more vs x) u ≡ entry_in vs u → same_package (package_of u.of) p ≡ true → item_row (more vs x) u ≡ item_row vs u
    stays u h g = ap (λ i. (name_of u, i)) (item_in-more vs x u (entry_next vs x) h ∙ ap (λ b. cond b (item_more (Some (item_in vs u)) (entry_next vs x) (visit_stability x)) (item_in vs u)) (same_item-apart p x u other g))

-- what two visits of one item are to a third
alike_item : (x a b : ForeignVisit) → same_item a b ≡ true → same_item a x ≡ same_item b x
alike_item x a b h =
    let both = and_parts (same_package (package_of a.of) (package_of b.of)) (bytes_eq (name_of a) (name_of b)) h in
    let p = same_package-equal (package_of a.of) (package_of b.of) both.0 in
    let n = name_equal (name_of a) (name_of b) both.1 in
    λ i. same_package (p i) (package_of x.of) && bytes_eq (n i) (name_of x)

-- visits have an item exactly where its package has its name
is_known-group : (vs : List ForeignVisit) (x : ForeignVisit) → is_known vs x ≡ list_any (λ u. bytes_eq (name_of x) (name_of u)) (group vs (package_of x.of))
is_known-group vs x =
    sym (any-firsts same_item (λ y. same_item y x) (λ a b h. alike_item x a b h) vs)
    ∙ (sym (any-filter (λ y. same_package (package_of y.of) (package_of x.of)) (λ y. bytes_eq (name_of y) (name_of x)) (items_of vs))
    ∙ (λ i. list_any (λ u. name-flip (name_of u) (name_of x) i) (group vs (package_of x.of))))

apart_names : (p : PackageName) (us : List ForeignVisit) → Each (λ u. same_package (package_of u.of) p ≡ true) us → Apart same_item us → Apart (λ a b. bytes_eq (name_of a) (name_of b)) us
apart_names p [] h apart = tt
apart_names p (u ∷ us) h apart = (each_map (λ y. (same_item u y ≡ false) × (same_package (package_of y.of) p ≡ true)) (λ y. bytes_eq (name_of u) (name_of y) ≡ false) us (λ y g. sym (same_item-within p u y h.0 g.1) ∙ g.0) (each_both (λ y. same_item u y ≡ false) (λ y. same_package (package_of y.of) p ≡ true) us apart.0 h.1), apart_names p us h.1 apart.1)

-- the package of a visit gets one more visit
row_in-same : (vs : List ForeignVisit) (x : ForeignVisit) → row_in (more vs x) (package_of x.of) ≡ row_more (row_in vs (package_of x.of)) (name_of x) (entry_next vs x) (visit_stability x)
row_in-same vs x =
    let p = package_of x.of in
    let e = entry_next vs x in
    let t : ForeignVisit → Bool = λ v. same_package (package_of v.of) p in
    let us = group vs p in
    let extended : ForeignVisit → List ℕ × Visited = λ u. (name_of u, cond (bytes_eq (name_of x) (name_of u)) (item_more (Some (item_in vs u)) e (visit_stability x)) (item_in vs u)) in
    let last : List (List ℕ × Visited) = (name_of x, item_more None e (visit_stability x)) ∷ [] in
    let whole : group (more vs x) p ≡ us ++ new_one (is_known vs x) x = kind-more t vs x ∙ ap (λ l. us ++ l) (one (is_known vs x)) in
    let prefix : map (item_row (more vs x)) us ≡ map extended us = map_each (item_row (more vs x)) extended us (each_map (λ u. (entry_in (more vs x) u ≡ entry_in vs u) × (same_package (package_of u.of) p ≡ true)) (λ u. item_row (more vs x) u ≡ extended u) us (λ u h. extends u h.0 h.1) (in_group vs x p)) in
    let back : map (item_row (more vs x)) (new_one (is_known vs x) x) ≡ cond (list_any (λ u. bytes_eq (name_of x) (name_of u)) us) [] last = rest_after (is_known vs x) refl ∙ ap (λ b. cond b [] last) (is_known-group vs x) in
    let apart = apart_names p us (each_passed t (items_of vs)) (apart_filter same_item t (items_of vs) (apart_firsts same_item vs)) in
    ap (map (item_row (more vs x))) whole
    ∙ (map-append (item_row (more vs x)) us (new_one (is_known vs x) x)
    ∙ ((λ i. prefix i ++ back i)
    ∙ upsert-map (pointwise nat_eq) name_equal name_of (item_in vs) (λ o. item_more o e (visit_stability x)) x us apart))
  where
    one : (known : Bool) → filter (λ v. same_package (package_of v.of) (package_of x.of)) (cond known [] (x ∷ [])) ≡ cond known [] (x ∷ [])
    one true = refl
    one false = ap (λ b. cond b (x ∷ []) []) (same_package-itself (package_of x.of))

    extends : (u : ForeignVisit) → entry_in (more vs x) u ≡ entry_in vs u → same_package (package_of u.of) (package_of x.of) ≡ true → item_row (more vs x) u ≡ (name_of u, cond (bytes_eq (name_of x) (name_of u)) (item_more (Some (item_in vs u)) (entry_next vs x) (visit_stability x)) (item_in vs u))
    extends u h g = ap (λ i. (name_of u, i)) (item_in-more vs x u (entry_next vs x) h ∙ ap (λ b. cond b (item_more (Some (item_in vs u)) (entry_next vs x) (visit_stability x)) (item_in vs u)) (same_item-within (package_of x.of) x u (same_package-itself (package_of x.of)) g))

    rest_after : (known : Bool) → is_known vs x ≡ known → map (item_row (more vs x)) (cond known [] (x ∷ [])) ≡ cond known [] ((name_of x, item_more None (entry_next vs x) (visit_stability x)) ∷ [])
    rest_after true h = refl
    rest_after false h = ap (λ i. (name_of x, i) ∷ []) (item_in-new vs x h)

alike_package : (x a b : ForeignVisit) → same_package (package_of a.of) (package_of b.of) ≡ true → same_package (package_of a.of) (package_of x.of) ≡ same_package (package_of b.of) (package_of x.of)
alike_package x a b h = ap (λ p. same_package p (package_of x.of)) (same_package-equal (package_of a.of) (package_of b.of) h)

-- visits name a package exactly where it is one of their packages
is_named-packages : (vs : List ForeignVisit) (x : ForeignVisit) → is_named vs x ≡ list_any (λ u. same_package (package_of x.of) (package_of u.of)) (packages_of vs)
is_named-packages vs x =
    sym (any-firsts (λ a b. same_package (package_of a.of) (package_of b.of)) (λ y. same_package (package_of y.of) (package_of x.of)) (λ a b h. alike_package x a b h) vs)
    ∙ (λ i. list_any (λ u. same_package-flip (package_of u.of) (package_of x.of) i) (packages_of vs))

-- a package that no visit names has no items
row_in-unnamed : (vs : List ForeignVisit) (x : ForeignVisit) → is_named vs x ≡ false → row_in vs (package_of x.of) ≡ []
row_in-unnamed vs x new = ap (map (item_row vs)) (filter_lost (λ v. same_package (package_of v.of) (package_of x.of)) (items_of vs) (each_firsts (λ y. same_package (package_of y.of) (package_of x.of) ≡ false) same_item vs (each_lost (λ y. same_package (package_of y.of) (package_of x.of)) vs new)))

-- a package finds its items
pub row_in-lookup : (vs : List ForeignVisit) (x : ForeignVisit) → unwrap_or (lookup (same_package (package_of x.of)) (table_in vs)) [] ≡ row_in vs (package_of x.of)
row_in-lookup vs x =
    ap (λ o. unwrap_or o []) (lookup-as_stated same_package same_package-equal (λ (v : ForeignVisit). package_of v.of) (row_in vs) (package_of x.of) (packages_of vs) ∙ ap (λ b. cond b (Some (row_in vs (package_of x.of))) None) (sym (is_named-packages vs x)))
    ∙ go (is_named vs x) refl
  where
    go : (b : Bool) → is_named vs x ≡ b → unwrap_or (cond b (Some (row_in vs (package_of x.of))) None) [] ≡ row_in vs (package_of x.of)
    go true h = refl
    go false h = sym (row_in-unnamed vs x h)

pub packages_of-more : (vs : List ForeignVisit) (x : ForeignVisit) → packages_of (vs ++ x ∷ []) ≡ packages_of vs ++ cond (is_named vs x) [] (x ∷ [])
packages_of-more vs x = firsts-more (λ a b. same_package (package_of a.of) (package_of b.of)) vs x

-- the table of visits with a visit more
pub table_in-more : (vs : List ForeignVisit) (x : ForeignVisit) → table_in (vs ++ x ∷ []) ≡ table_more (table_in vs) (package_of x.of) x.id.name.now (entry_next vs x) (visit_stability x)
table_in-more vs x =
    let line : ForeignVisit → PackageName × Items = λ u. (package_of u.of, row_in (more vs x) (package_of u.of)) in
    let grow : Option Items → Items = λ o. row_more (unwrap_or o []) (name_of x) (entry_next vs x) (visit_stability x) in
    let extended : ForeignVisit → PackageName × Items = λ u. (package_of u.of, cond (same_package (package_of x.of) (package_of u.of)) (grow (Some (row_in vs (package_of u.of)))) (row_in vs (package_of u.of))) in
    let last : List (PackageName × Items) = (package_of x.of, grow None) ∷ [] in
    let us = packages_of vs in
    let prefix : map line us ≡ map extended us = (λ i. map {B = PackageName × Items} (λ u. (package_of u.of, turns u (same_package (package_of x.of) (package_of u.of)) refl i)) us) in
    let back : map line (cond (is_named vs x) [] (x ∷ [])) ≡ cond (list_any (λ u. same_package (package_of x.of) (package_of u.of)) us) [] last = rest_after (is_named vs x) refl ∙ ap (λ b. cond b [] last) (is_named-packages vs x) in
    ap (map line) (packages_of-more vs x)
    ∙ (map-append line us (cond (is_named vs x) [] (x ∷ []))
    ∙ ((λ i. prefix i ++ back i)
    ∙ upsert-map same_package same_package-equal (λ (v : ForeignVisit). package_of v.of) (λ u. row_in vs (package_of u.of)) grow x us (apart_firsts (λ a b. same_package (package_of a.of) (package_of b.of)) vs)))
  where
    turns : (u : ForeignVisit) (b : Bool) → same_package (package_of x.of) (package_of u.of) ≡ b → row_in (more vs x) (package_of u.of) ≡ cond (same_package (package_of x.of) (package_of u.of)) (row_more (row_in vs (package_of u.of)) (name_of x) (entry_next vs x) (visit_stability x)) (row_in vs (package_of u.of))
    turns u true h =
        let one = same_package-equal (package_of x.of) (package_of u.of) h in
        ap (row_in (more vs x)) (sym one) ∙ (row_in-same vs x ∙ (ap (λ p. row_more (row_in vs p) (name_of x) (entry_next vs x) (visit_stability x)) one ∙ sym (ap (λ b. cond b (row_more (row_in vs (package_of u.of)) (name_of x) (entry_next vs x) (visit_stability x)) (row_in vs (package_of u.of))) h)))
    turns u false h = row_in-other vs x (package_of u.of) h ∙ sym (ap (λ b. cond b (row_more (row_in vs (package_of u.of)) (name_of x) (entry_next vs x) (visit_stability x)) (row_in vs (package_of u.of))) h)

    rest_after : (named : Bool) → is_named vs x ≡ named → map {B = PackageName × Items} (λ (u : ForeignVisit). (package_of u.of, row_in (more vs x) (package_of u.of))) (cond named [] (x ∷ [])) ≡ cond named [] ((package_of x.of, row_more [] (name_of x) (entry_next vs x) (visit_stability x)) ∷ [])
    rest_after true h = refl
    rest_after false h = ap (λ r. (package_of x.of, r) ∷ []) (row_in-same vs x ∙ ap (λ r. row_more r (name_of x) (entry_next vs x) (visit_stability x)) (row_in-unnamed vs x h))

-- whether the items that a package finds have the name of a visit
pub is_known-lookup : (vs : List ForeignVisit) (x : ForeignVisit) → is_some (lookup (pointwise nat_eq x.id.name.now) (unwrap_or (lookup (same_package (package_of x.of)) (table_in vs)) [])) ≡ is_known vs x
is_known-lookup vs x = ap (λ r. is_some (lookup (pointwise nat_eq (name_of x)) r)) (row_in-lookup vs x) ∙ (is_some-lookup-map (pointwise nat_eq (name_of x)) name_of (item_in vs) (group vs (package_of x.of)) ∙ sym (is_known-group vs x))

-- the worlds, and the interfaces, with a visit more
pub worlds_in-more : (vs : List ForeignVisit) (x : ForeignVisit) → worlds_in (vs ++ x ∷ []) ≡ worlds_in vs ++ filter (λ (v : ForeignVisit). v.wants_world) (cond (is_known vs x) [] (x ∷ []))
worlds_in-more vs x = kind-more (λ (v : ForeignVisit). v.wants_world) vs x

pub interfaces_in-more : (vs : List ForeignVisit) (x : ForeignVisit) → interfaces_in (vs ++ x ∷ []) ≡ interfaces_in vs ++ filter (λ v. not v.wants_world) (cond (is_known vs x) [] (x ∷ []))
interfaces_in-more vs x = kind-more no_world vs x
