-- Paths with a package among those of files, and the items of other packages by their keys.
use Rattle.std.proofs.Common.{◌≡◌, ◌||◌, ◌&&◌, Bool, true, false, not, cond, length, List, [], ◌∷◌, ◌++◌, ◌+◌, map, Option, Some, None, inl, inr, refl, sym, ap, ◌∙◌}
use Rattle.wit_syntax.proofs.Common.{Address, AstItem, Attribute, Exported, ExternKind, ForeignVisit, Id, Imported, InterfaceItem, PackageFile, Part, Use, WorldItem, WorldSide, any_found, append-nil, at_side, both_ways, bytes_eq, cases_Bool, cond-false, cond-true, declaration_visits, extern_paths, extern_visits, firsts, firsts-more, firsts_at, firsts_has, flat_map, flat_map-append, inline_uses, insert_key, interface_part, keys_of, length-map, list_any, map-append, map_at, nat_lt, option_eq, option_map, part_visits as the_part_visits, path_visits, position, prefix_len, same_address, same_address-equal, same_address-from, same_item, same_side, same_version, slice_get-map, visited, world_part, own_uses}
use Rattle.wit_tree.specs.declared.tree.ExternKind.TheVariants as extern
use Rattle.wit_tree.specs.declared.tree.InterfaceItem.TheVariants as interface_item
use Rattle.wit_tree.specs.declared.tree.WorldItem.TheVariants as world_item
use Rattle.wit_tree.specs.declared.tree.AstItem.TheVariants as ast
use Rattle.wit_files.specs.Visits.{Visit, part_visits, world_part_visits, kind_visits, side_part_visits, item_visits, visits}
use Rattle.wit_files.specs.ForeignPaths.{wants_world, foreign_view, key_release, key_address, AreItemsOf}
use Rattle.wit_files.specs.declared.foreign.ForeignVisit.{ForeignVisit as BorrowedVisit}
use Rattle.wit_files.specs.declared.foreign.ForeignItems.{ForeignItems}
use Rattle.wit_files.specs.declared.foreign.VersionKey.{VersionKey}
use Rattle.wit_files.specs.declared.foreign.ForeignKey.{ForeignKey}
use Rattle.wit_files.specs.contracts.foreign.VersionKeyPartialEq.TheImpl.{eq-value as version_test}
use Rattle.wit_files.specs.contracts.foreign.ForeignKeyPartialEq.TheImpl.{eq-value as key_test}
use Rattle.wit_first.proofs.First.{any_some}

-- the visit of an item of another package that a path makes
abbrev pub foreign_of : Visit → List ForeignVisit
foreign_of v = path_visits v.attributes (wants_world v.wanted) v.path

flat_inside : {X Y Z : Type 0} (g : Y → List Z) (f : X → List Y) (h : X → List Z) → ((x : X) → flat_map g (f x) ≡ h x) → (xs : List X) → flat_map g (flat_map f xs) ≡ flat_map h xs
flat_inside g f h each [] = refl
flat_inside g f h each (x ∷ xs) = flat_map-append g (f x) (flat_map f xs) ∙ ap (λ l. l ++ flat_map g (flat_map f xs)) (each x) ∙ ap (λ l. h x ++ l) (flat_inside g f h each xs)

flat_mapped : {X Y Z : Type 0} (g : Y → List Z) (f : X → Y) (xs : List X) → flat_map (λ x. g (f x)) xs ≡ flat_map g (map f xs)
flat_mapped g f [] = refl
flat_mapped g f (x ∷ xs) = ap (λ l. g (f x) ++ l) (flat_mapped g f xs)

of_part : (owner : Option Id) (p : InterfaceItem) → flat_map foreign_of (part_visits owner p) ≡ the_part_visits (interface_part p)
of_part owner (interface_item.TypeDef d) = refl
of_part owner (interface_item.Use u) = append-nil (path_visits u.attributes.items false u.from)
of_part owner (interface_item.Func f) = refl

of_world_part : (owner : Id) (p : WorldItem) → flat_map foreign_of (world_part_visits owner p) ≡ the_part_visits (world_part p)
of_world_part owner (world_item.TypeDef d) = refl
of_world_part owner (world_item.Extern x) = refl
of_world_part owner (world_item.Use u) = append-nil (path_visits u.attributes.items false u.from)
of_world_part owner (world_item.Include i) = append-nil (path_visits i.attributes.items true i.from)

abbrev of_use : Use → List ForeignVisit
of_use u = path_visits u.attributes.items false u.from

of_inline_part : (p : InterfaceItem) → flat_map foreign_of (part_visits None p) ≡ flat_map of_use (own_uses (interface_part p))
of_inline_part (interface_item.TypeDef d) = refl
of_inline_part (interface_item.Use u) = refl
of_inline_part (interface_item.Func f) = refl

of_inline : (ps : List InterfaceItem) → flat_map foreign_of (flat_map (part_visits None) ps) ≡ flat_map of_use (flat_map own_uses (map interface_part ps))
of_inline ps =
    let each : InterfaceItem → List ForeignVisit = λ p. flat_map of_use (own_uses (interface_part p)) in
    flat_inside foreign_of (part_visits None) each of_inline_part ps ∙ flat_mapped (λ q. flat_map of_use (own_uses q)) interface_part ps ∙ sym (flat_inside of_use own_uses (λ q. flat_map of_use (own_uses q)) (λ q. refl) (map interface_part ps))

of_kind : (attributes : List Attribute) (kind : ExternKind) → flat_map foreign_of (kind_visits attributes kind) ≡ flat_map of_use (inline_uses kind) ++ flat_map (path_visits attributes false) (extern_paths kind)
of_kind attributes (extern.Interface name items) = of_inline items.items ∙ sym (append-nil (flat_map of_use (flat_map own_uses (map interface_part items.items))))
of_kind attributes (extern.Path path) = refl
of_kind attributes (extern.Func name f) = refl
of_kind attributes (extern.NamedPath name path) = refl

of_side_part : (side : WorldSide) (p : WorldItem) → flat_map foreign_of (side_part_visits side p) ≡ at_side extern_visits side (world_part p)
of_side_part side (world_item.TypeDef d) = refl
of_side_part side (world_item.Extern x) = elim (cases_Bool (same_side side x.side)) [
  | inl on ↦ rw on (of_kind x.attributes.items x.kind)
  | inr off ↦ rw off refl
]
of_side_part side (world_item.Use u) = refl
of_side_part side (world_item.Include i) = refl

-- nothing of an interface is on a side of a world
no_side : (side : WorldSide) (xs : List InterfaceItem) → flat_map (at_side extern_visits side) (map interface_part xs) ≡ []
no_side side [] = refl
no_side side (interface_item.TypeDef d ∷ xs) = no_side side xs
no_side side (interface_item.Use u ∷ xs) = no_side side xs
no_side side (interface_item.Func f ∷ xs) = no_side side xs

three_parts : {X Y : Type 0} (g : X → List Y) (xs ys zs : List X) (us vs ws : List Y) → flat_map g xs ≡ us → flat_map g ys ≡ vs → flat_map g zs ≡ ws → flat_map g (xs ++ (ys ++ zs)) ≡ us ++ (vs ++ ws)
three_parts g xs ys zs us vs ws a b c =
    flat_map-append g xs (ys ++ zs) ∙ ap (λ l. flat_map g xs ++ l) (flat_map-append g ys zs) ∙ ap (λ l. l ++ (flat_map g ys ++ flat_map g zs)) a ∙ ap (λ l. us ++ (l ++ flat_map g zs)) b ∙ ap (λ l. us ++ (vs ++ l)) c

of_parts : {P : Type 0} (part : P → Part) (visit : P → List Visit) (in_part : Part → List ForeignVisit) → ((p : P) → flat_map foreign_of (visit p) ≡ in_part (part p)) → (ps : List P) → flat_map foreign_of (flat_map visit ps) ≡ flat_map in_part (map part ps)
of_parts part visit in_part each ps = flat_inside foreign_of visit (λ p. in_part (part p)) each ps ∙ flat_mapped in_part part ps

of_item : (d : AstItem) → flat_map foreign_of (item_visits d) ≡ declaration_visits d
of_item (ast.Interface i) =
    let ps = map interface_part i.items.items in
    of_parts interface_part (part_visits (Some i.name)) the_part_visits (of_part (Some i.name)) i.items.items
    ∙ sym (append-nil (flat_map the_part_visits ps))
    ∙ ap (λ l. flat_map the_part_visits ps ++ l) (sym (ap (λ l. l ++ flat_map (at_side extern_visits Exported) ps) (no_side Imported i.items.items) ∙ no_side Exported i.items.items))
of_item (ast.World w) =
    let xs = w.items.items in
    three_parts foreign_of (flat_map (world_part_visits w.name) xs) (flat_map (side_part_visits Imported) xs) (flat_map (side_part_visits Exported) xs) _ _ _ (of_parts world_part (world_part_visits w.name) the_part_visits (of_world_part w.name) xs) (of_parts world_part (side_part_visits Imported) (at_side extern_visits Imported) (of_side_part Imported) xs) (of_parts world_part (side_part_visits Exported) (at_side extern_visits Exported) (of_side_part Exported) xs)
of_item (ast.Use u) = append-nil (path_visits u.attributes.items false u.item)

-- those of the paths of a file are its paths with a package
pub of_file : (f : PackageFile) → flat_map foreign_of (visits f.decl_list) ≡ flat_map declaration_visits f.decl_list.items.items
of_file f = flat_inside foreign_of item_visits declaration_visits of_item f.decl_list.items.items

any-mapped : {X Y : Type 0} (p : Y → Bool) (f : X → Y) (xs : List X) → list_any (λ x. p (f x)) xs ≡ list_any p (map f xs)
any-mapped p f [] = refl
any-mapped p f (x ∷ xs) = ap (λ b. p (f x) || b) (any-mapped p f xs)

any-alike : {X : Type 0} (p q : X → Bool) (xs : List X) → ((x : X) → p x ≡ q x) → list_any p xs ≡ list_any q xs
any-alike p q [] each = refl
any-alike p q (x ∷ xs) each = rw (each x, any-alike p q xs each) refl

prefix-mapped : {X Y : Type 0} (p : Y → Bool) (f : X → Y) (xs : List X) → prefix_len (λ x. not (p (f x))) xs ≡ prefix_len (λ y. not (p y)) (map f xs)
prefix-mapped p f [] = refl
prefix-mapped p f (x ∷ xs) = ap (λ n. cond (not (p (f x))) (1 + n) 0) (prefix-mapped p f xs)

-- the place of what a list is mapped to
pub position-mapped : {X Y : Type 0} (p : Y → Bool) (f : X → Y) (xs : List X) → position (λ x. p (f x)) xs ≡ position p (map f xs)
position-mapped p f xs =
    let place = prefix_len (λ y. not (p y)) (map f xs) in
    ap (λ n. cond (nat_lt n (length xs)) (Some n) None) (prefix-mapped p f xs) ∙ ap (λ n. cond (nat_lt place n) (Some place) None) (sym (length-map xs f))

prefix-alike : {X : Type 0} (p q : X → Bool) (xs : List X) → ((x : X) → p x ≡ q x) → prefix_len (λ x. not (p x)) xs ≡ prefix_len (λ x. not (q x)) xs
prefix-alike p q [] each = refl
prefix-alike p q (x ∷ xs) each = ap (λ b. cond (not b) (1 + prefix_len (λ y. not (p y)) xs) 0) (each x) ∙ ap (λ n. cond (not (q x)) (1 + n) 0) (prefix-alike p q xs each)

position-alike : {X : Type 0} (p q : X → Bool) (xs : List X) → ((x : X) → p x ≡ q x) → position p xs ≡ position q xs
position-alike p q xs each = ap (λ n. cond (nat_lt n (length xs)) (Some n) None) (prefix-alike p q xs each)

same_turned : (a b : Address) → same_address a b ≡ same_address b a
same_turned a b = elim (cases_Bool (same_address a b)) [
  | inl same ↦ same ∙ sym (same_address-from b a (sym (same_address-equal a b same)))
  | inr other ↦ elim (cases_Bool (same_address b a)) [
    | inl back ↦ absurd (both_ways (same_address a b) other (same_address-from a b (sym (same_address-equal b a back))))
    | inr both ↦ other ∙ sym both
  ]
]

-- one more visit is of a known item
pub firsts-known : (vs : List ForeignVisit) (v : ForeignVisit) → list_any (same_address (visited v)) (map visited (firsts same_item vs)) ≡ true → firsts same_item (vs ++ v ∷ []) ≡ firsts same_item vs
firsts-known vs v known = elim (firsts-more same_item vs v) [
  | inl both ↦ both.1
  | inr new ↦ absurd (
      let it = any_found (same_address (visited v)) (map visited (firsts same_item vs)) known in
      let w = map_at visited (firsts same_item vs) it.0 it.1 it.2 in
      let there = firsts_at same_item vs it.0 w.0 w.1 in
      let same : visited w.0 ≡ visited v = w.2 ∙ sym (same_address-equal (visited v) it.1 it.3) in
      both_ways (same_item w.0 v) (new.0 there.0 w.0 there.1) (same_address-from (visited w.0) (visited v) same))
]

-- or of a new one, which is listed last
pub firsts-new : (vs : List ForeignVisit) (v : ForeignVisit) → list_any (same_address (visited v)) (map visited (firsts same_item vs)) ≡ false → firsts same_item (vs ++ v ∷ []) ≡ firsts same_item vs ++ v ∷ []
firsts-new vs v new = elim (firsts-more same_item vs v) [
  | inl both ↦ absurd (
      let listed = both.0 in
      let it = firsts_has same_item visited (λ a b h. same_address-from (visited a) (visited b) h) (λ a b h. same_address-equal (visited a) (visited b) h) vs listed.place listed.y listed.at in
      let same : visited v ≡ visited it.1 = sym (it.3 ∙ same_address-equal (visited listed.y) (visited v) listed.is) in
      let at = slice_get-map visited (firsts same_item vs) it.0 ∙ ap (option_map visited) it.2 in
      both_ways (list_any (same_address (visited v)) (map visited (firsts same_item vs))) new (any_some (same_address (visited v)) (map visited (firsts same_item vs)) it.0 (visited it.1) at (same_address-from (visited v) (visited it.1) same)))
  | inr fresh ↦ fresh.1
]

version_same : (a b : Option VersionKey) → option_eq version_test.it a b ≡ same_version (option_map key_release a) (option_map key_release b)
version_same None None = refl
version_same None (Some b) = refl
version_same (Some a) None = refl
version_same (Some a) (Some b) = refl

and_last : (a b c d : Bool) → (a && (b && (c && d))) ≡ ((a && (b && c)) && d)
and_last false b c d = refl
and_last true false c d = refl
and_last true true c d = refl

-- keys are equal where the items are one
pub key_same : (a b : ForeignKey) → key_test.it a b ≡ same_address (key_address a) (key_address b)
key_same a b =
    let namespace = bytes_eq a.namespace.now b.namespace.now in
    let of = bytes_eq a.«package».now b.«package».now in
    let name = bytes_eq a.name.now b.name.now in
    ap (λ version. namespace && (of && (version && name))) (version_same a.version b.version) ∙ and_last namespace of (same_version (option_map key_release a.version) (option_map key_release b.version)) name

key_known : (vs : List ForeignVisit) (borrowed : ForeignItems) (v : ForeignVisit) (k : ForeignKey) → AreItemsOf vs borrowed → key_address k ≡ visited v → list_any (key_test.it k) (keys_of borrowed.keys) ≡ list_any (same_address (visited v)) (map visited (firsts same_item vs))
key_known vs borrowed v k are is =
    any-alike (key_test.it k) (λ x. same_address (key_address k) (key_address x)) (keys_of borrowed.keys) (key_same k)
    ∙ any-mapped (same_address (key_address k)) key_address (keys_of borrowed.keys)
    ∙ ap (λ (s : Address). list_any (same_address s) (map key_address (keys_of borrowed.keys))) is
    ∙ ap (list_any (same_address (visited v))) are.keys

-- a key that is there adds nothing
pub items_kept : (vs : List ForeignVisit) (borrowed : ForeignItems) (v : ForeignVisit) (k : ForeignKey) (keys : List ForeignKey) → AreItemsOf vs borrowed → key_address k ≡ visited v → list_any (key_test.it k) (keys_of borrowed.keys) ≡ true → keys ≡ insert_key key_test.it (keys_of borrowed.keys) k → (map key_address keys ≡ map visited (firsts same_item (vs ++ v ∷ []))) × (map foreign_view borrowed.items.items ≡ firsts same_item (vs ++ v ∷ []))
items_kept vs borrowed v k keys are is known inserted =
    let same = firsts-known vs v (sym (key_known vs borrowed v k are is) ∙ known) in
    let stay : keys ≡ keys_of borrowed.keys = inserted ∙ cond-true (list_any (key_test.it k) (keys_of borrowed.keys)) (keys_of borrowed.keys) (keys_of borrowed.keys ++ k ∷ []) known in
    (ap (map key_address) stay ∙ are.keys ∙ ap (map visited) (sym same), are.items ∙ sym same)

-- a new one adds the item
pub items_more : (vs : List ForeignVisit) (borrowed : ForeignItems) (v : BorrowedVisit) (k : ForeignKey) (keys : List ForeignKey) (items : List BorrowedVisit) → AreItemsOf vs borrowed → key_address k ≡ visited (foreign_view v) → list_any (key_test.it k) (keys_of borrowed.keys) ≡ false → keys ≡ insert_key key_test.it (keys_of borrowed.keys) k → items ≡ borrowed.items.items ++ v ∷ [] → (map key_address keys ≡ map visited (firsts same_item (vs ++ foreign_view v ∷ []))) × (map foreign_view items ≡ firsts same_item (vs ++ foreign_view v ∷ []))
items_more vs borrowed v k keys items are is new inserted pushed =
    let w = foreign_view v in
    let old = keys_of borrowed.keys in
    let more = firsts-new vs w (sym (key_known vs borrowed w k are is) ∙ new) in
    let extended : keys ≡ old ++ k ∷ [] = inserted ∙ cond-false (list_any (key_test.it k) old) old (old ++ k ∷ []) new in
    (ap (map key_address) extended ∙ map-append key_address old (k ∷ []) ∙ ap (λ l. l ++ key_address k ∷ []) are.keys ∙ ap (λ (s : Address). map visited (firsts same_item vs) ++ s ∷ []) is ∙ sym (map-append visited (firsts same_item vs) (w ∷ [])) ∙ ap (map visited) (sym more), ap (map foreign_view) pushed ∙ map-append foreign_view borrowed.items.items (v ∷ []) ∙ ap (λ l. l ++ w ∷ []) are.items ∙ sym more)

-- the place of a key is that of the item which it means
pub key_place : (vs : List ForeignVisit) (borrowed : ForeignItems) (k : ForeignKey) (s : Address) → AreItemsOf vs borrowed → key_address k ≡ s → position (key_test.it k) (keys_of borrowed.keys) ≡ position (λ v. same_address (visited v) s) (firsts same_item vs)
key_place vs borrowed k s are is =
    position-alike (key_test.it k) (λ x. same_address (key_address k) (key_address x)) (keys_of borrowed.keys) (key_same k)
    ∙ position-mapped (same_address (key_address k)) key_address (keys_of borrowed.keys)
    ∙ ap (λ (t : Address). position (same_address t) (map key_address (keys_of borrowed.keys))) is
    ∙ ap (position (same_address s)) are.keys
    ∙ sym (position-mapped (same_address s) visited (firsts same_item vs))
    ∙ position-alike (λ v. same_address s (visited v)) (λ v. same_address (visited v) s) (firsts same_item vs) (λ v. same_turned s (visited v))
