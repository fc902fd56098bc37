-- What the first fault of what is on the sides of an item breaks.
use Rattle.std.proofs.Common.{◌≡◌, ◌⊎◌, ◌+◌, ℕ, zero, suc, Bool, true, false, ◌&&◌, List, [], ◌∷◌, ◌++◌, length, take, Option, Some, None, inl, inr, refl, sym, ap, ◌∙◌, subst, append_assoc, Contains}
use Rattle.wit_syntax.proofs.Common.{Called, Constructor, CrossedTwice, DefinitionPart, Extern, ExternKind, ExternPart, Fault, FoldedTwice, Freestanding, FuncForm, FunctionPart, Id, Imported, IncludePart, InterfaceItem, InterfaceMetadata, IsBroken, IsExternPart, IsLinkedTwice, IsOrder, IsSecond, Item, Link, LinkedTwice, Method, MissingUse, OnSide, PackageFile, Part, Role, ScopeName, SideFunction, SideInline, SideItem, SideLink, Sides, SourceFunction, Static, Use as WrittenUse, UsePart, WorldSide, WorldUsed, address, all_items, all_scopes, and_parts, any_found, at_back, at_contains, at_prefix, bytes_eq, clash, codes, cond-true, contains_at, definition_functions, extern_items, extern_link, extern_paths, fault_in, filter, filter-append, flat_map, flat_map-append, flat_map_at, flat_map_has, folded_key, functions, if◌then◌else◌, in_turn, inline_after, inline_after-append, inline_item, inline_items, inline_uses, is_interface, is_none, is_world, is_world_at, item_called, item_function, item_link, item_side, items_on, leads, linked_twice, links_none, list_any, map, map_at, name_called, name_equal, names_on, option_map_or, part_items, parts, path_id, path_scope, rows_of, same_address, same_address-equal, same_side, scope, scope_names, side_called, side_items, side_itself, side_word, slice_get, take_seam, use_path, use_paths, world_there}
use Rattle.wit_syntax.specs.Broken.{Use}
use Rattle.wit_tree.specs.declared.tree.ExternKind.TheVariants as extern
use Rattle.wit_first.specs.AttributeFaults.{external_fault, metadata_fault}
use Rattle.wit_first.specs.UseFaults.{reached_fault}
use Rattle.wit_first.specs.FileFaults.{lost_fault}
use Rattle.wit_first.specs.First.{first_in, first_after, repeat_of, clash_of}
use Rattle.wit_first.proofs.Bridge.{clash_repeat, after_some, external_agrees, in_some, metadata_agree, or_some, repeat_some}
use Rattle.wit_first.proofs.FileFaults.{lost_agrees}
use Rattle.wit_first.proofs.First.{split_at, at_middle}
use Rattle.wit_first.proofs.Repeats.{repeat_second}
use Rattle.wit_walk.specs.Definitions.{handle_fault}
use Rattle.wit_walk.specs.Functions.{function_fault, signed_fault}
use Rattle.wit_walk.specs.Members.{called_fault, crossed, is_extern, is_on_side, item_fault, member_fault, own_fault}
use Rattle.wit_walk.specs.Names.{folded_fault}
use Rattle.wit_walk.specs.Paths.{is_same_link, link_fault, linked_fault}
use Rattle.wit_walk.proofs.FunctionFaults.{function_broken}
use Rattle.wit_walk.proofs.ScopeFaults.{if_some, same_fault}

-- what is on a side, up to one of it
on_split : (side : WorldSide) (xs before rest : List SideItem) (x : SideItem) → item_side x ≡ side → xs ≡ before ++ x ∷ rest → items_on side xs ≡ items_on side before ++ x ∷ items_on side rest
on_split side xs before rest x own split =
    let test = λ (y : SideItem). same_side side (item_side y) in
    let here : test x ≡ true = ap (same_side side) own ∙ side_itself side in
    ap (items_on side) split ∙ filter-append test before (x ∷ rest) ∙ ap (λ (l : List SideItem). items_on side before ++ l) (cond-true (test x) (x ∷ items_on side rest) (items_on side rest) here)

-- a name that repeats one before it repeats it in all
second_here : {X : Type 0} (key : X → List ℕ) (as_stated : X → Fault) (before rest : List X) (x : X) (f : Fault) → repeat_of key as_stated before x ≡ Some f → IsSecond key as_stated (before ++ x ∷ rest) f
second_here key as_stated before rest x f h = repeat_second key as_stated (before ++ x ∷ rest) (length before) x f (at_middle before x rest) (subst (λ (l : List _). repeat_of key as_stated l x ≡ Some f) (sym (take_seam before (x ∷ rest))) h)

pub second_prefix : {X : Type 0} (key : X → List ℕ) (as_stated : X → Fault) (xs ys : List X) (f : Fault) → IsSecond key as_stated xs f → IsSecond key as_stated (xs ++ ys) f
second_prefix key as_stated xs ys f (later, (first, second, lt, earlier, at_first, at_second, same), is) = (later, (first, second, lt, earlier, at_prefix xs ys first earlier at_first, at_prefix xs ys second later at_second, same), is)

-- what is on a side has at most one name
called_id : (o : Option Id) (r : ℕ) (c : Called) → slice_get (option_map_or (λ (id : Id). (record { name = id.name.now; span = id.span; sort = codes "interface" } ∷ [])) o []) r ≡ Some c → option_map_or (λ (id : Id). (record { name = id.name.now; span = id.span; sort = codes "interface" } ∷ [])) o [] ≡ c ∷ []
called_id None r c at = absurd (let f : ⊥ = cc in f)
called_id (Some id) zero c at = (let same : record { name = id.name.now; span = id.span; sort = codes "interface" } ≡ c = cc in ap (λ (d : Called). d ∷ []) same)
called_id (Some id) (suc r) c at = absurd (let f : ⊥ = cc in f)

one_called : (d : Called) (r : ℕ) (c : Called) → slice_get (d ∷ []) r ≡ Some c → d ∷ [] ≡ c ∷ []
one_called d zero c at = (let same : d ≡ c = cc in ap (λ (e : Called). e ∷ []) same)
one_called d (suc r) c at = absurd (let f : ⊥ = cc in f)

called_one : (x : SideItem) (r : ℕ) (c : Called) → slice_get (item_called x) r ≡ Some c → item_called x ≡ c ∷ []
called_one (SideFunction fn) r c at = one_called (record { name = fn.name; span = fn.span; sort = codes "func" }) r c at
called_one (SideLink link) r c at = called_id link.name r c at
called_one (SideInline x name items) r c at = one_called (record { name = name.name.now; span = name.span; sort = codes "interface" }) r c at

-- an import or an export
on_side_is : (r : Role) → is_on_side r ≡ true → (side : WorldSide) × (id : Id) × (form : FuncForm) × (r ≡ OnSide side id form)
on_side_is (OnSide side id form) h = (side, id, form, refl)
on_side_is (Freestanding id form) h = absurd (let f : ⊥ = cc in f)
on_side_is (Method of form) h = absurd (let f : ⊥ = cc in f)
on_side_is (Static of form) h = absurd (let f : ⊥ = cc in f)
on_side_is (Constructor of) h = absurd (let f : ⊥ = cc in f)

extern_is : (x : SideItem) → is_extern x ≡ true → IsExternPart x
extern_is (SideFunction fn) h = on_side_is fn.role h
extern_is (SideLink link) h = tt
extern_is (SideInline x name items) h = tt

crossed_is : (as_crossed : Called → Called → Fault) (b : Bool) (before : List Called) (c : Called) (f : Fault) → (if b then clash_of (λ (d : Called). d.name) as_crossed before c else None) ≡ Some f → (b ≡ true) × (clash_of (λ (d : Called). d.name) as_crossed before c ≡ Some f)
crossed_is as_crossed true before c f h = (refl, h)
crossed_is as_crossed false before c f h = absurd (let g : ⊥ = cc in g)

-- a path of an import or export is one of its item
path_extern : (x : Extern) (kind : ExternKind) (j : ℕ) (link : Link) → slice_get (extern_items x kind) j ≡ Some (SideLink link) → Contains (map (λ (u : WrittenUse). u.from) (inline_uses kind) ++ extern_paths kind) link.path
path_extern x (extern.Path path) zero link at = (let whole : extern_link x None path ≡ link = cc in contains_at (path ∷ []) 0 link.path (ap (λ (l : Link). Some l.path) whole))
path_extern x (extern.Path path) (suc j) link at = absurd (let f : ⊥ = cc in f)
path_extern x (extern.NamedPath name path) zero link at = (let whole : extern_link x (Some name) path ≡ link = cc in contains_at (path ∷ []) 0 link.path (ap (λ (l : Link). Some l.path) whole))
path_extern x (extern.NamedPath name path) (suc j) link at = absurd (let f : ⊥ = cc in f)
path_extern x (extern.Interface name items) zero link at = absurd (let f : ⊥ = cc in f)
path_extern x (extern.Interface name items) (suc j) link at = absurd (let f : ⊥ = cc in f)
path_extern x (extern.Func name g) zero link at = absurd (let f : ⊥ = cc in f)
path_extern x (extern.Func name g) (suc j) link at = absurd (let f : ⊥ = cc in f)

path_part : (p : Part) (j : ℕ) (link : Link) → slice_get (part_items p) j ≡ Some (SideLink link) → Contains (use_path p) link.path
path_part (DefinitionPart d) j link at = absurd (let it = map_at SideFunction (definition_functions d.name d.body) j (SideLink link) at in let wrong : SideFunction it.0 ≡ SideLink link = it.2 in let f : ⊥ = cc in f)
path_part (FunctionPart g) zero link at = absurd (let f : ⊥ = cc in f)
path_part (FunctionPart g) (suc j) link at = absurd (let f : ⊥ = cc in f)
path_part (ExternPart x) j link at = path_extern x x.kind j link at
path_part (UsePart u) j link at = absurd (let f : ⊥ = cc in f)
path_part (IncludePart n) j link at = absurd (let f : ⊥ = cc in f)

pub path_among : (i : Item) (k : ℕ) (link : Link) → slice_get (side_items i) k ≡ Some (SideLink link) → Contains (use_paths i) link.path
path_among i k link at =
    let p = flat_map_at part_items (parts i) k (SideLink link) at in
    let j = at_contains (use_path p.1) link.path (path_part p.1 p.3.0 link p.3.1) in
    let it = flat_map_has use_path (parts i) p.0 j.0 p.1 link.path p.2 j.1 in
    contains_at (use_paths i) it.0 link.path it.1

pub link_is : (y : SideItem) (r : ℕ) (l : Link) → slice_get (item_link y) r ≡ Some l → y ≡ SideLink l
link_is (SideLink m) zero l at = (let same : m ≡ l = cc in ap SideLink same)
link_is (SideLink m) (suc r) l at = absurd (let f : ⊥ = cc in f)
link_is (SideFunction fn) r l at = absurd (let f : ⊥ = cc in f)
link_is (SideInline x name items) r l at = absurd (let f : ⊥ = cc in f)

none_is : {X : Type 0} (o : Option X) → is_none o ≡ true → o ≡ None
none_is None h = refl
none_is (Some x) h = absurd (let f : ⊥ = cc in f)

-- an item among all scopes, with what is known of it
pub record IsScope (files : List PackageFile) (i : Item) : Type 0 where
  pub among : Contains (all_scopes files) i
  pub meant : scope files (address i) ≡ scope_names i
  pub outer : Contains (all_items files) i ⊎ (is_world i ≡ false)

-- the fault of an item that is written in another one is that of a broken rule
abbrev pub BreaksInside : List PackageFile → Item → (Item → Option Fault) → Type 0
BreaksInside files i inside = (j : Item) (f : Fault) → Contains (inline_items i) j → inside j ≡ Some f → IsBroken files f

module _ (files : List PackageFile) (i : Item) (known : IsScope files i) (n : ℕ) (order : List ℕ) (least : IsOrder (rows_of (scope_names i)) order) where
  abbrev xs : List ScopeName
  xs = scope_names i

  abbrev all : List SideItem
  all = side_items i

  here : (k : ℕ) (link : Link) → slice_get all k ≡ Some (SideLink link) → Contains (all_items files) i
  here k link at = elim known.outer [
    | inl own ↦ own
    | inr inner ↦ (
        let it = flat_map_has item_link all k 0 (SideLink link) link at refl in
        let wrong : slice_get [] it.0 ≡ Some link = ap (λ (l : List Link). slice_get l it.0) (sym (links_none i inner)) ∙ it.1 in
        absurd (let f : ⊥ = cc in f))
  ]

  -- a function
  function_on : (k : ℕ) (fn : SourceFunction) (f : Fault) → slice_get all k ≡ Some (SideFunction fn) → function_fault (signed_fault xs (flat_map item_function (take k all) ++ fn ∷ []) (handle_fault files n (address i))) xs fn ≡ Some f → IsBroken files f
  function_on k fn f at h =
      let it = split_at all k (SideFunction fn) at in
      let prefix = flat_map item_function (take k all) in
      let rest = flat_map item_function it.0 in
      let split : functions i ≡ prefix ++ fn ∷ rest = ap (flat_map item_function) it.1 ∙ flat_map-append item_function (take k all) (SideFunction fn ∷ it.0) in
      function_broken files i known.among known.meant n prefix rest fn split f h

  -- a link: an earlier one on its side is the same
  linked_again : (k : ℕ) (link : Link) (f : Fault) → slice_get all k ≡ Some (SideLink link) → is_world_at files (leads i.top link.path) ≡ Some false → linked_fault i.top (take k all) link ≡ Some f → IsLinkedTwice files i f
  linked_again k link f at there h =
      let before = items_on link.side (take k all) in
      let found = if_some (list_any (λ (l : Link). is_same_link i.top l link) (flat_map item_link before)) (linked_twice link.side (path_id link.path).span) f h in
      let it = any_found (λ (l : Link). is_same_link i.top l link) (flat_map item_link before) found.0 in
      let y = flat_map_at item_link before it.0 it.1 it.2 in
      let is = link_is y.1 y.3.0 it.1 y.3.1 in
      let paths_same = same_address (path_scope i.top it.1.path) (path_scope i.top link.path) in
      let names = and_parts (is_none it.1.name) (is_none link.name && paths_same) it.3 in
      let paths = and_parts (is_none link.name) paths_same names.1 in
      let split = split_at all k (SideLink link) at in
      let on = on_split link.side all (take k all) split.0 (SideLink link) refl split.1 in
      let own : slice_get (items_on link.side all) (length before) ≡ Some (SideLink link) = ap (λ (l : List SideItem). slice_get l (length before)) on ∙ at_middle before (SideLink link) (items_on link.side split.0) in
      let prefix : take (length before) (items_on link.side all) ≡ before = ap (take (length before)) on ∙ take_seam before (SideLink link ∷ items_on link.side split.0) in
      let has : Contains (take (length before) (items_on link.side all)) (SideLink it.1) = subst (λ (l : List SideItem). Contains l (SideLink it.1)) (sym prefix) (contains_at before y.0 (SideLink it.1) (y.2 ∙ ap Some is)) in
      (link.side, length before, it.1, link, has, own, none_is it.1.name names.0, none_is link.name paths.0, same_address-equal (path_scope i.top it.1.path) (path_scope i.top link.path) paths.1, there, found.1)

  there_broken : (k : ℕ) (link : Link) (f : Fault) → slice_get all k ≡ Some (SideLink link) → (o : Option Bool) → is_world_at files (leads i.top link.path) ≡ o → reached_fault o (path_id link.path) (lost_fault (all_items files) (leads i.top link.path)) (linked_fault i.top (take k all) link) ≡ Some f → IsBroken files f
  there_broken k link f at None is h = (let lost = (lost_agrees (all_items files) (leads i.top link.path)).broken f h in Use i (here k link at) (MissingUse link.path lost.id (path_among i k link at) lost.local lost.missing lost.is))
  there_broken k link f at (Some true) is h = Use i (here k link at) (WorldUsed link.path (path_among i k link at) is (same_fault f (world_there (path_id link.path)) h))
  there_broken k link f at (Some false) is h = LinkedTwice i (here k link at) (linked_again k link f at is h)

  link_on : (k : ℕ) (link : Link) (f : Fault) → slice_get all k ≡ Some (SideLink link) → link_fault files i.top (take k all) link ≡ Some f → IsBroken files f
  link_on k link f at h =
      let there = is_world_at files (leads i.top link.path) in
      elim (or_some (metadata_fault link.attributes) (reached_fault there (path_id link.path) (lost_fault (all_items files) (leads i.top link.path)) (linked_fault i.top (take k all) link)) f h) [
        | inl metadata ↦ Sides i known.among (InterfaceMetadata (SideLink link) (contains_at all k (SideLink link) at) ((metadata_agree link.attributes).broken f metadata))
        | inr later ↦ there_broken k link f at there refl later.1
      ]

  -- an inline interface
  inline_among : (k : ℕ) (x : Extern) (name : Id) (items : List InterfaceItem) (r : ℕ) (j : Item) → slice_get all k ≡ Some (SideInline x name items) → slice_get (inline_item i (length (filter is_interface (items_on x.side (take k all)))) (SideInline x name items)) r ≡ Some j → Contains (inline_items i) j
  inline_among k x name items r j at own =
      let split = split_at all k (SideInline x name items) at in
      let place = length (filter is_interface (items_on x.side (take k all))) in
      let whole : inline_items i ≡ inline_after i [] (take k all) ++ (inline_item i place (SideInline x name items) ++ inline_after i (take k all ++ SideInline x name items ∷ []) split.0) = ap (inline_after i []) split.1 ∙ inline_after-append i [] (take k all) (SideInline x name items ∷ split.0) in
      let there = at_back (inline_after i [] (take k all)) (inline_item i place (SideInline x name items) ++ inline_after i (take k all ++ SideInline x name items ∷ []) split.0) r j (at_prefix (inline_item i place (SideInline x name items)) (inline_after i (take k all ++ SideInline x name items ∷ []) split.0) r j own) in
      contains_at (inline_items i) (length (inline_after i [] (take k all)) + r) j (ap (λ (l : List Item). slice_get l (length (inline_after i [] (take k all)) + r)) whole ∙ there)

  item_broken : (inside : Item → Option Fault) → BreaksInside files i inside → (k : ℕ) (x : SideItem) (f : Fault) → slice_get all k ≡ Some x → item_fault files n inside i (take k all) x ≡ Some f → IsBroken files f
  item_broken inside breaks k (SideFunction fn) f at h = function_on k fn f at h
  item_broken inside breaks k (SideLink link) f at h = link_on k link f at h
  item_broken inside breaks k (SideInline x name items) f at h =
      let written = inline_item i (length (filter is_interface (items_on x.side (take k all)))) (SideInline x name items) in
      elim (or_some (first_in inside written) (external_fault x.attributes.items) f h) [
        | inl own ↦ (let it = in_some inside written f own in breaks it.1 f (inline_among k x name items it.0 it.1 at it.2) it.3)
        | inr last ↦ Sides i known.among (InterfaceMetadata (SideInline x name items) (contains_at all k (SideInline x name items) at) (inr ((external_agrees x.attributes.items).broken f last.1)))
      ]

  -- a name
  called_broken : (k : ℕ) (x : SideItem) (f : Fault) → slice_get all k ≡ Some x → own_fault xs (items_on (item_side x) (take k all)) order x ≡ Some f → IsBroken files f
  called_broken k x f at h =
      let side = item_side x in
      let before = items_on side (take k all) in
      let names = side_called side xs before order in
      let types = map name_called (names_on side (in_turn xs order)) in
      let it = in_some (called_fault (is_extern x) (crossed side) names) (item_called x) f h in
      let c = it.1 in
      let only = called_one x it.0 c it.2 in
      let split = split_at all k x at in
      let rest = items_on side split.0 in
      let on : items_on side all ≡ before ++ x ∷ rest = on_split side all (take k all) split.0 x refl split.1 in
      elim (or_some (if is_extern x then clash_of (λ (d : Called). d.name) (crossed side) names c else None) (folded_fault names c) f it.3) [
        | inl own ↦ (
            let own_crossed = crossed_is (crossed side) (is_extern x) names c f own in
            let again = clash_repeat (λ (d : Called). d.name) (λ (d : Called) (w : List ℕ). fault_in 44 d.span w) (λ (y : Called) (d : Called). side_word side ++ (codes " `" ++ (d.name ++ (codes "` conflicts with prior " ++ (y.sort ++ codes " of same name"))))) names c f own_crossed.1 in
            let twice = repeat_some (λ (d : Called). d.name) (λ (d : Called). fault_in 44 d.span again.0) names c f again.1 in
            let e = any_found (λ (d : Called). bytes_eq d.name c.name) names twice.0 in
            let at_place : slice_get (items_on side all) (length before) ≡ Some x = ap (λ (l : List SideItem). slice_get l (length before)) on ∙ at_middle before x rest in
            let prefix : take (length before) (items_on side all) ≡ before = ap (take (length before)) on ∙ take_seam before (x ∷ rest) in
            let has : Contains (side_called side xs (take (length before) (items_on side all)) order) e.1 = subst (λ (l : List SideItem). Contains (side_called side xs l order) e.1) (sym prefix) (contains_at names e.0 e.1 e.2) in
            Sides i known.among (CrossedTwice (side, order, least, length before, x, at_place, extern_is x own_crossed.0, c, only, e.1, has, name_equal e.1.name c.name e.3, again.0, twice.1)))
        | inr far ↦ (
            let again = clash_repeat (λ (d : Called). folded_key d.name) (λ (d : Called) (w : List ℕ). fault_in 17 d.span w) (λ (y : Called) (d : Called). clash (codes "name") y.name d.name) names c f far.1 in
            let own = flat_map item_called before in
            let more = flat_map item_called rest in
            let whole : side_called side xs (items_on side all) order ≡ names ++ c ∷ more =
            ap (λ (l : List SideItem). types ++ flat_map item_called l) on
            ∙ ap (λ (l : List Called). types ++ l) (flat_map-append item_called before (x ∷ rest))
            ∙ ap (λ (l : List Called). types ++ (own ++ (l ++ more))) only
            ∙ sym (append_assoc types own (c ∷ more)) in
            Sides i known.among (FoldedTwice (side, order, least, (again.0, subst (λ (l : List Called). IsSecond (λ (d : Called). folded_key d.name) (λ (d : Called). fault_in 17 d.span again.0) l f) (sym whole) (second_here (λ (d : Called). folded_key d.name) (λ (d : Called). fault_in 17 d.span again.0) names more c f again.1)))))
      ]

  pub members_broken : (inside : Item → Option Fault) → BreaksInside files i inside → (f : Fault) → first_after (member_fault files n inside i order) [] all ≡ Some f → IsBroken files f
  members_broken inside breaks f h =
      let it = after_some (member_fault files n inside i order) [] all f h in
      let k = it.0 in
      let x = it.1 in
      let names = own_fault xs (items_on (item_side x) (take k all)) order x in
      elim (or_some (item_fault files n inside i (take k all) x) names f it.3) [
        | inl own ↦ item_broken inside breaks k x f it.2 own
        | inr far ↦ called_broken k x f it.2 far.1
      ]

  -- names of types
  pub turned_broken : (f : Fault) → first_after folded_fault [] (map name_called (in_turn xs order)) ≡ Some f → IsBroken files f
  turned_broken f h =
      let names = map name_called (in_turn xs order) in
      let it = after_some folded_fault [] names f h in
      let again = clash_repeat (λ (d : Called). folded_key d.name) (λ (d : Called) (w : List ℕ). fault_in 17 d.span w) (λ (y : Called) (d : Called). clash (codes "name") y.name d.name) (take it.0 names) it.1 f it.3 in
      let second = repeat_second (λ (d : Called). folded_key d.name) (λ (d : Called). fault_in 17 d.span again.0) names it.0 it.1 f it.2 again.1 in
      Sides i known.among (FoldedTwice (Imported, order, least, (again.0, second_prefix (λ (d : Called). folded_key d.name) (λ (d : Called). fault_in 17 d.span again.0) names (flat_map item_called (items_on Imported all)) f second)))
