-- The names that items use from other packages are those among their names, and among those of what is written in them.
use Rattle.std.proofs.Common.{◌≡◌, ℕ, suc, List, [], ◌∷◌, ◌++◌, refl, sym, ap, ◌∙◌}
use Rattle.wit_items.proofs.Common.{Address, All, AreItemsOf, Attribute, DefinitionPart, Exported, ExternPart, ForeignUse, FunctionPart, Imported, IncludePart, IsItemOf, IsItemPlaced, PackageFile, Part, ScopeName, SideFunction, SideInline, SideItem, SideLink, TopName, UseName, UsePart, Used, WorldSide, all_items, filter, filter-append, flat_map, flat_map-append, foreign_uses, flat_map-map, get_or, inline_on, inside_view, interface_part, interfaces_on, is_foreign, item_foreign_uses, item_view, map, part_names, parts, path_scope, prefix_of, scope_names, side_items, side_uses, slice_get-get_or, use_foreign_uses, use_of_foreign, with_names}
use Rattle.wit_items.specs.declared.items.Item.{Item as BorrowedItem}
use Rattle.wit_arena.proofs.Common.{Item}
use Rattle.wit_syntax.proofs.Common.{Use, append-nil, foreign_uses-filtered, own_uses}
use Rattle.wit_items.specs.BorrowedItems.{Inside, AreInside}
use Rattle.wit_items.proofs.Inlined.{inline_from, numbered}
use Rattle.wit_items.proofs.Written.{part_on, parts_on, uses_written, written_uses}
use Rattle.wit_front.specs.ForeignPrefix.{borrowed_foreign_uses, inside_uses, name_foreign_uses}

-- those from other packages
abbrev foreign : List ForeignUse → List ForeignUse
foreign ts = filter (λ t. is_foreign t.from) ts

foreign-append : (ts us : List ForeignUse) → foreign (ts ++ us) ≡ foreign ts ++ foreign us
foreign-append ts us = filter-append (λ (t : ForeignUse). is_foreign t.from) ts us

-- what a `use` names of other packages
used-foreign_uses : (s : Address) (attributes : List Attribute) (ns : List UseName) → flat_map name_foreign_uses (map (Used s attributes) ns) ≡ filter (λ t. is_foreign t.from) (map (use_of_foreign s attributes) ns)
used-foreign_uses s attributes [] = refl
used-foreign_uses s attributes (n ∷ ns) = ap (λ (l : List ForeignUse). name_foreign_uses (Used s attributes n) ++ l) (used-foreign_uses s attributes ns) ∙ sym (filter-append (λ (t : ForeignUse). is_foreign t.from) (use_of_foreign s attributes n ∷ []) (map (use_of_foreign s attributes) ns))

-- those of parts are those of the uses of their own
abbrev foreign_of : List TopName → List Use → List ForeignUse
foreign_of top us = foreign (flat_map (use_foreign_uses top) us)

foreign_of-append : (top : List TopName) (us vs : List Use) → foreign_of top (us ++ vs) ≡ foreign_of top us ++ foreign_of top vs
foreign_of-append top us vs = ap foreign (flat_map-append (use_foreign_uses top) us vs) ∙ foreign-append (flat_map (use_foreign_uses top) us) (flat_map (use_foreign_uses top) vs)

part-foreign_uses : (top : List TopName) (p : Part) → flat_map name_foreign_uses (part_names top p) ≡ foreign_of top (own_uses p)
part-foreign_uses top (DefinitionPart d) = refl
part-foreign_uses top (UsePart u) = used-foreign_uses (path_scope top u.from) u.attributes.items u.names.items ∙ ap foreign (sym (append-nil (use_foreign_uses top u)))
part-foreign_uses top (IncludePart i) = refl
part-foreign_uses top (FunctionPart f) = refl
part-foreign_uses top (ExternPart x) = refl

parts-foreign_uses : (top : List TopName) (ps : List Part) → flat_map name_foreign_uses (flat_map (part_names top) ps) ≡ foreign_of top (flat_map own_uses ps)
parts-foreign_uses top [] = refl
parts-foreign_uses top (p ∷ ps) = flat_map-append name_foreign_uses (part_names top p) (flat_map (part_names top) ps) ∙ ap (λ (l : List ForeignUse). l ++ flat_map name_foreign_uses (flat_map (part_names top) ps)) (part-foreign_uses top p) ∙ ap (λ (l : List ForeignUse). foreign_of top (own_uses p) ++ l) (parts-foreign_uses top ps) ∙ sym (foreign_of-append top (own_uses p) (flat_map own_uses ps))

-- the names of interfaces are used by their uses
interfaces_used : (i : Item) (n : ℕ) (xs : List SideItem) → flat_map (λ (u : Item). flat_map name_foreign_uses (scope_names u)) (inline_from i n xs) ≡ foreign_of i.top (flat_map written_uses xs)
interfaces_used i n [] = refl
interfaces_used i n (SideFunction fn ∷ xs) = interfaces_used i (suc n) xs
interfaces_used i n (SideLink link ∷ xs) = interfaces_used i (suc n) xs
interfaces_used i n (SideInline x name items ∷ xs) =
    let ps = map interface_part items in
    ap (λ (l : List ForeignUse). l ++ flat_map (λ (u : Item). flat_map name_foreign_uses (scope_names u)) (inline_from i (suc n) xs)) (parts-foreign_uses i.top ps) ∙ ap (λ (l : List ForeignUse). foreign_of i.top (flat_map own_uses ps) ++ l) (interfaces_used i (suc n) xs) ∙ sym (foreign_of-append i.top (flat_map own_uses ps) (flat_map written_uses xs))

-- those of a side are those of the uses that are written there
side_parts : (side : WorldSide) (ps : List Part) → flat_map (side_uses side) ps ≡ flat_map written_uses (flat_map (part_on side) ps)
side_parts side [] = refl
side_parts side (p ∷ ps) = ap (λ (l : List Use). l ++ flat_map (side_uses side) ps) (uses_written side p) ∙ ap (λ (l : List Use). flat_map written_uses (part_on side p) ++ l) (side_parts side ps) ∙ sym (flat_map-append written_uses (part_on side p) (flat_map (part_on side) ps))

-- so are the names of those that are borrowed
inside_used : (w : Item) (side : WorldSide) (ns : List Inside) → AreInside side w ns → inside_uses ns ≡ foreign_of w.top (flat_map (side_uses side) (parts w))
inside_used w side ns are =
    let of : Item × List ScopeName → List ForeignUse = λ p. flat_map name_foreign_uses p.1 in
    sym (flat_map-map of (inside_view w) ns)
    ∙ ap (flat_map of) are
    ∙ flat_map-map of with_names (inline_on side w)
    ∙ ap (flat_map (λ (u : Item). flat_map name_foreign_uses (scope_names u))) (numbered side w)
    ∙ interfaces_used w 0 (interfaces_on side (side_items w))
    ∙ ap (foreign_of w.top) (ap (flat_map written_uses) (parts_on side (parts w)) ∙ sym (side_parts side (parts w)))

-- those of an item that is borrowed with the right names, and with those of what is written in it
borrowed-foreign_uses : (files : List PackageFile) (x : BorrowedItem) → IsItemOf files x → borrowed_foreign_uses x ≡ item_foreign_uses (item_view x)
borrowed-foreign_uses files x is =
    let w = item_view x in
    let own = flat_map own_uses (parts w) in
    let on : WorldSide → List Use = λ side. flat_map (side_uses side) (parts w) in
    let inside = inside_uses x.imported.items ++ inside_uses x.exported.items in
    let sides : inside ≡ foreign_of w.top (on Imported ++ on Exported) = ap (λ (l : List ForeignUse). l ++ inside_uses x.exported.items) (inside_used w Imported x.imported.items (is.written Imported)) ∙ ap (λ (l : List ForeignUse). foreign_of w.top (on Imported) ++ l) (inside_used w Exported x.exported.items (is.written Exported)) ∙ sym (foreign_of-append w.top (on Imported) (on Exported)) in
    ap (λ (l : List ScopeName). flat_map name_foreign_uses l ++ inside) is.named ∙ ap (λ (l : List ForeignUse). l ++ inside) (parts-foreign_uses w.top (parts w)) ∙ ap (λ (l : List ForeignUse). foreign_of w.top own ++ l) sides ∙ sym (foreign_of-append w.top own (on Imported ++ on Exported))

items-foreign_uses : (files : List PackageFile) (xs : List BorrowedItem) → AreItemsOf files xs → flat_map borrowed_foreign_uses xs ≡ flat_map item_foreign_uses (map item_view xs)
items-foreign_uses files [] are = refl
items-foreign_uses files (x ∷ xs) are =
    let rest : AreItemsOf files xs = record { each = λ k i at. are.each (suc k) i at } in
    ap (λ (l : List ForeignUse). l ++ flat_map borrowed_foreign_uses xs) (borrowed-foreign_uses files x (are.each 0 x refl)) ∙ ap (λ (l : List ForeignUse). item_foreign_uses (item_view x) ++ l) (items-foreign_uses files xs rest)

pub all-foreign_uses : (files : List PackageFile) (xs : List BorrowedItem) → AreItemsOf files xs → map item_view xs ≡ all_items files → flat_map borrowed_foreign_uses xs ≡ foreign_uses files
all-foreign_uses files xs are all = items-foreign_uses files xs are ∙ ap (flat_map item_foreign_uses) all ∙ sym (foreign_uses-filtered files)

-- their names are placed
pub items_placed : (files : List PackageFile) (xs : List BorrowedItem) → AreItemsOf files xs → All (IsItemPlaced (prefix_of files)) xs
items_placed files xs are = λ k d within. (are.each k (get_or xs k d) (slice_get-get_or xs k d within)).placed
