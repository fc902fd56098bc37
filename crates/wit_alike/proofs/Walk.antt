-- The first fault of alike files is one.
use Rattle.std.proofs.Common.{◌≡◌, ℕ, Bool, true, false, not, cond, ◌&&◌, List, [], ◌∷◌, ◌++◌, map, length, codes, Option, Some, None, is_none, refl, ap, ap₂, sym, ◌∙◌, ◌==◌}
use Rattle.wit_walk.proofs.Common.{Address, AllZip, Called, ComesTo, Constructor, Cyclic, Defined, Exported, Fault, ForeignName, Freestanding, Id, Imported, Include, IsOutcome, Item, Known, Link, Method, Missing, OnSide, Outcome, PackageFile, Role, Row, ScopeName, SideFunction, SideInline, SideItem, SideLink, SourceFunction, Span, Static, TopName, Used, WorldSide, about, address, all_items, bytes_eq, called_fault, contents_fault, crossed, cyclic_at, defined, defined_twice, definition_fault, earliest, eqb-suc-zero, fault, fault_in, filter, first_after, first_fault, first_in, flat_map, folded_fault, functions, getter_of, handle_fault, if◌then◌else◌, in_order, in_turn, include_fault, includes, inline_item, interface_fault, interfaces_of, is_extern, is_free, is_interface, is_on_side, is_same_link, is_setter, is_world_at, item_at, item_called, item_fault, item_function, item_link, item_rows, item_side, item_word, items_on, last_header, leads, link_fault, linked_fault, linked_twice, list_any, local_id, local_name, lone_setter, lost_fault, lost_use, meaning, member_fault, missing_at, missing_type_at, name_called, name_fault, name_twice, name_word, names_on, on_side, one_first, option_map, option_map_or, option_or, order_of, ordered_fault, own_fault, path_id, reached_fault, rows_of, same_address, scope_faults, scope_names, setter_fault, setters_fault, side_called, side_items, side_setters_fault, signed_fault, type_word, use_fault, used, worlds_of}
use Rattle.wit_tree.specs.declared.tree.PackageName.{PackageName as Header}
use Rattle.wit_grammar.specs.Trees.{Name, UsedName, Function, Extern as SeenExtern}
use Rattle.wit_grammar.specs.Seen.{see_attribute, see_include, see_name, see_package_id}
use Rattle.wit_syntax.specs.Hint.{type_hint}
use Rattle.wit_alike.proofs.Lists.{Both, zip_after, zip_any, zip_append, zip_first, zip_flat, zip_of, zip_same}
use Rattle.wit_alike.proofs.Leaves.{SameId, by_name, same_external, same_metadata, same_stability, same_text}
use Rattle.wit_alike.proofs.Paths.{SameTop, same_leads, same_path_id, same_path_scope}
use Rattle.wit_alike.proofs.Items.{SameFile, SameItem, SameName, same_about_attributes, same_all_items, same_item_address, same_item_at, same_local_id, same_local_name, same_meant, same_scope_names}
use Rattle.wit_alike.proofs.Functions.{SameFunction, SameLink, SameRole, SameSide, same_count, same_functions, same_inline_item, same_item_function, same_item_link, same_item_side, same_items_on, same_on_side, same_side_items}
use Rattle.wit_alike.proofs.Tables.{SameOutcome, same_order_fault, same_order_of, same_outcome}
use Rattle.wit_alike.proofs.Foreign.{include_attributes, include_from, same_world_at}
use Rattle.wit_alike.proofs.Scopes.{same_defined, same_handle, same_in_order, same_in_turn, same_includes, same_interfaces, same_item_rows, same_names_used, same_rows, same_worlds}
use Rattle.wit_alike.proofs.Files.{same_all_uses, same_files_fault, same_item_names, same_lost, same_missing, same_tops_fault, same_visits_fault, zip_repeat}
use Rattle.wit_alike.proofs.Signatures.{same_definition_fault, same_free_name, same_function_fault, same_signed, same_unless_meant}

-- ---- names
same_lost_use : (i j : Item) (a b : Id) → SameItem i j → SameId a b → lost_use i a ≡ lost_use j b
same_lost_use i j a b h same =
    ap₂ (λ (there : Bool) (n : Name). cond there (fault_in 13 n.span (codes "cannot import function `" ++ (n.text ++ codes "`"))) (record { rule = 12; span = n.span; says = Missing n.text name_word None }))
    (zip_any SameFunction (λ (fn : SourceFunction). is_free a.name.now fn.role) (λ (fn : SourceFunction). is_free b.name.now fn.role) (λ f g one. same_free_name a.name.now b.name.now f.role g.role (same_text a b same) one.role) (functions i) (functions j) (same_functions i j h)) same

abbrev named_so : List ℕ → List ℕ → Span → Called
named_so sort text span = record { name = text; span = span; sort = sort }

same_called : (x y : ScopeName) → SameName x y → name_called x ≡ name_called y
same_called x y h = by_name (named_so (codes "type")) (local_id x) (local_id y) (same_local_id x y h)

module _ (files others : List PackageFile) (h : AllZip SameFile files others) where
  used_there : (o p : Option Item) (a b : Id) → Both SameItem o p → SameId a b
      → option_map_or (λ (target : Item). if is_none (meaning (scope_names target) a.name.now) then Some (lost_use target a) else None) o None ≡ option_map_or (λ (target : Item). if is_none (meaning (scope_names target) b.name.now) then Some (lost_use target b) else None) p None
  used_there None None a b there same = refl
  used_there None (Some j) a b there same = absurd there
  used_there (Some i) None a b there same = absurd there
  used_there (Some i) (Some j) a b there same =
      same_unless_meant (meaning (scope_names i) a.name.now) (meaning (scope_names j) b.name.now) (lost_use i a) (lost_use j b) (same_meant (scope_names i) (scope_names j) a.name.now b.name.now (same_scope_names i j there) (same_text a b same)) (same_lost_use i j a b there same)

  same_use : (x y : ScopeName) → SameName x y → use_fault files x ≡ use_fault others y
  same_use (Used s marks n) (Used t others' m) same =
      used_there (item_at (all_items files) s) (item_at (all_items others) t) n.name m.name (same_item_at (all_items files) (all_items others) s t (same_all_items files others h) same.0) (ap (λ (u : UsedName). u.name) same.2)
  same_use (Defined d) (Defined e) same = refl
  same_use (ForeignName marks a) (ForeignName others' b) same = refl
  same_use x y same = absurd same

  same_name_fault : (before others' : List ScopeName) (x y : ScopeName) → AllZip SameName before others' → SameName x y → name_fault files before x ≡ name_fault others others' y
  same_name_fault before others' x y earlier same =
      ap₂ option_or (same_use x y same)
      (zip_repeat SameName local_name local_name (λ (z : ScopeName). name_twice (local_id z)) (λ (z : ScopeName). name_twice (local_id z)) same_local_name
      (λ z w one. by_name (λ (text : List ℕ) (span : Span). fault_in 14 span (defined_twice (codes "name") text)) (local_id z) (local_id w) (same_local_id z w one)) before others' x y earlier same)

  -- ---- paths
  same_interface_fault : (o p : Option Bool) (a b : Id) → o ≡ p → SameId a b → interface_fault o a ≡ interface_fault p b
  same_interface_fault o p a b e same = ap (λ (x : Option Bool). interface_fault x a) e ∙ by_kind p
    where
      by_kind : (p : Option Bool) → interface_fault p a ≡ interface_fault p b
      by_kind None = refl
      by_kind (Some true) = refl
      by_kind (Some false) = ap Some (by_name (λ (text : List ℕ) (span : Span). fault_in 11 span (codes "name `" ++ (text ++ codes "` is defined as an interface, not a world"))) a b same)

  same_include : (top other : List TopName) → AllZip SameTop top other → (n m : Include) → see_include n ≡ see_include m → include_fault files top n ≡ include_fault others other m
  same_include top other tops n m same =
      let from = include_from n m same in
      ap₂ option_or (same_stability n.attributes.items m.attributes.items (include_attributes n m same))
      (same_interface_fault (is_world_at files (leads top n.from)) (is_world_at others (leads other m.from)) (path_id n.from) (path_id m.from) (same_world_at files others h (leads top n.from) (leads other m.from) (same_leads top other n.from m.from tops from)) (same_path_id n.from m.from from))

  no_name : (o p : Option Id) → option_map see_name o ≡ option_map see_name p → is_none o ≡ is_none p
  no_name None None e = refl
  no_name None (Some b) e = absurd (let wrong : ⊥ = cc in wrong)
  no_name (Some a) None e = absurd (let wrong : ⊥ = cc in wrong)
  no_name (Some a) (Some b) e = refl

  same_linked : (top other : List TopName) → AllZip SameTop top other → (before others' : List SideItem) (l k : Link) → AllZip SameSide before others' → SameLink l k → linked_fault top before l ≡ linked_fault other others' k
  same_linked top other tops before others' l k earlier same =
      let on = same_items_on l.side k.side before others' same.side earlier in
      let links = zip_flat SameSide SameLink item_link item_link same_item_link (items_on l.side before) (items_on k.side others') on in
      let any = zip_any SameLink (λ (x : Link). is_same_link top x l) (λ (x : Link). is_same_link other x k)
      (λ x y one. ap₂ (λ a b. a && b) (no_name x.name y.name one.name) (ap₂ (λ a b. a && b) (no_name l.name k.name same.name) (ap₂ same_address (same_path_scope top other x.path y.path tops one.path) (same_path_scope top other l.path k.path tops same.path))))
      (flat_map item_link (items_on l.side before)) (flat_map item_link (items_on k.side others')) links in
      ap (λ (there : Bool). cond there (Some (linked_twice l.side (path_id l.path).span)) None) any
      ∙ ap (λ (side : WorldSide). cond (list_any (λ (x : Link). is_same_link other x k) (flat_map item_link (items_on k.side others'))) (Some (linked_twice side (path_id l.path).span)) None) same.side
      ∙ ap (λ (n : Name). cond (list_any (λ (x : Link). is_same_link other x k) (flat_map item_link (items_on k.side others'))) (Some (linked_twice k.side n.span)) None) (same_path_id l.path k.path same.path)

  same_there : (o p : Option Bool) (a b : Id) (lost twice other also : Option Fault) → o ≡ p → SameId a b → lost ≡ other → twice ≡ also → reached_fault o a lost twice ≡ reached_fault p b other also
  same_there o p a b lost twice other also e same f g = ap (λ (x : Option Bool). reached_fault x a lost twice) e ∙ by_kind p
    where
      by_kind : (p : Option Bool) → reached_fault p a lost twice ≡ reached_fault p b other also
      by_kind None = f
      by_kind (Some true) = ap Some (by_name (λ (text : List ℕ) (span : Span). fault_in 10 span (codes "name `" ++ (text ++ codes "` is defined as a world, not an interface"))) a b same)
      by_kind (Some false) = g

  same_link_fault : (top other : List TopName) → AllZip SameTop top other → (before others' : List SideItem) (l k : Link) → AllZip SameSide before others' → SameLink l k → link_fault files top before l ≡ link_fault others other others' k
  same_link_fault top other tops before others' l k earlier same =
      let to = same_leads top other l.path k.path tops same.path in
      ap₂ option_or (same_metadata l.attributes k.attributes same.attributes)
      (same_there (is_world_at files (leads top l.path)) (is_world_at others (leads other k.path)) (path_id l.path) (path_id k.path) (lost_fault (all_items files) (leads top l.path)) (linked_fault top before l) (lost_fault (all_items others) (leads other k.path)) (linked_fault other others' k)
      (same_world_at files others h (leads top l.path) (leads other k.path) to) (same_path_id l.path k.path same.path) (same_lost (all_items files) (all_items others) (same_all_items files others h) (leads top l.path) (leads other k.path) to) (same_linked top other tops before others' l k earlier same))

-- ---- setters
same_setter_fault : (fns gns : List SourceFunction) → AllZip SameFunction fns gns → (f g : SourceFunction) → SameFunction f g → setter_fault fns f ≡ setter_fault gns g
same_setter_fault fns gns h f g same =
    let any = zip_any SameFunction (λ (x : SourceFunction). bytes_eq x.name (getter_of f.name)) (λ (x : SourceFunction). bytes_eq x.name (getter_of g.name)) (λ x y one. ap₂ bytes_eq one.name (ap getter_of same.name)) fns gns h in
    let alone = ap₂ (λ (x : Function) (there : Bool). is_setter x.form && not there) same.func any in
    ap₂ (λ (wrong : Bool) (found : Fault). cond wrong (Some found) None) alone (ap₂ lone_setter same.name same.span)

same_side_setters : (i j : Item) (side : WorldSide) → SameItem i j → side_setters_fault i side ≡ side_setters_fault j side
same_side_setters i j side h =
    let there = same_on_side side (functions i) (functions j) (same_functions i j h) in
    zip_first SameFunction (setter_fault (on_side side (functions i))) (setter_fault (on_side side (functions j))) (same_setter_fault (on_side side (functions i)) (on_side side (functions j)) there) (on_side side (functions i)) (on_side side (functions j)) there

same_setters : (i j : Item) → SameItem i j → setters_fault i ≡ setters_fault j
same_setters i j h = beside (includes i) (includes j) (same_includes i j h)
  where
    beside : (ns ms : List Include) → AllZip (λ (n m : Include). see_include n ≡ see_include m) ns ms → (if length ns == 0 then option_or (side_setters_fault i Imported) (side_setters_fault i Exported) else None) ≡ (if length ms == 0 then option_or (side_setters_fault j Imported) (side_setters_fault j Exported) else None)
    beside [] [] same = ap₂ option_or (same_side_setters i j Imported h) (same_side_setters i j Exported h)
    beside [] (m ∷ ms) same = absurd same
    beside (n ∷ ns) [] same = absurd same
    beside (n ∷ ns) (m ∷ ms) same = ap (λ (b : Bool). if b then option_or (side_setters_fault i Imported) (side_setters_fault i Exported) else None) (eqb-suc-zero (length ns)) ∙ sym (ap (λ (b : Bool). if b then option_or (side_setters_fault j Imported) (side_setters_fault j Exported) else None) (eqb-suc-zero (length ms)))

-- ---- what is on sides
same_on : (r s : Role) → SameRole r s → is_on_side r ≡ is_on_side s
same_on (Freestanding a f) (Freestanding b g) h = refl
same_on (Method a f) (Method b g) h = refl
same_on (Static a f) (Static b g) h = refl
same_on (Constructor a) (Constructor b) h = refl
same_on (OnSide s a f) (OnSide t b g) h = refl
same_on r s h = absurd h

same_extern : (x y : SideItem) → SameSide x y → is_extern x ≡ is_extern y
same_extern (SideFunction f) (SideFunction g) h = same_on f.role g.role h.role
same_extern (SideFunction f) y h = absurd h
same_extern x (SideFunction g) h = absurd h
same_extern x y h = refl

abbrev id_called : Id → List Called
id_called id = named_so (codes "interface") id.name.now id.span ∷ []

same_item_called : (x y : SideItem) → SameSide x y → item_called x ≡ item_called y
same_item_called (SideFunction f) (SideFunction g) h = ap₂ (λ (text : List ℕ) (span : Span). named_so (codes "func") text span ∷ []) h.name h.span
same_item_called (SideLink l) (SideLink k) h = by_link l.name k.name h.name
  where
    by_link : (o p : Option Id) → option_map see_name o ≡ option_map see_name p → option_map_or id_called o [] ≡ option_map_or id_called p []
    by_link None None e = refl
    by_link None (Some b) e = absurd (let wrong : ⊥ = cc in wrong)
    by_link (Some a) None e = absurd (let wrong : ⊥ = cc in wrong)
    by_link (Some a) (Some b) e = (let one : see_name a ≡ see_name b = cc in ap (λ (n : Name). named_so (codes "interface") n.text n.span ∷ []) one)
same_item_called (SideInline x n is) (SideInline y m js) h = ap (λ (z : Name). named_so (codes "interface") z.text z.span ∷ []) h.1
same_item_called x y h = absurd h

-- what is made of each, where that is equal
pub flat_same : {A B : Type 0} (R : A → A → Type 0) (f : A → List B) → ((x y : A) → R x y → f x ≡ f y) → (xs ys : List A) → AllZip R xs ys → flat_map f xs ≡ flat_map f ys
flat_same R f each [] [] h = refl
flat_same R f each [] (y ∷ ys) h = absurd h
flat_same R f each (x ∷ xs) [] h = absurd h
flat_same R f each (x ∷ xs) (y ∷ ys) h = ap₂ (λ a b. a ++ b) (each x y h.0) (flat_same R f each xs ys h.1)

module _ (xs ys : List ScopeName) (names : AllZip SameName xs ys) (order other : List ℕ) (orders : order ≡ other) where
  turned_names : AllZip SameName (in_turn xs order) (in_turn ys other)
  turned_names = same_in_turn xs ys order other orders names

  pub called_in_turn : map name_called (in_turn xs order) ≡ map name_called (in_turn ys other)
  called_in_turn = zip_same SameName name_called name_called same_called (in_turn xs order) (in_turn ys other) turned_names

  same_types_on : {B : Type 0} (f : ScopeName → B) → ((x y : ScopeName) → SameName x y → f x ≡ f y) → (side : WorldSide) → map f (names_on side (in_turn xs order)) ≡ map f (names_on side (in_turn ys other))
  same_types_on f each Imported = zip_same SameName f f each (in_turn xs order) (in_turn ys other) turned_names
  same_types_on f each Exported = refl

  same_side_called : (side : WorldSide) (there others : List SideItem) → AllZip SameSide there others → side_called side xs there order ≡ side_called side ys others other
  same_side_called side there others h = ap₂ (λ a b. a ++ b) (same_types_on name_called same_called side) (flat_same SameSide item_called same_item_called there others h)

  same_own : (there others : List SideItem) → AllZip SameSide there others → (x y : SideItem) → SameSide x y → own_fault xs there order x ≡ own_fault ys others other y
  same_own there others h x y same =
      ap (λ (side : WorldSide). first_in (called_fault (is_extern x) (crossed side) (side_called side xs there order)) (item_called x)) (same_item_side x y same)
      ∙ ap (λ (crosses : Bool). first_in (called_fault crosses (crossed (item_side y)) (side_called (item_side y) xs there order)) (item_called x)) (same_extern x y same)
      ∙ ap (λ (before : List Called). first_in (called_fault (is_extern y) (crossed (item_side y)) before) (item_called x)) (same_side_called (item_side y) there others h)
      ∙ ap (first_in (called_fault (is_extern y) (crossed (item_side y)) (side_called (item_side y) ys others other))) (same_item_called x y same)

-- ---- the walk
-- a header is seen of the last file that has one
seen_or : (o q p r : Option Header) → option_map see_package_id o ≡ option_map see_package_id p → option_map see_package_id q ≡ option_map see_package_id r → option_map see_package_id (option_or o q) ≡ option_map see_package_id (option_or p r)
seen_or None q None r e f = f
seen_or None q (Some p) r e f = absurd (let wrong : ⊥ = cc in wrong)
seen_or (Some o) q None r e f = absurd (let wrong : ⊥ = cc in wrong)
seen_or (Some o) q (Some p) r e f = e

pub same_last : (files others : List PackageFile) → AllZip SameFile files others → option_map see_package_id (last_header files) ≡ option_map see_package_id (last_header others)
same_last [] [] h = refl
same_last [] (g ∷ others) h = absurd h
same_last (f ∷ files) [] h = absurd h
same_last (f ∷ files) (g ∷ others) h = seen_or (last_header files) f.package_id (last_header others) g.package_id (same_last files others h.1) h.0.0

same_stated : (number : ℕ) (a b : Id) → SameId a b → cyclic_at number item_word a ≡ cyclic_at number item_word b
same_stated number a b h = by_name (λ (text : List ℕ) (span : Span). record { rule = number; span = span; says = Cyclic text item_word }) a b h

same_round : (number : ℕ) (a b : Id) → SameId a b → cyclic_at number type_word a ≡ cyclic_at number type_word b
same_round number a b h = by_name (λ (text : List ℕ) (span : Span). record { rule = number; span = span; says = Cyclic text type_word }) a b h

same_missing_type : (a b : Id) → SameId a b → missing_type_at a ≡ missing_type_at b
same_missing_type a b h = by_name (λ (text : List ℕ) (span : Span). record { rule = 15; span = span; says = Missing text type_word (type_hint text) }) a b h

module _ (files others : List PackageFile) (h : AllZip SameFile files others) (steps : ℕ) (inside other : Item → Option Fault) (insides : (i j : Item) → SameItem i j → inside i ≡ other j) where
  same_item_fault : (i j : Item) → SameItem i j → (before after : List SideItem) → AllZip SameSide before after → (x y : SideItem) → SameSide x y → item_fault files steps inside i before x ≡ item_fault others steps other j after y
  same_item_fault i j same before after earlier (SideFunction f) (SideFunction g) one =
      let names = same_scope_names i j same in
      let fns = zip_append SameFunction (flat_map item_function before) (f ∷ []) (flat_map item_function after) (g ∷ []) (zip_flat SameSide SameFunction item_function item_function same_item_function before after earlier) (one, tt) in
      let handles : (a b : Id) → SameId a b → handle_fault files steps (address i) a ≡ handle_fault others steps (address j) b =
      λ a b ids. same_handle files others h steps (address i) a b ids ∙ ap (λ (s : Address). handle_fault others steps s b) (same_item_address i j same) in
      same_function_fault (scope_names i) (scope_names j) names (signed_fault (scope_names i) (flat_map item_function before ++ f ∷ []) (handle_fault files steps (address i))) (signed_fault (scope_names j) (flat_map item_function after ++ g ∷ []) (handle_fault others steps (address j)))
      (same_signed (scope_names i) (scope_names j) names (flat_map item_function before ++ f ∷ []) (flat_map item_function after ++ g ∷ []) fns (handle_fault files steps (address i)) (handle_fault others steps (address j)) handles) f g one
  same_item_fault i j same before after earlier (SideLink l) (SideLink k) one = same_link_fault files others h i.top j.top same.0 before after l k earlier one
  same_item_fault i j same before after earlier (SideInline x n is) (SideInline y m js) one =
      let place = length (filter is_interface (items_on x.side before)) in
      let where_it_is = length (filter is_interface (items_on y.side after)) in
      let sides = ap (λ (z : SeenExtern). z.side) one.0 in
      ap₂ option_or
      (zip_first SameItem inside other insides (inline_item i place (SideInline x n is)) (inline_item j where_it_is (SideInline y m js)) (same_inline_item i j place where_it_is (SideInline x n is) (SideInline y m js) same (same_count x.side y.side before after sides earlier) one))
      (same_external x.attributes.items y.attributes.items (zip_of see_attribute x.attributes.items y.attributes.items (ap (λ (z : SeenExtern). z.prefix.attributes) one.0)))
  same_item_fault i j same before after earlier x y one = absurd one

  same_member : (i j : Item) → SameItem i j → (order also : List ℕ) → order ≡ also → (before after : List SideItem) (x y : SideItem) → AllZip SameSide before after → SameSide x y → member_fault files steps inside i order before x ≡ member_fault others steps other j also after y
  same_member i j same order also orders before after x y earlier one =
      ap₂ option_or (same_item_fault i j same before after earlier x y one)
      (same_own (scope_names i) (scope_names j) (same_scope_names i j same) order also orders (items_on (item_side x) before) (items_on (item_side y) after) (same_items_on (item_side x) (item_side y) before after (same_item_side x y one) earlier) x y one)

  same_scope_faults : (i j : Item) → SameItem i j → (o p : Outcome) → SameOutcome o p → earliest (scope_faults files steps inside i o) ≡ earliest (scope_faults others steps other j p)
  same_scope_faults i j same o p outcomes =
      let xs = scope_names i in
      let ys = scope_names j in
      let names = same_scope_names i j same in
      let orders = same_order_of o p outcomes in
      let handles : (a b : Id) → SameId a b → handle_fault files steps (address i) a ≡ handle_fault others steps (address j) b =
      λ a b ids. same_handle files others h steps (address i) a b ids ∙ ap (λ (s : Address). handle_fault others steps s b) (same_item_address i j same) in
      let definitions = same_defined (in_order xs (order_of o)) (in_order ys (order_of p)) (same_in_order SameName xs ys (order_of o) (order_of p) orders names) in
      ap₂ option_or (same_stability (about i.declared).attributes (about j.declared).attributes (same_about_attributes i.declared j.declared same.1))
      (ap₂ option_or (zip_after SameName (name_fault files) (name_fault others) (same_name_fault files others h) [] (used xs ++ defined xs) [] (used ys ++ defined ys) tt (zip_append SameName (used xs) (defined xs) (used ys) (defined ys) (same_names_used xs ys names) (same_defined xs ys names)))
      (ap₂ option_or (same_order_fault missing_type_at (cyclic_at 16 type_word) same_missing_type (same_round 16) o p outcomes)
      (ap₂ option_or (zip_first SameName (definition_fault (handle_fault files steps (address i))) (definition_fault (handle_fault others steps (address j))) (same_definition_fault (handle_fault files steps (address i)) (handle_fault others steps (address j)) handles)
      (defined (in_order xs (order_of o))) (defined (in_order ys (order_of p))) definitions)
      (ap₂ option_or (zip_first (λ (n m : Include). see_include n ≡ see_include m) (include_fault files i.top) (include_fault others j.top) (same_include files others h i.top j.top same.0) (includes i) (includes j) (same_includes i j same))
      (ap₂ option_or (ap (first_after folded_fault []) (called_in_turn xs ys names (order_of o) (order_of p) orders))
      (ap₂ option_or (zip_after SameSide (member_fault files steps inside i (order_of o)) (member_fault others steps other j (order_of p)) (same_member i j same (order_of o) (order_of p) orders) [] (side_items i) [] (side_items j) tt (same_side_items i j same))
      (ap (λ (x : Option Fault). option_or x None) (same_setters i j same))))))))

module _ (files others : List PackageFile) (h : AllZip SameFile files others) (outcome : List Row → Outcome) (are : (rs : List Row) → IsOutcome rs (outcome rs)) (steps : ℕ) where
  abbrev known : Known
  known = record { outcome = outcome; steps = steps }

  same_ordered : (inside other : Item → Option Fault) → ((i j : Item) → SameItem i j → inside i ≡ other j) → (i j : Item) → SameItem i j → ordered_fault files known inside i ≡ ordered_fault others known other j
  same_ordered inside other insides i j same =
      let rs = rows_of (scope_names i) in
      let ss = rows_of (scope_names j) in
      same_scope_faults files others h steps inside other insides i j same (outcome rs) (outcome ss) (same_outcome rs ss (same_rows (scope_names i) (scope_names j) (same_scope_names i j same)) (outcome rs) (outcome ss) (are rs) (are ss))

  same_inline : (i j : Item) → SameItem i j → ordered_fault files known (λ (v : Item). None) i ≡ ordered_fault others known (λ (v : Item). None) j
  same_inline i j same = same_ordered (λ (x : Item). None) (λ (x : Item). None) (λ a b one. refl) i j same

  same_contents : (i j : Item) → SameItem i j → contents_fault files known i ≡ contents_fault others known j
  same_contents i j same = same_ordered (ordered_fault files known (λ (v : Item). None)) (ordered_fault others known (λ (v : Item). None)) same_inline i j same

  same_header_fault : (o p : Option Header) → option_map see_package_id o ≡ option_map see_package_id p → cond (is_none o) (Some (fault 4 (record { start = 0; end = 0 }))) None ≡ cond (is_none p) (Some (fault 4 (record { start = 0; end = 0 }))) None
  same_header_fault None None e = refl
  same_header_fault None (Some q) e = absurd (let wrong : ⊥ = cc in wrong)
  same_header_fault (Some p) None e = absurd (let wrong : ⊥ = cc in wrong)
  same_header_fault (Some p) (Some q) e = refl

  pub same_first : first_fault files known ≡ first_fault others known
  same_first =
      let rs = item_rows files in
      let ss = item_rows others in
      let o = outcome rs in
      let p = outcome ss in
      let outcomes = same_outcome rs ss (same_item_rows files others h) o p (are rs) (are ss) in
      let items = same_in_order SameItem (all_items files) (all_items others) (order_of o) (order_of p) (same_order_of o p outcomes) (same_all_items files others h) in
      let ordered = in_order (all_items files) (order_of o) in
      let also = in_order (all_items others) (order_of p) in
      ap₂ option_or (same_header_fault (last_header files) (last_header others) (same_last files others h))
      (ap₂ option_or (same_visits_fault files others h) (ap₂ option_or (same_item_names files others h) (ap₂ option_or (same_files_fault files others h)
      (ap₂ option_or (same_order_fault (missing_at 7 item_word) (cyclic_at 8 item_word) (same_missing 7 item_word) (same_stated 8) o p outcomes)
      (ap₂ option_or (same_tops_fault files others h) (ap₂ option_or (same_all_uses files others h)
      (ap₂ option_or (zip_first SameItem (contents_fault files known) (contents_fault others known) same_contents (interfaces_of ordered) (interfaces_of also) (same_interfaces ordered also items))
      (ap (λ (x : Option Fault). option_or x None) (zip_first SameItem (contents_fault files known) (contents_fault others known) same_contents (worlds_of ordered) (worlds_of also) (same_worlds ordered also items))))))))))

-- so what the walk of alike files comes to is one
pub comes_to : (files others : List PackageFile) → AllZip SameFile files others → (first : Option Fault) → ComesTo files first → ComesTo others first
comes_to files others h first c = record {
  outcome = c.outcome;
  outcomes = c.outcomes;
  enough = c.enough;
  is = λ steps past. sym (same_first files others h c.outcome c.outcomes steps) ∙ c.is steps past;
}

pub one_of_alike : (files others : List PackageFile) → AllZip SameFile files others → (first other : Option Fault) → ComesTo files first → ComesTo others other → first ≡ other
one_of_alike files others h first other a b = one_first others first other (comes_to files others h first a) b
