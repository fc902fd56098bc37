-- The interfaces and worlds of items that are alike are equal.
use Rattle.std.proofs.Common.{◌≡◌, ℕ, List, [], ◌∷◌, ◌++◌, map, Option, Some, None, refl, ap, ap₂, sym, ◌∙◌}
use Rattle.wit_arena.proofs.Common.{Address, AllZip, Constructor, Def, Docs, Exported, Expr, Extern, ExternalId, Freestanding, FuncForm, Function, FunctionKind, Id, Imported, Include, Interface, Item, Key, Link, Metadata, Method, OnSide, Param, Role, ScopeName, Shape, SideFunction, SideInline, SideItem, SideLink, SourceFunction, SourceParam, Span, Stability, Static, TopName, UsePath, WorldInclude, WorldItem, WorldKey, WorldNamed, WorldSide, about, address, all_params, declared_metadata, docs_of, entries_on, entries_walked, expr_of, function_in, function_of, functions, include_in, includes, inline_entry, inline_items, interface, kinds_of, leads, link_item, link_key, local_id, local_name, name_imports, name_places, names_in_turn, no_docs, option_map, own_interface, own_world, path_id, path_scope, placed, renamed, role_kind, role_side, scope_place, settled, side_entries, side_items, stability_of, stated_text, target_scope, type_of, world, world_entries, unwrap_or}
use Rattle.wit_tree.specs.declared.tree.IncludeName.{IncludeName as Renaming}
use Rattle.wit_types.specs.declared.types.«Type».{«Type» as Ty}
use Rattle.wit_functions.specs.declared.function.FunctionKind.TheVariants as kind
use Rattle.wit_model.specs.declared.world.IncludeName.{IncludeName}
use Rattle.wit_model.specs.declared.world.WorldItem.TheVariants as item
use Rattle.wit_model.specs.declared.world.WorldKey.TheVariants as key
use Rattle.wit_grammar.specs.Trees.{Name, Extern as SeenExtern, Include as SeenInclude, RenamedName}
use Rattle.wit_grammar.specs.Seen.{see_attribute, see_extern, see_include, see_name, see_renamed}
use Rattle.wit_alike.proofs.Lists.{both_same, zip_of, zip_same}
use Rattle.wit_alike.proofs.Leaves.{SameAttributes, SameId, same_span, same_text}
use Rattle.wit_alike.proofs.Types.{SameShape}
use Rattle.wit_alike.proofs.Paths.{SamePath, SameTop, same_leads, same_path_id, same_path_scope, same_scope_of}
use Rattle.wit_alike.proofs.Items.{SameItem, SameName, same_item_address, same_item_id, same_local_id, same_local_name}
use Rattle.wit_alike.proofs.Functions.{SameFunction, SameLink, SameParam, SameRole, SameSide, same_functions, same_role_side, same_side_items}
use Rattle.wit_alike.proofs.Foreign.{include_attributes, include_from, same_inline_items}
use Rattle.wit_alike.proofs.Scopes.{same_includes}
use Rattle.wit_alike_packages.proofs.Stated.{same_docs_of, same_item_called, same_item_metadata, same_stability_of, same_stated_text}
use Rattle.wit_alike_packages.proofs.Occurrences.{same_all_params, same_expr}
use Rattle.wit_alike_packages.proofs.Turns.{same_names_in_turn}

abbrev Entry : Type 0
Entry = WorldKey × WorldItem

abbrev Sided : Type 0
Sided = WorldSide × Entry

-- ---- functions
same_role_kind : (place : Id → ℕ) → ((a b : Id) → SameId a b → place a ≡ place b) → (r s : Role) → SameRole r s → role_kind place r ≡ role_kind place s
same_role_kind place places (Freestanding a f) (Freestanding b g) h = ap (λ (form : FuncForm). (kinds_of form).freestanding) h.1
same_role_kind place places (Method a f) (Method b g) h = ap₂ (λ (form : FuncForm) (n : ℕ). (kinds_of form).method n) h.1 (places a b h.0)
same_role_kind place places (Static a f) (Static b g) h = ap₂ (λ (form : FuncForm) (n : ℕ). (kinds_of form).static n) h.1 (places a b h.0)
same_role_kind place places (Constructor a) (Constructor b) h = ap kind.Constructor (places a b h)
same_role_kind place places (OnSide s a f) (OnSide t b g) h = ap (λ (form : FuncForm). (kinds_of form).freestanding) h.2
same_role_kind place places r s h = absurd h

abbrev param_by : List ℕ → Ty → Span → Param
param_by name ty span = record { name = name; ty = ty; span = span }

abbrev function_by : List ℕ → FunctionKind → Span → List Param → Option Ty → Docs → Stability → Option (List ℕ) → Function
function_by name kind span params result docs stability id = record { name = name; kind = kind; span = span; params = params; result = result; docs = docs; stability = stability; external_id = id }

module _ (id : Key → ℕ) where
  abbrev param_in : Address → SourceParam → Param
  param_in s x = param_by x.name (type_of id (expr_of s x.shape)) x.span

  same_param_in : (s : Address) (x y : SourceParam) → SameParam x y → param_in s x ≡ param_in s y
  same_param_in s x y h =
      ap₂ (λ (name : List ℕ) (span : Span). param_by name (type_of id (expr_of s x.shape)) span) h.0 h.1
      ∙ ap (λ (e : Expr). param_by y.name (type_of id e) y.span) (same_expr s x.shape y.shape h.2)

  same_function_at : (s : Address) (f g : SourceFunction) → SameFunction f g → function_in id s f ≡ function_in id s g
  same_function_at s f g h =
      let kinds = same_role_kind (λ (of : Id). id (Def s of.name.now)) (λ a b same. ap (λ (name : List ℕ). id (Def s name)) (same_text a b same)) f.role g.role h.role in
      let params = zip_same SameParam (param_in s) (param_in s) (same_param_in s) (all_params f) (all_params g) (same_all_params f g h) in
      let result = both_same SameShape (λ (x : Shape). type_of id (expr_of s x)) (λ (x : Shape). type_of id (expr_of s x)) (λ x y same. ap (type_of id) (same_expr s x y same)) f.result g.result h.result in
      let kind_f = role_kind (λ (of : Id). id (Def s of.name.now)) f.role in
      let kind_g = role_kind (λ (of : Id). id (Def s of.name.now)) g.role in
      let params_f = map (param_in s) (all_params f) in
      let params_g = map (param_in s) (all_params g) in
      let result_f = option_map (λ (x : Shape). type_of id (expr_of s x)) f.result in
      let result_g = option_map (λ (x : Shape). type_of id (expr_of s x)) g.result in
      let known = stability_of f.attributes in
      let other = stated_text ExternalId f.attributes in
      ap₂ (λ (name : List ℕ) (k : FunctionKind). function_by name k f.span params_f result_f (docs_of f.docs) known other) h.name kinds
      ∙ ap₂ (λ (span : Span) (ps : List Param). function_by g.name kind_g span ps result_f (docs_of f.docs) known other) h.span params
      ∙ ap₂ (λ (r : Option Ty) (d : Docs). function_by g.name kind_g g.span params_g r d known other) result (same_docs_of f.docs g.docs h.docs)
      ∙ ap₂ (λ (s : Stability) (x : Option (List ℕ)). function_by g.name kind_g g.span params_g result_g (docs_of g.docs) s x) (same_stability_of f.attributes g.attributes h.attributes) (same_stated_text f.attributes g.attributes h.attributes ExternalId)

  pub same_function_in : (s t : Address) → s ≡ t → (f g : SourceFunction) → SameFunction f g → function_in id s f ≡ function_in id t g
  same_function_in s t e f g h = ap (λ (at : Address). function_in id at f) e ∙ same_function_at t f g h

  -- ---- names
  pub same_name_places : (s t : Address) → s ≡ t → (xs ys : List ScopeName) → AllZip SameName xs ys → name_places id s xs ≡ name_places id t ys
  same_name_places s t e xs ys h =
      ap (λ (at : Address). name_places id at xs) e
      ∙ zip_same SameName (λ (x : ScopeName). (local_name x, id (Def t (local_name x)))) (λ (x : ScopeName). (local_name x, id (Def t (local_name x)))) (λ x y same. ap (λ (name : List ℕ). (name, id (Def t name))) (same_local_name x y same)) xs ys h

  abbrev import_at : Address → Name → Entry
  import_at s n = (key.Name n.text, item.Type_ (id (Def s n.text)) n.span)

  same_name_imports : (s t : Address) → s ≡ t → (xs ys : List ScopeName) → AllZip SameName xs ys → name_imports id s xs ≡ name_imports id t ys
  same_name_imports s t e xs ys h =
      ap (λ (at : Address). name_imports id at xs) e
      ∙ zip_same SameName (λ (x : ScopeName). import_at t (see_name (local_id x))) (λ (x : ScopeName). import_at t (see_name (local_id x))) (λ x y same. ap (import_at t) (same_local_id x y same)) xs ys h

  -- ---- interfaces
  abbrev named_function : Address → SourceFunction → List ℕ × Function
  named_function s fn = (fn.name, function_in id s fn)

  same_named_functions : (i j : Item) → SameItem i j → map (named_function (address i)) (functions i) ≡ map (named_function (address j)) (functions j)
  same_named_functions i j h =
      zip_same SameFunction (named_function (address i)) (named_function (address j))
      (λ f g same. ap₂ (λ (name : List ℕ) (fn : Function). (name, fn)) same.name (same_function_in (address i) (address j) (same_item_address i j h) f g same)) (functions i) (functions j) (same_functions i j h)

  module _ (order : Item → List ℕ) (by_address : (i j : Item) → address i ≡ address j → order i ≡ order j) where
    pub same_own_interface : (i j : Item) → SameItem i j → own_interface id order i ≡ own_interface id order j
    same_own_interface i j h =
        let types = same_name_places (address i) (address j) (same_item_address i j h) (names_in_turn order i) (names_in_turn order j) (same_names_in_turn order by_address i j h) in
        let types_i = name_places id (address i) (names_in_turn order i) in
        let types_j = name_places id (address j) (names_in_turn order j) in
        let fns = placed Some (map (named_function (address i)) (functions i)) in
        let gns = placed Some (map (named_function (address j)) (functions j)) in
        ap₂ (λ (called : Option (List ℕ)) (names : List (List ℕ × ℕ)). interface called names fns (declared_metadata i.declared) (about i.declared).id.span) (same_item_called i j h) types
        ∙ ap (λ (named : List (List ℕ × Function)). interface (about j.declared).called types_j (placed Some named) (declared_metadata i.declared) (about i.declared).id.span) (same_named_functions i j h)
        ∙ ap₂ (λ (n : Metadata) (span : Span). interface (about j.declared).called types_j gns n span) (same_item_metadata i j h) (same_span (about i.declared).id (about j.declared).id (same_item_id i j h))

-- ---- what is on the sides of worlds
same_link_key : (o p : Option Id) → option_map see_name o ≡ option_map see_name p → (place : ℕ) → link_key o place ≡ link_key p place
same_link_key None None h place = refl
same_link_key None (Some b) h place = absurd (let wrong : ⊥ = cc in wrong)
same_link_key (Some a) None h place = absurd (let wrong : ⊥ = cc in wrong)
same_link_key (Some a) (Some b) h place = (let same : SameId a b = cc in ap key.Name (same_text a b same))

abbrev link_span : Option Id → UsePath → Span
link_span name path = (unwrap_or name (path_id path)).span

same_link_span : (o p : Option Id) (a b : UsePath) → option_map see_name o ≡ option_map see_name p → SamePath a b → link_span o a ≡ link_span p b
same_link_span None None a b h paths = same_span (path_id a) (path_id b) (same_path_id a b paths)
same_link_span None (Some d) a b h paths = absurd (let wrong : ⊥ = cc in wrong)
same_link_span (Some c) None a b h paths = absurd (let wrong : ⊥ = cc in wrong)
same_link_span (Some c) (Some d) a b h paths = (let same : SameId c d = cc in same_span c d same)

abbrev linked_by : WorldSide → WorldKey → ℕ → Stability → Option (List ℕ) → Docs → Span → Sided
linked_by side k place known id docs span = (side, (k, item.Interface place known id docs span))

abbrev link_by : Link → ℕ → Sided
link_by l place = (l.side, link_item l place)

same_linked : (l k : Link) → SameLink l k → (place : ℕ) → link_by l place ≡ link_by k place
same_linked l k h place =
    let known = stability_of l.attributes in
    let id = stated_text ExternalId l.attributes in
    ap₂ (λ (side : WorldSide) (x : WorldKey). linked_by side x place known id (docs_of l.docs) (link_span l.name l.path)) h.side (same_link_key l.name k.name h.name place)
    ∙ ap₂ (λ (s : Stability) (t : Option (List ℕ)). linked_by k.side (link_key k.name place) place s t (docs_of l.docs) (link_span l.name l.path)) (same_stability_of l.attributes k.attributes h.attributes) (same_stated_text l.attributes k.attributes h.attributes ExternalId)
    ∙ ap₂ (λ (d : Docs) (span : Span). linked_by k.side (link_key k.name place) place (stability_of k.attributes) (stated_text ExternalId k.attributes) d span) (same_docs_of l.docs k.docs h.docs) (same_link_span l.name k.name l.path k.path h.name h.path)

abbrev inline_by : Extern → Id → ℕ → Sided
inline_by x name place = (x.side, inline_entry x name place)

same_inline_by : (x y : Extern) (n m : Id) → see_extern x ≡ see_extern y → SameId n m → (place : ℕ) → inline_by x n place ≡ inline_by y m place
same_inline_by x y n m h same place =
    let before : SameAttributes x.attributes.items y.attributes.items = zip_of see_attribute x.attributes.items y.attributes.items (ap (λ (z : SeenExtern). z.prefix.attributes) h) in
    ap₂ (λ (side : WorldSide) (t : Name). linked_by side (key.Name t.text) place (stability_of x.attributes.items) (stated_text ExternalId x.attributes.items) no_docs t.span) (ap (λ (z : SeenExtern). z.side) h) same
    ∙ ap₂ (λ (s : Stability) (t : Option (List ℕ)). linked_by y.side (key.Name m.name.now) place s t no_docs m.span) (same_stability_of x.attributes.items y.attributes.items before) (same_stated_text x.attributes.items y.attributes.items before ExternalId)

abbrev function_entry : WorldSide → List ℕ → Function → Sided
function_entry side name f = (side, (key.Name name, item.Function f))

module _ (function other : SourceFunction → Function) (each : (f g : SourceFunction) → SameFunction f g → function f ≡ other g) (ss : List Address) (a b : List TopName) (tops : AllZip SameTop a b) where
  same_entries : (xs ys : List SideItem) → AllZip SameSide xs ys → (is js : List Item) → AllZip SameItem is js → side_entries function ss a xs is ≡ side_entries other ss b ys js
  same_entries [] [] h is js items = refl
  same_entries [] (y ∷ ys) h is js items = absurd h
  same_entries (x ∷ xs) [] h is js items = absurd h
  same_entries (SideFunction f ∷ xs) (SideFunction g ∷ ys) h is js items =
      let itself : function_entry (role_side f.role) f.name (function f) ≡ function_entry (role_side g.role) g.name (other g) =
      ap₂ (λ (side : WorldSide) (name : List ℕ). function_entry side name (function f)) (same_role_side f.role g.role h.0.role) h.0.name ∙ ap (function_entry (role_side g.role) g.name) (each f g h.0) in
      ap₂ (λ (e : Sided) (l : List Sided). e ∷ l) itself (same_entries xs ys h.1 is js items)
  same_entries (SideLink l ∷ xs) (SideLink k ∷ ys) h is js items =
      let itself : link_by l (scope_place ss (path_scope a l.path)) ≡ link_by k (scope_place ss (path_scope b k.path)) =
      same_linked l k h.0 (scope_place ss (path_scope a l.path)) ∙ ap (λ (s : Address). link_by k (scope_place ss s)) (same_path_scope a b l.path k.path tops h.0.path) in
      ap₂ (λ (e : Sided) (l : List Sided). e ∷ l) itself (same_entries xs ys h.1 is js items)
  same_entries (SideInline x n ps ∷ xs) (SideInline y m qs ∷ ys) h [] [] items = same_entries xs ys h.1 [] [] tt
  same_entries (SideInline x n ps ∷ xs) (SideInline y m qs ∷ ys) h [] (j ∷ js) items = absurd items
  same_entries (SideInline x n ps ∷ xs) (SideInline y m qs ∷ ys) h (i ∷ is) [] items = absurd items
  same_entries (SideInline x n ps ∷ xs) (SideInline y m qs ∷ ys) h (i ∷ is) (j ∷ js) items =
      let itself : inline_by x n (scope_place ss (address i)) ≡ inline_by y m (scope_place ss (address j)) =
      same_inline_by x y n m h.0.0 h.0.1 (scope_place ss (address i)) ∙ ap (λ (s : Address). inline_by y m (scope_place ss s)) (same_item_address i j items.0) in
      ap₂ (λ (e : Sided) (l : List Sided). e ∷ l) itself (same_entries xs ys h.1 is js items.1)
  same_entries (x ∷ xs) (y ∷ ys) h is js items = absurd h.0

-- ---- includes
abbrev renamed_by : RenamedName → IncludeName
renamed_by n = record { name = n.name.text; as_ = n.local.text }

abbrev included_by : Stability → ℕ → List IncludeName → Span → WorldInclude
included_by known place names span = record { stability = known; id = place; names = names; span = span }

same_include_in : (ss : List Address) (a b : List TopName) → AllZip SameTop a b → (n m : Include) → see_include n ≡ see_include m → include_in ss a n ≡ include_in ss b m
same_include_in ss a b tops n m h =
    let from = include_from n m h in
    let before = include_attributes n m h in
    let names : map renamed n.names.items ≡ map renamed m.names.items =
    zip_same (λ (x y : Renaming). see_renamed x ≡ see_renamed y) renamed renamed (λ x y same. ap renamed_by same) n.names.items m.names.items (zip_of see_renamed n.names.items m.names.items (ap (λ (x : SeenInclude). x.names) h)) in
    let scopes : target_scope WorldNamed (leads a n.from) ≡ target_scope WorldNamed (leads b m.from) = same_scope_of WorldNamed (leads a n.from) (leads b m.from) (same_leads a b n.from m.from tops from) in
    ap₂ (λ (known : Stability) (s : Address). included_by known (scope_place ss s) (map renamed n.names.items) (path_id n.from).span) (same_stability_of n.attributes.items m.attributes.items before) scopes
    ∙ ap₂ (λ (l : List IncludeName) (span : Span). included_by (stability_of m.attributes.items) (scope_place ss (target_scope WorldNamed (leads b m.from))) l span) names (same_span (path_id n.from) (path_id m.from) (same_path_id n.from m.from from))

same_settled : (ns ms : List Include) (xs ys : List Entry) → AllZip (λ (n m : Include). see_include n ≡ see_include m) ns ms → xs ≡ ys → settled ns xs ≡ settled ms ys
same_settled [] [] xs ys h e = ap (placed function_of) e
same_settled [] (m ∷ ms) xs ys h e = absurd h
same_settled (n ∷ ns) [] xs ys h e = absurd h
same_settled (n ∷ ns) (m ∷ ms) xs ys h e = e

-- ---- worlds
module _ (id : Key → ℕ) (order : Item → List ℕ) (by_address : (i j : Item) → address i ≡ address j → order i ≡ order j) (ss ws : List Address) where
  same_world_entries : (i j : Item) → SameItem i j → world_entries id ss i ≡ world_entries id ss j
  same_world_entries i j h =
      entries_walked i id ss
      ∙ same_entries (function_in id (address i)) (function_in id (address j)) (same_function_in id (address i) (address j) (same_item_address i j h)) ss i.top j.top h.0 (side_items i) (side_items j) (same_side_items i j h) (inline_items i) (inline_items j) (same_inline_items i j h)
      ∙ sym (entries_walked j id ss)

  abbrev imports_of : Item → List Entry
  imports_of i = name_imports id (address i) (names_in_turn order i) ++ entries_on Imported (world_entries id ss i)

  pub same_own_world : (i j : Item) → SameItem i j → own_world id order ss ws i ≡ own_world id order ss ws j
  same_own_world i j h =
      let Seen : Include → Include → Type 0 = λ n m. see_include n ≡ see_include m in
      let there = same_includes i j h in
      let crossing = same_world_entries i j h in
      let names = same_name_imports id (address i) (address j) (same_item_address i j h) (names_in_turn order i) (names_in_turn order j) (same_names_in_turn order by_address i j h) in
      let imports : imports_of i ≡ imports_of j = ap₂ (λ (l : List Entry) (es : List Sided). l ++ entries_on Imported es) names crossing in
      let imported = same_settled (includes i) (includes j) (imports_of i) (imports_of j) there imports in
      let exported = same_settled (includes i) (includes j) (entries_on Exported (world_entries id ss i)) (entries_on Exported (world_entries id ss j)) there (ap (entries_on Exported) crossing) in
      let included = zip_same Seen (include_in ws i.top) (include_in ws j.top) (same_include_in ws i.top j.top h.0) (includes i) (includes j) there in
      let im = settled (includes j) (imports_of j) in
      let ex = settled (includes j) (entries_on Exported (world_entries id ss j)) in
      let itself : SameId (about i.declared).id (about j.declared).id = same_item_id i j h in
      ap₂ (λ (n : Name) (l : List Entry). world n.text l (settled (includes i) (entries_on Exported (world_entries id ss i))) (map (include_in ws i.top) (includes i)) (declared_metadata i.declared) n.span) itself imported
      ∙ ap₂ (λ (l : List Entry) (ns : List WorldInclude). world (about j.declared).id.name.now im l ns (declared_metadata i.declared) (about j.declared).id.span) exported included
      ∙ ap (λ (n : Metadata). world (about j.declared).id.name.now im ex (map (include_in ws j.top) (includes j)) n (about j.declared).id.span) (same_item_metadata i j h)
