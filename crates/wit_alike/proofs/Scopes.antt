-- Tables of alike scopes and items, and where names in them end.
use Rattle.std.proofs.Common.{◌≡◌, ℕ, zero, suc, Bool, true, false, not, cond, List, map, Option, Some, None, refl, ap, ap₂, ◌∙◌, subst, ◌++◌, codes, sym}
use Rattle.std.specs.Prelude.{unwrap_or}
use Rattle.wit_walk.proofs.Common.{Address, AliasForm, AllZip, AtForeign, AtResource, Defined, DefinitionPart, Elsewhere, End, ExternPart, Foreign, ForeignName, Form, FunctionPart, Id, Include, IncludePart, Item, Local, More, Of, PackageFile, Part, Prim, ScopeName, Shape, Shapes, Span, Target, Use, UsePart, UsePath, Used, Word, about_name, all_items, body_of, defined, end_fault, extern_paths, fault_in, handle_fault, if◌then◌else◌, in_order, in_turn, include_path, include_paths, includes, inline_uses, interfaces_of, is_defined, is_world, item_row, item_rows, leads, local_name, local_target, meaning, named_end, needed-paths, needed_ids, needed_paths, option_map_or, part_includes, parts, rows_of, scope, shape_end, use_path, use_paths, used, worlds_of}
use Rattle.wit_syntax.specs.Shape.{End as NoShapes}
use Rattle.wit_grammar.specs.Trees.{Definition}
use Rattle.wit_grammar.specs.Seen.{see_include}
use Rattle.wit_alike.proofs.Lists.{Both, zip_append, zip_filter, zip_flat, zip_map, zip_places}
use Rattle.wit_alike.proofs.Leaves.{SameId, by_name, same_text}
use Rattle.wit_alike.proofs.Types.{SameShape, SameShapes, same_all_words}
use Rattle.wit_alike.proofs.Bodies.{body_same, same_meaning}
use Rattle.wit_alike.proofs.Paths.{SamePath, SameTarget, same_leads}
use Rattle.wit_alike.proofs.Items.{SameFile, SameItem, SamePart, SameName, same_all_items, same_from, same_is_world, same_item_name, same_local_name, same_meant, same_name_body, same_parts}
use Rattle.wit_alike.proofs.Functions.{extern_kind}
use Rattle.wit_alike.proofs.Foreign.{SameUse, include_from, use_from, same_extern_paths, same_inline_uses, same_scope}
use Rattle.wit_alike.proofs.Tables.{SameRow, SameTable}

-- ---- names of scopes
same_needed : (x y : ScopeName) → SameName x y → AllZip SameId (needed_ids x) (needed_ids y)
same_needed (Used s marks n) (Used t others m) h = tt
same_needed (Defined d) (Defined e) h = same_all_words (body_of d.body).parts (body_of e.body).parts (same_meaning d.body e.body (body_same d.body e.body (ap (λ (x : Definition). x.body) h))).1
same_needed (ForeignName marks a) (ForeignName others b) h = tt
same_needed x y h = absurd h

pub same_rows : (xs ys : List ScopeName) → AllZip SameName xs ys → SameTable (rows_of xs) (rows_of ys)
same_rows xs ys h =
    zip_map SameName SameRow (λ (x : ScopeName). record { name = local_name x; needs = needed_ids x }) (λ (x : ScopeName). record { name = local_name x; needs = needed_ids x })
    (λ x y same. (same_local_name x y same, same_needed x y same)) xs ys h

same_is_defined : (x y : ScopeName) → SameName x y → is_defined x ≡ is_defined y
same_is_defined (Used s marks n) (Used t others m) h = refl
same_is_defined (Defined d) (Defined e) h = refl
same_is_defined (ForeignName marks a) (ForeignName others b) h = refl
same_is_defined x y h = absurd h

pub same_names_used : (xs ys : List ScopeName) → AllZip SameName xs ys → AllZip SameName (used xs) (used ys)
same_names_used xs ys h = zip_filter SameName (λ (x : ScopeName). not (is_defined x)) (λ (x : ScopeName). not (is_defined x)) (λ x y same. ap not (same_is_defined x y same)) xs ys h

pub same_defined : (xs ys : List ScopeName) → AllZip SameName xs ys → AllZip SameName (defined xs) (defined ys)
same_defined xs ys h = zip_filter SameName is_defined is_defined same_is_defined xs ys h

-- in one order
pub same_in_order : {A : Type 0} (R : A → A → Type 0) (xs ys : List A) (order other : List ℕ) → order ≡ other → AllZip R xs ys → AllZip R (in_order xs order) (in_order ys other)
same_in_order R xs ys order other e h = subst (λ (places : List ℕ). AllZip R (in_order xs order) (in_order ys places)) e (zip_places R xs ys order h)

pub same_in_turn : (xs ys : List ScopeName) (order other : List ℕ) → order ≡ other → AllZip SameName xs ys → AllZip SameName (in_turn xs order) (in_turn ys other)
same_in_turn xs ys order other e h =
    zip_append SameName (used xs) (defined (in_order xs order)) (used ys) (defined (in_order ys other)) (same_names_used xs ys h)
    (same_defined (in_order xs order) (in_order ys other) (same_in_order SameName xs ys order other e h))

-- ---- items
same_part_includes : (p q : Part) → SamePart p q → AllZip (λ (i j : Include). see_include i ≡ see_include j) (part_includes p) (part_includes q)
same_part_includes (IncludePart i) (IncludePart j) h = (h, tt)
same_part_includes (IncludePart i) q h = absurd h
same_part_includes p (IncludePart j) h = absurd h
same_part_includes p q h = tt

pub same_includes : (i j : Item) → SameItem i j → AllZip (λ (n m : Include). see_include n ≡ see_include m) (includes i) (includes j)
same_includes i j h = zip_flat SamePart (λ (n m : Include). see_include n ≡ see_include m) part_includes part_includes same_part_includes (parts i) (parts j) (same_parts i j h)

same_include_path : (p q : Part) → SamePart p q → AllZip SamePath (include_path p) (include_path q)
same_include_path p q h = zip_map (λ (n m : Include). see_include n ≡ see_include m) SamePath (λ (n : Include). n.from) (λ (n : Include). n.from) include_from (part_includes p) (part_includes q) (same_part_includes p q h)

same_use_path : (p q : Part) → SamePart p q → AllZip SamePath (use_path p) (use_path q)
same_use_path (DefinitionPart d) (DefinitionPart e) h = tt
same_use_path (UsePart u) (UsePart t) h = (use_from u t h, tt)
same_use_path (IncludePart i) (IncludePart j) h = tt
same_use_path (FunctionPart f) (FunctionPart g) h = tt
same_use_path (ExternPart x) (ExternPart y) h =
    let kinds = extern_kind x y h in
    zip_append SamePath (map (λ (u : Use). u.from) (inline_uses x.kind)) (extern_paths x.kind) (map (λ (u : Use). u.from) (inline_uses y.kind)) (extern_paths y.kind)
    (zip_map SameUse SamePath (λ (u : Use). u.from) (λ (u : Use). u.from) use_from (inline_uses x.kind) (inline_uses y.kind) (same_inline_uses x.kind y.kind kinds)) (same_extern_paths x.kind y.kind kinds)
same_use_path p q h = absurd h

either_paths : (world other : Bool) (as_world as_interface others also : List UsePath) → world ≡ other → AllZip SamePath as_world others → AllZip SamePath as_interface also → AllZip SamePath (cond world as_world as_interface) (cond other others also)
either_paths true true a b c d e h k = h
either_paths true false a b c d e h k = absurd (let wrong : ⊥ = cc in wrong)
either_paths false true a b c d e h k = absurd (let wrong : ⊥ = cc in wrong)
either_paths false false a b c d e h k = k

pub same_needed_paths : (i j : Item) → SameItem i j → AllZip SamePath (needed_paths i) (needed_paths j)
same_needed_paths i j h =
    let each = either_paths (is_world i) (is_world j) (include_paths i) (use_paths i) (include_paths j) (use_paths j) (same_is_world i j h)
    (zip_flat SamePart SamePath include_path include_path same_include_path (parts i) (parts j) (same_parts i j h)) (zip_flat SamePart SamePath use_path use_path same_use_path (parts i) (parts j) (same_parts i j h)) in
    subst (AllZip SamePath (needed_paths i)) (sym (needed-paths j)) (subst (λ (l : List UsePath). AllZip SamePath l (if is_world j then include_paths j else use_paths j)) (sym (needed-paths i)) each)

same_local_target : (t u : Target) → SameTarget t u → AllZip SameId (local_target t) (local_target u)
same_local_target (Local a) (Local b) h = (h, tt)
same_local_target (Foreign p a) (Foreign q b) h = tt
same_local_target t u h = absurd h

same_item_row : (i j : Item) → SameItem i j → SameRow (item_row i) (item_row j)
same_item_row i j h = (
  same_item_name i j h,
  zip_flat SamePath SameId (λ (p : UsePath). local_target (leads i.top p)) (λ (p : UsePath). local_target (leads j.top p))
      (λ p q same. same_local_target (leads i.top p) (leads j.top q) (same_leads i.top j.top p q h.0 same)) (needed_paths i) (needed_paths j) (same_needed_paths i j h),
)

pub same_item_rows : (files others : List PackageFile) → AllZip SameFile files others → SameTable (item_rows files) (item_rows others)
same_item_rows files others h = zip_map SameItem SameRow item_row item_row same_item_row (all_items files) (all_items others) (same_all_items files others h)

pub same_interfaces : (is js : List Item) → AllZip SameItem is js → AllZip SameItem (interfaces_of is) (interfaces_of js)
same_interfaces is js h = zip_filter SameItem (λ (i : Item). not (is_world i)) (λ (i : Item). not (is_world i)) (λ i j same. ap not (same_is_world i j same)) is js h

pub same_worlds : (is js : List Item) → AllZip SameItem is js → AllZip SameItem (worlds_of is) (worlds_of js)
same_worlds is js h = zip_filter SameItem is_world is_world same_is_world is js h

-- ---- where names end
same_named_end : (ends other : Shape → Option End) → ((x y : Shape) → SameShape x y → ends x ≡ other y) → (s : Address) (name : List ℕ) (form : Form) (xs ys : Shapes) → SameShapes xs ys → named_end ends s name form xs ≡ named_end other s name form ys
same_named_end ends other each s name AliasForm NoShapes NoShapes h = refl
same_named_end ends other each s name AliasForm NoShapes (More y ys) h = absurd h
same_named_end ends other each s name AliasForm (More x xs) NoShapes h = absurd h
same_named_end ends other each s name AliasForm (More x xs) (More y ys) h = each x y h.0
same_named_end ends other each s name form xs ys h = refl

module _ (files others : List PackageFile) (h : AllZip SameFile files others) where
  abbrev ends_of : (Address → Shape → Option End) → Address → ScopeName → Option End
  ends_of ends s x = named_end (ends (unwrap_or (about_name x).from s)) s (local_name x) (about_name x).body.form (about_name x).body.parts

  same_ends_of : (ends other : Address → Shape → Option End) → ((s : Address) (x y : Shape) → SameShape x y → ends s x ≡ other s y) → (s : Address) (x y : ScopeName) → SameName x y → ends_of ends s x ≡ ends_of other s y
  same_ends_of ends other each s x y same =
      let body = same_name_body x y same in
      same_named_end (ends (unwrap_or (about_name x).from s)) (other (unwrap_or (about_name x).from s)) (each (unwrap_or (about_name x).from s)) s (local_name x) (about_name x).body.form (about_name x).body.parts (about_name y).body.parts body.1
      ∙ ap (λ (from : Option Address). named_end (other (unwrap_or from s)) s (local_name x) (about_name x).body.form (about_name y).body.parts) (same_from x y same)
      ∙ ap₂ (λ (name : List ℕ) (form : Form). named_end (other (unwrap_or (about_name y).from s)) s name form (about_name y).body.parts) (same_local_name x y same) body.0

  meant_ends : (ends other : Address → Shape → Option End) → ((s : Address) (x y : Shape) → SameShape x y → ends s x ≡ other s y) → (s : Address) (o p : Option ScopeName) → Both SameName o p → option_map_or (ends_of ends s) o None ≡ option_map_or (ends_of other s) p None
  meant_ends ends other each s None None same = refl
  meant_ends ends other each s None (Some y) same = absurd same
  meant_ends ends other each s (Some x) None same = absurd same
  meant_ends ends other each s (Some x) (Some y) same = same_ends_of ends other each s x y same

  pub same_end : (steps : ℕ) (s : Address) (x y : Shape) → SameShape x y → shape_end files steps s x ≡ shape_end others steps s y
  same_end zero s x y same = refl
  same_end (suc n) s (Prim p) (Prim q) same = refl
  same_end (suc n) s (Of at f xs) (Of to g ys) same = refl
  same_end (suc n) s (Word a) (Word b) same =
      meant_ends (shape_end files n) (shape_end others n) (same_end n) s (meaning (scope files s) a.name.now) (meaning (scope others s) b.name.now)
      (same_meant (scope files s) (scope others s) a.name.now b.name.now (same_scope files others h s) (same_text a b same))
  same_end (suc n) s x y same = absurd same

  same_end_fault : (a b : Id) (o p : Option End) → SameId a b → o ≡ p → end_fault a o ≡ end_fault b p
  same_end_fault a b o p same e = ap (end_fault a) e ∙ by_end a b p same
    where
      by_end : (a b : Id) (p : Option End) → SameId a b → end_fault a p ≡ end_fault b p
      by_end a b None same = refl
      by_end a b (Some AtResource) same = refl
      by_end a b (Some Elsewhere) same = ap Some (by_name (λ (text : List ℕ) (span : Span). fault_in 27 span (codes "type `" ++ (text ++ codes "` used in a handle must be a resource"))) a b same)
      by_end a b (Some (AtForeign s name)) same = refl

  pub same_handle : (steps : ℕ) (s : Address) (a b : Id) → SameId a b → handle_fault files steps s a ≡ handle_fault others steps s b
  same_handle steps s a b same = same_end_fault a b (shape_end files steps s (Word a)) (shape_end others steps s (Word b)) same (same_end steps s (Word a) (Word b) same)
