-- A file breaks no rule where a path has the name of its own package: that the path leads to an item of another package, and not to the interface around it.
use Rattle.std.proofs.Common.{◌≡◌, ℕ, zero, suc, List, [], ◌∷◌, map, Some, inl, sym, ap, ◌∙◌, subst}
use Rattle.wit_arena.proofs.Common.{Address, AllDiffer, AttributedUse, Body, Contains, CrossedTwice, CyclicItem, CyclicType, Defined, DefinedTwice, DuplicateItem, DuplicateTopName, Exported, Fault, FoldedTwice, ForeignName, ForeignStability, ForeignVisit, Global, Handle, Headerless, Imported, IncludeStability, InterfaceIncluded, InterfaceMetadata, IsBrokenMetadata, IsBrokenNames, IsBrokenScope, IsBrokenSides, IsBrokenStability, IsBrokenUse, IsLegal, IsLinkedTwice, Item, ItemStability, Items, LinkedTwice, LostUse, MissingItem, MissingName, MissingType, MissingUse, PackageFile, Scope, ScopeName, Setter, Sides, TopUse, UseMetadata, UsePath, Used, WorldSide, WorldUsed, about, address, all_handles, all_items, all_scopes, at_contains, bytes_eq, called_key, codes, differ_none, find_among, functions, include_paths, includes, is_world_at, item_name, item_rows, item_types, item_word, items_on, leads, local_name, missing_at, missing_type_at, no_crossed, no_cyclic_edge, no_fold, no_missing_edge, no_repeat, on_side, rows_of, scope_names, side_called, side_items, slice_get, top_names, top_text, type_word, unbroken_metadata, uses}
use Rattle.wit_syntax.proofs.Common.{Function, Names, Use as WrittenUse}
use Rattle.wit_syntax.specs.Broken.{Metadata, Use}
use denote.RawPtr.{Ptr}
use Rattle.wit_tree.specs.declared.tree.AstItem.TheVariants as ast
use Rattle.wit_type_tree.specs.declared.types.TypeDef.{TypeDef}
use Rattle.wit_meaning_examples.proofs.SideExamples.{none_among, one_differs}
use Rattle.wit_meaning_examples.proofs.SignatureExamples.{one_order}
use Rattle.wit_meaning_examples.proofs.ElsewhereExamples.{own_file, i_item, use_own, visit, t_used, other}

-- what is among one is that one
pub one_among : {X : Type 0} (x y : X) → Contains (x ∷ []) y → x ≡ y
one_among x y among =
    let it = at_contains (x ∷ []) y among in
    only it.0 it.1
  where
    only : (i : ℕ) → slice_get (x ∷ []) i ≡ Some y → x ≡ y
    only zero at = cc
    only (suc i) at = absurd (let f : ⊥ = cc in f)

pub no_stability : (f : Fault) → IsBrokenStability [] f → ⊥
no_stability f h = unbroken_metadata f (inl h)

-- whether a name of a scope is defined there, and the scope that it is used from
abbrev pub from_of : ScopeName → List Address
from_of (Used from attributes n) = from ∷ []
from_of (Defined d) = []
from_of (ForeignName attributes id) = []

module _ (ptr : Ptr) (alloc : Global) where
  abbrev file : PackageFile
  file = own_file ptr alloc

  abbrev files : List PackageFile
  files = file ∷ []

  abbrev item : Item
  item = i_item ptr alloc

  abbrev names : List ScopeName
  names = scope_names item

  one_file : (g : PackageFile) → Contains files g → file ≡ g
  one_file g among = one_among file g among

  one_item : (i : Item) → Contains (all_items files) i → item ≡ i
  one_item i among = one_among item i among

  -- it declares an interface alone
  no_top_use : (u : _) → Contains file.decl_list.items.items (ast.Use u) → ⊥
  no_top_use u among = let same = one_among _ (ast.Use u) among in let f : ⊥ = cc in f

  names_pass : (f : Fault) → IsBrokenNames files f → ⊥
  names_pass f (Items (DuplicateItem h)) = no_repeat item_name (all_items files) h.0 (one_differs (codes "i")) h.1
  names_pass f (Items (DuplicateTopName g among h)) = no_repeat top_text (top_names g) h.0 (subst (λ (x : PackageFile). AllDiffer (map top_text (top_names x))) (one_file g among) (one_differs (codes "i"))) h.1
  names_pass f (Items (MissingItem h)) = no_missing_edge (missing_at 7 item_word) (item_rows files) (0 ∷ []) f (one_order (codes "i")) h
  names_pass f (Items (CyclicItem h)) = no_cyclic_edge 8 item_word (item_rows files) (0 ∷ []) f (one_order (codes "i")) h
  names_pass f (ForeignStability v among h) = no_stability f (subst (λ (x : ForeignVisit). IsBrokenStability x.attributes f) (sym (one_among (visit ptr alloc) v among)) h)
  names_pass f (TopUse g among (AttributedUse u used attributed as_stated)) = no_top_use u (subst (λ (x : PackageFile). Contains x.decl_list.items.items (ast.Use u)) (sym (one_file g among)) used)
  names_pass f (TopUse g among (LostUse u used id local missing as_stated)) = no_top_use u (subst (λ (x : PackageFile). Contains x.decl_list.items.items (ast.Use u)) (sym (one_file g among)) used)

  -- its only path leads to another package, and to no world there
  use_passes : (f : Fault) → IsBrokenUse files item f → ⊥
  use_passes f (MissingUse path id among local missing is) =
      let same = one_among (use_own ptr alloc).from path among in
      let leads_there = ap (leads item.top) same ∙ local in
      let f : ⊥ = cc in
      f
  use_passes f (WorldUsed path among world is) =
      let same = one_among (use_own ptr alloc).from path among in
      let there = ap (λ (path : UsePath). is_world_at files (leads item.top path)) same ∙ world in
      let f : ⊥ = cc in
      f

  -- its only name is used from there
  from_other : (from : Address) (attributes : _) (n : _) → Contains names (Used from attributes n) → (target : Item) → from ≡ address target → Contains (all_items files) target → ⊥
  from_other from attributes n among target own present =
      let same = one_among (Used (other ptr alloc) [] (t_used ptr alloc)) (Used from attributes n) among in
      let one : other ptr alloc ∷ [] ≡ from ∷ [] = ap from_of same in
      let here : other ptr alloc ≡ from = cc in
      let there : other ptr alloc ≡ address item = here ∙ own ∙ ap address (sym (one_item target present)) in
      let f : ⊥ = cc in
      f

  none_defined : (d : TypeDef) → Contains names (Defined d) → ⊥
  none_defined d among =
      let same = one_among (Used (other ptr alloc) [] (t_used ptr alloc)) (Defined d) among in
      let wrong = ap from_of same in
      let f : ⊥ = cc in
      f

  scope_passes : (f : Fault) → IsBrokenScope names (functions item) f → ⊥
  scope_passes f (DefinedTwice h) = no_repeat local_name names h.0 (one_differs (codes "t")) h.1
  scope_passes f (MissingType h) = no_missing_edge missing_type_at (rows_of names) (0 ∷ []) f (one_order (codes "t")) h
  scope_passes f (CyclicType h) = no_cyclic_edge 16 type_word (rows_of names) (0 ∷ []) f (one_order (codes "t")) h
  scope_passes f (Metadata d among h) = none_defined d among
  scope_passes f (Body d among h) = none_defined d among
  scope_passes f (Function k fn at h) = let f : ⊥ = cc in f

  keys : (side : WorldSide) → AllDiffer (map called_key (side_called side names (items_on side (side_items item)) (0 ∷ [])))
  keys Imported = one_differs (codes "t")
  keys Exported = differ_none

  sides_pass : (f : Fault) → IsBrokenSides item f → ⊥
  sides_pass f (FoldedTwice h) = no_fold names (side_items item) (0 ∷ []) f (one_order (codes "t")) keys h
  sides_pass f (CrossedTwice h) = no_crossed names (side_items item) (0 ∷ []) f (one_order (codes "t")) keys h
  sides_pass f (InterfaceMetadata x among h) = none_among x among

  not_linked : (i : Item) → item ≡ i → (f : Fault) → IsLinkedTwice files i f → ⊥
  not_linked i same f h = by (subst (λ (x : Item). IsLinkedTwice files x f) (sym same) h)
    where
      by : IsLinkedTwice files item f → ⊥
      by h = let there = h.5 in let f : ⊥ = cc in f

  one_scope : (i : Item) → Contains (all_scopes files) i → item ≡ i
  one_scope i among = one_among item i among

  legal : IsLegal files
  legal f (Headerless none h) = absurd (let f : ⊥ = cc in f)
  legal f (Names h) = names_pass f h
  legal f (ItemStability i among h) = no_stability f (subst (λ (x : Item). IsBrokenStability (about x.declared).attributes f) (sym (one_item i among)) h)
  legal f (UseMetadata i among u used h) =
      let own = subst (λ (x : Item). Contains (uses x) u) (sym (one_item i among)) used in
      unbroken_metadata f (subst (λ (x : WrittenUse). IsBrokenMetadata x.attributes.items f) (sym (one_among (use_own ptr alloc) u own)) h)
  legal f (IncludeStability i among n included h) = none_among n (subst (λ (x : Item). Contains (includes x) n) (sym (one_item i among)) included)
  legal f (Use i among h) = use_passes f (subst (λ (x : Item). IsBrokenUse files x f) (sym (one_item i among)) h)
  legal f (InterfaceIncluded i among path included leads_there as_stated) = none_among path (subst (λ (x : Item). Contains (include_paths x) path) (sym (one_item i among)) included)
  legal f (MissingName i among from attributes n used target own first missing as_stated) = from_other from attributes n (subst (λ (x : Item). Contains (scope_names x) (Used from attributes n)) (sym (one_scope i among)) used) target own (find_among (λ (x : Item). bytes_eq (item_name x) (item_name target)) (all_items files) target first)
  legal f (Scope i among h) = scope_passes f (subst (λ (x : Item). IsBrokenScope (scope_names x) (functions x) f) (sym (one_scope i among)) h)
  legal f (Sides i among h) = sides_pass f (subst (λ (x : Item). IsBrokenSides x f) (sym (one_scope i among)) h)
  legal f (LinkedTwice i among h) = not_linked i (one_item i among) f h
  legal f (Handle i among here h) = none_among h.0 (subst (λ (x : Item). Contains (all_handles (item_types x)) h.0) (sym (one_scope i among)) h.1)
  legal f (Setter i among h) = none_among h.2.0 (subst (λ (x : Item). Contains (on_side h.1 (functions x)) h.2.0) (sym (one_scope i among)) h.2.1)
