-- Where a `use` is at the top of a file it matters that files are split: these break no rule, and the one file with their declarations does.
use Rattle.std.proofs.Common.{◌≡◌, ◌↔◌, ℕ, zero, suc, true, false, List, [], ◌∷◌, map, Some, None, ◌⊎◌, inl, inr, refl, sym, ap, ◌∙◌, subst, lit<}
use Rattle.wit_arena.proofs.Common.{Address, AllDiffer, Attribute, AttributedUse, Body, Contains, CrossedTwice, CyclicItem, CyclicType, Defined, DefinedTwice, DuplicateItem, DuplicateTopName, Exported, Fault, FoldedTwice, ForeignNamed, ForeignStability, ForeignVisit, Global, Handle, Headerless, Imported, IncludeStability, Inside, InterfaceIncluded, InterfaceMetadata, IsBroken, IsBrokenBody, IsBrokenMetadata, IsBrokenNames, IsBrokenScope, IsBrokenSides, IsBrokenStability, IsBrokenType, IsBrokenUse, IsLegal, IsLinkedTwice, Item, ItemStability, Items, Itself, LinkedTwice, LostUse, MissingItem, MissingName, MissingType, MissingUse, PackageFile, Plain, Scope, ScopeName, Setter, Sides, TheInterface, TopUse, ToplevelUse, UseMetadata, UseName, UsePath, Used, WorldSide, WorldUsed, about, address, all_handles, all_items, all_scopes, at_contains, bytes_eq, called_key, codes, differ_none, fault_in, file_declarations, find_among, functions, headers, include_paths, includes, is_world_at, item_name, item_rows, item_types, item_word, items_on, leads, local_name, missing_at, missing_type_at, no_crossed, no_cyclic_edge, no_fold, no_missing_edge, no_repeat, on_side, rows_of, scope_names, side_called, side_items, slice_get, top_names, top_text, type_word, unbroken_metadata, uses, «Type» as Written}
use Rattle.wit_syntax.proofs.Common.{Function, Interface, Names, Use as WrittenUse, declarations}
use Rattle.wit_syntax.specs.Broken.{Metadata, Use}
use denote.RawPtr.{Ptr}
use Rattle.wit_tree.specs.declared.tree.AstItem.TheVariants as ast
use Rattle.wit_tree.specs.declared.tree.InterfaceItem.TheVariants.{TypeDef as TypeItem, Use as UseItem}
use Rattle.wit_tree.specs.declared.tree.PackageName.{PackageName as Header}
use Rattle.wit_type_tree.specs.declared.types.TypeDef.{TypeDef}
use Rattle.wit_type_tree.specs.declared.types.Primitive.TheVariants as primitive
use Rattle.wit_type_tree.specs.declared.types.«Type».TheVariants as written
use Rattle.wit_tree.specs.declared.tree.UsePath.TheVariants as path
use Rattle.wit_meaning_examples.proofs.Examples.{at, id, vec, no_comments, unstated, header}
use Rattle.wit_meaning_examples.proofs.SideExamples.{none_among, one_differs}
use Rattle.wit_meaning_examples.proofs.SignatureExamples.{one_order}
use Rattle.wit_meaning_examples.proofs.SmallOrders.{apart_order}
use Rattle.wit_meaning_examples.proofs.LinkExamples.{two_differ}
use Rattle.wit_meaning_examples.proofs.AcceptedExamples.{one_among, no_stability, from_of}

-- what is among two is one of them
pub two_among : {X : Type 0} (x z y : X) → Contains (x ∷ z ∷ []) y → (x ≡ y) ⊎ (z ≡ y)
two_among x z y among =
    let it = at_contains (x ∷ z ∷ []) y among in
    which it.0 it.1
  where
    which : (i : ℕ) → slice_get (x ∷ z ∷ []) i ≡ Some y → (x ≡ y) ⊎ (z ≡ y)
    which zero at = inl (let same : x ≡ y = cc in same)
    which (suc zero) at = inr (let same : z ≡ y = cc in same)
    which (suc (suc i)) at = absurd (let f : ⊥ = cc in f)

-- so what both of them are, each is
each_of : {X : Type 0} (P : X → Type 0) (x z y : X) → P x → P z → Contains (x ∷ z ∷ []) y → P y
each_of P x z y first second among = elim (two_among x z y among) [ inl same ↦ subst P same first | inr same ↦ subst P same second ]

x_and_i : codes "x" ≡ codes "i" → ⊥
x_and_i same = let wrong : true ≡ false = ap (bytes_eq (codes "x")) same in let f : ⊥ = cc in f

-- package foo:foo; interface x { type t = u8; }
-- use a:b/c as x; interface i { use x.{t}; }
module _ (ptr : Ptr) (alloc : Global) where
  abbrev t : TypeDef
  t = record { docs = no_comments ptr alloc; attributes = unstated ptr alloc; name = id ptr alloc (codes "t") (at 36 37) refl; body = Plain (written.Primitive (at 40 42) primitive.U8) }

  abbrev x : Interface
  x = record { docs = no_comments ptr alloc; attributes = unstated ptr alloc; name = id ptr alloc (codes "x") (at 27 28) refl; items = vec ptr alloc (TypeItem t ∷ []) (lit< tt) }

  abbrev other : Header
  other = record { docs = no_comments ptr alloc; span = at 50 53; namespace = id ptr alloc (codes "a") (at 50 51) refl; name = id ptr alloc (codes "b") (at 52 53) refl; version = None }

  abbrev on_top : ToplevelUse
  on_top = record { attributes = unstated ptr alloc; span = at 46 49; item = path.Package other (id ptr alloc (codes "c") (at 54 55) refl); as_ = Some (id ptr alloc (codes "x") (at 59 60) refl) }

  abbrev used_t : UseName
  used_t = record { name = id ptr alloc (codes "t") (at 83 84) refl; as_ = None }

  abbrev use_x : WrittenUse
  use_x = record { attributes = unstated ptr alloc; from = path.Id (id ptr alloc (codes "x") (at 80 81) refl); names = vec ptr alloc (used_t ∷ []) (lit< tt) }

  abbrev i : Interface
  i = record { docs = no_comments ptr alloc; attributes = unstated ptr alloc; name = id ptr alloc (codes "i") (at 72 73) refl; items = vec ptr alloc (UseItem use_x ∷ []) (lit< tt) }

  abbrev a_file : PackageFile
  a_file = record { package_id = Some (header ptr alloc); decl_list = record { items = vec ptr alloc (ast.Interface x ∷ []) (lit< tt) } }

  abbrev b_file : PackageFile
  b_file = record { package_id = None; decl_list = record { items = vec ptr alloc (ast.Use on_top ∷ ast.Interface i ∷ []) (lit< tt) } }

  abbrev files : List PackageFile
  files = a_file ∷ b_file ∷ []

  -- the file with their header and their declarations
  abbrev one : PackageFile
  one = record { package_id = Some (header ptr alloc); decl_list = record { items = vec ptr alloc (ast.Interface x ∷ ast.Use on_top ∷ ast.Interface i ∷ []) (lit< tt) } }

  -- in it x is twice at the top
  abbrev x_twice : Fault
  x_twice = fault_in 6 (at 59 60) (codes "duplicate name `x` in this file")

  one_refused : IsBroken (one ∷ []) x_twice
  one_refused = Names (Items (DuplicateTopName one (0, lit< tt, refl) (_, (0, 1, lit< tt, _, refl, refl, refl), refl)))

  abbrev x_item : Item
  x_item = record { top = top_names a_file; declared = TheInterface x }

  abbrev i_item : Item
  i_item = record { top = top_names b_file; declared = TheInterface i }

  abbrev c_of_ab : Address
  c_of_ab = ForeignNamed (record { namespace = codes "a"; name = codes "b"; version = None }) (codes "c")

  abbrev visit : ForeignVisit
  visit = record { attributes = []; of = other; id = id ptr alloc (codes "c") (at 54 55) refl; wants_world = false }

  -- in neither file a name occurs twice
  tops : (g : PackageFile) → Contains files g → AllDiffer (map top_text (top_names g))
  tops g among = each_of (λ (g : PackageFile). AllDiffer (map top_text (top_names g))) a_file b_file g (one_differs (codes "x")) (two_differ (codes "x") (codes "i") x_and_i) among

  -- the only `use` at the top of a file
  top_use : (g : PackageFile) → Contains files g → (u : ToplevelUse) → Contains g.decl_list.items.items (ast.Use u) → on_top ≡ u
  top_use g among = each_of (λ (g : PackageFile). (u : ToplevelUse) → Contains g.decl_list.items.items (ast.Use u) → on_top ≡ u) a_file b_file g none there among
    where
      none : (u : ToplevelUse) → Contains a_file.decl_list.items.items (ast.Use u) → on_top ≡ u
      none u among = let same = one_among _ (ast.Use u) among in absurd (let f : ⊥ = cc in f)

      there : (u : ToplevelUse) → Contains b_file.decl_list.items.items (ast.Use u) → on_top ≡ u
      there u among = elim (two_among (ast.Use on_top) (ast.Interface i) (ast.Use u) among) [
        | inl same ↦ (let one : on_top ≡ u = cc in one)
        | inr same ↦ absurd (let f : ⊥ = cc in f)
      ]

  names_pass : (f : Fault) → IsBrokenNames files f → ⊥
  names_pass f (Items (DuplicateItem h)) = no_repeat item_name (all_items files) h.0 (two_differ (codes "x") (codes "i") x_and_i) h.1
  names_pass f (Items (DuplicateTopName g among h)) = no_repeat top_text (top_names g) h.0 (tops g among) h.1
  names_pass f (Items (MissingItem h)) = no_missing_edge (missing_at 7 item_word) (item_rows files) (0 ∷ 1 ∷ []) f (apart_order (codes "x") (codes "i")) h
  names_pass f (Items (CyclicItem h)) = no_cyclic_edge 8 item_word (item_rows files) (0 ∷ 1 ∷ []) f (apart_order (codes "x") (codes "i")) h
  names_pass f (ForeignStability v among h) = no_stability f (subst (λ (v : ForeignVisit). IsBrokenStability v.attributes f) (sym (one_among visit v among)) h)
  names_pass f (TopUse g among (AttributedUse u used attributed as_stated)) = attributed (ap (λ (u : ToplevelUse). u.attributes.items) (sym (top_use g among u used)))
  names_pass f (TopUse g among (LostUse u used id local missing as_stated)) =
      let there = ap (λ (u : ToplevelUse). leads [] u.item) (top_use g among u used) ∙ local in
      let f : ⊥ = cc in
      f

  -- the path of i leads to another package, and to no world there
  use_passes : (f : Fault) → IsBrokenUse files i_item f → ⊥
  use_passes f (MissingUse path id among local missing is) =
      let same = one_among use_x.from path among in
      let there = ap (leads i_item.top) same ∙ local in
      let f : ⊥ = cc in
      f
  use_passes f (WorldUsed path among world is) =
      let same = one_among use_x.from path among in
      let there = ap (λ (path : UsePath). is_world_at files (leads i_item.top path)) same ∙ world in
      let f : ⊥ = cc in
      f

  no_use : (f : Fault) → IsBrokenUse files x_item f → ⊥
  no_use f (MissingUse path id among local missing is) = none_among path among
  no_use f (WorldUsed path among world is) = none_among path among

  -- what i uses is of no item of these files, and x uses nothing
  from_other : (n : ScopeName) → Contains (scope_names i_item) n → (from : Address) (attributes : List Attribute) (u : UseName) → n ≡ Used from attributes u → (target : Item) → from ≡ address target → Contains (all_items files) target → ⊥
  from_other n among from attributes u is target own present =
      let same : Used c_of_ab [] used_t ≡ Used from attributes u = one_among (Used c_of_ab [] used_t) n among ∙ is in
      let one : c_of_ab ∷ [] ≡ from ∷ [] = ap from_of same in
      let here : c_of_ab ≡ from = cc in
      each_of (λ (w : Item). c_of_ab ≡ address w → ⊥) x_item i_item target (λ there. (let f : ⊥ = cc in f)) (λ there. (let f : ⊥ = cc in f)) present (here ∙ own)

  nothing_used : (from : Address) (attributes : List Attribute) (u : UseName) → Contains (scope_names x_item) (Used from attributes u) → ⊥
  nothing_used from attributes u among =
      let wrong = ap from_of (one_among (Defined t) (Used from attributes u) among) in
      let f : ⊥ = cc in
      f

  -- no used name is one of an item of these files
  used_elsewhere : (w : Item) → Contains (all_scopes files) w → (from : Address) (attributes : List Attribute) (u : UseName) → Contains (scope_names w) (Used from attributes u) → (target : Item) → from ≡ address target → Contains (all_items files) target → ⊥
  used_elsewhere w among = each_of (λ (w : Item). (from : Address) (attributes : List Attribute) (u : UseName) → Contains (scope_names w) (Used from attributes u) → (target : Item) → from ≡ address target → Contains (all_items files) target → ⊥) x_item i_item w (λ from attributes u has target own present. nothing_used from attributes u has) (λ from attributes u has target own present. from_other (Used from attributes u) has from attributes u refl target own present) among

  no_definition : (d : TypeDef) → Contains (scope_names i_item) (Defined d) → ⊥
  no_definition d among =
      let wrong = ap from_of (one_among (Used c_of_ab [] used_t) (Defined d) among) in
      let f : ⊥ = cc in
      f

  only_definition : (d : TypeDef) → Contains (scope_names x_item) (Defined d) → t ≡ d
  only_definition d among = let same = one_among (Defined t) (Defined d) among in cc

  -- nothing is in u8
  u8_passes : (f : Fault) → IsBrokenType (written.Primitive (at 40 42) primitive.U8) f → ⊥
  u8_passes f (Itself broken) = broken
  u8_passes f (Inside {t = part} among broken) = none_among part among

  body_passes : (f : Fault) → IsBrokenBody t.body f → ⊥
  body_passes f (inl h) = h
  body_passes f (inr h) = u8_passes f (subst (λ (w : Written). IsBrokenType w f) (sym (one_among (written.Primitive (at 40 42) primitive.U8) h.0 h.1)) h.2)

  x_passes : (f : Fault) → IsBrokenScope (scope_names x_item) (functions x_item) f → ⊥
  x_passes f (DefinedTwice h) = no_repeat local_name (scope_names x_item) h.0 (one_differs (codes "t")) h.1
  x_passes f (MissingType h) = no_missing_edge missing_type_at (rows_of (scope_names x_item)) (0 ∷ []) f (one_order (codes "t")) h
  x_passes f (CyclicType h) = no_cyclic_edge 16 type_word (rows_of (scope_names x_item)) (0 ∷ []) f (one_order (codes "t")) h
  x_passes f (Metadata d among h) = unbroken_metadata f (subst (λ (d : TypeDef). IsBrokenMetadata d.attributes.items f) (sym (only_definition d among)) h)
  x_passes f (Body d among h) = body_passes f (subst (λ (d : TypeDef). IsBrokenBody d.body f) (sym (only_definition d among)) h)
  x_passes f (Function k fn at h) = let f : ⊥ = cc in f

  i_passes : (f : Fault) → IsBrokenScope (scope_names i_item) (functions i_item) f → ⊥
  i_passes f (DefinedTwice h) = no_repeat local_name (scope_names i_item) h.0 (one_differs (codes "t")) h.1
  i_passes f (MissingType h) = no_missing_edge missing_type_at (rows_of (scope_names i_item)) (0 ∷ []) f (one_order (codes "t")) h
  i_passes f (CyclicType h) = no_cyclic_edge 16 type_word (rows_of (scope_names i_item)) (0 ∷ []) f (one_order (codes "t")) h
  i_passes f (Metadata d among h) = no_definition d among
  i_passes f (Body d among h) = no_definition d among
  i_passes f (Function k fn at h) = let f : ⊥ = cc in f

  -- on the sides of both is the name t alone, among imports
  abbrev HasKeys : Item → Type 0
  HasKeys w = (side : WorldSide) → AllDiffer (map called_key (side_called side (scope_names w) (items_on side (side_items w)) (0 ∷ [])))

  x_keys : HasKeys x_item
  x_keys Imported = one_differs (codes "t")
  x_keys Exported = differ_none

  i_keys : HasKeys i_item
  i_keys Imported = one_differs (codes "t")
  i_keys Exported = differ_none

  x_sides : (f : Fault) → IsBrokenSides x_item f → ⊥
  x_sides f (FoldedTwice h) = no_fold (scope_names x_item) (side_items x_item) (0 ∷ []) f (one_order (codes "t")) x_keys h
  x_sides f (CrossedTwice h) = no_crossed (scope_names x_item) (side_items x_item) (0 ∷ []) f (one_order (codes "t")) x_keys h
  x_sides f (InterfaceMetadata x among h) = none_among x among

  i_sides : (f : Fault) → IsBrokenSides i_item f → ⊥
  i_sides f (FoldedTwice h) = no_fold (scope_names i_item) (side_items i_item) (0 ∷ []) f (one_order (codes "t")) i_keys h
  i_sides f (CrossedTwice h) = no_crossed (scope_names i_item) (side_items i_item) (0 ∷ []) f (one_order (codes "t")) i_keys h
  i_sides f (InterfaceMetadata x among h) = none_among x among

  -- what is so of both is so of each item of these files
  each_item : (P : Item → Type 0) → P x_item → P i_item → (w : Item) → Contains (all_items files) w → P w
  each_item P of_x of_i w among = each_of P x_item i_item w of_x of_i among

  no_use_metadata : (f : Fault) (u : WrittenUse) → Contains (uses i_item) u → IsBrokenMetadata u.attributes.items f → ⊥
  no_use_metadata f u used h = unbroken_metadata f (subst (λ (u : WrittenUse). IsBrokenMetadata u.attributes.items f) (sym (one_among use_x u used)) h)

  legal : IsLegal files
  legal f (Headerless none h) = absurd (let f : ⊥ = cc in f)
  legal f (Names h) = names_pass f h
  legal f (ItemStability w among h) = each_item (λ (w : Item). IsBrokenStability (about w.declared).attributes f → ⊥) (no_stability f) (no_stability f) w among h
  legal f (UseMetadata w among u used h) = each_item (λ (w : Item). Contains (uses w) u → ⊥) (none_among u) (λ used. no_use_metadata f u used h) w among used
  legal f (IncludeStability w among n included h) = each_item (λ (w : Item). Contains (includes w) n → ⊥) (none_among n) (none_among n) w among included
  legal f (Use w among h) = each_item (λ (w : Item). IsBrokenUse files w f → ⊥) (no_use f) (use_passes f) w among h
  legal f (InterfaceIncluded w among path included leads_there as_stated) = each_item (λ (w : Item). Contains (include_paths w) path → ⊥) (none_among path) (none_among path) w among included
  legal f (MissingName w among from attributes n used target own first missing as_stated) = used_elsewhere w among from attributes n used target own (find_among (λ (x : Item). bytes_eq (item_name x) (item_name target)) (all_items files) target first)
  legal f (Scope w among h) = each_item (λ (w : Item). IsBrokenScope (scope_names w) (functions w) f → ⊥) (x_passes f) (i_passes f) w among h
  legal f (Sides w among h) = each_item (λ (w : Item). IsBrokenSides w f → ⊥) (x_sides f) (i_sides f) w among h
  legal f (LinkedTwice w among h) = each_item (λ (w : Item). IsLinkedTwice files w f → ⊥) (λ h. (let there = h.5 in let g : ⊥ = cc in g)) (λ h. (let there = h.5 in let g : ⊥ = cc in g)) w among h
  legal f (Handle w among names h) = each_item (λ (w : Item). Contains (all_handles (item_types w)) h.0 → ⊥) (none_among h.0) (none_among h.0) w among h.1
  legal f (Setter w among h) = each_item (λ (w : Item). Contains (on_side h.1 (functions w)) h.2.0 → ⊥) (none_among h.2.0) (none_among h.2.0) w among h.2.1

  -- so a law of files that are joined is false if it allows a `use` at the top
  no_law : ((files : List PackageFile) (one : PackageFile) (own : Header) → headers files ≡ own ∷ [] → one.package_id ≡ Some own → file_declarations one ≡ declarations files → IsLegal files ↔ IsLegal (one ∷ [])) → ⊥
  no_law law = (law files one (header ptr alloc) refl refl refl).0 legal x_twice one_refused
