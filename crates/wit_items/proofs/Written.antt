-- The paths of uses, part by part.
use Rattle.std.proofs.Common.{◌≡◌, ℕ, zero, suc, List, [], ◌∷◌, ◌++◌, Some, sym, ap, ◌∙◌, arith, Contains, Bool, inl, inr, refl, None, true, false, Option, subst}
use Rattle.wit_arena.proofs.Common.{Declared, DefinitionPart, ExternPart, FunctionPart, IncludePart, PackageFile, Part, UsePart, UsePath, about, at_contains, at_prefix, contains_at, extern_paths, flat_map, flat_map_at, flat_map_has, inline_uses, map, map-append, option_map, part_uses, parts, slice_get, slice_get-map, use_path, ExternKind, InterfaceItem, SideFunction, SideInline, SideItem, SideLink, TopName, WorldSide, interfaces_on, interfaces_on-append, append-nil, cases_Bool, definition_functions, extern_items, filter, free_function, is_interface, interface_part, own_uses, part_items, same_side, Exported, Extern, Imported, Item, TheInterface, option_or, side_itself, walk, AreUsableUses, Foreign, ForeignNamed, ForeignVisit, Id, Local, PackageName, Target, all_items, declared_items, file_items, foreign_at, is_world, is_world_at, item_named, item_word, leads, missing_at, path_id, slice_get_within, top_names}
use Rattle.wit_syntax.proofs.Common.{Use as WrittenUse, Interface, AstItem}
use Rattle.wit_top_names.proofs.Lost.{flat_more}
use Rattle.wit_items.specs.ItemPaths.{HasItem, HasPath}
use Rattle.wit_items.specs.BorrowedItems.{AreInside, IsItemOf, declared_view, inside_of, side_uses}
use Rattle.wit_items.proofs.Inlined.{extern_on, no_interfaces}
use Rattle.wit_first.specs.UseFaults.{item_uses_fault, use_fault, all_uses_fault, path_fault, reached_fault}
use Rattle.wit_first.proofs.Bridge.{in_only, or_none_both}
use Rattle.wit_first.proofs.First.{in-append}
use Rattle.wit_items.specs.declared.items.Item.{Item as Borrowed}
use Rattle.wit_first.specs.First.{first_in}
use Rattle.wit_first.specs.AttributeFaults.{metadata_fault}
use Rattle.wit_first.specs.FileFaults.{lost_fault}
use Rattle.wit_first.proofs.FileFaults.{lost_at}
use Rattle.wit_files.specs.FileNames.{names_at_top, top_at}
use Rattle.wit_items.proofs.Others.{used_visited, wanted_visited}
use Rattle.wit_tree.specs.declared.tree.ExternKind.TheVariants as extern
use Rattle.wit_tree.specs.declared.tree.InterfaceItem.TheVariants as interface_item

-- what is in a list of one is that one
pub contains_one : {X : Type 0} (x y : X) → Contains (x ∷ []) y → x ≡ y
contains_one x y (zero, lt, is) = is
contains_one x y (suc k, lt, is) = absurd (let f : ⊥ = omega arith in f)

-- what one of a list brings is among what the list brings
pub among_flat : {X A : Type 0} (of : X → List A) (xs : List X) (i : ℕ) (x : X) (a : A) → slice_get xs i ≡ Some x → Contains (of x) a → Contains (flat_map of xs) a
among_flat of xs i x a at among =
    let k = at_contains (of x) a among in
    let it = flat_map_has of xs i k.0 x a at k.1 in
    contains_at (flat_map of xs) it.0 a it.1

-- what parts bring, one more
pub parts_more : {X A : Type 0} (of : Part → List A) (part : X → Part) (xs ys : List X) (x : X) (p : Part) → ys ≡ xs ++ x ∷ [] → p ≡ part x → flat_map of (map part ys) ≡ flat_map of (map part xs) ++ of p
parts_more of part xs ys x p extended is = flat_more of (map part xs) (map part ys) (part x) (ap (map part) extended ∙ map-append part xs (x ∷ [])) ∙ ap (λ q. flat_map of (map part xs) ++ of q) (sym is)

-- the path of a `use` is one of its part, and so of its item
use_path_of : (p : Part) (j : ℕ) (u : WrittenUse) → slice_get (part_uses p) j ≡ Some u → slice_get (use_path p) j ≡ Some u.from
use_path_of (DefinitionPart d) j u at = absurd (let f : ⊥ = cc in f)
use_path_of (UsePart v) zero u at = (let same : v ≡ u = cc in ap (λ (x : WrittenUse). Some x.from) same)
use_path_of (UsePart v) (suc j) u at = absurd (let f : ⊥ = cc in f)
use_path_of (IncludePart i) j u at = absurd (let f : ⊥ = cc in f)
use_path_of (FunctionPart g) j u at = absurd (let f : ⊥ = cc in f)
use_path_of (ExternPart x) j u at =
    let from : WrittenUse → UsePath = λ v. v.from in
    at_prefix (map from (inline_uses x.kind)) (extern_paths x.kind) j u.from (slice_get-map from (inline_uses x.kind) j ∙ ap (option_map from) at)

pub path_of_use : (ps : List Part) (u : WrittenUse) → Contains (flat_map part_uses ps) u → Contains (flat_map use_path ps) u.from
path_of_use ps u among =
    let k = at_contains (flat_map part_uses ps) u among in
    let p = flat_map_at part_uses ps k.0 u k.1 in
    let it = flat_map_has use_path ps p.0 p.3.0 p.1 u.from p.2 (use_path_of p.1 p.3.0 u p.3.1) in
    contains_at (flat_map use_path ps) it.0 u.from it.1

pub use_has_path : (files : List PackageFile) (place : ℕ) (d : Declared) (u : WrittenUse) → HasItem files place d → Contains (flat_map part_uses (about d).parts) u → HasPath files place u.from
use_has_path files place d u item among = record { declared = d; item = item; among = path_of_use (about d).parts u among }

-- The uses of interfaces that are written in a world: those of its parts on each side.
-- those of a part are its own, or those of the interface that is written in it
pub own_among : (p : Part) (u : WrittenUse) → Contains (own_uses p) u → Contains (part_uses p) u
own_among (DefinitionPart d) u among = among
own_among (UsePart v) u among = among
own_among (IncludePart i) u among = among
own_among (FunctionPart f) u among = among
own_among (ExternPart x) u among = absurd (let at = (at_contains [] u among).1 in let f : ⊥ = cc in f)

pub side_among : (side : WorldSide) (p : Part) (u : WrittenUse) → Contains (side_uses side p) u → Contains (part_uses p) u
side_among side (DefinitionPart d) u among = among
side_among side (UsePart v) u among = absurd (let at = (at_contains [] u among).1 in let f : ⊥ = cc in f)
side_among side (IncludePart i) u among = among
side_among side (FunctionPart f) u among = among
side_among side (ExternPart x) u among = elim (cases_Bool (same_side side x.side)) [
  | inl here ↦ rw here at among
  | inr there ↦ (
      let none : Contains [] u = rw there at among in
      let at = (at_contains [] u none).1 in
      absurd (let f : ⊥ = cc in f))
]

-- the uses of what is on a side: those of an interface that is written there
abbrev pub written_uses : SideItem → List WrittenUse
written_uses (SideInline x name items) = flat_map own_uses (map interface_part items)
written_uses _ = []

-- the interfaces that a part is on a side
abbrev pub part_on : WorldSide → Part → List SideItem
part_on side p = interfaces_on side (part_items p)

pub extern_uses : (x : Extern) (kind : ExternKind) → flat_map written_uses (extern_items x kind) ≡ inline_uses kind
extern_uses x (extern.Interface name items) = append-nil (flat_map own_uses (map interface_part items.items))
extern_uses x (extern.Path path) = refl
extern_uses x (extern.Func name f) = refl
extern_uses x (extern.NamedPath name path) = refl

-- functions have none
uses_kept : (xs : List SideItem) → flat_map written_uses (filter is_interface xs) ≡ flat_map written_uses xs
uses_kept [] = refl
uses_kept (SideFunction fn ∷ xs) = uses_kept xs
uses_kept (SideLink link ∷ xs) = uses_kept xs
uses_kept (SideInline x name items ∷ xs) = ap (λ (l : List WrittenUse). written_uses (SideInline x name items) ++ l) (uses_kept xs)

-- those of a part are those of its interfaces
pub uses_written : (side : WorldSide) (p : Part) → side_uses side p ≡ flat_map written_uses (part_on side p)
uses_written side (DefinitionPart d) = ap (flat_map written_uses) (sym (no_interfaces side (definition_functions d.name d.body)))
uses_written side (UsePart u) = refl
uses_written side (IncludePart i) = refl
uses_written side (FunctionPart f) = ap (flat_map written_uses) (sym (no_interfaces side (free_function f ∷ [])))
uses_written side (ExternPart x) = elim (cases_Bool (same_side side x.side)) [
  | inl here ↦ rw here (sym (ap (flat_map written_uses) (extern_on side x true here) ∙ uses_kept (extern_items x x.kind) ∙ extern_uses x x.kind))
  | inr there ↦ rw there (sym (ap (flat_map written_uses) (extern_on side x false there)))
]

-- what parts have on a side, part by part
pub parts_on : (side : WorldSide) (ps : List Part) → interfaces_on side (flat_map part_items ps) ≡ flat_map (part_on side) ps
parts_on side [] = refl
parts_on side (p ∷ ps) = interfaces_on-append side (part_items p) (flat_map part_items ps) ∙ ap (λ (l : List SideItem). part_on side p ++ l) (parts_on side ps)

-- of an interface, whose parts bring nothing on a side, those of an item are those of its parts
none_on : (side : WorldSide) (xs : List InterfaceItem) → flat_map (side_uses side) (map interface_part xs) ≡ []
none_on side [] = refl
none_on side (interface_item.TypeDef d ∷ xs) = none_on side xs
none_on side (interface_item.Use u ∷ xs) = none_on side xs
none_on side (interface_item.Func f ∷ xs) = none_on side xs

pub interface_uses : (files : List PackageFile) (top : List TopName) (i : Interface) → item_uses_fault files (record { top = top; declared = TheInterface i }) ≡ first_in (use_fault files top) (flat_map own_uses (map interface_part i.items.items))
interface_uses files top i =
    let ps = map interface_part i.items.items in
    let own = flat_map own_uses ps in
    ap (λ l. first_in (use_fault files top) (own ++ (l ++ flat_map (side_uses Exported) ps))) (none_on Imported i.items.items)
    ∙ ap (λ l. first_in (use_fault files top) (own ++ l)) (none_on Exported i.items.items)
    ∙ ap (first_in (use_fault files top)) (append-nil own)

-- of a world: its own, and then those on either side
pub world_uses : (files : List PackageFile) (top : List TopName) (ps : List Part) → first_in (use_fault files top) (walk own_uses (λ (x : Extern). inline_uses x.kind) ps) ≡ option_or (first_in (use_fault files top) (flat_map own_uses ps)) (option_or (first_in (use_fault files top) (flat_map (side_uses Imported) ps)) (first_in (use_fault files top) (flat_map (side_uses Exported) ps)))
world_uses files top ps =
    in-append (use_fault files top) (flat_map own_uses ps) (flat_map (side_uses Imported) ps ++ flat_map (side_uses Exported) ps)
    ∙ ap (option_or (first_in (use_fault files top) (flat_map own_uses ps))) (in-append (use_fault files top) (flat_map (side_uses Imported) ps) (flat_map (side_uses Exported) ps))

-- nothing is wrong with a `use` of parts, where nothing is wrong with their own, nor with those that are written on either side
module _ (files : List PackageFile) (top : List TopName) (ps : List Part) (none : first_in (use_fault files top) (walk own_uses (λ (x : Extern). inline_uses x.kind) ps) ≡ None) where
  both : (first_in (use_fault files top) (flat_map own_uses ps) ≡ None) × (option_or (first_in (use_fault files top) (flat_map (side_uses Imported) ps)) (first_in (use_fault files top) (flat_map (side_uses Exported) ps)) ≡ None)
  both = or_none_both (first_in (use_fault files top) (flat_map own_uses ps)) (option_or (first_in (use_fault files top) (flat_map (side_uses Imported) ps)) (first_in (use_fault files top) (flat_map (side_uses Exported) ps))) (sym (world_uses files top ps) ∙ none)

  on_side : (side : WorldSide) → first_in (use_fault files top) (flat_map (side_uses side) ps) ≡ None
  on_side Imported = (or_none_both (first_in (use_fault files top) (flat_map (side_uses Imported) ps)) (first_in (use_fault files top) (flat_map (side_uses Exported) ps)) both.1).0
  on_side Exported = (or_none_both (first_in (use_fault files top) (flat_map (side_uses Imported) ps)) (first_in (use_fault files top) (flat_map (side_uses Exported) ps)) both.1).1

  right_in : (us : List WrittenUse) (u : WrittenUse) → first_in (use_fault files top) us ≡ None → Contains us u → use_fault files top u ≡ None
  right_in us u right among = (let it = at_contains us u among in in_only (use_fault files top) us right it.0 u it.1)

  pub right_use : (u : WrittenUse) → Contains (flat_map part_uses ps) u → use_fault files top u ≡ None
  right_use u among =
      let k = at_contains (flat_map part_uses ps) u among in
      let p = flat_map_at part_uses ps k.0 u k.1 in
      by_part p.0 p.1 p.2 (contains_at (part_uses p.1) p.3.0 u p.3.1)
    where
      nothing : Contains [] u → use_fault files top u ≡ None
      nothing among = absurd (let at = (at_contains [] u among).1 in let f : ⊥ = cc in f)

      by_part : (m : ℕ) (p : Part) → slice_get ps m ≡ Some p → Contains (part_uses p) u → use_fault files top u ≡ None
      by_part m (DefinitionPart d) at among = nothing among
      by_part m (UsePart v) at among = right_in (flat_map own_uses ps) u both.0 (among_flat own_uses ps m (UsePart v) u at among)
      by_part m (IncludePart i) at among = nothing among
      by_part m (FunctionPart f) at among = nothing among
      by_part m (ExternPart x) at among = right_in (flat_map (side_uses x.side) ps) u (on_side x.side) (among_flat (side_uses x.side) ps m (ExternPart x) u at (rw (side_itself x.side) among))

-- the interfaces that are borrowed are those that are written, where both sides are
pub inside_is : (i : Borrowed) (w : Item) → AreInside Imported w i.imported.items → AreInside Exported w i.exported.items → (side : WorldSide) → AreInside side w (inside_of side i)
inside_is i w imported exported Imported = imported
inside_is i w imported exported Exported = exported

-- Items of files, and the first fault of their uses.
-- an item of files is one that the file at its place declares
pub filed_item : (files : List PackageFile) (i : Borrowed) → IsItemOf files i → HasItem files i.place (declared_view i.declared)
filed_item files i of = record {
  within = slice_get_within files i.place i.file.now of.file;
  among = rw (ap names_at_top of.file) of.among;
}

-- what one of a list alone brings is among what the list brings
pub declared_among : {X A : Type 0} (of : X → List A) (xs : List X) (i : ℕ) (x : X) (a : A) → slice_get xs i ≡ Some x → of x ≡ a ∷ [] → Contains (flat_map of xs) a
declared_among of xs i x a at only =
    let it = flat_map_has of xs i 0 x a at (ap (λ l. slice_get l 0) only) in
    contains_at (flat_map of xs) it.0 a it.1

-- an item of a file is one of all files
pub item_among : (files : List PackageFile) (k : ℕ) (file : PackageFile) (i : Item) → slice_get files k ≡ Some file → Contains (file_items file) i → Contains (all_items files) i
item_among files k file i at among =
    let j = at_contains (file_items file) i among in
    let it = flat_map_has file_items files k j.0 file i at j.1 in
    contains_at (all_items files) it.0 i it.1

pub item_here : (files : List PackageFile) (place : ℕ) (file : PackageFile) (d : Declared) → slice_get files place ≡ Some file → Contains (file_items file) (record { top = top_names file; declared = d }) → HasItem files place d
item_here files place file d at among = record {
  within = slice_get_within files place file at;
  among = rw (ap names_at_top at) (item_among files place file (record { top = top_names file; declared = d }) at among);
}

-- so is one that a declaration of the file makes
pub item_declared : (files : List PackageFile) (place : ℕ) (file : PackageFile) (xs : List AstItem) (i : ℕ) (x : AstItem) (d : Declared) → slice_get files place ≡ Some file → xs ≡ file.decl_list.items.items → slice_get xs i ≡ Some x → declared_items (top_names file) x ≡ record { top = top_names file; declared = d } ∷ [] → HasItem files place d
item_declared files place file xs i x d at all there only =
    let w : Item = record { top = top_names file; declared = d } in
    item_here files place file d at (subst (λ (l : List AstItem). Contains (flat_map (declared_items (top_names file)) l) w) all (declared_among (declared_items (top_names file)) xs i x w there only))

-- where there is none, each path leads to an interface
none_mapped : (o : Option Item) → option_map is_world o ≡ None → o ≡ None
none_mapped None h = refl
none_mapped (Some i) h = absurd (let f : ⊥ = cc in f)

usable_by : (files : List PackageFile) (to : Target) (from : Id) (o : Option Bool) → is_world_at files to ≡ o → ((p : PackageName) (id : Id) → to ≡ Foreign p id → (v : ForeignVisit) × (foreign_at files (ForeignNamed p id.name.now) ≡ Some v)) → reached_fault o from (lost_fault (all_items files) to) None ≡ None → is_world_at files to ≡ Some false
usable_by files to from (Some false) is visited none = is
usable_by files to from (Some true) is visited none = absurd (let f : ⊥ = cc in f)
usable_by files (Local id) from None is visited none =
    let lost = lost_at (all_items files) id (none_mapped (item_named (all_items files) id.name.now) is) in
    let wrong : None ≡ Some (missing_at 7 item_word id) = sym none ∙ lost in
    absurd (let f : ⊥ = cc in f)
usable_by files (Foreign p id) from None is visited none =
    let v = visited p id refl in
    let wrong : None ≡ Some v.0.wants_world = sym is ∙ ap (option_map (λ (w : ForeignVisit). w.wants_world)) v.1 in
    absurd (let f : ⊥ = cc in f)

-- a path of an item that has no fault leads to an interface
pub wanted_usable : (files : List PackageFile) (place : ℕ) (path : UsePath) → HasPath files place path → path_fault files (top_at files place) path None ≡ None → is_world_at files (leads (top_at files place) path) ≡ Some false
wanted_usable files place path has none = usable_by files (leads (top_at files place) path) (path_id path) (is_world_at files (leads (top_at files place) path)) refl (wanted_visited files place path has) none

-- where nothing is wrong with uses, they lead to interfaces
pub uses_usable : (files : List PackageFile) → all_uses_fault files ≡ None → AreUsableUses files (all_items files)
uses_usable files none = record {
  usable = λ i u here among.
      let k = at_contains (all_items files) i here in
      let right = right_use files i.top (parts i) (in_only (item_uses_fault files) (all_items files) none k.0 i k.1) u among in
      let both = or_none_both (metadata_fault u.attributes.items) (path_fault files i.top u.from None) right in
      usable_by files (leads i.top u.from) (path_id u.from) (is_world_at files (leads i.top u.from)) refl (used_visited files i u.from here (path_of_use (parts i) u among)) both.1;
}
