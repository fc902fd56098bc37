-- All uses of an item are those of its parts, and what items use from other packages is what is foreign among all that they use.
use Rattle.std.proofs.Common.{◌≡◌, ◌⊎◌, ℕ, Bool, true, false, List, [], ◌∷◌, ◌++◌, Some, inl, inr, refl, sym, ap, ◌∙◌, Contains}
use Rattle.std.specs.Prelude.{slice_get, map, if◌then◌else◌}
use Rattle.std.specs.List.{flat_map, filter}
use Rattle.std.proofs.lemmas.List.Elements.{Contains-append_cases, Contains-append_left, Contains-append_right, filter-append}
use Rattle.wit_type_tree.specs.declared.leaves.Attribute.{Attribute}
use Rattle.wit_package_names.specs.declared.package_name.PackageName.{PackageName}
use Rattle.wit_tree.specs.declared.tree.Extern.{Extern}
use Rattle.wit_tree.specs.declared.tree.PackageFile.{PackageFile}
use Rattle.wit_tree.specs.declared.tree.Use.{Use}
use Rattle.wit_tree.specs.declared.tree.UseName.{UseName}
use Rattle.wit_tree.specs.declared.tree.WorldSide.{WorldSide}
use Rattle.wit_tree.specs.declared.tree.WorldSide.TheVariants.{Imported, Exported}
use Rattle.wit_syntax.specs.Address.{InterfaceNamed, ForeignNamed, is_foreign}
use Rattle.wit_syntax.specs.ExternPart.{same_side}
use Rattle.wit_syntax.specs.ScopeTables.{part_uses, uses}
use Rattle.wit_syntax.specs.Shorthand.{use_of_foreign}
use Rattle.wit_syntax.specs.Source.{Target, Local, Foreign, TopName, leads, target_scope, path_scope, Part, DefinitionPart, UsePart, IncludePart, FunctionPart, ExternPart, Item, parts, all_items, at_side, own_uses, inline_uses, all_uses, ForeignUse, foreign_names, foreign_uses}
use Rattle.wit_syntax.proofs.Lists.{flat_map_at, flat_map_has}
use Rattle.wit_syntax.proofs.Found.{contains_at, at_contains}
use Rattle.wit_syntax.proofs.JoinedLists.{flat_map_by}

-- what is in what one item of a list brings is in what the list brings
pub has_flat : {X A : Type 0} (f : X → List A) (xs : List X) (p : ℕ) (x : X) (a : A) → slice_get xs p ≡ Some x → Contains (f x) a → Contains (flat_map f xs) a
has_flat f xs p x a at h =
    let j = at_contains (f x) a h in
    let it = flat_map_has f xs p j.0 x a at j.1 in
    contains_at (flat_map f xs) it.0 a it.1

-- and what is in the one is in what one item of the other brings
pub flat_has : {X A : Type 0} (f : X → List A) (xs : List X) (a : A) → Contains (flat_map f xs) a → (p : ℕ) × (x : X) × (slice_get xs p ≡ Some x) × ((j : ℕ) × (slice_get (f x) j ≡ Some a))
flat_has f xs a h = let k = at_contains (flat_map f xs) a h in flat_map_at f xs k.0 a k.1

-- what each part brings is among what parts bring that bring more
wider : {A : Type 0} (f g : Part → List A) (ps : List Part) (a : A) → ((p : Part) (j : ℕ) → slice_get (f p) j ≡ Some a → Contains (g p) a) → Contains (flat_map f ps) a → Contains (flat_map g ps) a
wider f g ps a more among = let p = flat_has f ps a among in has_flat g ps p.0 p.1 a p.2 (more p.1 p.3.0 p.3.1)

own_part : (p : Part) (j : ℕ) (u : Use) → slice_get (own_uses p) j ≡ Some u → Contains (part_uses p) u
own_part (UsePart v) j u at = contains_at (v ∷ []) j u at
own_part (DefinitionPart d) j u at = absurd (let f : ⊥ = cc in f)
own_part (IncludePart n) j u at = absurd (let f : ⊥ = cc in f)
own_part (FunctionPart g) j u at = absurd (let f : ⊥ = cc in f)
own_part (ExternPart x) j u at = absurd (let f : ⊥ = cc in f)

-- those in interfaces that a part imports, or exports
abbrev side_uses : WorldSide → Part → List Use
side_uses side = at_side (λ (x : Extern). inline_uses x.kind) side

extern_uses : (b : Bool) (us : List Use) (j : ℕ) (u : Use) → slice_get (if b then us else []) j ≡ Some u → Contains us u
extern_uses true us j u at = contains_at us j u at
extern_uses false us j u at = absurd (let f : ⊥ = cc in f)

side_part : (side : WorldSide) (p : Part) (j : ℕ) (u : Use) → slice_get (side_uses side p) j ≡ Some u → Contains (part_uses p) u
side_part side (ExternPart x) j u at = extern_uses (same_side side x.side) (inline_uses x.kind) j u at
side_part side (DefinitionPart d) j u at = absurd (let f : ⊥ = cc in f)
side_part side (UsePart v) j u at = absurd (let f : ⊥ = cc in f)
side_part side (IncludePart n) j u at = absurd (let f : ⊥ = cc in f)
side_part side (FunctionPart g) j u at = absurd (let f : ⊥ = cc in f)

pub all_uses_among : (i : Item) (u : Use) → Contains (all_uses i) u → Contains (uses i) u
all_uses_among i u among =
    let ps = parts i in
    elim (Contains-append_cases (flat_map own_uses ps) (flat_map (side_uses Imported) ps ++ flat_map (side_uses Exported) ps) u among) [
      | inl own ↦ wider own_uses part_uses ps u (λ p j at. own_part p j u at) own
      | inr sides ↦ elim (Contains-append_cases (flat_map (side_uses Imported) ps) (flat_map (side_uses Exported) ps) u sides) [
        | inl imported ↦ wider (side_uses Imported) part_uses ps u (λ p j at. side_part Imported p j u at) imported
        | inr exported ↦ wider (side_uses Exported) part_uses ps u (λ p j at. side_part Exported p j u at) exported
      ]
    ]

-- each `use` of a part is one by itself, or is on the side on which it is written
each_side : (side : WorldSide) (us : List Use) (u : Use) → Contains us u → Contains (if same_side Imported side then us else []) u ⊎ Contains (if same_side Exported side then us else []) u
each_side Imported us u h = inl h
each_side Exported us u h = inr h

part_walked : (p : Part) (u : Use) → Contains (part_uses p) u → Contains (own_uses p) u ⊎ (Contains (side_uses Imported p) u ⊎ Contains (side_uses Exported p) u)
part_walked (UsePart v) u h = inl h
part_walked (ExternPart x) u h = inr (each_side x.side (inline_uses x.kind) u h)
part_walked (DefinitionPart d) u h = inl h
part_walked (IncludePart n) u h = inl h
part_walked (FunctionPart g) u h = inl h

pub all_uses_has : (i : Item) (u : Use) → Contains (uses i) u → Contains (all_uses i) u
all_uses_has i u h =
    let ps = parts i in
    let p = flat_has part_uses ps u h in
    let imports = flat_map (side_uses Imported) ps in
    let exports = flat_map (side_uses Exported) ps in
    let own = flat_map own_uses ps in
    elim (part_walked p.1 u (contains_at (part_uses p.1) p.3.0 u p.3.1)) [
      | inl by_itself ↦ Contains-append_left own (imports ++ exports) u (has_flat own_uses ps p.0 p.1 u p.2 by_itself)
      | inr sides ↦ Contains-append_right own (imports ++ exports) u (elim sides [
        | inl imported ↦ Contains-append_left imports exports u (has_flat (side_uses Imported) ps p.0 p.1 u p.2 imported)
        | inr exported ↦ Contains-append_right imports exports u (has_flat (side_uses Exported) ps p.0 p.1 u p.2 exported)
      ])
    ]

-- what a `use` names
abbrev pub use_foreign_uses : List TopName → Use → List ForeignUse
use_foreign_uses top u = map (use_of_foreign (path_scope top u.from) u.attributes.items) u.names.items

-- what an item uses from other packages
abbrev pub item_foreign_uses : Item → List ForeignUse
item_foreign_uses i = filter (λ (t : ForeignUse). is_foreign t.from) (flat_map (use_foreign_uses i.top) (all_uses i))

none_foreign : (name : List ℕ) (attributes : List Attribute) (ns : List UseName) → filter (λ (t : ForeignUse). is_foreign t.from) (map (use_of_foreign (InterfaceNamed name) attributes) ns) ≡ []
none_foreign name attributes [] = refl
none_foreign name attributes (n ∷ ns) = none_foreign name attributes ns

all_foreign : (p : PackageName) (name : List ℕ) (attributes : List Attribute) (ns : List UseName)
    → filter (λ (t : ForeignUse). is_foreign t.from) (map (use_of_foreign (ForeignNamed p name) attributes) ns) ≡ map (use_of_foreign (ForeignNamed p name) attributes) ns
all_foreign p name attributes [] = refl
all_foreign p name attributes (n ∷ ns) = ap (λ (l : List ForeignUse). use_of_foreign (ForeignNamed p name) attributes n ∷ l) (all_foreign p name attributes ns)

by_target : (u : Use) (t : Target) → foreign_names u t ≡ filter (λ (x : ForeignUse). is_foreign x.from) (map (use_of_foreign (target_scope InterfaceNamed t) u.attributes.items) u.names.items)
by_target u (Local id) = sym (none_foreign id.name.now u.attributes.items u.names.items)
by_target u (Foreign p id) = sym (all_foreign p id.name.now u.attributes.items u.names.items)

by_uses : (top : List TopName) (us : List Use) → flat_map (λ (u : Use). foreign_names u (leads top u.from)) us ≡ filter (λ (t : ForeignUse). is_foreign t.from) (flat_map (use_foreign_uses top) us)
by_uses top [] = refl
by_uses top (u ∷ us) =
    ap (λ (l : List ForeignUse). l ++ flat_map (λ (v : Use). foreign_names v (leads top v.from)) us) (by_target u (leads top u.from))
    ∙ ap (λ (l : List ForeignUse). filter (λ (t : ForeignUse). is_foreign t.from) (use_foreign_uses top u) ++ l) (by_uses top us)
    ∙ sym (filter-append (λ (t : ForeignUse). is_foreign t.from) (use_foreign_uses top u) (flat_map (use_foreign_uses top) us))

pub foreign_uses-filtered : (files : List PackageFile) → foreign_uses files ≡ flat_map item_foreign_uses (all_items files)
foreign_uses-filtered files = flat_map_by (λ (i : Item). flat_map (λ (u : Use). foreign_names u (leads i.top u.from)) (all_uses i)) item_foreign_uses (λ i. by_uses i.top (all_uses i)) (all_items files)
