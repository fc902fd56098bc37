-- What is on each side once names are defined there.
use Rattle.std.proofs.Common.{◌≡◌, ℕ, ◌+◌, Bool, List, [], ◌∷◌, ◌++◌, take, map, Some, None, refl, sym, ap, ◌∙◌, subst, append_assoc}
use Rattle.wit_arena.proofs.Common.{AllDiffer, Constructor, Err, Exported, Freestanding, FuncForm, Id, Imported, Method, Ok, OnOk, OnSide, Result, Role, SideItem, Span, Static, WorldSide, append-nil, item_side, items_on, names_on, role_side, same_side, slice_get, flat_map}
use Rattle.wit_refusals.specs.NameScopes.{Name, AreUsed}
use Rattle.wit_sides.specs.SideNames.{only_on}
use Rattle.wit_rules.specs.Signatures.{across_of}
use Rattle.wit_signatures.specs.FunctionsOfScope.{name_key}
use Rattle.wit_externs.specs.Clash.{item_names}
use Rattle.wit_externs.proofs.Named.{keys_more}
use Rattle.wit_externs.proofs.Steps.{kept_next, kept_one}

-- what a role says of sides
pub side_imported : (role : Role) → across_of role ≡ None → role_side role ≡ Imported
side_imported (Freestanding id form) is = refl
side_imported (Method of form) is = refl
side_imported (Static of form) is = refl
side_imported (Constructor of) is = refl
side_imported (OnSide side id form) is = absurd (let f : ⊥ = cc in f)

pub side_across : (role : Role) (side : WorldSide) → across_of role ≡ Some side → (id : Id) × (form : FuncForm) × (role ≡ OnSide side id form)
side_across (Freestanding id form) side is = absurd (let f : ⊥ = cc in f)
side_across (Method of form) side is = absurd (let f : ⊥ = cc in f)
side_across (Static of form) side is = absurd (let f : ⊥ = cc in f)
side_across (Constructor of) side is = absurd (let f : ⊥ = cc in f)
side_across (OnSide there id form) side is = let same : there ≡ side = cc in (id, form, ap (λ (s : WorldSide). OnSide s id form) same)

-- names of types, of which one more is defined
pub types_more : (s : WorldSide) (old mid new ns ms : List Name) (n : Name) → ms ≡ ns ++ n ∷ [] → mid ≡ old ++ names_on s ns → new ≡ mid ++ only_on s Imported n → new ≡ old ++ names_on s ms
types_more Imported old mid new ns ms n more before after = after ∙ ap (λ (l : List Name). l ++ n ∷ []) before ∙ append_assoc old ns (n ∷ []) ∙ ap (λ (l : List Name). old ++ l) (sym more)
types_more Exported old mid new ns ms n more before after = after ∙ append-nil mid ∙ before

-- the keys on a side differ where a name is defined on one that is not in use there
one_side : (s side : WorldSide) (old new : WorldSide → List Name) (name : List ℕ) (span : Span) → new s ≡ old s ++ only_on s side (name, span) → (AreUsed (old side) name → ⊥) → AllDiffer (map name_key (old s)) → AllDiffer (map name_key (new s))
one_side Imported Imported old new name span defined free d = subst (λ (l : List Name). AllDiffer (map name_key l)) (sym defined) (keys_more (old Imported) name span free d)
one_side Exported Exported old new name span defined free d = subst (λ (l : List Name). AllDiffer (map name_key l)) (sym defined) (keys_more (old Exported) name span free d)
one_side Imported Exported old new name span defined free d = subst (λ (l : List Name). AllDiffer (map name_key l)) (sym (defined ∙ append-nil (old Imported))) d
one_side Exported Imported old new name span defined free d = subst (λ (l : List Name). AllDiffer (map name_key l)) (sym (defined ∙ append-nil (old Exported))) d

pub sides_differ : (side : WorldSide) (old new : WorldSide → List Name) (name : List ℕ) (span : Span) → ((s : WorldSide) → new s ≡ old s ++ only_on s side (name, span)) → (AreUsed (old side) name → ⊥) → (s : WorldSide) → AllDiffer (map name_key (old s)) → AllDiffer (map name_key (new s))
sides_differ side old new name span defined free s d = one_side s side old new name span (defined s) free d

pub name_differs : {T E : Type 0} (r : Result T E) (side : WorldSide) (old new : WorldSide → List Name) (name : List ℕ) (span : Span) → OnOk r ((s : WorldSide) → new s ≡ old s ++ only_on s side (name, span)) → OnOk r (AreUsed (old side) name → ⊥) → OnOk r ((s : WorldSide) → AllDiffer (map name_key (old s)) → AllDiffer (map name_key (new s)))
name_differs (Ok x) side old new name span defined free = sides_differ side old new name span defined free
name_differs (Err e) side old new name span defined free = tt

-- what passes the test of a side
abbrev members_on : WorldSide → SideItem → Bool
members_on s x = same_side s (item_side x)

-- the name of an item is all that it adds to a side, and one without a name adds nothing
pub item_on : (s side : WorldSide) (x : SideItem) (n : Name) → item_side x ≡ side → item_names x ≡ n ∷ [] → only_on s side n ≡ flat_map item_names (items_on s (x ∷ []))
item_on s side x n there named = ap (λ (t : WorldSide). only_on s t n) (sym there) ∙ kept_one item_names (members_on s) x (n ∷ []) named

-- of what a definition says of its result, as the name of an item
pub item_defined : {T E : Type 0} (r : Result T E) (x : SideItem) (side : WorldSide) (old new : WorldSide → List Name) (name : List ℕ) (span : Span) → item_side x ≡ side → item_names x ≡ (name, span) ∷ [] → OnOk r ((s : WorldSide) → new s ≡ old s ++ only_on s side (name, span)) → OnOk r ((s : WorldSide) → new s ≡ old s ++ flat_map item_names (items_on s (x ∷ [])))
item_defined (Ok done) x side old new name span there named defined = λ s. defined s ∙ ap (λ (l : List Name). old s ++ l) (item_on s side x (name, span) there named)
item_defined (Err e) x side old new name span there named defined = tt

-- and what one more item adds to each side
pub sides_more : (s : WorldSide) (old mid new : List Name) (xs : List SideItem) (i : ℕ) (x : SideItem) → slice_get xs i ≡ Some x → mid ≡ old ++ flat_map item_names (items_on s (take i xs)) → new ≡ mid ++ flat_map item_names (items_on s (x ∷ [])) → new ≡ old ++ flat_map item_names (items_on s (take (i + 1) xs))
sides_more s old mid new xs i x at before after =
    after
    ∙ ap (λ (l : List Name). l ++ flat_map item_names (items_on s (x ∷ []))) before
    ∙ append_assoc old (flat_map item_names (items_on s (take i xs))) (flat_map item_names (items_on s (x ∷ [])))
    ∙ ap (λ (l : List Name). old ++ l) (sym (kept_next item_names (members_on s) xs i x at))
