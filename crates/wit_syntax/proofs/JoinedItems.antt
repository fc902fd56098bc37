-- Items that are the same but for the names at the top of their files, where each of these means itself.
use Rattle.std.proofs.Common.{◌≡◌, ℕ, suc, List, [], ◌∷◌, ◌++◌, length, Some, refl, sym, ap, ◌∙◌, subst}
use Rattle.std.specs.Prelude.{slice_get, map, Contains}
use Rattle.std.specs.List.{flat_map, filter}
use Rattle.wit_tree.specs.declared.tree.Use.{Use}
use Rattle.wit_graph.proofs.Tables.{matched}
use Rattle.wit_syntax.specs.Address.{Address, is_foreign}
use Rattle.wit_syntax.specs.Source.{Declared, DefinitionPart, ExternPart, ForeignUse, FunctionPart, IncludePart, Item, Part, TheInline, TopName, UsePart, Used, all_uses, item_name, part_names, parts, scope_names}
use Rattle.wit_syntax.proofs.AllUses.{use_foreign_uses, item_foreign_uses}
use Rattle.wit_syntax.specs.Shorthand.{inline_after, use_of_foreign}
use Rattle.wit_syntax.specs.Sides.{SideItem, SideFunction, SideLink, SideInline, side_items, inline_items}
use Rattle.wit_syntax.specs.Splitting.{declared_of}
use Rattle.wit_syntax.proofs.Lists.{flat_map_at}
use Rattle.wit_syntax.proofs.Found.{contains_at, at_contains}
use Rattle.wit_syntax.proofs.Inline.{with_uses, interfaces_on}
use Rattle.wit_syntax.proofs.JoinedLists.{flat_map_by, map-flat_map}
use Rattle.wit_syntax.proofs.JoinedTargets.{AreThemselves, used_same}

-- an item with other names at the top of its file
abbrev pub retop : List TopName → Item → Item
retop top i = record { top = top; declared = i.declared }

-- what an item declares, in a file with no name at its top
abbrev pub bare : Declared → Item
bare d = record { top = []; declared = d }

pub no_names : AreThemselves []
no_names k t at = absurd (let f : ⊥ = cc in f)

-- items in whose files each name at the top means itself
abbrev pub ArePlain : List Item → Type 0
ArePlain is = (k : ℕ) (i : Item) → slice_get is k ≡ Some i → AreThemselves i.top

-- such items that are the same but for these names
pub record AreTwins (is js : List Item) : Type 0 where
  pub left : ArePlain is
  pub right : ArePlain js
  pub same : map declared_of is ≡ map declared_of js

pub twins_back : (is js : List Item) → AreTwins is js → AreTwins js is
twins_back is js t = record { left = t.right; right = t.left; same = sym t.same }

-- what is at a place of the one is there in the other, but for these names
pub twin_at : (is js : List Item) → AreTwins is js → (k : ℕ) (i : Item) → slice_get is k ≡ Some i → (top : List TopName) × AreThemselves top × (slice_get js k ≡ Some (retop top i))
twin_at is js t k i at =
    let j = matched declared_of declared_of js is (sym t.same) k i at in
    (j.0.top, t.right k j.0 j.1, j.1 ∙ ap (λ (d : Declared). Some (record { top = j.0.top; declared = d })) j.2)

-- a twin of an item among others
pub record HasTwin (js : List Item) (i : Item) : Type 0 where
  pub own : AreThemselves i.top
  pub top : List TopName
  pub other : AreThemselves top
  pub among : Contains js (retop top i)

pub twin_among : (is js : List Item) → AreTwins is js → (i : Item) → Contains is i → HasTwin js i
twin_among is js t i is_i =
    let k = at_contains is i is_i in
    let it = twin_at is js t k.0 i k.1 in
    record { own = t.left k.0 i k.1; top = it.0; other = it.1; among = contains_at js k.0 (retop it.0 i) it.2 }

-- the names of parts, and what is taken from other packages in them, are the same in two such files
module _ (a b : List TopName) (own : AreThemselves a) (other : AreThemselves b) where
  part_names_same : (p : Part) → part_names a p ≡ part_names b p
  part_names_same (DefinitionPart d) = refl
  part_names_same (UsePart u) = ap (λ (s : Address). map (Used s u.attributes.items) u.names.items) (used_same a b own other u.from)
  part_names_same (IncludePart i) = refl
  part_names_same (FunctionPart f) = refl
  part_names_same (ExternPart x) = refl

  pub names_same : (ps : List Part) → flat_map (part_names a) ps ≡ flat_map (part_names b) ps
  names_same ps = flat_map_by (part_names a) (part_names b) part_names_same ps

  use_foreign_uses_same : (u : Use) → use_foreign_uses a u ≡ use_foreign_uses b u
  use_foreign_uses_same u = ap (λ (s : Address). map (use_of_foreign s u.attributes.items) u.names.items) (used_same a b own other u.from)

-- so the names of an item, and what it takes from other packages, are those of what it declares
pub names_of_bare : (i : Item) → AreThemselves i.top → scope_names i ≡ scope_names (bare i.declared)
names_of_bare i own = names_same i.top [] own no_names (parts i)

pub foreign_uses_of_bare : (i : Item) → AreThemselves i.top → item_foreign_uses i ≡ item_foreign_uses (bare i.declared)
foreign_uses_of_bare i own = ap (filter (λ (t : ForeignUse). is_foreign t.from)) (flat_map_by (use_foreign_uses i.top) (use_foreign_uses []) (use_foreign_uses_same i.top [] own no_names) (all_uses i))

-- what twins become is the same where what each becomes is given by what it declares
pub twins_become : {Y : Type 0} (f : Item → List Y) → ((i : Item) → AreThemselves i.top → f i ≡ f (bare i.declared)) → (is js : List Item) → AreTwins is js → flat_map f is ≡ flat_map f js
twins_become {Y} f as_stated is js t = by_declared is t.left ∙ ap (flat_map (λ d. f (bare d))) t.same ∙ sym (by_declared js t.right)
  where
    by_declared : (is : List Item) → ArePlain is → flat_map f is ≡ flat_map (λ d. f (bare d)) (map declared_of is)
    by_declared [] plain = refl
    by_declared (i ∷ is) plain = ap (λ (l : List Y). l ++ flat_map f is) (as_stated i (plain 0 i refl)) ∙ ap (λ (l : List Y). f (bare i.declared) ++ l) (by_declared is (λ k. plain (suc k)))

pub twins_make : {Y : Type 0} (f : Item → Y) → ((i : Item) → AreThemselves i.top → f i ≡ f (bare i.declared)) → (is js : List Item) → AreTwins is js → map f is ≡ map f js
twins_make {Y} f as_stated is js t = by_declared is t.left ∙ ap (map (λ d. f (bare d))) t.same ∙ sym (by_declared js t.right)
  where
    by_declared : (is : List Item) → ArePlain is → map f is ≡ map (λ d. f (bare d)) (map declared_of is)
    by_declared [] plain = refl
    by_declared (i ∷ is) plain = ap (λ (y : Y). y ∷ map f is) (as_stated i (plain 0 i refl)) ∙ ap (λ (l : List Y). f (bare i.declared) ∷ l) (by_declared is (λ k. plain (suc k)))

-- the interfaces that are written in an item, by what they declare
inline_retop : (i : Item) (top : List TopName) (before xs : List SideItem) → map declared_of (inline_after i before xs) ≡ map declared_of (inline_after (retop top i) before xs)
inline_retop i top before [] = refl
inline_retop i top before (SideFunction fn ∷ xs) = inline_retop i top (before ++ SideFunction fn ∷ []) xs
inline_retop i top before (SideLink link ∷ xs) = inline_retop i top (before ++ SideLink link ∷ []) xs
inline_retop i top before (SideInline x name items ∷ xs) = ap (λ (l : List Declared). TheInline (item_name i) (length (interfaces_on x.side before)) x name items ∷ l) (inline_retop i top (before ++ SideInline x name items ∷ []) xs)

pub inline_twins : (i j : Item) → AreThemselves i.top → AreThemselves j.top → i.declared ≡ j.declared → AreTwins (inline_items i) (inline_items j)
inline_twins i j own other same = record {
  left = λ k v at. subst AreThemselves (sym (with_uses i (suc k) v at).0) own;
  right = λ k v at. subst AreThemselves (sym (with_uses j (suc k) v at).0) other;
  same = inline_retop i j.top [] (side_items i) ∙ ap (λ (d : Declared). map declared_of (inline_items (record { top = j.top; declared = d }))) same;
}

abbrev inline_declared : Item → List Declared
inline_declared i = map declared_of (i ∷ inline_items i)

inline_stated : (i : Item) → AreThemselves i.top → inline_declared i ≡ inline_declared (bare i.declared)
inline_stated i own = ap (λ (l : List Declared). i.declared ∷ l) (inline_retop i [] [] (side_items i))

all_plain : (is : List Item) → ArePlain is → ArePlain (flat_map (λ (i : Item). i ∷ inline_items i) is)
all_plain is plain k i at =
    let it = flat_map_at (λ (i : Item). i ∷ inline_items i) is k i at in
    subst AreThemselves (sym (with_uses it.1 it.3.0 i it.3.1).0) (plain it.0 it.1 it.2)

-- with those, twins are twins
pub twins_inside : (is js : List Item) → AreTwins is js → AreTwins (flat_map (λ (i : Item). i ∷ inline_items i) is) (flat_map (λ (i : Item). i ∷ inline_items i) js)
twins_inside is js t = record {
  left = all_plain is t.left;
  right = all_plain js t.right;
  same = map-flat_map declared_of (λ (i : Item). i ∷ inline_items i) is ∙ twins_become inline_declared inline_stated is js t ∙ sym (map-flat_map declared_of (λ (i : Item). i ∷ inline_items i) js);
}
