-- The interfaces that are written in an item: where they are there, their addresses and their uses.
use Rattle.std.proofs.Common.{◌≡◌, ℕ, zero, suc, ◌+◌, ◌≤◌, Bool, true, false, List, [], ◌∷◌, ◌++◌, length, take, Some, inl, inr, refl, sym, ap, ◌∙◌, subst, arith, length-append}
use Rattle.std.specs.Prelude.{slice_get, map, Contains}
use Rattle.std.specs.List.{filter, flat_map}
use Rattle.std.proofs.lemmas.Bool.{cond-true}
use Rattle.std.proofs.lemmas.List.{append-nil, append_assoc}
use Rattle.std.proofs.lemmas.List.Elements.{filter-append}
use Rattle.wit_type_tree.specs.declared.leaves.Id.{Id}
use Rattle.wit_tree.specs.declared.tree.Extern.{Extern}
use Rattle.wit_tree.specs.declared.tree.InterfaceItem.{InterfaceItem}
use Rattle.wit_tree.specs.declared.tree.InterfaceItem.TheVariants as interface_item
use Rattle.wit_tree.specs.declared.tree.ExternKind.{ExternKind}
use Rattle.wit_tree.specs.declared.tree.ExternKind.TheVariants as extern
use Rattle.wit_tree.specs.declared.tree.Use.{Use}
use Rattle.wit_tree.specs.declared.tree.WorldSide.{WorldSide}
use Rattle.wit_syntax.specs.Address.{Address, InterfaceNamed, WorldNamed, InlineAt, ForeignNamed}
use Rattle.wit_syntax.specs.ExternPart.{same_side}
use Rattle.wit_syntax.specs.Function.{SourceFunction, definition_functions, free_function}
use Rattle.wit_syntax.specs.Repeats.{AllDiffer}
use Rattle.wit_syntax.specs.Source.{DefinitionPart, ExternPart, FunctionPart, IncludePart, Item, Part, TheInline, UsePart, address, inline_uses, interface_part, is_world, item_name, parts, own_uses}
use Rattle.wit_syntax.specs.ScopeTables.{part_uses, uses}
use Rattle.wit_syntax.specs.Sides.{SideItem, SideFunction, SideLink, SideInline, extern_items, part_items, item_inline, item_side, items_on, is_interface, side_items, inline_item, inline_items, functions}
use Rattle.wit_syntax.specs.Shorthand.{inline_after}
use Rattle.wit_syntax.proofs.Lists.{at_split, map_at, flat_map_at, flat_map_has}
use Rattle.wit_syntax.proofs.Addresses.{side_itself}
use Rattle.wit_syntax.proofs.Kept.{differ_cons}
use Rattle.wit_syntax.proofs.Repeated.{differ_none}
use Rattle.wit_syntax.proofs.Found.{contains_at, at_contains}
use Rattle.wit_syntax.proofs.Sides.{side_items_functions}

-- the interfaces on a side, in source order
abbrev pub interfaces_on : WorldSide → List SideItem → List SideItem
interfaces_on side items = filter is_interface (items_on side items)

-- the item that an interface is which is at a place on a side of another
abbrev pub inlined : Item → ℕ → Extern → Id → List InterfaceItem → Item
inlined w place x name items = record { top = w.top; declared = TheInline (item_name w) place x name items }

-- it is written in an item after these, at a place among those that follow, after so many others that are interfaces
pub record IsWritten (w : Item) (before xs : List SideItem) (k : ℕ) (i : Item) : Type 0 where
  pub place : ℕ
  pub x : Extern
  pub name : Id
  pub items : List InterfaceItem
  pub at : slice_get xs place ≡ Some (SideInline x name items)
  pub is : inlined w (length (interfaces_on x.side (before ++ take place xs))) x name items ≡ i
  pub rest_after : k ≡ length (flat_map item_inline (take place xs))

one_inline : (w : Item) (place : ℕ) (x : SideItem) → length (inline_item w place x) ≡ length (item_inline x)
one_inline w place (SideFunction fn) = refl
one_inline w place (SideLink link) = refl
one_inline w place (SideInline x name items) = refl

written_later : (w : Item) (before xs : List SideItem) (x : SideItem) (j k : ℕ) (i : Item) → k ≡ length (item_inline x) + j → IsWritten w (before ++ x ∷ []) xs j i → IsWritten w before (x ∷ xs) k i
written_later w before xs x j k i count it = record {
  place = suc it.place;
  x = it.x;
  name = it.name;
  items = it.items;
  at = it.at;
  is = ap (λ (l : List SideItem). inlined w (length (interfaces_on it.x.side l)) it.x it.name it.items) (sym (append_assoc before (x ∷ []) (take it.place xs))) ∙ it.is;
  rest_after = count ∙ ap (λ n. length (item_inline x) + n) it.rest_after ∙ sym (length-append (item_inline x) (flat_map item_inline (take it.place xs)));
}

written_here : (w : Item) (before xs : List SideItem) (x : SideItem) (k : ℕ) (i : Item) → slice_get (inline_item w (length (interfaces_on (item_side x) before)) x) k ≡ Some i → IsWritten w before (x ∷ xs) k i
written_here w before xs (SideFunction fn) k i at = absurd (let f : ⊥ = cc in f)
written_here w before xs (SideLink link) k i at = absurd (let f : ⊥ = cc in f)
written_here w before xs (SideInline x name items) (suc k) i at = absurd (let f : ⊥ = cc in f)
written_here w before xs (SideInline x name items) zero i at = record {
  place = 0;
  x = x;
  name = name;
  items = items;
  at = refl;
  is = ap (λ (l : List SideItem). inlined w (length (interfaces_on x.side l)) x name items) (append-nil before) ∙ (let same : inlined w (length (interfaces_on x.side before)) x name items ≡ i = cc in same);
  rest_after = refl;
}

-- each of those that are written there is one of them
pub inline_after_at : (w : Item) (before xs : List SideItem) (k : ℕ) (i : Item) → slice_get (inline_after w before xs) k ≡ Some i → IsWritten w before xs k i
inline_after_at w before [] k i at = absurd (let f : ⊥ = cc in f)
inline_after_at w before (x ∷ xs) k i at =
    let place = length (interfaces_on (item_side x) before) in
    elim (at_split (inline_item w place x) (inline_after w (before ++ x ∷ []) xs) k i at) [
      | inl here ↦ written_here w before xs x k i here
      | inr later ↦ written_later w before xs x later.0 k i (later.1 ∙ ap (λ n. n + later.0) (one_inline w place x)) (inline_after_at w (before ++ x ∷ []) xs later.0 i later.2)
    ]

-- those of two lists, one after the other
pub inline_after-append : (w : Item) (before xs ys : List SideItem) → inline_after w before (xs ++ ys) ≡ inline_after w before xs ++ inline_after w (before ++ xs) ys
inline_after-append w before [] ys = ap (λ (l : List SideItem). inline_after w l ys) (sym (append-nil before))
inline_after-append w before (x ∷ xs) ys =
    let own = inline_item w (length (interfaces_on (item_side x) before)) x in
    let rest = inline_after-append w (before ++ x ∷ []) xs ys in
    let prefix = inline_after w (before ++ x ∷ []) xs in
    ap (λ (l : List Item). own ++ l) rest ∙ ap (λ (l : List SideItem). own ++ (prefix ++ inline_after w l ys)) (append_assoc before (x ∷ []) xs) ∙ sym (append_assoc own prefix (inline_after w (before ++ (x ∷ xs)) ys))

-- there are as many as are written
pub length-inline_after : (w : Item) (before xs : List SideItem) → length (inline_after w before xs) ≡ length (flat_map item_inline xs)
length-inline_after w before [] = refl
length-inline_after w before (x ∷ xs) =
    let place = length (interfaces_on (item_side x) before) in
    let rest = length-inline_after w (before ++ x ∷ []) xs in
    length-append (inline_item w place x) (inline_after w (before ++ x ∷ []) xs) ∙ ap (λ n. n + length (inline_after w (before ++ x ∷ []) xs)) (one_inline w place x) ∙ ap (λ n. length (item_inline x) + n) rest ∙ sym (length-append (item_inline x) (flat_map item_inline xs))

-- an interface that is written in an item is among what it has on its sides
pub inline_items_at : (w : Item) (k : ℕ) (i : Item) → slice_get (inline_items w) k ≡ Some i → IsWritten w [] (side_items w) k i
inline_items_at w k i at = inline_after_at w [] (side_items w) k i at

-- the interfaces of two lists on a side, one after the other
pub interfaces_on-append : (side : WorldSide) (xs ys : List SideItem) → interfaces_on side (xs ++ ys) ≡ interfaces_on side xs ++ interfaces_on side ys
interfaces_on-append side xs ys = ap (filter is_interface) (filter-append (λ y. same_side side (item_side y)) xs ys) ∙ filter-append is_interface (items_on side xs) (items_on side ys)

-- its place is not before those of what comes before it on its side
later_place : (side : WorldSide) (before prefix xs : List SideItem) → length (interfaces_on side before) + length (interfaces_on side prefix) ≤ length (interfaces_on side ((before ++ prefix) ++ xs))
later_place side before prefix xs =
    let on = interfaces_on side in
    let all : length (on ((before ++ prefix) ++ xs)) ≡ length (on (before ++ prefix)) + length (on xs) = ap length (interfaces_on-append side (before ++ prefix) xs) ∙ length-append (on (before ++ prefix)) (on xs) in
    let two : length (on (before ++ prefix)) ≡ length (on before) + length (on prefix) = ap length (interfaces_on-append side before prefix) ∙ length-append (on before) (on prefix) in
    omega (arith, all, two)

-- where a scope is written: the name of the item
abbrev pub outer_name : Address → List ℕ
outer_name (InterfaceNamed name) = name
outer_name (WorldNamed name) = name
outer_name (InlineAt world side place) = world
outer_name (ForeignNamed p name) = name

-- whether a scope is written in a world, and its place there
abbrev pub is_inside : Address → Bool
is_inside (InterfaceNamed name) = false
is_inside (WorldNamed name) = false
is_inside (InlineAt world side place) = true
is_inside (ForeignNamed p name) = false

abbrev inline_place : Address → ℕ
inline_place (InterfaceNamed name) = 0
inline_place (WorldNamed name) = 0
inline_place (InlineAt world side place) = place
inline_place (ForeignNamed p name) = 0

abbrev inline_side : WorldSide → Address → WorldSide
inline_side other (InterfaceNamed name) = other
inline_side other (WorldNamed name) = other
inline_side other (InlineAt world side place) = side
inline_side other (ForeignNamed p name) = other

-- no two that are written in one item have one address
pub inline_after_differ : (w : Item) (before xs : List SideItem) → AllDiffer (map address (inline_after w before xs))
inline_after_differ w before [] = differ_none
inline_after_differ w before (SideFunction fn ∷ xs) = inline_after_differ w (before ++ SideFunction fn ∷ []) xs
inline_after_differ w before (SideLink link ∷ xs) = inline_after_differ w (before ++ SideLink link ∷ []) xs
inline_after_differ w before (SideInline x name items ∷ xs) =
    let own = length (interfaces_on x.side before) in
    let prefix = SideInline x name items ∷ [] in
    differ_cons address (inlined w own x name items) (inline_after w (before ++ prefix) xs) (λ j i at same. (
    let it = inline_after_at w (before ++ prefix) xs j i at in
    let there : address i ≡ InlineAt (item_name w) it.x.side (length (interfaces_on it.x.side ((before ++ prefix) ++ take it.place xs))) = ap address (sym it.is) in
    let both : InlineAt (item_name w) it.x.side (length (interfaces_on it.x.side ((before ++ prefix) ++ take it.place xs))) ≡ InlineAt (item_name w) x.side own = sym there ∙ same in
    let side : it.x.side ≡ x.side = ap (inline_side x.side) both in
    let place : length (interfaces_on x.side ((before ++ prefix) ++ take it.place xs)) ≡ own = ap (λ s. length (interfaces_on s ((before ++ prefix) ++ take it.place xs))) (sym side) ∙ ap inline_place both in
    let one : length (interfaces_on x.side prefix) ≡ 1 = ap (λ (l : List SideItem). length (filter is_interface l)) (cond-true (same_side x.side x.side) prefix [] (side_itself x.side)) in
    let later = later_place x.side before prefix (take it.place xs) in
    let f : ⊥ = omega (arith, place, one, later) in
    f)) (inline_after_differ w (before ++ prefix) xs)

pub inline_items_differ : (w : Item) → AllDiffer (map address (inline_items w))
inline_items_differ w = inline_after_differ w [] (side_items w)

-- nothing is written in functions, and so nothing in an interface
no_inline : (w : Item) (before : List SideItem) (fns : List SourceFunction) → inline_after w before (map SideFunction fns) ≡ []
no_inline w before [] = refl
no_inline w before (fn ∷ fns) = no_inline w (before ++ SideFunction fn ∷ []) fns

pub inline_items_none : (w : Item) → is_world w ≡ false → inline_items w ≡ []
inline_items_none w own = ap (inline_after w []) (side_items_functions w own) ∙ no_inline w [] (functions w)

-- what is written in an item: an interface, in it, at no address of a declared one, of no other package
module _ (w : Item) (k : ℕ) (i : Item) (at : slice_get (inline_items w) k ≡ Some i) where
  pub inline_interface : is_world i ≡ false
  inline_interface = ap is_world (sym (inline_items_at w k i at).is)

  pub inline_inside : is_inside (address i) ≡ true
  inline_inside = ap (λ (v : Item). is_inside (address v)) (sym (inline_items_at w k i at).is)

  pub inline_outer : outer_name (address i) ≡ item_name w
  inline_outer = ap (λ (v : Item). outer_name (address v)) (sym (inline_items_at w k i at).is)

-- the uses of an interface that is written in an item are among the item's
pub inline_part_uses : (items : List InterfaceItem) → flat_map part_uses (map interface_part items) ≡ flat_map own_uses (map interface_part items)
inline_part_uses [] = refl
inline_part_uses (interface_item.TypeDef d ∷ items) = inline_part_uses items
inline_part_uses (interface_item.Use u ∷ items) = ap (λ (l : List Use). u ∷ l) (inline_part_uses items)
inline_part_uses (interface_item.Func f ∷ items) = inline_part_uses items

none_written : (fns : List SourceFunction) (j : ℕ) (x : Extern) (name : Id) (items : List InterfaceItem) → slice_get (map SideFunction fns) j ≡ Some (SideInline x name items) → ⊥
none_written fns j x name items at =
    let it = map_at SideFunction fns j (SideInline x name items) at in
    let wrong : SideFunction it.0 ≡ SideInline x name items = it.2 in
    let f : ⊥ = cc in
    f

extern_uses : (y : Extern) (kind : ExternKind) (j : ℕ) (x : Extern) (name : Id) (items : List InterfaceItem) → slice_get (extern_items y kind) j ≡ Some (SideInline x name items) → inline_uses kind ≡ flat_map own_uses (map interface_part items)
extern_uses y (extern.Interface own its) zero x name items at = (let same : its.items ≡ items = cc in ap (λ (l : List InterfaceItem). flat_map own_uses (map interface_part l)) same)
extern_uses y (extern.Interface own its) (suc j) x name items at = absurd (let f : ⊥ = cc in f)
extern_uses y (extern.Path path) zero x name items at = absurd (let f : ⊥ = cc in f)
extern_uses y (extern.Path path) (suc j) x name items at = absurd (let f : ⊥ = cc in f)
extern_uses y (extern.Func own f) zero x name items at = absurd (let f : ⊥ = cc in f)
extern_uses y (extern.Func own f) (suc j) x name items at = absurd (let f : ⊥ = cc in f)
extern_uses y (extern.NamedPath own path) zero x name items at = absurd (let f : ⊥ = cc in f)
extern_uses y (extern.NamedPath own path) (suc j) x name items at = absurd (let f : ⊥ = cc in f)

part_inline_uses : (part : Part) (j : ℕ) (x : Extern) (name : Id) (items : List InterfaceItem) → slice_get (part_items part) j ≡ Some (SideInline x name items) → part_uses part ≡ flat_map own_uses (map interface_part items)
part_inline_uses (DefinitionPart d) j x name items at = absurd (none_written (definition_functions d.name d.body) j x name items at)
part_inline_uses (UsePart u) j x name items at = absurd (let f : ⊥ = cc in f)
part_inline_uses (IncludePart i) j x name items at = absurd (let f : ⊥ = cc in f)
part_inline_uses (FunctionPart f) j x name items at = absurd (none_written (free_function f ∷ []) j x name items at)
part_inline_uses (ExternPart y) j x name items at = extern_uses y y.kind j x name items at

pub inline_uses_at : (w : Item) (k : ℕ) (i : Item) → slice_get (inline_items w) k ≡ Some i → (u : Use) → Contains (uses i) u → Contains (uses w) u
inline_uses_at w k i at u among =
    let it = inline_items_at w k i at in
    let part = flat_map_at part_items (parts w) it.place (SideInline it.x it.name it.items) it.at in
    let same : part_uses part.1 ≡ uses i = part_inline_uses part.1 part.3.0 it.x it.name it.items part.3.1 ∙ sym (inline_part_uses it.items) ∙ ap uses it.is in
    let j = at_contains (uses i) u among in
    let k = flat_map_has part_uses (parts w) part.0 j.0 part.1 u part.2 (ap (λ (l : List Use). slice_get l j.0) same ∙ j.1) in
    contains_at (uses w) k.0 u k.1

-- so the uses of each scope of an item are, and its paths are read where the item is
pub with_uses : (w : Item) (j : ℕ) (i : Item) → slice_get (w ∷ inline_items w) j ≡ Some i → (i.top ≡ w.top) × ((u : Use) → Contains (uses i) u → Contains (uses w) u)
with_uses w zero i at =
    let same : w ≡ i = cc in
    (ap (λ (v : Item). v.top) (sym same), λ u among. subst (λ (v : Item). Contains (uses v) u) (sym same) among)
with_uses w (suc j) i at = (ap (λ (v : Item). v.top) (sym (inline_items_at w j i at).is), inline_uses_at w j i at)
