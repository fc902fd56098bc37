-- The interfaces that are written on a side of an item: each is at its place among the interfaces there.
use Rattle.std.proofs.Common.{◌≡◌, ℕ, suc, ◌+◌, ◌<◌, Bool, cond, List, [], ◌∷◌, ◌++◌, length, None, Some, true, inl, inr, refl, sym, ap, ◌∙◌, subst, arith, add-zero, append_assoc, false}
use Rattle.wit_arena.proofs.Common.{Extern, ExternKind, Id, InterfaceItem, Item, ScopeName, SideFunction, SideInline, SideItem, SideLink, SourceFunction, WorldSide, at_back, cases_Bool, extern_items, extern_link, filter, filter-append, flat_map, flat_map-append, functions, inline_item, interfaces_on, interfaces_on-append, is_interface, is_world, item_inline, item_side, items_on, length-append, length-map, map, map-append, option_map, same_side, same_side-equal, side_items, side_items_functions, side_itself, slice_get, slice_get-map, slice_get_within}
use Rattle.wit_syntax.specs.Function.{side_function}
use Rattle.wit_syntax.specs.Sides.{members_after}
use Rattle.wit_syntax.proofs.Inline.{inlined}
use Rattle.wit_items.specs.BorrowedItems.{Inside, AreInside, inline_on, inside_view, with_names}
use Rattle.wit_tree.specs.declared.tree.ExternKind.TheVariants as extern

-- those of what is on its sides after a prefix
abbrev on_after : WorldSide → Item → List SideItem → List SideItem → List Item
on_after side i before xs = flat_map (λ (m : SideItem × List Item). m.1) (filter (λ (m : SideItem × List Item). same_side side (item_side m.0)) (members_after i before xs))

-- interfaces, each at its place, counted from n
abbrev pub inline_from : Item → ℕ → List SideItem → List Item
inline_from i n [] = []
inline_from i n (x ∷ xs) = inline_item i n x ++ inline_from i (suc n) xs

pub from-append : (i : Item) (n : ℕ) (xs ys : List SideItem) → inline_from i n (xs ++ ys) ≡ inline_from i n xs ++ inline_from i (n + length xs) ys
from-append i n [] ys = ap (λ (k : ℕ). inline_from i k ys) (sym (add-zero n))
from-append i n (x ∷ xs) ys =
    let own = inline_item i n x in
    let later : suc n + length xs ≡ n + length (x ∷ xs) = omega arith in
    ap (λ (l : List Item). own ++ l) (from-append i (suc n) xs ys ∙ ap (λ (k : ℕ). inline_from i (suc n) xs ++ inline_from i k ys) later) ∙ sym (append_assoc own (inline_from i (suc n) xs) (inline_from i (n + length (x ∷ xs)) ys))

from_first : (i : Item) (xs ys : List SideItem) → inline_from i 0 (xs ++ ys) ≡ inline_from i 0 xs ++ inline_from i (length xs) ys
from_first i xs ys = let first : 0 + length xs ≡ length xs = omega arith in from-append i 0 xs ys ∙ ap (λ (k : ℕ). inline_from i 0 xs ++ inline_from i k ys) first

from_count : (i : Item) (n : ℕ) (xs : List SideItem) → length (inline_from i n (filter is_interface xs)) ≡ length (flat_map item_inline xs)
from_count i n [] = refl
from_count i n (SideFunction fn ∷ xs) = from_count i n xs
from_count i n (SideLink link ∷ xs) = from_count i (suc n) xs
from_count i n (SideInline x name items ∷ xs) = ap suc (from_count i (suc n) xs)

one_on : (side : WorldSide) (i : Item) (before : List SideItem) (x : SideItem) → on_after side i before (x ∷ []) ≡ inline_from i (length (interfaces_on side before)) (interfaces_on side (x ∷ []))
one_on side i before (SideFunction fn) = elim (cases_Bool (same_side side (item_side (SideFunction fn)))) [
  | inl here ↦ rw here refl
  | inr there ↦ rw there refl
]
one_on side i before (SideLink link) = elim (cases_Bool (same_side side link.side)) [
  | inl here ↦ rw here refl
  | inr there ↦ rw there refl
]
one_on side i before (SideInline x name items) = elim (cases_Bool (same_side side x.side)) [
  | inl here ↦ rw here (ap (λ (s : WorldSide). inline_item i (length (interfaces_on s before)) (SideInline x name items)) (sym (same_side-equal side x.side here)))
  | inr there ↦ rw there refl
]

numbered_after : (side : WorldSide) (i : Item) (before xs : List SideItem) → on_after side i before xs ≡ inline_from i (length (interfaces_on side before)) (interfaces_on side xs)
numbered_after side i before [] = refl
numbered_after side i before (x ∷ xs) =
    let on : SideItem × List Item → Bool = λ m. same_side side (item_side m.0) in
    let of : SideItem × List Item → List Item = λ m. m.1 in
    let own : SideItem × List Item = (x, inline_item i (length (interfaces_on (item_side x) before)) x) in
    let more = members_after i (before ++ x ∷ []) xs in
    let n = length (interfaces_on side before) in
    let one = interfaces_on side (x ∷ []) in
    let count : length (interfaces_on side (before ++ x ∷ [])) ≡ n + length one = ap length (interfaces_on-append side before (x ∷ [])) ∙ length-append (interfaces_on side before) one in
    ap (flat_map of) (filter-append on (own ∷ []) more)
    ∙ flat_map-append of (filter on (own ∷ [])) (filter on more)
    ∙ ap (λ (l : List Item). l ++ on_after side i (before ++ x ∷ []) xs) (one_on side i before x)
    ∙ ap (λ (l : List Item). inline_from i n one ++ l) (numbered_after side i (before ++ x ∷ []) xs ∙ ap (λ (k : ℕ). inline_from i k (interfaces_on side xs)) count)
    ∙ sym (from-append i n one (interfaces_on side xs))
    ∙ ap (inline_from i n) (sym (interfaces_on-append side (x ∷ []) xs))

-- those of an item are its interfaces on the side, from the first place on
pub numbered : (side : WorldSide) (i : Item) → inline_on side i ≡ inline_from i 0 (interfaces_on side (side_items i))
numbered side i = numbered_after side i [] (side_items i)

-- functions are no interfaces
pub no_interfaces : (side : WorldSide) (fns : List SourceFunction) → interfaces_on side (map SideFunction fns) ≡ []
no_interfaces side [] = refl
no_interfaces side (fn ∷ fns) = elim (cases_Bool (same_side side (item_side (SideFunction fn)))) [
  | inl here ↦ rw here (no_interfaces side fns)
  | inr there ↦ rw there (no_interfaces side fns)
]

-- so none is written in an interface
pub interface_inside : (side : WorldSide) (i : Item) → is_world i ≡ false → AreInside side i []
interface_inside side i own = ap (map with_names) (sym (numbered side i ∙ ap (λ (l : List SideItem). inline_from i 0 (interfaces_on side l)) (side_items_functions i own) ∙ ap (inline_from i 0) (no_interfaces side (functions i))))

-- what a world imports or exports is one, on its side
extern_one : (x : Extern) (kind : ExternKind) → (y : SideItem) × (extern_items x kind ≡ y ∷ []) × (item_side y ≡ x.side)
extern_one x (extern.Interface name items) = (SideInline x name items.items, refl, refl)
extern_one x (extern.Path path) = (SideLink (extern_link x None path), refl, refl)
extern_one x (extern.Func name f) = (SideFunction (side_function x.side x.docs x.attributes.items name f), refl, refl)
extern_one x (extern.NamedPath name path) = (SideLink (extern_link x (Some name) path), refl, refl)

pub extern_on : (side : WorldSide) (x : Extern) (b : Bool) → same_side side x.side ≡ b → interfaces_on side (extern_items x x.kind) ≡ cond b (filter is_interface (extern_items x x.kind)) []
extern_on side x b is =
    let it = extern_one x x.kind in
    ap (interfaces_on side) it.1
    ∙ ap (λ (c : Bool). filter is_interface (cond c (it.0 ∷ []) [])) (ap (same_side side) it.2 ∙ is)
    ∙ by b it.0
    ∙ ap (λ (l : List SideItem). cond b (filter is_interface l) []) (sym it.1)
  where
    by : (b : Bool) (y : SideItem) → filter is_interface (cond b (y ∷ []) []) ≡ cond b (filter is_interface (y ∷ [])) []
    by true y = refl
    by false y = refl

-- where it is an interface, one more is counted, and added if it is written there
module _ (i : Item) (before after : List SideItem) (x : Extern) (n : ℕ) (more : after ≡ before ++ extern_items x x.kind) (count : n ≡ length before) where
  pub one_counted : (m : ℕ) → m ≡ n + 1 → m ≡ length after
  one_counted m next =
      let all = ap length more ∙ length-append before (extern_items x x.kind) in
      let one = ap length (extern_one x x.kind).1 in
      omega (arith, next, count, all, one)

  pub inside_more : (old new : List Inside) → map (inside_view i) old ≡ map with_names (inline_from i 0 before) → map (inside_view i) new ≡ map (inside_view i) old ++ map with_names (flat_map (inline_item i n) (extern_items x x.kind)) → map (inside_view i) new ≡ map with_names (inline_from i 0 after)
  inside_more old new was adds =
      let own = extern_items x x.kind in
      let one : flat_map (inline_item i n) own ≡ inline_from i n own = subst (λ (l : List SideItem). flat_map (inline_item i n) l ≡ inline_from i n l) (sym (extern_one x x.kind).1) refl in
      adds
      ∙ ap (λ (l : List (Item × List ScopeName)). l ++ map with_names (flat_map (inline_item i n) own)) was
      ∙ ap (λ (l : List Item). map with_names (inline_from i 0 before) ++ map with_names l) (one ∙ ap (λ (k : ℕ). inline_from i k own) count)
      ∙ sym (map-append with_names (inline_from i 0 before) (inline_from i (length before) own))
      ∙ ap (map with_names) (sym (from_first i before own) ∙ ap (inline_from i 0) (sym more))

-- the next one on a side comes after those that are written there before it
module _ (i : Item) (ns : List Inside) (xs rest : List SideItem) (x : Extern) (name : Id) (items : List InterfaceItem) (k : ℕ) (are : AreInside x.side i ns) (all : side_items i ≡ xs ++ SideInline x name items ∷ rest) (count : k ≡ length (flat_map item_inline (items_on x.side xs))) where
  abbrev u : Item
  u = inlined i (length (interfaces_on x.side xs)) x name items

  there : slice_get (map (inside_view i) ns) k ≡ Some (with_names u)
  there =
      let here = SideInline x name items in
      let before = interfaces_on x.side xs in
      let later = interfaces_on x.side rest in
      let front = inline_from i 0 before in
      let own : interfaces_on x.side (here ∷ rest) ≡ here ∷ later = ap (λ (b : Bool). filter is_interface (cond b (here ∷ items_on x.side rest) (items_on x.side rest))) (side_itself x.side) in
      let whole : inline_on x.side i ≡ front ++ u ∷ inline_from i (suc (length before)) later =
      numbered x.side i
      ∙ ap (λ (l : List SideItem). inline_from i 0 (interfaces_on x.side l)) all
      ∙ ap (inline_from i 0) (interfaces_on-append x.side xs (here ∷ rest) ∙ ap (λ (l : List SideItem). before ++ l) own)
      ∙ from_first i before (here ∷ later) in
      let index : k ≡ length front + 0 = count ∙ sym (from_count i 0 (items_on x.side xs)) ∙ sym (add-zero (length front)) in
      ap (λ (l : List (Item × List ScopeName)). slice_get l k) are
      ∙ slice_get-map with_names (inline_on x.side i) k
      ∙ ap (option_map with_names) (ap (slice_get (inline_on x.side i)) index ∙ ap (λ (l : List Item). slice_get l (length front + 0)) whole ∙ at_back front (u ∷ inline_from i (suc (length before)) later) 0 u refl)

  pub inside_within : k < length ns
  inside_within = subst (λ (n : ℕ). k < n) (length-map ns (inside_view i)) (slice_get_within (map (inside_view i) ns) k (with_names u) there)

  -- and is the one that is borrowed there
  pub inside_next : (v : Inside) → slice_get ns k ≡ Some v → inside_view i v ≡ with_names u
  inside_next v at =
      let both : Some (inside_view i v) ≡ Some (with_names u) = sym (slice_get-map (inside_view i) ns k ∙ ap (option_map (inside_view i)) at) ∙ there in
      cc
