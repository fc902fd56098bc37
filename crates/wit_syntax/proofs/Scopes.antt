-- Where items are among all scopes: those that files declare, each with those that are written in it.
use Rattle.std.proofs.Common.{◌≡◌, ℕ, zero, suc, Bool, true, false, List, [], ◌∷◌, ◌++◌, Some, ◌⊎◌, inl, inr, refl, sym, ap, ◌∙◌, subst}
use Rattle.std.specs.Prelude.{slice_get, map, Contains, find}
use Rattle.std.specs.List.{flat_map}
use Rattle.std.specs.Str.{bytes_eq}
use Rattle.std.proofs.lemmas.Bool.{cases_Bool}
use Rattle.std.proofs.lemmas.List.{map-append}
use Rattle.wit_tree.specs.declared.tree.PackageFile.{PackageFile}
use Rattle.wit_tree.specs.declared.tree.AstItem.{AstItem}
use Rattle.wit_tree.specs.declared.tree.AstItem.TheVariants as ast
use Rattle.wit_syntax.specs.Address.{Address, same_address}
use Rattle.wit_syntax.specs.Repeats.{AllDiffer}
use Rattle.wit_syntax.specs.Source.{TopName, top_names, Declared, TheInterface, TheWorld, TheInline, Item, address, item_name, declared_items, file_items, all_items, item_named, item_at, about}
use Rattle.wit_syntax.specs.Sides.{inline_items, all_scopes}
use Rattle.wit_syntax.proofs.Lists.{map_at, flat_map_at, flat_map_has}
use Rattle.wit_syntax.proofs.Names.{name_equal, name_itself}
use Rattle.wit_syntax.proofs.Addresses.{same_address-itself, same_address-equal}
use Rattle.wit_syntax.proofs.Kept.{after_one, differ_cons, differ_head, differ_tail}
use Rattle.wit_syntax.proofs.Repeated.{differ_at, differ_by, differ_none, differ_join}
use Rattle.wit_syntax.proofs.Found.{contains_at, at_contains, find-only, find_at, find_passes, find_some}
use Rattle.wit_syntax.proofs.Inline.{outer_name, is_inside, inline_items_differ, inline_inside, inline_outer}

-- declared items, which are written in no other
abbrev pub AreDeclared : List Item → Type 0
AreDeclared ws = (t : ℕ) (w : Item) → slice_get ws t ≡ Some w → is_inside (address w) ≡ false

declared_in_file : (top : List TopName) (a : AstItem) (k : ℕ) (w : Item) → slice_get (declared_items top a) k ≡ Some w → is_inside (address w) ≡ false
declared_in_file top (ast.Interface i) zero w at = ap (λ (v : Item). is_inside (address v)) (let same : w ≡ record { top = top; declared = TheInterface i } = cc in same)
declared_in_file top (ast.Interface i) (suc k) w at = absurd (let f : ⊥ = cc in f)
declared_in_file top (ast.World u) zero w at = ap (λ (v : Item). is_inside (address v)) (let same : w ≡ record { top = top; declared = TheWorld u } = cc in same)
declared_in_file top (ast.World u) (suc k) w at = absurd (let f : ⊥ = cc in f)
declared_in_file top (ast.Use u) k w at = absurd (let f : ⊥ = cc in f)

-- the items of files are such
pub all_declared : (files : List PackageFile) → AreDeclared (all_items files)
all_declared files t w at =
    let file = flat_map_at file_items files t w at in
    let item = flat_map_at (declared_items (top_names file.1)) file.1.decl_list.items.items file.3.0 w file.3.1 in
    declared_in_file (top_names file.1) item.1 item.3.0 w item.3.1

declared_outer : (d : Declared) → is_inside (about d).address ≡ false → outer_name (about d).address ≡ (about d).id.name.now
declared_outer (TheInterface i) h = refl
declared_outer (TheWorld w) h = refl
declared_outer (TheInline world place x name items) h = absurd (let f : ⊥ = cc in f)

-- each scope of an item is in it
pub with_outer : (w : Item) → is_inside (address w) ≡ false → (j : ℕ) (i : Item) → slice_get (w ∷ inline_items w) j ≡ Some i → outer_name (address i) ≡ item_name w
with_outer w own zero i at = ap (λ (v : Item). outer_name (address v)) (let same : i ≡ w = cc in same) ∙ declared_outer w.declared own
with_outer w own (suc j) i at = inline_outer w j i at

-- no two scopes of an item have one address
pub with_inline_differ : (w : Item) → is_inside (address w) ≡ false → AllDiffer (map address (w ∷ inline_items w))
with_inline_differ w own = differ_cons address w (inline_items w) (λ j i at same. (
    let wrong : true ≡ false = sym (inline_inside w j i at) ∙ ap is_inside same ∙ own in
    let f : ⊥ = cc in
    f)) (inline_items_differ w)

-- nor any two of what is made of items whose names differ, where what is made of each is in it, and differs
module _ (of : Item → List Item) (outer : (w : Item) → is_inside (address w) ≡ false → (j : ℕ) (i : Item) → slice_get (of w) j ≡ Some i → outer_name (address i) ≡ item_name w) (differ : (w : Item) → is_inside (address w) ≡ false → AllDiffer (map address (of w))) where
  all_differ : (ws : List Item) → AreDeclared ws → AllDiffer (map item_name ws) → AllDiffer (map address (flat_map of ws))
  all_differ [] own d = differ_none
  all_differ (w ∷ ws) own d =
      let rest = all_differ ws (λ t. own (suc t)) (differ_tail item_name w ws d) in
      subst (λ (l : List Address). AllDiffer l) (sym (map-append address (of w) (flat_map of ws))) (differ_join (map address (of w)) (map address (flat_map of ws)) (differ w (own 0 w refl)) rest (λ a b s at_a at_b. (
      let i = map_at address (of w) a s at_a in
      let j = map_at address (flat_map of ws) b s at_b in
      let v = flat_map_at of ws b j.0 j.1 in
      let same : item_name v.1 ≡ item_name w = sym (outer v.1 (own (suc v.0) v.1 v.2) v.3.0 j.0 v.3.1) ∙ ap outer_name (j.2 ∙ sym i.2) ∙ outer w (own 0 w refl) a i.0 i.1 in
      differ_head item_name w ws d v.0 v.1 v.2 same)))

pub inline_differ : (ws : List Item) → AreDeclared ws → AllDiffer (map item_name ws) → AllDiffer (map address (flat_map inline_items ws))
inline_differ ws own d = all_differ inline_items (λ w own j i at. inline_outer w j i at) (λ w own. inline_items_differ w) ws own d

pub addresses_differ : (ws : List Item) → AreDeclared ws → AllDiffer (map item_name ws) → AllDiffer (map address ws)
addresses_differ ws own d = differ_by address ws (λ i j v w at_i at_j same. differ_at item_name ws d i j v w at_i at_j (sym (with_outer v (own i v at_i) 0 v refl) ∙ ap outer_name same ∙ with_outer w (own j w at_j) 0 w refl))

-- what is written in items is inside
pub inside_one : (ws : List Item) (k : ℕ) (i : Item) → slice_get (flat_map inline_items ws) k ≡ Some i → is_inside (address i) ≡ true
inside_one ws k i at = (let it = flat_map_at inline_items ws k i at in inline_inside it.1 it.3.0 i it.3.1)

-- where no two have one address, each is at its own
pub item_at_its : (is : List Item) (t : ℕ) (i : Item) → AllDiffer (map address is) → slice_get is t ≡ Some i → item_at is (address i) ≡ Some i
item_at_its is t i d at =
    let test = λ (v : Item). same_address (address v) (address i) in
    let it = find_some test is t i at (same_address-itself (address i)) in
    let there = find_at test is it.0 it.1 in
    let place : there.0 ≡ t = differ_at address is d there.0 t it.0 i there.1 at (same_address-equal (address it.0) (address i) (find_passes test is it.0 it.1)) in
    it.1 ∙ sym there.1 ∙ ap (slice_get is) place ∙ at

-- where the names of items differ, the first of a name is at its address
pub first_named : (ws : List Item) (w : Item) → AreDeclared ws → AllDiffer (map item_name ws) → item_named ws (item_name w) ≡ Some w → item_at ws (address w) ≡ Some w
first_named ws w own d found =
    let p = find_at (λ (i : Item). bytes_eq (item_name i) (item_name w)) ws w found in
    item_at_its ws p.0 w (addresses_differ ws own d) p.1

find_prefix : {X : Type 0} (test : X → Bool) (xs ys : List X) (x : X) → find test xs ≡ Some x → find test (xs ++ ys) ≡ Some x
find_prefix test [] ys x h = absurd (let f : ⊥ = cc in f)
find_prefix test (y ∷ xs) ys x h = elim (cases_Bool (test y)) [
  | inl hit ↦ (let here : Some y ≡ Some x = rw hit at h in rw hit here)
  | inr miss ↦ (let rest = find_prefix test xs ys x (rw miss at h) in rw miss rest)
]

find_past : {X : Type 0} (test : X → Bool) (xs ys : List X) → ((i : ℕ) (x : X) → slice_get xs i ≡ Some x → test x ≡ true → ⊥) → find test (xs ++ ys) ≡ find test ys
find_past test [] ys none = refl
find_past test (y ∷ xs) ys none = elim (cases_Bool (test y)) [
  | inl hit ↦ absurd (none 0 y refl hit)
  | inr miss ↦ (let rest = find_past test xs ys (λ i. none (suc i)) in rw miss rest)
]

-- the first item of a name is at its address among all scopes, and each that is written in it at its own
pub scope_item_at : (ws : List Item) (w : Item) (j : ℕ) (i : Item) → AreDeclared ws → item_named ws (item_name w) ≡ Some w → slice_get (w ∷ inline_items w) j ≡ Some i → item_at (flat_map (λ (i : Item). i ∷ inline_items i) ws) (address i) ≡ Some i
scope_item_at [] w j i own found at = absurd (let f : ⊥ = cc in f)
scope_item_at (v ∷ ws) w j i own found at =
    let test = λ (u : Item). same_address (address u) (address i) in
    elim (cases_Bool (bytes_eq (item_name v) (item_name w))) [
      | inl hit ↦ (
          let here : Some v ≡ Some w = rw hit at found in
          let same : v ≡ w = cc in
          let there : slice_get (v ∷ inline_items v) j ≡ Some i = ap (λ u. slice_get (u ∷ inline_items u) j) same ∙ at in
          find_prefix test (v ∷ inline_items v) (flat_map (λ (i : Item). i ∷ inline_items i) ws) i (item_at_its (v ∷ inline_items v) j i (with_inline_differ v (own 0 v refl)) there))
      | inr miss ↦ (
          let rest : item_named ws (item_name w) ≡ Some w = rw miss at found in
          let its = find_at (λ (u : Item). bytes_eq (item_name u) (item_name w)) ws w rest in
          let outer : outer_name (address i) ≡ item_name w = with_outer w (own (suc its.0) w its.1) j i at in
          find_past test (v ∷ inline_items v) (flat_map (λ (i : Item). i ∷ inline_items i) ws) (λ m u u_at one. (
          let same : item_name v ≡ item_name w = sym (with_outer v (own 0 v refl) m u u_at) ∙ ap outer_name (same_address-equal (address u) (address i) one) ∙ outer in
          let wrong : false ≡ true = sym miss ∙ ap (λ n. bytes_eq n (item_name w)) same ∙ name_itself (item_name w) in
          let f : ⊥ = cc in
          f)) ∙ scope_item_at ws w j i (λ t. own (suc t)) rest at)
    ]

module _ (files : List PackageFile) where
  -- a declared item is one of all scopes, and so is one that is written in it
  pub scopes_declared : (w : Item) → Contains (all_items files) w → Contains (all_scopes files) w
  scopes_declared w is =
      let t = at_contains (all_items files) w is in
      let it = flat_map_has (λ (i : Item). i ∷ inline_items i) (all_items files) t.0 0 w w t.1 refl in
      contains_at (all_scopes files) it.0 w it.1

  pub scopes_inline : (w i : Item) → Contains (all_items files) w → Contains (inline_items w) i → Contains (all_scopes files) i
  scopes_inline w i is inside =
      let t = at_contains (all_items files) w is in
      let j = at_contains (inline_items w) i inside in
      let it = flat_map_has (λ (i : Item). i ∷ inline_items i) (all_items files) t.0 (suc j.0) w i t.1 j.1 in
      contains_at (all_scopes files) it.0 i it.1

  -- and each of all scopes is such
  pub scopes_either : (i : Item) → Contains (all_scopes files) i → Contains (all_items files) i ⊎ ((w : Item) × Contains (all_items files) w × Contains (inline_items w) i)
  scopes_either i is =
      let k = at_contains (all_scopes files) i is in
      let it = flat_map_at (λ (i : Item). i ∷ inline_items i) (all_items files) k.0 i k.1 in
      elim (after_one it.1 (inline_items it.1) it.3.0 i it.3.1) [
        | inl own ↦ inl (subst (λ (w : Item). Contains (all_items files) w) own (contains_at (all_items files) it.0 it.1 it.2))
        | inr inside ↦ inr (it.1, contains_at (all_items files) it.0 it.1 it.2, contains_at (inline_items it.1) inside.0 i inside.1)
      ]

-- where no two are called the same, what is called so is found
pub found_by : {X : Type 0} (key : X → List ℕ) (xs : List X) (p : ℕ) (x : X) (name : List ℕ) → AllDiffer (map key xs) → slice_get xs p ≡ Some x → key x ≡ name → find (λ y. bytes_eq (key y) name) xs ≡ Some x
found_by key xs p x name differ at same = find-only (λ y. bytes_eq (key y) name) xs p x at (ap (λ n. bytes_eq n name) same ∙ name_itself name) (λ i y at_y passes. differ_at key xs differ i p y x at_y at (name_equal (key y) name passes ∙ sym same))

-- where names differ, an item is the first of its name
pub named_found : (is : List Item) (p : ℕ) (w : Item) → AllDiffer (map item_name is) → slice_get is p ≡ Some w → item_named is (item_name w) ≡ Some w
named_found is p w differ at = found_by item_name is p w (item_name w) differ at refl
