-- Parts of what files make, where their tables have orders.
use Rattle.std.proofs.Common.{◌≡◌, ℕ, zero, suc, true, List, [], ◌∷◌, Option, Some, None, refl, ap, subst, subst₂, Contains}
use Rattle.wit_arena.proofs.Common.{IsOrder, Item, Key, Occurrence, PackageFile, address, all_items, all_scopes, at_contains, in_order, item_rows, position_or_len, rows_of, same_Some, same_key, scope, scope_names, slice_get}
use Rattle.wit_output_rows.proofs.Sorting.{is_sorted, sorted, sorted_order}

-- the items of files, and the names of each scope, in their orders
abbrev pub items_sorted : List PackageFile → List Item
items_sorted files = in_order (all_items files) (sorted (item_rows files))

pub items_in_order : (files : List PackageFile) → is_sorted (item_rows files) ≡ true → ((places : List ℕ) × IsOrder (item_rows files) places × (items_sorted files ≡ in_order (all_items files) places))
items_in_order files whole = (sorted (item_rows files), sorted_order (item_rows files) whole, refl)

abbrev pub names_sorted : List PackageFile → Item → List ℕ
names_sorted files i = sorted (rows_of (scope files (address i)))

pub names_by_address : (files : List PackageFile) (i j : Item) → address i ≡ address j → names_sorted files i ≡ names_sorted files j
names_by_address files i j e = ap (λ s. sorted (rows_of (scope files s))) e

-- each of some items has this order of its names
abbrev pub AreOrders : (Item → List ℕ) → List Item → Type 0
AreOrders order [] = Unit {0}
AreOrders order (i ∷ is) = IsOrder (rows_of (scope_names i)) (order i) × AreOrders order is

order_at : (order : Item → List ℕ) (is : List Item) (k : ℕ) (i : Item) → AreOrders order is → slice_get is k ≡ Some i → IsOrder (rows_of (scope_names i)) (order i)
order_at order [] k i orders at = absurd (let f : ⊥ = cc in f)
order_at order (j ∷ is) zero i orders at = subst (λ (x : Item). IsOrder (rows_of (scope_names x)) (order x)) (same_Some j i at) orders.0
order_at order (j ∷ is) (suc k) i orders at = order_at order is k i orders.1 at

pub names_in : (files : List PackageFile) (order : Item → List ℕ) → AreOrders order (all_scopes files) → ((i : Item) → Contains (all_scopes files) i → IsOrder (rows_of (scope_names i)) (order i))
names_in files order orders i among = (let it = at_contains (all_scopes files) i among in order_at order (all_scopes files) it.0 i orders it.1)

-- the place of what occurs, among this
abbrev pub place_among : List Occurrence → Key → ℕ
place_among seen k = position_or_len (λ (m : Occurrence). same_key k m.key) seen

-- what holds of the elements of two lists at each place
abbrev pub AtPlace : {X Y : Type 0} → (ℕ → X → Y → Type 0) → ℕ → Option X → Option Y → Type 0
AtPlace Holds n (Some x) (Some y) = Holds n x y
AtPlace Holds n (Some x) None = Unit {0}
AtPlace Holds n None y = Unit {0}

pub by_places : {X Y : Type 0} (Holds : ℕ → X → Y → Type 0) (xs : List X) (ys : List Y) → ((n : ℕ) → AtPlace Holds n (slice_get xs n) (slice_get ys n)) → (n : ℕ) (x : X) (y : Y) → slice_get xs n ≡ Some x → slice_get ys n ≡ Some y → Holds n x y
by_places Holds xs ys each n x y there here = subst₂ (AtPlace Holds n) there here (each n)
