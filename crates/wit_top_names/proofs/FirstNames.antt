-- Tables of names with what they mean, one name more, and what is found in them.
use Rattle.std.proofs.Common.{◌≡◌, ℕ, zero, suc, Bool, true, false, cond, List, [], ◌∷◌, ◌++◌, map, Option, Some, None, inl, inr, refl, sym, ap, ◌∙◌, subst, Result, Ok, Err, Vec, Global, Bor, is_none}
use Rattle.std.specs.Prelude.{IfOk}
use Rattle.wit_syntax.proofs.Common.{AllDiffer, Id, Item, Local, ParseError, Row, TopName, bytes_eq, cases_Bool, cond-false, cond-true, differ_more, entry_row, find, find-append, find_at, find_passes, if◌then◌else◌, insert_entry, is_some, item_name, item_named, item_row, leads, list_any, lookup, map-append, map_at, map_map, name_cases, name_equal, name_itself, none-some, option_copied, option_map, option_map_or, option_or, slice_get, top_text}
use Rattle.wit_graph.proofs.Rows.{key_eq}
use Rattle.wit_tree.specs.declared.tree.UsePath.TheVariants as path
use Rattle.wit_top_names.specs.declared.top_name.Target.{Target as Borrowed}
use Rattle.wit_first.specs.FileFaults.{lost_fault, unnamed_fault}
use Rattle.wit_top_names.specs.Tops.{target_view, item_top, Named, AreNamed, AreDeclared}

abbrev pub found : List ℕ → Named → Option Borrowed
found name es = lookup (λ key. bytes_eq name key.now) es

-- each name finds what the first of these that goes by it means
abbrev pub Finds : List TopName → Named → Type 0
Finds top es = (name : List ℕ) → option_map target_view (found name es) ≡ option_map (λ (t : TopName). t.target) (find (λ (each : TopName). bytes_eq (top_text each) name) top)

abbrev last_of : {V : Type 0} → Bool → V → Option V
last_of b v = cond b (Some v) None

-- a name more, which was not there
found_more : (es : Named) (k : Bor (List ℕ)) (v : Borrowed) (q : List ℕ) → found k.now es ≡ None → found q (insert_entry key_eq es k v) ≡ option_or (found q es) (last_of (bytes_eq q k.now) v)
found_more [] k v q none = refl
found_more (e ∷ es) k v q none = elim (cases_Bool (bytes_eq k.now e.0.now)) [
  | inl hit ↦ absurd (none-some e.1 (sym none ∙ cond-true (bytes_eq k.now e.0.now) (Some e.1) (found k.now es) hit))
  | inr miss ↦ (
      let rest = found_more es k v q (sym (cond-false (bytes_eq k.now e.0.now) (Some e.1) (found k.now es) miss) ∙ none) in
      elim (cases_Bool (bytes_eq q e.0.now)) [
        | inl here ↦ rw (miss, here) refl
        | inr far ↦ rw (miss, far) rest
      ])
]

turned : (a b : List ℕ) → bytes_eq a b ≡ bytes_eq b a
turned a b = elim (name_cases a b) [
  | inl same ↦ ap (bytes_eq a) (sym same) ∙ ap (λ x. bytes_eq x a) same
  | inr other ↦ elim (name_cases b a) [
    | inl same ↦ ap (bytes_eq a) same ∙ ap (λ x. bytes_eq x a) (sym same)
    | inr back ↦ other ∙ sym back
  ]
]

map_or : {X Y : Type 0} (f : X → Y) (a b : Option X) → option_map f (option_or a b) ≡ option_or (option_map f a) (option_map f b)
map_or f None b = refl
map_or f (Some t) b = refl

map_last : {X Y : Type 0} (f : X → Y) (b : Bool) (x : X) → option_map f (cond b (Some x) None) ≡ last_of b (f x)
map_last f true x = refl
map_last f false x = refl

named_more : (top : List TopName) (t : TopName) (name : List ℕ) → option_map (λ (t : TopName). t.target) (find (λ (each : TopName). bytes_eq (top_text each) name) (top ++ t ∷ [])) ≡ option_or (option_map (λ (t : TopName). t.target) (find (λ (each : TopName). bytes_eq (top_text each) name) top)) (last_of (bytes_eq (top_text t) name) (t.target))
named_more top t name =
    ap (option_map (λ (t : TopName). t.target)) (find-append (λ (x : TopName). bytes_eq (top_text x) name) top (t ∷ [])) ∙ map_or (λ (t : TopName). t.target) (find (λ (each : TopName). bytes_eq (top_text each) name) top) (cond (bytes_eq (top_text t) name) (Some t) None) ∙ ap (option_or (option_map (λ (t : TopName). t.target) (find (λ (each : TopName). bytes_eq (top_text each) name) top))) (map_last (λ (t : TopName). t.target) (bytes_eq (top_text t) name) t)

-- a name more, put into the table that had it not
pub finds_more : (top : List TopName) (es new : Named) (t : TopName) (k : Bor (List ℕ)) (v : Borrowed) → Finds top es → k.now ≡ top_text t → target_view v ≡ t.target → found k.now es ≡ None → new ≡ insert_entry key_eq es k v → Finds (top ++ t ∷ []) new
finds_more top es new t k v old key value none inserted name =
    let own : bytes_eq name k.now ≡ bytes_eq (top_text t) name = turned name k.now ∙ ap (λ x. bytes_eq x name) key in
    ap (λ es. option_map target_view (found name es)) inserted
    ∙ ap (option_map target_view) (found_more es k v name none)
    ∙ map_or target_view (found name es) (last_of (bytes_eq name k.now) v)
    ∙ ap (λ o. option_or o (option_map target_view (last_of (bytes_eq name k.now) v))) (old name)
    ∙ ap (option_or (option_map (λ (t : TopName). t.target) (find (λ (each : TopName). bytes_eq (top_text each) name) top))) (map_last target_view (bytes_eq name k.now) v ∙ ap (last_of (bytes_eq name k.now)) value ∙ ap (λ b. last_of b (t.target)) own)
    ∙ sym (named_more top t name)

pub copied_none : (o : Option (Bor Borrowed)) → is_some o ≡ false → option_copied o ≡ None
copied_none None h = refl
copied_none (Some v) h = absurd (let f : ⊥ = cc in f)

pub copied_some : (o : Option (Bor Borrowed)) → is_some o ≡ true → (v : Borrowed) × (option_copied o ≡ Some v)
copied_some None h = absurd (let f : ⊥ = cc in f)
copied_some (Some v) h = (v.now, refl)

not_first : {X : Type 0} (p : X → Bool) (y : X) (xs : List X) (i : ℕ) (x : X) → ((j : ℕ) → slice_get xs j ≡ Some x → ⊥) → slice_get (y ∷ xs) i ≡ Some x → p x ≡ true → p y ≡ false → ⊥
not_first p y xs zero x rest at passes miss = (let here : y ≡ x = cc in let wrong : true ≡ false = sym passes ∙ ap p (sym here) ∙ miss in let f : ⊥ = cc in f)
not_first p y xs (suc i) x rest at passes miss = rest i at

-- what is not found passes nowhere
pub find_none : {X : Type 0} (p : X → Bool) (xs : List X) → find p xs ≡ None → (i : ℕ) (x : X) → slice_get xs i ≡ Some x → p x ≡ true → ⊥
find_none p [] none i x at passes = let f : ⊥ = cc in f
find_none p (y ∷ xs) none i x at passes = elim (cases_Bool (p y)) [
  | inl hit ↦ none-some y (sym (sym (cond-true (p y) (Some y) (find p xs) hit) ∙ none))
  | inr miss ↦ not_first p y xs i x (λ j h. find_none p xs (sym (cond-false (p y) (Some y) (find p xs) miss) ∙ none) j x h passes) at passes miss
]

find-map : {X Y : Type 0} (p : Y → Bool) (f : X → Y) (xs : List X) → find p (map f xs) ≡ option_map f (find (λ x. p (f x)) xs)
find-map p f [] = refl
find-map p f (x ∷ xs) = elim (cases_Bool (p (f x))) [
  | inl hit ↦ rw hit refl
  | inr miss ↦ rw miss (find-map p f xs)
]

unmapped_none : {X Y : Type 0} (f : X → Y) (o : Option X) → option_map f o ≡ None → o ≡ None
unmapped_none f None h = refl
unmapped_none f (Some x) h = absurd (none-some (f x) (sym h))

unmapped_some : {X Y : Type 0} (f : X → Y) (o : Option X) (y : Y) → option_map f o ≡ Some y → (x : X) × (o ≡ Some x)
unmapped_some f None y h = absurd (none-some y h)
unmapped_some f (Some x) y h = (x, refl)

-- a name that is not found is none of these
pub absent : (top : List TopName) (es : Named) (name : List ℕ) → Finds top es → found name es ≡ None → (i : ℕ) → slice_get (map top_text top) i ≡ Some name → ⊥
absent top es name finds none i at =
    let t = map_at top_text top i name at in
    find_none (λ (x : TopName). bytes_eq (top_text x) name) top (unmapped_none (λ (t : TopName). t.target) (find (λ (each : TopName). bytes_eq (top_text each) name) top) (sym (finds name) ∙ ap (option_map target_view) none)) i t.0 t.1 (ap (λ n. bytes_eq n name) t.2 ∙ name_itself name)

-- and one that is found is one of them
pub present : (top : List TopName) (es : Named) (name : List ℕ) (v : Borrowed) → Finds top es → found name es ≡ Some v → (i : ℕ) × (t : TopName) × (slice_get top i ≡ Some t) × (top_text t ≡ name)
present top es name v finds some =
    let test : TopName → Bool = λ x. bytes_eq (top_text x) name in
    let t = unmapped_some (λ (t : TopName). t.target) (find (λ (each : TopName). bytes_eq (top_text each) name) top) (target_view v) (sym (finds name) ∙ ap (option_map target_view) some) in
    let at = find_at test top t.0 t.1 in
    (at.0, t.0, at.1, name_equal (top_text t.0) name (find_passes test top t.0 t.1))

-- names still differ with one that is not found
pub differ_top : (top : List TopName) (es : Named) (t : TopName) (name : List ℕ) → Finds top es → AllDiffer (map top_text top) → name ≡ top_text t → found name es ≡ None → AllDiffer (map top_text (top ++ t ∷ []))
differ_top top es t name finds differ key none =
    subst AllDiffer (sym (map-append top_text top (t ∷ []))) (differ_more (map top_text top) (top_text t) differ (absent top es (top_text t) finds (ap (λ n. found n es) (sym key) ∙ none)))

-- so a path that is a name leads to what is found
pub leads_some : (top : List TopName) (es : Named) (id : Id) (v : Borrowed) → Finds top es → found id.name.now es ≡ Some v → target_view v ≡ leads top (path.Id id)
leads_some top es id v finds some = go (find (λ (each : TopName). bytes_eq (top_text each) id.name.now) top) (sym (finds id.name.now) ∙ ap (option_map target_view) some)
  where
    go : (o : Option TopName) → option_map (λ (t : TopName). t.target) o ≡ Some (target_view v) → target_view v ≡ option_map_or (λ (t : TopName). t.target) o (Local id)
    go None h = absurd (none-some (target_view v) h)
    go (Some t) h = (let same : t.target ≡ target_view v = cc in sym same)

pub leads_none : (top : List TopName) (es : Named) (id : Id) → Finds top es → found id.name.now es ≡ None → Local id ≡ leads top (path.Id id)
leads_none top es id finds none = go (find (λ (each : TopName). bytes_eq (top_text each) id.name.now) top) (sym (finds id.name.now) ∙ ap (option_map target_view) none)
  where
    go : (o : Option TopName) → option_map (λ (t : TopName). t.target) o ≡ None → Local id ≡ option_map_or (λ (t : TopName). t.target) o (Local id)
    go None h = refl
    go (Some t) h = absurd (none-some (t.target) (sym h))

-- a path that is a name is looked at later where it is found, and else where it says
pub named_later : (is : List Item) (top : List TopName) (es : Named) (id : Id) (v : Borrowed) → Finds top es → found id.name.now es ≡ Some v → unnamed_fault is top (path.Id id) ≡ None
named_later is top es id v finds some =
    let t = unmapped_some (λ (t : TopName). t.target) (find (λ (each : TopName). bytes_eq (top_text each) id.name.now) top) (target_view v) (sym (finds id.name.now) ∙ ap (option_map target_view) some) in
    ap (λ (o : Option TopName). if is_none o then lost_fault is (Local id) else None) t.1

pub named_nowhere : (is : List Item) (top : List TopName) (es : Named) (id : Id) → Finds top es → found id.name.now es ≡ None → unnamed_fault is top (path.Id id) ≡ lost_fault is (Local id)
named_nowhere is top es id finds none =
    let missing = unmapped_none (λ (t : TopName). t.target) (find (λ (each : TopName). bytes_eq (top_text each) id.name.now) top) (sym (finds id.name.now) ∙ ap (option_map target_view) none) in
    ap (λ (o : Option TopName). if is_none o then lost_fault is (Local id) else None) missing

mapped_some : {X Y : Type 0} (f : X → Y) (o : Option X) → is_some (option_map f o) ≡ is_some o
mapped_some f None = refl
mapped_some f (Some x) = refl

named_as : (is : List Item) (name : List ℕ) → is_some (option_map (λ (t : TopName). t.target) (find (λ (each : TopName). bytes_eq (top_text each) name) (map item_top is))) ≡ is_some (item_named is name)
named_as is name =
    let first = find-map (λ (t : TopName). bytes_eq (top_text t) name) item_top is in
    mapped_some (λ (t : TopName). t.target) (find (λ (each : TopName). bytes_eq (top_text each) name) (map item_top is)) ∙ ap is_some first ∙ mapped_some item_top (item_named is name)

-- a table of names finds the items among these names
named_items : (is : List Item) (es : Named) (name : List ℕ) → Finds (map item_top is) es → is_some (found name es) ≡ is_some (item_named is name)
named_items is es name finds = sym (mapped_some target_view (found name es)) ∙ ap is_some (finds name) ∙ named_as is name

-- so does one that a call gives
pub declared_if : (is : List Item) (r : Result Named ParseError) → IfOk r (AreNamed (map item_top is)) → IfOk r (AreDeclared is)
declared_if is (Ok es) named = record { finds = λ name. named_items is es name named.finds }
declared_if is (Err e) named = tt

found-any : {V : Type 0} (name : List ℕ) (es : List (Bor (List ℕ) × V)) → is_some (lookup (λ key. bytes_eq name key.now) es) ≡ list_any (bytes_eq name) (map (λ e. e.0.now) es)
found-any name [] = refl
found-any name (e ∷ es) = elim (cases_Bool (bytes_eq name e.0.now)) [
  | inl hit ↦ rw hit refl
  | inr miss ↦ rw miss (found-any name es)
]

named-any : (is : List Item) (name : List ℕ) → is_some (item_named is name) ≡ list_any (bytes_eq name) (map item_name is)
named-any [] name = refl
named-any (i ∷ is) name = elim (cases_Bool (bytes_eq (item_name i) name)) [
  | inl hit ↦ rw (hit, sym (turned (item_name i) name) ∙ hit) refl
  | inr miss ↦ rw (miss, sym (turned (item_name i) name) ∙ miss) (named-any is name)
]

-- a table of the rows of items finds the items among its keys
pub rows_items : (is : List Item) (es : List (Bor (List ℕ) × Vec Id Global)) (name : List ℕ) → map entry_row es ≡ map item_row is → is_some (lookup (λ key. bytes_eq name key.now) es) ≡ is_some (item_named is name)
rows_items is es name same =
    let row_name : Row → List ℕ = λ row. row.name in
    let names : map (λ e. e.0.now) es ≡ map item_name is = sym (map_map row_name entry_row es) ∙ ap (map row_name) same ∙ map_map row_name item_row is in
    found-any name es ∙ ap (list_any (bytes_eq name)) names ∙ sym (named-any is name)
