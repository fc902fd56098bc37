-- Values no object in which has a key twice.
use Rattle.std.proofs.Common.{◌≡◌, ◌≢◌, ℕ, zero, suc, ◌<◌, true, List, [], ◌∷◌, length, slice_index_or, Option, Some, None, map, ap, sym, refl, subst, arith}
use Rattle.std.specs.Prelude.{⊤, All, AllPairs}
use Rattle.json.specs.Json.{Json, array, Items, item}
use Rattle.json.specs.Strict.{AreDistinct, HasUniqueKeys, ItemsHaveUniqueKeys, MembersHaveUniqueKeys, keys}
use Rattle.json.specs.Value.{items_of}
use Rattle.wit_json.specs.Values.{fields, list, members_of}
use Rattle.wit_json.proofs.Apart.{apart_of, are_apart, distinct_of}
use Rattle.wit_json.proofs.Objects.{Shape, object_apart, object_of, shape_is}

-- a value with unique keys
pub record Unique (j : Json) : Type 0 where
  pub keys : HasUniqueKeys j

-- one that is no array and no object
pub atom : {j : Json} → HasUniqueKeys j → Unique j
atom h = record { keys = h }

-- values of members, each if it is there
abbrev pub UniqueOption : Option Json → Type 0
UniqueOption None = ⊤
UniqueOption (Some j) = Unique j

abbrev pub AreUnique : List (Option Json) → Type 0
AreUnique [] = ⊤
AreUnique (v ∷ vs) = UniqueOption v × AreUnique vs

values_unique : (ks : List (List ℕ)) (vs : List (Option Json)) → AreUnique vs → MembersHaveUniqueKeys (members_of (object_of ks vs))
values_unique [] vs u = tt
values_unique (k ∷ ks) [] u = tt
values_unique (k ∷ ks) (None ∷ vs) u = values_unique ks vs u.1
values_unique (k ∷ ks) (Some j ∷ vs) u = (u.0.keys, values_unique ks vs u.1)

object_unique : (ks : List (List ℕ)) (vs : List (Option Json)) → are_apart ks ≡ true → AreUnique vs → Unique (fields (object_of ks vs))
object_unique ks vs apart u = record { keys = (distinct_of (keys (members_of (object_of ks vs))) (object_apart ks vs (apart_of ks apart)), values_unique ks vs u) }

-- an object with some of these keys
pub fields_unique : {ks : List (List ℕ)} {vs : List (Option Json)} {ms : List (List ℕ × Json)} → are_apart ks ≡ true → Shape ks vs ms → AreUnique vs → Unique (fields ms)
fields_unique {ks} {vs} {ms} apart shape u = subst (λ (l : List (List ℕ × Json)). Unique (fields l)) (sym (shape_is shape)) (object_unique ks vs apart u)

-- an object with one member
pub one_unique : (k : List ℕ) {j : Json} → Unique j → Unique (fields ((k, j) ∷ []))
one_unique k {j} u = object_unique (k ∷ []) (Some j ∷ []) refl (u, tt)

-- arrays of such values

items_unique : {A : Type 0} (P : A → Type 0) (f : A → Json) → ((x : A) → P x → Unique (f x)) → (xs : List A) → All P xs → ItemsHaveUniqueKeys (items_of (map f xs))
items_unique P f each [] all = tt
items_unique P f each (x ∷ xs) all = ((each x (all 0 x (omega arith))).keys, items_unique P f each xs (λ k d within. all (suc k) d (omega (arith, within))))

pub list_unique : {A : Type 0} (P : A → Type 0) (f : A → Json) → ((x : A) → P x → Unique (f x)) → (xs : List A) → All P xs → Unique (list (map f xs))
list_unique P f each xs all = record { keys = items_unique P f each xs all }

-- the same where nothing is asked of the values
pub each_unique : {A : Type 0} (f : A → Json) → ((x : A) → Unique (f x)) → (xs : List A) → Unique (list (map f xs))
each_unique f each xs = list_unique (λ x. ⊤) f (λ x p. each x) xs (λ k d within. tt)

pub list_more : {j : Json} {js : Items} → Unique j → Unique (array js) → Unique (array (item j js))
list_more u v = record { keys = (u.keys, v.keys) }

pub pair_unique : {a b : Json} → Unique a → Unique b → Unique (list (a ∷ b ∷ []))
pair_unique u v = record { keys = (u.keys, (v.keys, tt)) }

-- maps whose keys are different

keys_of_map : {A : Type 0} (k : A → List ℕ) (f : A → Json) (xs : List A) → keys (members_of (map (λ x. (k x, f x)) xs)) ≡ map k xs
keys_of_map k f [] = refl
keys_of_map k f (x ∷ xs) = ap (λ ks. k x ∷ ks) (keys_of_map k f xs)

values_of_map : {A : Type 0} (P : A → Type 0) (k : A → List ℕ) (f : A → Json) → ((x : A) → P x → Unique (f x)) → (xs : List A) → All P xs → MembersHaveUniqueKeys (members_of (map (λ x. (k x, f x)) xs))
values_of_map P k f each [] all = tt
values_of_map P k f each (x ∷ xs) all = ((each x (all 0 x (omega arith))).keys, values_of_map P k f each xs (λ n d within. all (suc n) d (omega (arith, within))))

pub map_unique : {A : Type 0} (P : A → Type 0) (k : A → List ℕ) (f : A → Json) → ((x : A) → P x → Unique (f x)) → (xs : List A) → AreDistinct (map k xs) → All P xs → Unique (fields (map (λ x. (k x, f x)) xs))
map_unique P k f each xs distinct all = record { keys = (subst AreDistinct (sym (keys_of_map k f xs)) distinct, values_of_map P k f each xs all) }

pub table_unique : {A : Type 0} (k : A → List ℕ) (f : A → Json) → ((x : A) → Unique (f x)) → (xs : List A) → AreDistinct (map k xs) → Unique (fields (map (λ x. (k x, f x)) xs))
table_unique k f each xs distinct = map_unique (λ x. ⊤) k f (λ x p. each x) xs distinct (λ n d within. tt)

-- keys that differ, of which each is given by its text: so do their texts

fresh_text : {A K : Type 0} (P : A → Type 0) (key : A → K) (text : A → List ℕ) → ((x y : A) → P x → P y → text x ≡ text y → key x ≡ key y) → (e : A) → P e → (es : List A) →
    ((j : ℕ) (d : K) → j < length (map key es) → key e ≢ slice_index_or (map key es) j d) → All P es → (j : ℕ) (d : List ℕ) → j < length (map text es) → text e ≢ slice_index_or (map text es) j d
fresh_text P key text gives e p [] fresh all j d within same = absurd (omega (arith, within))
fresh_text P key text gives e p (x ∷ es) fresh all zero d within same = fresh 0 (key x) (omega arith) (gives e x p (all 0 x (omega arith)) same)
fresh_text P key text gives e p (x ∷ es) fresh all (suc j) d within same =
    fresh_text P key text gives e p es (λ k c lt. fresh (suc k) c (omega (arith, lt))) (λ k c lt. all (suc k) c (omega (arith, lt))) j d (omega (arith, within)) same

pub texts_distinct : {A K : Type 0} (P : A → Type 0) (key : A → K) (text : A → List ℕ) → ((x y : A) → P x → P y → text x ≡ text y → key x ≡ key y) → (es : List A) →
    AllPairs (λ a b. a ≢ b) (map key es) → All P es → AreDistinct (map text es)
texts_distinct P key text gives [] differ all i j d lt within same = absurd (omega (arith, within))
texts_distinct P key text gives (e ∷ es) differ all zero zero d lt within same = absurd (omega (arith, lt))
texts_distinct P key text gives (e ∷ es) differ all zero (suc j) d lt within same =
    fresh_text P key text gives e (all 0 e (omega arith)) es (λ k c short. differ 0 (suc k) c (omega arith) (omega (arith, short))) (λ k c short. all (suc k) c (omega (arith, short))) j d (omega (arith, within)) same
texts_distinct P key text gives (e ∷ es) differ all (suc i) zero d lt within same = absurd (omega (arith, lt))
texts_distinct P key text gives (e ∷ es) differ all (suc i) (suc j) d lt within same =
    texts_distinct P key text gives es (λ k n c less short. differ (suc k) (suc n) c (omega (arith, less)) (omega (arith, short))) (λ k c short. all (suc k) c (omega (arith, short))) i j d (omega (arith, lt)) (omega (arith, within)) same
