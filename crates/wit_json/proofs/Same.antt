-- Equal values with short numbers: what their parts are given by.
use Rattle.std.proofs.Common.{◌≡◌, ℕ, suc, Bool, true, false, List, [], ◌∷◌, ◌++◌, ap, sym, ◌∙◌, refl, subst, arith}
use Rattle.std.specs.Prelude.{⊤, Option, Some, None, All, IfSome, bytes_eq, map, option_map}
use Rattle.std.proofs.lemmas.Slice.Eq.{bytes_eq-Decides}
use Rattle.json.specs.Token.{Token}
use Rattle.json.specs.Json.{Json, null, boolean, number, string, array, object, Items, no_items, item, Members, no_members, member}
use Rattle.json.specs.Strict.{keys}
use Rattle.json.specs.Tree.{items_tokens, json_tokens, members_tokens}
use Rattle.json.specs.Value.{items_of}
use Rattle.wit_json.specs.Numbers.{AreShort}
use Rattle.wit_json.specs.Values.{fields, list, members_of, number_json, optional_number, optional_text}
use Rattle.wit_json.proofs.Apart.{Apart, IsNew, apart_of, are_apart}
use Rattle.wit_json.proofs.Objects.{Shape, object_lacks, object_of, shape_is}
use Rattle.wit_json.proofs.Texts.{decimal_determines}

-- one value, with short numbers
pub record Same (j k : Json) : Type 0 where
  pub is : j ≡ k
  pub short : AreShort (json_tokens j)

prefix_short : (xs ys : List Token) → AreShort (xs ++ ys) → AreShort xs
prefix_short [] ys short = tt
prefix_short (x ∷ xs) ys short = (short.0, prefix_short xs ys short.1)

back_short : (xs ys : List Token) → AreShort (xs ++ ys) → AreShort ys
back_short [] ys short = short
back_short (x ∷ xs) ys short = back_short xs ys short.1

-- a word that says strings, and objects by their first keys, from one another
abbrev pub mark : Json → List ℕ
mark null = 0 ∷ []
mark (boolean b) = 1 ∷ []
mark (number s) = []
mark (string s) = s
mark (array js) = 2 ∷ []
mark (object no_members) = 3 ∷ []
mark (object (member k j ms)) = k

pub unlike : {j k : Json} → Same j k → bytes_eq (mark j) (mark k) ≡ false → ⊥
unlike {j} {k} s differ = let yes = (bytes_eq-Decides (mark j) (mark k)).1 (ap mark s.is) in absurd (cc (yes, differ))

-- texts and numbers

abbrev text_of : Json → List ℕ
text_of null = []
text_of (boolean b) = []
text_of (number s) = s
text_of (string s) = s
text_of (array js) = []
text_of (object ms) = []

pub string_determines : (a b : List ℕ) → Same (string a) (string b) → a ≡ b
string_determines a b s = ap text_of s.is

pub number_determines : (m n : ℕ) → Same (number_json m) (number_json n) → m ≡ n
number_determines m n s = decimal_determines m n s.short.0 (ap text_of s.is)

abbrev pub is_null : Json → Bool
is_null null = true
is_null (boolean b) = false
is_null (number s) = false
is_null (string s) = false
is_null (array js) = false
is_null (object ms) = false

pub null_differs : {k : Json} → Same null k → is_null k ≡ false → ⊥
null_differs {k} s some = let yes : true ≡ is_null k = ap is_null s.is in absurd (cc (yes, some))

pub some_differs : {k : Json} → Same k null → is_null k ≡ false → ⊥
some_differs {k} s some = let yes : is_null k ≡ true = ap is_null s.is in absurd (cc (yes, some))

pub optional_text_determines : (a b : Option (List ℕ)) → Same (optional_text a) (optional_text b) → a ≡ b
optional_text_determines None None s = refl
optional_text_determines None (Some b) s = absurd (null_differs s refl)
optional_text_determines (Some a) None s = absurd (some_differs s refl)
optional_text_determines (Some a) (Some b) s = ap Some (string_determines a b s)

pub optional_number_determines : (a b : Option ℕ) → Same (optional_number a) (optional_number b) → a ≡ b
optional_number_determines None None s = refl
optional_number_determines None (Some b) s = absurd (null_differs s refl)
optional_number_determines (Some a) None s = absurd (some_differs s refl)
optional_number_determines (Some a) (Some b) s = ap Some (number_determines a b s)

-- arrays

abbrev first_item : Items → Json
first_item no_items = null
first_item (item j js) = j

abbrev rest_items : Items → Items
rest_items no_items = no_items
rest_items (item j js) = js

abbrev items_in : Json → Items
items_in null = no_items
items_in (boolean b) = no_items
items_in (number s) = no_items
items_in (string s) = no_items
items_in (array js) = js
items_in (object ms) = no_items

-- values that a function writes, of each of which P holds, are given by what it writes
abbrev pub Gives : {A : Type 0} → (A → Type 0) → (A → Json) → Type 0
Gives {A} P f = (x y : A) → P x → P y → Same (f x) (f y) → x ≡ y

items_determine : {A : Type 0} (P : A → Type 0) (f : A → Json) → Gives P f → (xs ys : List A) → All P xs → All P ys → items_of (map f xs) ≡ items_of (map f ys) → AreShort (items_tokens (items_of (map f xs))) → xs ≡ ys
items_determine P f gives [] [] p q is short = refl
items_determine P f gives [] (y ∷ ys) p q is short = absurd (cc is)
items_determine P f gives (x ∷ xs) [] p q is short = absurd (cc is)
items_determine P f gives (x ∷ xs) (y ∷ ys) p q is short =
    let more = items_tokens (items_of (map f xs)) in
    let first = gives x y (p 0 x (omega arith)) (q 0 y (omega arith)) (record { is = ap first_item is; short = prefix_short (json_tokens (f x)) more short }) in
    let rest = items_determine P f gives xs ys (λ k d within. p (suc k) d (omega (arith, within))) (λ k d within. q (suc k) d (omega (arith, within))) (ap rest_items is) (back_short (json_tokens (f x)) more short) in
    (λ i. first i ∷ rest i)

pub list_determines : {A : Type 0} (P : A → Type 0) (f : A → Json) → Gives P f → (xs ys : List A) → All P xs → All P ys → Same (list (map f xs)) (list (map f ys)) → xs ≡ ys
list_determines P f gives xs ys p q s = items_determine P f gives xs ys p q (ap items_in s.is) s.short.1

-- the same where nothing is asked of the values
pub each_determines : {A : Type 0} (f : A → Json) → ((x y : A) → Same (f x) (f y) → x ≡ y) → (xs ys : List A) → Same (list (map f xs)) (list (map f ys)) → xs ≡ ys
each_determines f gives xs ys s = list_determines (λ x. ⊤) f (λ x y p q. gives x y) xs ys (λ k d within. tt) (λ k d within. tt) s

-- the first value, and the others
pub more_same : {j k : Json} {js ks : Items} → Same (array (item j js)) (array (item k ks)) → Same j k × Same (array js) (array ks)
more_same {j} {k} {js} {ks} s = (
  record { is = ap (λ v. first_item (items_in v)) s.is; short = prefix_short (json_tokens j) (items_tokens js) s.short.1 },
  record { is = ap (λ v. array (rest_items (items_in v))) s.is; short = (tt, back_short (json_tokens j) (items_tokens js) s.short.1) },
)

-- the two values of a pair
pub pair_same : {a b c d : Json} → Same (list (a ∷ b ∷ [])) (list (c ∷ d ∷ [])) → Same a c × Same b d
pair_same s = let both = more_same s in (both.0, (more_same both.1).0)

-- maps

abbrev members_in : Json → Members
members_in null = no_members
members_in (boolean b) = no_members
members_in (number s) = no_members
members_in (string s) = no_members
members_in (array js) = no_members
members_in (object ms) = ms

abbrev first_key : Members → List ℕ
first_key no_members = []
first_key (member k j ms) = k

abbrev first_value : Members → Json
first_value no_members = null
first_value (member k j ms) = j

abbrev rest_members : Members → Members
rest_members no_members = no_members
rest_members (member k j ms) = ms

-- the value of an object with one member
pub tagged_same : {k l : List ℕ} {i j : Json} → Same (object (member k i no_members)) (object (member l j no_members)) → Same i j
tagged_same {k} {l} {i} {j} s = record { is = ap (λ v. first_value (members_in v)) s.is; short = prefix_short (json_tokens i) (Token.end_object ∷ []) s.short.1.1 }

members_determine : {A : Type 0} (P : A → Type 0) (k : A → List ℕ) (f : A → Json) → ((x y : A) → P x → P y → k x ≡ k y → Same (f x) (f y) → x ≡ y) → (xs ys : List A) → All P xs → All P ys →
    members_of (map (λ x. (k x, f x)) xs) ≡ members_of (map (λ x. (k x, f x)) ys) → AreShort (members_tokens (members_of (map (λ x. (k x, f x)) xs))) → xs ≡ ys
members_determine P k f gives [] [] p q is short = refl
members_determine P k f gives [] (y ∷ ys) p q is short = absurd (cc is)
members_determine P k f gives (x ∷ xs) [] p q is short = absurd (cc is)
members_determine P k f gives (x ∷ xs) (y ∷ ys) p q is short =
    let more = members_tokens (members_of (map (λ z. (k z, f z)) xs)) in
    let first = gives x y (p 0 x (omega arith)) (q 0 y (omega arith)) (ap first_key is) (record { is = ap first_value is; short = prefix_short (json_tokens (f x)) more short.1 }) in
    let rest = members_determine P k f gives xs ys (λ n d within. p (suc n) d (omega (arith, within))) (λ n d within. q (suc n) d (omega (arith, within))) (ap rest_members is) (back_short (json_tokens (f x)) more short.1) in
    (λ i. first i ∷ rest i)

pub map_determines : {A : Type 0} (P : A → Type 0) (k : A → List ℕ) (f : A → Json) → ((x y : A) → P x → P y → k x ≡ k y → Same (f x) (f y) → x ≡ y) → (xs ys : List A) → All P xs → All P ys →
    Same (fields (map (λ x. (k x, f x)) xs)) (fields (map (λ x. (k x, f x)) ys)) → xs ≡ ys
map_determines P k f gives xs ys p q s = members_determine P k f gives xs ys p q (ap members_in s.is) s.short.1

-- members of an object, each if it is there

abbrev pub SameOption : Option Json → Option Json → Type 0
SameOption None None = ⊤
SameOption None (Some k) = ⊥
SameOption (Some j) None = ⊥
SameOption (Some j) (Some k) = Same j k

pub option_determines : {A : Type 0} (P : A → Type 0) (f : A → Json) → Gives P f → (a b : Option A) → IfSome a P → IfSome b P → SameOption (option_map f a) (option_map f b) → a ≡ b
option_determines P f gives None None p q s = refl
option_determines P f gives None (Some b) p q s = absurd s
option_determines P f gives (Some a) None p q s = absurd s
option_determines P f gives (Some a) (Some b) p q s = ap Some (gives a b p q s)

pub any_option : {A : Type 0} (a : Option A) → IfSome a (λ x. ⊤)
any_option None = tt
any_option (Some a) = tt

pub option_each : {A : Type 0} (f : A → Json) → ((x y : A) → Same (f x) (f y) → x ≡ y) → (a b : Option A) → SameOption (option_map f a) (option_map f b) → a ≡ b
option_each f gives a b s = option_determines (λ x. ⊤) f (λ x y p q. gives x y) a b (any_option a) (any_option b) s

-- objects whose keys are some of a list

abbrev pub AreSame : List (List ℕ) → List (Option Json) → List (Option Json) → Type 0
AreSame [] vs ws = ⊤
AreSame (k ∷ ks) [] ws = ⊤
AreSame (k ∷ ks) (v ∷ vs) [] = ⊤
AreSame (k ∷ ks) (v ∷ vs) (w ∷ ws) = SameOption v w × AreSame ks vs ws

begins_with : (k : List ℕ) (ks : List (List ℕ)) (vs : List (Option Json)) (j : Json) (more : List (List ℕ × Json)) → IsNew k ks → object_of ks vs ≡ (k, j) ∷ more → ⊥
begins_with k ks vs j more new is = (subst (λ (ms : List (List ℕ × Json)). IsNew k (keys (members_of ms))) is (object_lacks k ks vs new)).0 refl

abbrev value_in : List (List ℕ × Json) → Json
value_in [] = null
value_in (m ∷ ms) = m.1

abbrev others_in : List (List ℕ × Json) → List (List ℕ × Json)
others_in [] = []
others_in (m ∷ ms) = ms

values_same : (ks : List (List ℕ)) (vs ws : List (Option Json)) → Apart ks → object_of ks vs ≡ object_of ks ws → AreShort (members_tokens (members_of (object_of ks vs))) → AreSame ks vs ws
values_same [] vs ws apart is short = tt
values_same (k ∷ ks) [] ws apart is short = tt
values_same (k ∷ ks) (v ∷ vs) [] apart is short = tt
values_same (k ∷ ks) (None ∷ vs) (None ∷ ws) apart is short = (tt, values_same ks vs ws apart.1 is short)
values_same (k ∷ ks) (None ∷ vs) (Some j ∷ ws) apart is short = absurd (begins_with k ks vs j (object_of ks ws) apart.0 is)
values_same (k ∷ ks) (Some j ∷ vs) (None ∷ ws) apart is short = absurd (begins_with k ks ws j (object_of ks vs) apart.0 (sym is))
values_same (k ∷ ks) (Some j ∷ vs) (Some i ∷ ws) apart is short =
    let more = members_tokens (members_of (object_of ks vs)) in
    (record { is = ap value_in is; short = prefix_short (json_tokens j) more short.1 }, values_same ks vs ws apart.1 (ap others_in is) (back_short (json_tokens j) more short.1))

abbrev listed : Members → List (List ℕ × Json)
listed no_members = []
listed (member k j ms) = (k, j) ∷ listed ms

listed-members : (ms : List (List ℕ × Json)) → listed (members_of ms) ≡ ms
listed-members [] = refl
listed-members (m ∷ ms) = ap (λ more. m ∷ more) (listed-members ms)

pub fields_same : {ks : List (List ℕ)} {vs ws : List (Option Json)} {ms ns : List (List ℕ × Json)} → are_apart ks ≡ true → Shape ks vs ms → Shape ks ws ns → Same (fields ms) (fields ns) → AreSame ks vs ws
fields_same {ks} {vs} {ws} {ms} {ns} apart f g s =
    let members : ms ≡ ns = sym (listed-members ms) ∙ ap (λ v. listed (members_in v)) s.is ∙ listed-members ns in
    values_same ks vs ws (apart_of ks apart) (sym (shape_is f) ∙ members ∙ shape_is g) (subst (λ (l : List (List ℕ × Json)). AreShort (members_tokens (members_of l))) (shape_is f) s.short.1)
