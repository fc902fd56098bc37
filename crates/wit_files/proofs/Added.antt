-- Lists to which each item that is read adds some.
use Rattle.std.proofs.Common.{◌≡◌, ℕ, ◌+◌, ◌<◌, ◌≤◌, length, List, [], ◌∷◌, ◌++◌, map, take, get_or, Option, refl, sym, ap, ◌∙◌, append_assoc}
use Rattle.wit_syntax.proofs.Common.{Id, InterfaceItem, Use, append-nil, flat_map, map-append, take_all, take_more}
use Rattle.wit_tree.specs.declared.tree.InterfaceItem.TheVariants as interface_item
use Rattle.wit_top_names.proofs.Lost.{flat_more}
use Rattle.wit_files.specs.Visits.{part_visits}

-- one item more was read
pub added_next : {X A : Type 0} (f : X → List A) (old now new : List A) (xs : List X) (i : ℕ) (x : X) → i < length xs → x ≡ get_or xs i x → now ≡ old ++ flat_map f (take i xs) → new ≡ now ++ f x → new ≡ old ++ flat_map f (take (i + 1) xs)
added_next f old now new xs i x within is before own =
    let more : take (i + 1) xs ≡ take i xs ++ x ∷ [] = take_more xs i x within ∙ ap (λ y. take i xs ++ y ∷ []) (sym is) in
    own
    ∙ ap (λ l. l ++ f x) before
    ∙ append_assoc old (flat_map f (take i xs)) (f x)
    ∙ ap (λ l. old ++ l) (sym (flat_more f (take i xs) (take (i + 1) xs) x more))

-- it added nothing
pub added_none : {X A : Type 0} (f : X → List A) (old now : List A) (xs : List X) (i : ℕ) (x : X) → i < length xs → x ≡ get_or xs i x → now ≡ old ++ flat_map f (take i xs) → f x ≡ [] → now ≡ old ++ flat_map f (take (i + 1) xs)
added_none f old now xs i x within is before none = added_next f old now now xs i x within is before (sym (ap (λ l. now ++ l) none ∙ append-nil now))

-- all were read
pub added_all : {X A : Type 0} (f : X → List A) (old now : List A) (xs ys : List X) (i : ℕ) → now ≡ old ++ flat_map f (take i xs) → length xs ≤ i → xs ≡ ys → now ≡ old ++ flat_map f ys
added_all f old now xs ys i before past same = before ∙ ap (λ l. old ++ flat_map f l) (take_all i xs past ∙ same)

-- the same where it is made of what items are views of
pub added_view : {X Y A : Type 0} (g : Y → List A) (f : X → Y) (old now new : List A) (xs : List X) (i : ℕ) (x : X) → i < length xs → x ≡ get_or xs i x → now ≡ old ++ flat_map g (map f (take i xs)) → new ≡ now ++ g (f x) → new ≡ old ++ flat_map g (map f (take (i + 1) xs))
added_view g f old now new xs i x within is before own =
    let more : take (i + 1) xs ≡ take i xs ++ x ∷ [] = take_more xs i x within ∙ ap (λ y. take i xs ++ y ∷ []) (sym is) in
    own
    ∙ ap (λ l. l ++ g (f x)) before
    ∙ append_assoc old (flat_map g (map f (take i xs))) (g (f x))
    ∙ ap (λ l. old ++ l) (sym (flat_more g (map f (take i xs)) (map f (take (i + 1) xs)) (f x) (ap (map f) more ∙ map-append f (take i xs) (x ∷ []))))

-- and where what is added is seen of them
pub added_seen : {X Y A : Type 0} (h : Y → A) (g : X → List Y) (old now new : List A) (xs : List X) (i : ℕ) (x : X) → i < length xs → x ≡ get_or xs i x → now ≡ old ++ map h (flat_map g (take i xs)) → new ≡ now ++ map h (g x) → new ≡ old ++ map h (flat_map g (take (i + 1) xs))
added_seen h g old now new xs i x within is before own =
    let more : take (i + 1) xs ≡ take i xs ++ x ∷ [] = take_more xs i x within ∙ ap (λ y. take i xs ++ y ∷ []) (sym is) in
    own
    ∙ ap (λ l. l ++ map h (g x)) before
    ∙ append_assoc old (map h (flat_map g (take i xs))) (map h (g x))
    ∙ ap (λ l. old ++ l) (sym (ap (map h) (flat_more g (take i xs) (take (i + 1) xs) x more) ∙ map-append h (flat_map g (take i xs)) (g x)))

-- a part of an interface that is no `use` has no visit
pub no_use : (owner : Option Id) (x : InterfaceItem) → ((u : Use) → x ≡ interface_item.Use u → ⊥) → part_visits owner x ≡ []
no_use owner (interface_item.TypeDef d) not = refl
no_use owner (interface_item.Use u) not = absurd (not u refl)
no_use owner (interface_item.Func f) not = refl
