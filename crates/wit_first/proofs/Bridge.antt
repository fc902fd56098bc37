-- The first fault is a broken rule; and where there is no first fault, no rule is broken.
use Rattle.std.proofs.Common.{◌≡◌, ◌≢◌, ℕ, zero, suc, ◌<◌, Bool, true, false, List, [], ◌∷◌, ◌++◌, take, Option, Some, None, ◌⊎◌, inl, inr, refl, sym, ap, ◌∙◌, subst, append_assoc, arith}
use Rattle.wit_syntax.proofs.Common.{AllDiffer, AreBroken, Attribute, AttributeKind, CanBeKey, Case, Contains, Deprecated, DeprecatedAlone, DeprecatedTwice, EnumCase, ExternalId, Fault, Field, Flag, Id, IsBrokenList, IsBrokenMetadata, IsBrokenStability, IsDuplicateName, IsEmpty, IsFlagTooMany, IsInvalidKey, IsKey, IsSecond, IsSecondIn, IsTwice, Item, PackageFile, ParseError, Primitive, Refused, Since, SinceAndUnstable, SinceTwice, Span, TopName, TypeBody, Unstable, UnstableTwice, about, all_items, any_found, append-nil, at_contains, at_take, attribute_span, bytes_eq, clash, codes, contains_at, fault, fault_in, find, find_at, find_passes, find_some, first_of, is_of, item_name, item_twice, kind_of, list_any, lower_case, map, map_at, name_equal, name_itself, name_twice, none-some, not, option_map, option_or, slice_get, slice_get-take, top_names, top_text, top_twice, «Type» as Written}
use Rattle.wit_type_tree.specs.declared.leaves.Attribute.TheVariants as attribute
use Rattle.wit_type_tree.specs.declared.types.Primitive.TheVariants as primitive
use Rattle.wit_type_tree.specs.declared.types.«Type».TheVariants as written
use Rattle.wit_type_tree.specs.declared.types.TypeBody.TheVariants as body
use Rattle.wit_first.specs.AttributeFaults.{each_once_fault, number_of, counted_fault, kinds_fault, repeat_fault, stability_fault, external_fault, metadata_fault}
use Rattle.wit_first.specs.First.{first_in, first_after, Reports, repeat_of, first_repeat, clash_of}
use Rattle.wit_first.specs.KeyFaults.{is_key, key_fault}
use Rattle.wit_first.specs.Laws.{Agrees}
use Rattle.wit_first.specs.ListFaults.{empty_fault, names_fault, members_fault, flags_fault, list_fault}
use Rattle.wit_first.specs.NameFaults.{item_names_fault, top_names_fault, local_names_fault}
use Rattle.wit_first.proofs.First.{any_some}

-- an error that reports the first fault refuses a broken rule
pub refused_by : {first : Option Fault} {Broken : Fault → Type 0} {e : ParseError} → Agrees first Broken → Reports first e → Refused Broken e
refused_by agrees report = elim report [ inl memory ↦ inl memory | inr is ↦ inr (agrees.broken _ is) ]

-- of two faults
pub or_some : {X : Type 0} (a b : Option X) (x : X) → option_or a b ≡ Some x → (a ≡ Some x) ⊎ ((a ≡ None) × (b ≡ Some x))
or_some None b x h = inr (refl, h)
or_some (Some y) b x h = inl h

pub or_none_both : {X : Type 0} (a b : Option X) → option_or a b ≡ None → (a ≡ None) × (b ≡ None)
or_none_both None b h = (refl, h)
or_none_both (Some x) b h = absurd (let f : ⊥ = cc in f)

-- of items
pub in_some : {X : Type 0} (w : X → Option Fault) (xs : List X) (f : Fault) → first_in w xs ≡ Some f → (i : ℕ) × (x : X) × (slice_get xs i ≡ Some x) × (w x ≡ Some f)
in_some w [] f h = absurd (let g : ⊥ = cc in g)
in_some w (x ∷ xs) f h = elim (or_some (w x) (first_in w xs) f h) [
  | inl own ↦ (0, x, refl, own)
  | inr far ↦ (let rest = in_some w xs f far.1 in (suc rest.0, rest.1, rest.2, rest.3))
]

pub in_only : {X : Type 0} (w : X → Option Fault) (xs : List X) → first_in w xs ≡ None → (i : ℕ) (x : X) → slice_get xs i ≡ Some x → w x ≡ None
in_only w [] h i x at = absurd (let g : ⊥ = cc in g)
in_only w (y ∷ ys) h zero x at = (let both = or_none_both (w y) (first_in w ys) h in let same : y ≡ x = cc in ap w (sym same) ∙ both.0)
in_only w (y ∷ ys) h (suc i) x at = in_only w ys (or_none_both (w y) (first_in w ys) h).1 i x at

pub in_agrees : {X : Type 0} (w : X → Option Fault) (Broken : X → Fault → Type 0) (xs : List X) → ((x : X) → Agrees (w x) (Broken x)) → Agrees (first_in w xs) (λ f. (x : X) × Contains xs x × Broken x f)
in_agrees w Broken xs each = record {
  broken = λ f h. (let it = in_some w xs f h in (it.1, contains_at xs it.0 it.1 it.2, (each it.1).broken f it.3));
  unbroken = λ none f h. (let it = at_contains xs h.0 h.1 in (each h.0).unbroken (in_only w xs none it.0 h.0 it.1) f h.2);
}

-- of items, each beside those before it
pub after_some : {X : Type 0} (w : List X → X → Option Fault) (before xs : List X) (f : Fault) → first_after w before xs ≡ Some f → (i : ℕ) × (x : X) × (slice_get xs i ≡ Some x) × (w (before ++ take i xs) x ≡ Some f)
after_some w before [] f h = absurd (let g : ⊥ = cc in g)
after_some w before (x ∷ xs) f h = elim (or_some (w before x) (first_after w (before ++ x ∷ []) xs) f h) [
  | inl own ↦ (0, x, refl, subst (λ (l : List _). w l x ≡ Some f) (sym (append-nil before)) own)
  | inr far ↦ (let rest = after_some w (before ++ x ∷ []) xs f far.1 in (suc rest.0, rest.1, rest.2, subst (λ (l : List _). w l rest.1 ≡ Some f) (append_assoc before (x ∷ []) (take rest.0 xs)) rest.3))
]

pub after_only : {X : Type 0} (w : List X → X → Option Fault) (before xs : List X) → first_after w before xs ≡ None → (i : ℕ) (x : X) → slice_get xs i ≡ Some x → w (before ++ take i xs) x ≡ None
after_only w before [] h i x at = absurd (let g : ⊥ = cc in g)
after_only w before (y ∷ ys) h zero x at = (
    let both = or_none_both (w before y) (first_after w (before ++ y ∷ []) ys) h in
    let same : y ≡ x = cc in
    subst (λ (l : List _). w l x ≡ None) (sym (append-nil before)) (ap (w before) (sym same) ∙ both.0))
after_only w before (y ∷ ys) h (suc i) x at = subst (λ (l : List _). w l x ≡ None) (append_assoc before (y ∷ []) (take i ys)) (after_only w (before ++ y ∷ []) ys (or_none_both (w before y) (first_after w (before ++ y ∷ []) ys) h).1 i x at)

-- attributes: the first fault is a second one of its kind
repeat_is : (before : List Attribute) (a : Attribute) (f : Fault) → repeat_fault before a ≡ Some f → (first_of (kind_of a) before ≢ None) × (f ≡ fault (number_of (kind_of a)) (attribute_span a))
repeat_is before a f h = by (first_of (kind_of a) before) refl
  where
    by : (o : Option Attribute) → first_of (kind_of a) before ≡ o → (first_of (kind_of a) before ≢ None) × (f ≡ fault (number_of (kind_of a)) (attribute_span a))
    by None is = (let wrong : None ≡ Some f = rw is at h in let g : ⊥ = cc in absurd g)
    by (Some b) is = (λ none. none-some b (sym none ∙ is), (let same : Some (fault (number_of (kind_of a)) (attribute_span a)) ≡ Some f = rw is at h in cc))

second_broken : (xs : List Attribute) (i : ℕ) (a : Attribute) (f : Fault) → slice_get xs i ≡ Some a → counted_fault (λ b. not (is_of ExternalId b)) (take i xs) a ≡ Some f → IsBrokenStability xs f
second_broken xs i (attribute.Since s v) f at h = let is = repeat_is (take i xs) (attribute.Since s v) f h in SinceTwice (i, attribute.Since s v, at, refl, is.0, is.1)
second_broken xs i (attribute.Unstable s v) f at h = let is = repeat_is (take i xs) (attribute.Unstable s v) f h in UnstableTwice (i, attribute.Unstable s v, at, refl, is.0, is.1)
second_broken xs i (attribute.Deprecated s v) f at h = let is = repeat_is (take i xs) (attribute.Deprecated s v) f h in DeprecatedTwice (i, attribute.Deprecated s v, at, refl, is.0, is.1)
second_broken xs i (attribute.ExternalId s v) f at h = absurd (let g : ⊥ = cc in g)

external_second : (xs : List Attribute) (i : ℕ) (a : Attribute) (f : Fault) → slice_get xs i ≡ Some a → counted_fault (is_of ExternalId) (take i xs) a ≡ Some f → IsTwice 35 ExternalId xs f
external_second xs i (attribute.Since s v) f at h = absurd (let g : ⊥ = cc in g)
external_second xs i (attribute.Unstable s v) f at h = absurd (let g : ⊥ = cc in g)
external_second xs i (attribute.Deprecated s v) f at h = absurd (let g : ⊥ = cc in g)
external_second xs i (attribute.ExternalId s v) f at h = let is = repeat_is (take i xs) (attribute.ExternalId s v) f h in (i, attribute.ExternalId s v, at, refl, is.0, is.1)

-- or one beside others
together_broken : (xs : List Attribute) (f : Fault) (s u d : Option Attribute) → first_of Since xs ≡ s → first_of Unstable xs ≡ u → first_of Deprecated xs ≡ d → kinds_fault s u d ≡ Some f → IsBrokenStability xs f
together_broken xs f (Some since) (Some unstable) d is_s is_u is_d h = SinceAndUnstable since is_s (λ none. none-some unstable (sym none ∙ is_u)) (let same : Some (fault 33 (attribute_span since)) ≡ Some f = h in cc)
together_broken xs f None None (Some deprecated) is_s is_u is_d h = DeprecatedAlone deprecated is_d is_s is_u (let same : Some (fault 34 (attribute_span deprecated)) ≡ Some f = h in cc)
together_broken xs f (Some since) None d is_s is_u is_d h = absurd (let g : ⊥ = cc in g)
together_broken xs f None (Some unstable) d is_s is_u is_d h = absurd (let g : ⊥ = cc in g)
together_broken xs f None None None is_s is_u is_d h = absurd (let g : ⊥ = cc in g)

stability_broken : (xs : List Attribute) (f : Fault) → stability_fault xs ≡ Some f → IsBrokenStability xs f
stability_broken xs f h = elim (or_some (each_once_fault xs) (kinds_fault (first_of Since xs) (first_of Unstable xs) (first_of Deprecated xs)) f h) [
  | inl second ↦ (let it = after_some (counted_fault (λ b. not (is_of ExternalId b))) [] xs f second in second_broken xs it.0 it.1 f it.2 it.3)
  | inr apart ↦ together_broken xs f (first_of Since xs) (first_of Unstable xs) (first_of Deprecated xs) refl refl refl apart.1
]

external_broken : (xs : List Attribute) (f : Fault) → external_fault xs ≡ Some f → IsTwice 35 ExternalId xs f
external_broken xs f h = let it = after_some (counted_fault (is_of ExternalId)) [] xs f h in external_second xs it.0 it.1 f it.2 it.3

metadata_broken : (xs : List Attribute) (f : Fault) → metadata_fault xs ≡ Some f → IsBrokenMetadata xs f
metadata_broken xs f h = elim (or_some (stability_fault xs) (external_fault xs) f h) [
  | inl own ↦ inl (stability_broken xs f own)
  | inr far ↦ inr (external_broken xs f far.1)
]

-- where there is no first fault of attributes, none breaks a rule
kind_is : (kind : AttributeKind) (a : Attribute) → is_of kind a ≡ true → kind_of a ≡ kind
kind_is Since (attribute.Since s v) h = refl
kind_is Since (attribute.Unstable s v) h = absurd (let f : ⊥ = cc in f)
kind_is Since (attribute.Deprecated s v) h = absurd (let f : ⊥ = cc in f)
kind_is Since (attribute.ExternalId s v) h = absurd (let f : ⊥ = cc in f)
kind_is Unstable (attribute.Since s v) h = absurd (let f : ⊥ = cc in f)
kind_is Unstable (attribute.Unstable s v) h = refl
kind_is Unstable (attribute.Deprecated s v) h = absurd (let f : ⊥ = cc in f)
kind_is Unstable (attribute.ExternalId s v) h = absurd (let f : ⊥ = cc in f)
kind_is Deprecated (attribute.Since s v) h = absurd (let f : ⊥ = cc in f)
kind_is Deprecated (attribute.Unstable s v) h = absurd (let f : ⊥ = cc in f)
kind_is Deprecated (attribute.Deprecated s v) h = refl
kind_is Deprecated (attribute.ExternalId s v) h = absurd (let f : ⊥ = cc in f)
kind_is ExternalId (attribute.Since s v) h = absurd (let f : ⊥ = cc in f)
kind_is ExternalId (attribute.Unstable s v) h = absurd (let f : ⊥ = cc in f)
kind_is ExternalId (attribute.Deprecated s v) h = absurd (let f : ⊥ = cc in f)
kind_is ExternalId (attribute.ExternalId s v) h = refl

counted_since : (a : Attribute) → is_of Since a ≡ true → not (is_of ExternalId a) ≡ true
counted_since (attribute.Since s v) h = refl
counted_since (attribute.Unstable s v) h = absurd (let f : ⊥ = cc in f)
counted_since (attribute.Deprecated s v) h = absurd (let f : ⊥ = cc in f)
counted_since (attribute.ExternalId s v) h = absurd (let f : ⊥ = cc in f)

counted_unstable : (a : Attribute) → is_of Unstable a ≡ true → not (is_of ExternalId a) ≡ true
counted_unstable (attribute.Since s v) h = absurd (let f : ⊥ = cc in f)
counted_unstable (attribute.Unstable s v) h = refl
counted_unstable (attribute.Deprecated s v) h = absurd (let f : ⊥ = cc in f)
counted_unstable (attribute.ExternalId s v) h = absurd (let f : ⊥ = cc in f)

counted_deprecated : (a : Attribute) → is_of Deprecated a ≡ true → not (is_of ExternalId a) ≡ true
counted_deprecated (attribute.Since s v) h = absurd (let f : ⊥ = cc in f)
counted_deprecated (attribute.Unstable s v) h = absurd (let f : ⊥ = cc in f)
counted_deprecated (attribute.Deprecated s v) h = refl
counted_deprecated (attribute.ExternalId s v) h = absurd (let f : ⊥ = cc in f)

repeat_none : (before : List Attribute) (a : Attribute) → repeat_fault before a ≡ None → first_of (kind_of a) before ≡ None
repeat_none before a h = by (first_of (kind_of a) before) refl
  where
    by : (o : Option Attribute) → first_of (kind_of a) before ≡ o → first_of (kind_of a) before ≡ None
    by None is = is
    by (Some b) is = (let wrong : Some (fault (number_of (kind_of a)) (attribute_span a)) ≡ None = rw is at h in let g : ⊥ = cc in absurd g)

once_only : (counts : Attribute → Bool) (kind : AttributeKind) (number : ℕ) (xs : List Attribute) (f : Fault) → ((a : Attribute) → is_of kind a ≡ true → counts a ≡ true) → first_after (counted_fault counts) [] xs ≡ None → IsTwice number kind xs f → ⊥
once_only counts kind number xs f all none t =
    let own : counted_fault counts (take t.0 xs) t.1 ≡ None = after_only (counted_fault counts) [] xs none t.0 t.1 t.2 in
    let counted : repeat_fault (take t.0 xs) t.1 ≡ None = rw (all t.1 t.3) at own in
    t.4 (ap (λ k. first_of k (take t.0 xs)) (sym (kind_is kind t.1 t.3)) ∙ repeat_none (take t.0 xs) t.1 counted)

not_both : (s u d : Option Attribute) (a : Attribute) → kinds_fault s u d ≡ None → s ≡ Some a → u ≢ None → ⊥
not_both (Some since) (Some unstable) d a h is some = (let f : ⊥ = cc in f)
not_both (Some since) None d a h is some = some refl
not_both None u d a h is some = (let f : ⊥ = cc in f)

not_alone : (s u d : Option Attribute) (a : Attribute) → kinds_fault s u d ≡ None → d ≡ Some a → s ≡ None → u ≡ None → ⊥
not_alone None None (Some deprecated) a h is no_s no_u = (let f : ⊥ = cc in f)
not_alone None None None a h is no_s no_u = (let f : ⊥ = cc in f)
not_alone None (Some u) d a h is no_s no_u = (let f : ⊥ = cc in f)
not_alone (Some s) u d a h is no_s no_u = (let f : ⊥ = cc in f)

stability_unbroken : (xs : List Attribute) → stability_fault xs ≡ None → (f : Fault) → IsBrokenStability xs f → ⊥
stability_unbroken xs none f broken =
    let both = or_none_both (each_once_fault xs) (kinds_fault (first_of Since xs) (first_of Unstable xs) (first_of Deprecated xs)) none in
    elim broken [
      | SinceTwice t ↦ once_only (λ a. not (is_of ExternalId a)) Since 30 xs f counted_since both.0 t
      | DeprecatedTwice t ↦ once_only (λ a. not (is_of ExternalId a)) Deprecated 31 xs f counted_deprecated both.0 t
      | UnstableTwice t ↦ once_only (λ a. not (is_of ExternalId a)) Unstable 32 xs f counted_unstable both.0 t
      | SinceAndUnstable since first unstable is ↦ not_both (first_of Since xs) (first_of Unstable xs) (first_of Deprecated xs) since both.1 first unstable
      | DeprecatedAlone deprecated first no_since no_unstable is ↦ not_alone (first_of Since xs) (first_of Unstable xs) (first_of Deprecated xs) deprecated both.1 first no_since no_unstable
    ]

external_unbroken : (xs : List Attribute) → external_fault xs ≡ None → (f : Fault) → IsTwice 35 ExternalId xs f → ⊥
external_unbroken xs none f t = once_only (is_of ExternalId) ExternalId 35 xs f (λ a h. h) none t

metadata_unbroken : (xs : List Attribute) → metadata_fault xs ≡ None → (f : Fault) → IsBrokenMetadata xs f → ⊥
metadata_unbroken xs none f broken =
    let both = or_none_both (stability_fault xs) (external_fault xs) none in
    elim broken [
      | inl stability ↦ stability_unbroken xs both.0 f stability
      | inr external ↦ external_unbroken xs both.1 f external
    ]

pub stability_agrees : (xs : List Attribute) → Agrees (stability_fault xs) (IsBrokenStability xs)
stability_agrees xs = record { broken = stability_broken xs; unbroken = stability_unbroken xs }

pub external_agrees : (xs : List Attribute) → Agrees (external_fault xs) (IsTwice 35 ExternalId xs)
external_agrees xs = record { broken = external_broken xs; unbroken = external_unbroken xs }

pub metadata_agree : (xs : List Attribute) → Agrees (metadata_fault xs) (IsBrokenMetadata xs)
metadata_agree xs = record { broken = metadata_broken xs; unbroken = metadata_unbroken xs }

-- items whose keys repeat
pub repeat_some : {X : Type 0} (key : X → List ℕ) (as_fault : X → Fault) (before : List X) (x : X) (f : Fault) → repeat_of key as_fault before x ≡ Some f → (list_any (λ y. bytes_eq (key y) (key x)) before ≡ true) × (f ≡ as_fault x)
repeat_some key as_fault before x f h = by (list_any (λ y. bytes_eq (key y) (key x)) before) refl
  where
    by : (b : Bool) → list_any (λ y. bytes_eq (key y) (key x)) before ≡ b → (list_any (λ y. bytes_eq (key y) (key x)) before ≡ true) × (f ≡ as_fault x)
    by true is = (is, (let own : Some (as_fault x) ≡ Some f = rw is at h in cc))
    by false is = (let wrong : None ≡ Some f = rw is at h in let g : ⊥ = cc in absurd g)

repeat_broken : {X : Type 0} (key : X → List ℕ) (as_fault : X → Fault) (xs : List X) (f : Fault) → first_repeat key as_fault xs ≡ Some f → IsSecond key as_fault xs f
repeat_broken key as_fault xs f h =
    let it = after_some (repeat_of key as_fault) [] xs f h in
    let own = repeat_some key as_fault (take it.0 xs) it.1 f it.3 in
    let found = any_found (λ y. bytes_eq (key y) (key it.1)) (take it.0 xs) own.0 in
    let there = at_take xs it.0 found.0 found.1 found.2 in
    (it.1, (found.0, it.0, there.1, found.1, there.0, it.2, name_equal (key found.1) (key it.1) found.3), own.1)

repeat_unbroken : {X : Type 0} (key : X → List ℕ) (as_fault : X → Fault) (xs : List X) → first_repeat key as_fault xs ≡ None → (f : Fault) → IsSecond key as_fault xs f → ⊥
repeat_unbroken key as_fault xs none f s =
    let later = s.0 in
    let r = s.1 in
    let own : repeat_of key as_fault (take r.1 xs) later ≡ None = after_only (repeat_of key as_fault) [] xs none r.1 later r.5 in
    let found : list_any (λ y. bytes_eq (key y) (key later)) (take r.1 xs) ≡ true = any_some (λ y. bytes_eq (key y) (key later)) (take r.1 xs) r.0 r.3 (slice_get-take xs r.1 r.0 r.2 ∙ r.4) (ap (λ k. bytes_eq k (key later)) r.6 ∙ name_itself (key later)) in
    let wrong : Some (as_fault later) ≡ None = rw found at own in
    (let g : ⊥ = cc in g)

pub repeat_agrees : {X : Type 0} (key : X → List ℕ) (as_fault : X → Fault) (xs : List X) → Agrees (first_repeat key as_fault xs) (IsSecond key as_fault xs)
repeat_agrees key as_fault xs = record { broken = repeat_broken key as_fault xs; unbroken = repeat_unbroken key as_fault xs }

pub repeat_differs : {X : Type 0} (key : X → List ℕ) (as_fault : X → Fault) (xs : List X) → first_repeat key as_fault xs ≡ None → AllDiffer (map key xs)
repeat_differs key as_fault xs none = record {
  differ = λ i j k at_i at_j. (
      let one = twice i j k at_i at_j in
      let other = twice j i k at_j at_i in
      omega arith);
}
  where
    twice : (i j : ℕ) (k : List ℕ) → slice_get (map key xs) i ≡ Some k → slice_get (map key xs) j ≡ Some k → i < j → ⊥
    twice i j k at_i at_j before =
        let earlier = map_at key xs i k at_i in
        let later = map_at key xs j k at_j in
        repeat_unbroken key as_fault xs none (as_fault later.0) (later.0, (i, j, before, earlier.0, earlier.1, later.1, earlier.2 ∙ sym later.2), refl)

-- names that repeat, spelled alike
pub item_names_agree : (files : List PackageFile) → Agrees (item_names_fault files) (IsSecond item_name (λ (i : Item). item_twice (about i.declared).id) (all_items files))
item_names_agree files = repeat_agrees item_name (λ (i : Item). item_twice (about i.declared).id) (all_items files)

pub item_names_differ : (files : List PackageFile) → item_names_fault files ≡ None → AllDiffer (map item_name (all_items files))
item_names_differ files none = repeat_differs item_name (λ (i : Item). item_twice (about i.declared).id) (all_items files) none

pub top_names_agree : (file : PackageFile) → Agrees (top_names_fault file) (IsSecond top_text (λ (n : TopName). top_twice n.id) (top_names file))
top_names_agree file = repeat_agrees top_text (λ (n : TopName). top_twice n.id) (top_names file)

pub local_names_differ : (ids : List Id) → local_names_fault ids ≡ None → AllDiffer (map (λ (id : Id). id.name.now) ids)
local_names_differ ids none = repeat_differs (λ (id : Id). id.name.now) (λ (id : Id). name_twice id) ids none

-- or once case is folded: the fault is made of both
clash_some : {X : Type 0} (key : X → List ℕ) (as_fault : X → X → Fault) (before : List X) (x : X) (f : Fault) → clash_of key as_fault before x ≡ Some f → (y : X) × (find (λ z. bytes_eq (key z) (key x)) before ≡ Some y) × (f ≡ as_fault y x)
clash_some {X} key as_fault before x f h = by (find (λ z. bytes_eq (key z) (key x)) before) refl
  where
    by : (o : Option X) → find (λ z. bytes_eq (key z) (key x)) before ≡ o → (y : X) × (find (λ z. bytes_eq (key z) (key x)) before ≡ Some y) × (f ≡ as_fault y x)
    by None is = (let wrong : None ≡ Some f = rw is at h in let g : ⊥ = cc in absurd g)
    by (Some y) is = (y, is, (let own : Some (as_fault y x) ≡ Some f = rw is at h in cc))

pub clash_broken : {X : Type 0} (key : X → List ℕ) (as_stated : X → List ℕ → Fault) (words : X → X → List ℕ) (xs : List X) (f : Fault) → first_after (clash_of key (λ y x. as_stated x (words y x))) [] xs ≡ Some f → IsSecondIn key as_stated xs f
clash_broken key as_stated words xs f h =
    let it = after_some (clash_of key (λ y x. as_stated x (words y x))) [] xs f h in
    let own = clash_some key (λ y x. as_stated x (words y x)) (take it.0 xs) it.1 f it.3 in
    let found = find_at (λ z. bytes_eq (key z) (key it.1)) (take it.0 xs) own.0 own.1 in
    let there = at_take xs it.0 found.0 own.0 found.1 in
    (words own.0 it.1, (it.1, (found.0, it.0, there.1, own.0, there.0, it.2, name_equal (key own.0) (key it.1) (find_passes (λ z. bytes_eq (key z) (key it.1)) (take it.0 xs) own.0 own.1)), own.2))

pub clash_unbroken : {X : Type 0} (key : X → List ℕ) (as_stated : X → List ℕ → Fault) (as_fault : X → X → Fault) (xs : List X) → first_after (clash_of key as_fault) [] xs ≡ None → (f : Fault) → IsSecondIn key as_stated xs f → ⊥
clash_unbroken {X} key as_stated as_fault xs none f s =
    let later = s.1.0 in
    let r = s.1.1 in
    let own : clash_of key as_fault (take r.1 xs) later ≡ None = after_only (clash_of key as_fault) [] xs none r.1 later r.5 in
    let found = find_some (λ y. bytes_eq (key y) (key later)) (take r.1 xs) r.0 r.3 (slice_get-take xs r.1 r.0 r.2 ∙ r.4) (ap (λ k. bytes_eq k (key later)) r.6 ∙ name_itself (key later)) in
    let wrong : Some (as_fault found.0 later) ≡ None = rw found.1 at own in
    (let g : ⊥ = cc in g)

-- so it repeats one, in those words
pub clash_repeat : {X : Type 0} (key : X → List ℕ) (as_stated : X → List ℕ → Fault) (words : X → X → List ℕ) (before : List X) (x : X) (f : Fault) → clash_of key (λ y z. as_stated z (words y z)) before x ≡ Some f → (w : List ℕ) × (repeat_of key (λ z. as_stated z w) before x ≡ Some f)
clash_repeat key as_stated words before x f h =
    let own = clash_some key (λ y z. as_stated z (words y z)) before x f h in
    let found = find_at (λ z. bytes_eq (key z) (key x)) before own.0 own.1 in
    let any : list_any (λ z. bytes_eq (key z) (key x)) before ≡ true = any_some (λ z. bytes_eq (key z) (key x)) before found.0 own.0 found.1 (find_passes (λ z. bytes_eq (key z) (key x)) before own.0 own.1) in
    (words own.0 x, rw any (ap Some (sym own.2)))

pub clash_differs : {X : Type 0} (key : X → List ℕ) (as_fault : X → X → Fault) (xs : List X) → first_after (clash_of key as_fault) [] xs ≡ None → AllDiffer (map key xs)
clash_differs key as_fault xs none = record {
  differ = λ i j k at_i at_j. (
      let one = twice i j k at_i at_j in
      let other = twice j i k at_j at_i in
      omega arith);
}
  where
    twice : (i j : ℕ) (k : List ℕ) → slice_get (map key xs) i ≡ Some k → slice_get (map key xs) j ≡ Some k → i < j → ⊥
    twice i j k at_i at_j before =
        let earlier = map_at key xs i k at_i in
        let later = map_at key xs j k at_j in
        clash_unbroken key (λ x w. as_fault x x) as_fault xs none (as_fault later.0 later.0) ([], (later.0, (i, j, before, earlier.0, earlier.1, later.1, earlier.2 ∙ sym later.2), refl))

pub names_agree : (desc : List ℕ) (names : List Id) → Agrees (names_fault desc names) (IsDuplicateName names)
names_agree desc names = record {
  broken = clash_broken (λ (id : Id). lower_case id.name.now) (λ (id : Id) (words : List ℕ). fault_in 25 id.span words) (λ (y : Id) (x : Id). clash desc y.name.now x.name.now) names;
  unbroken = clash_unbroken (λ (id : Id). lower_case id.name.now) (λ (id : Id) (words : List ℕ). fault_in 25 id.span words) (λ (earlier : Id) (later : Id). fault_in 25 later.span (clash desc earlier.name.now later.name.now)) names;
}

-- lists that are empty
empty_broken : {X : Type 0} (number : ℕ) (xs : List X) (span : Span) (f : Fault) → empty_fault number xs span ≡ Some f → IsEmpty number xs span f
empty_broken number [] span f h = (refl, (let same : Some (fault number span) ≡ Some f = h in cc))
empty_broken number (x ∷ xs) span f h = absurd (let g : ⊥ = cc in g)

empty_unbroken : {X : Type 0} (number : ℕ) (xs : List X) (span : Span) → empty_fault number xs span ≡ None → (f : Fault) → IsEmpty number xs span f → ⊥
empty_unbroken number [] span h f e = (let g : ⊥ = cc in g)
empty_unbroken number (x ∷ xs) span h f e = (let none : x ∷ xs ≡ [] = e.0 in let g : ⊥ = cc in g)

pub empty_agrees : {X : Type 0} (number : ℕ) (xs : List X) (span : Span) → Agrees (empty_fault number xs span) (IsEmpty number xs span)
empty_agrees number xs span = record { broken = empty_broken number xs span; unbroken = empty_unbroken number xs span }

-- fields and cases
members_broken : {X : Type 0} (number : ℕ) (desc : List ℕ) (name : X → Id) (span : Span) (xs : List X) (f : Fault) → members_fault number desc name span xs ≡ Some f → AreBroken number name xs span f
members_broken number desc name span xs f h = elim (or_some (empty_fault number xs span) (names_fault desc (map name xs)) f h) [
  | inl empty ↦ inl (empty_broken number xs span f empty)
  | inr far ↦ inr ((names_agree desc (map name xs)).broken f far.1)
]

members_unbroken : {X : Type 0} (number : ℕ) (desc : List ℕ) (name : X → Id) (span : Span) (xs : List X) → members_fault number desc name span xs ≡ None → (f : Fault) → AreBroken number name xs span f → ⊥
members_unbroken number desc name span xs none f broken =
    let both = or_none_both (empty_fault number xs span) (names_fault desc (map name xs)) none in
    elim broken [
      | inl empty ↦ empty_unbroken number xs span both.0 f empty
      | inr repeat ↦ (names_agree desc (map name xs)).unbroken both.1 f repeat
    ]

-- flags
flags_broken : (span : Span) (flags : List Flag) (f : Fault) → flags_fault span flags ≡ Some f → AreBroken 20 (λ (x : Flag). x.name) flags span f ⊎ IsFlagTooMany flags f
flags_broken span flags f h = elim (or_some (empty_fault 20 flags span) (option_or (option_map (λ (flag : Flag). fault 21 flag.name.span) (slice_get flags 32)) (names_fault (codes "flag") (map (λ (x : Flag). x.name) flags))) f h) [
  | inl empty ↦ inl (inl (empty_broken 20 flags span f empty))
  | inr far ↦ elim (or_some (option_map (λ (flag : Flag). fault 21 flag.name.span) (slice_get flags 32)) (names_fault (codes "flag") (map (λ (x : Flag). x.name) flags)) f far.1) [
    | inl many ↦ inr many
    | inr names ↦ inl (inr ((names_agree (codes "flag") (map (λ (x : Flag). x.name) flags)).broken f names.1))
  ]
]

flags_unbroken : (span : Span) (flags : List Flag) → flags_fault span flags ≡ None → (f : Fault) → AreBroken 20 (λ (x : Flag). x.name) flags span f ⊎ IsFlagTooMany flags f → ⊥
flags_unbroken span flags none f broken =
    let both = or_none_both (empty_fault 20 flags span) (option_or (option_map (λ (flag : Flag). fault 21 flag.name.span) (slice_get flags 32)) (names_fault (codes "flag") (map (λ (x : Flag). x.name) flags))) none in
    let rest = or_none_both (option_map (λ (flag : Flag). fault 21 flag.name.span) (slice_get flags 32)) (names_fault (codes "flag") (map (λ (x : Flag). x.name) flags)) both.1 in
    elim broken [
      | inl are ↦ elim are [
        | inl empty ↦ empty_unbroken 20 flags span both.0 f empty
        | inr repeat ↦ (names_agree (codes "flag") (map (λ (x : Flag). x.name) flags)).unbroken rest.1 f repeat
      ]
      | inr many ↦ none-some f (sym rest.0 ∙ many)
    ]

-- the list in the body of a definition
list_broken : (b : TypeBody) (f : Fault) → list_fault b ≡ Some f → IsBrokenList b f
list_broken (body.Record span fields) f h = members_broken 19 (codes "field") (λ (x : Field). x.name) span fields.items f h
list_broken (body.Flags span flags) f h = flags_broken span flags.items f h
list_broken (body.Variant span cases) f h = members_broken 23 (codes "case") (λ (x : Case). x.name) span cases.items f h
list_broken (body.Enum span cases) f h = members_broken 24 (codes "case") (λ (x : EnumCase). x.name) span cases.items f h
list_broken (body.Resource fns) f h = absurd (let g : ⊥ = cc in g)
list_broken (body.Plain t) f h = absurd (let g : ⊥ = cc in g)

list_unbroken : (b : TypeBody) → list_fault b ≡ None → (f : Fault) → IsBrokenList b f → ⊥
list_unbroken (body.Record span fields) none f broken = members_unbroken 19 (codes "field") (λ (x : Field). x.name) span fields.items none f broken
list_unbroken (body.Flags span flags) none f broken = flags_unbroken span flags.items none f broken
list_unbroken (body.Variant span cases) none f broken = members_unbroken 23 (codes "case") (λ (x : Case). x.name) span cases.items none f broken
list_unbroken (body.Enum span cases) none f broken = members_unbroken 24 (codes "case") (λ (x : EnumCase). x.name) span cases.items none f broken
list_unbroken (body.Resource fns) none f broken = broken
list_unbroken (body.Plain t) none f broken = broken

pub list_agrees : (b : TypeBody) → Agrees (list_fault b) (IsBrokenList b)
list_agrees b = record { broken = list_broken b; unbroken = list_unbroken b }

-- the key of a map
can_match : (span : Span) (p : Primitive) → ((is_key (written.Primitive span p) ≡ true) × CanBeKey p) ⊎ ((is_key (written.Primitive span p) ≡ false) × (CanBeKey p → ⊥))
can_match span primitive.Bool = inl (refl, tt)
can_match span primitive.U8 = inl (refl, tt)
can_match span primitive.U16 = inl (refl, tt)
can_match span primitive.U32 = inl (refl, tt)
can_match span primitive.U64 = inl (refl, tt)
can_match span primitive.S8 = inl (refl, tt)
can_match span primitive.S16 = inl (refl, tt)
can_match span primitive.S32 = inl (refl, tt)
can_match span primitive.S64 = inl (refl, tt)
can_match span primitive.F32 = inr (refl, λ h. h)
can_match span primitive.F64 = inr (refl, λ h. h)
can_match span primitive.Char = inl (refl, tt)
can_match span primitive.String = inl (refl, tt)
can_match span primitive.ErrorContext = inr (refl, λ h. h)

key_match : (t : Written) → ((is_key t ≡ true) × IsKey t) ⊎ ((is_key t ≡ false) × (IsKey t → ⊥))
key_match (written.Primitive span p) = can_match span p
key_match (written.Name id) = inr (refl, λ h. h)
key_match (written.List' span p t) = inr (refl, λ h. h)
key_match (written.FixedLengthList' span p t size) = inr (refl, λ h. h)
key_match (written.Map' span p key q value) = inr (refl, λ h. h)
key_match (written.Option' span p t) = inr (refl, λ h. h)
key_match (written.Result span of) = inr (refl, λ h. h)
key_match (written.Tuple' span shape ts) = inr (refl, λ h. h)
key_match (written.Future' span t) = inr (refl, λ h. h)
key_match (written.Stream' span t) = inr (refl, λ h. h)
key_match (written.Own span id) = inr (refl, λ h. h)
key_match (written.Borrow span id) = inr (refl, λ h. h)

key_broken : (key : Written) (span : Span) (f : Fault) → key_fault key span ≡ Some f → IsInvalidKey key span f
key_broken key span f h = elim (key_match key) [
  | inl one ↦ (let wrong : None ≡ Some f = rw one.0 at h in let g : ⊥ = cc in absurd g)
  | inr none ↦ (let same : Some (fault 26 span) ≡ Some f = rw none.0 at h in (none.1, (let is : f ≡ fault 26 span = cc in is)))
]

key_unbroken : (key : Written) (span : Span) → key_fault key span ≡ None → (f : Fault) → IsInvalidKey key span f → ⊥
key_unbroken key span h f broken = elim (key_match key) [
  | inl one ↦ broken.0 one.1
  | inr none ↦ (let wrong : Some (fault 26 span) ≡ None = rw none.0 at h in (let g : ⊥ = cc in g))
]

pub key_agrees : (key : Written) (span : Span) → Agrees (key_fault key span) (IsInvalidKey key span)
key_agrees key span = record { broken = key_broken key span; unbroken = key_unbroken key span }
