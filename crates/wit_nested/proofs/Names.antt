-- The names of the packages of a group: E53 is what is refused where the packages are made.
use Rattle.std.proofs.Common.{◌≡◌, ℕ, zero, suc, Bool, true, false, List, [], ◌∷◌, ◌++◌, take, Option, Some, None, inl, inr, refl, sym, ap, ◌∙◌, subst, append_assoc, map, arith}
use Rattle.wit_items.proofs.Common.{Agrees, AllDiffer, AllZip, Contains, Fault, IsMadeOf, IsSamePackage, NestedPackage, PackageName, SourceFile, Span, UnresolvedPackage, after-at, after_only, after_some, any_found, any_some, append-nil, at_contains, at_take, contains_at, differ_at, differ_more, differ_none, fault_in, first_after, last_header, list_any, map-append, map_at, none_both, option_map, or_none_both, or_some, package_of, package_words, same_package, same_package-equal, same_package-from, slice_get, slice_get-map, take-map}
use Rattle.wit_tree.specs.declared.tree.PackageName.{PackageName as Header}
use Rattle.wit_parser.proofs.Pushing.{package_same, same_by}
use Rattle.wit_nested.specs.Nested.{IsMadeByNested}
use Rattle.wit_nested.specs.PackageNames.{IsRepeatedPackage, package_names}
use Rattle.wit_nested.specs.GroupFaults.{AgreeOnNames, repeat_fault, named_twice, names_fault, nested_names, IsNamedTwice}
use Rattle.wit_nested.specs.PushFaults.{files_of, nested_of}
use Rattle.wit_nested.proofs.Pushes.{none_of}

-- whether a package is one of these
abbrev is_one : Header → Header → Bool
is_one own h = same_package (package_of h) (package_of own)

repeat_is : (before : List Header) (own : Header) (f : Fault) → repeat_fault before own ≡ Some f → (h : Header) × Contains before h × IsSamePackage h own × (f ≡ named_twice own)
repeat_is before own f h = by (list_any (is_one own) before) refl
  where
    by : (b : Bool) → list_any (is_one own) before ≡ b → (h : Header) × Contains before h × IsSamePackage h own × (f ≡ named_twice own)
    by false is = absurd (let wrong : None ≡ Some f = rw is at h in let g : ⊥ = cc in g)
    by true is = (
        let same : Some (named_twice own) ≡ Some f = rw is at h in
        let it = any_found (is_one own) before is in
        (it.1, contains_at before it.0 it.1 it.2, package_same it.1 own it.3, (let says : f ≡ named_twice own = cc in says)))

repeat_here : (before : List Header) (own h : Header) → Contains before h → IsSamePackage h own → repeat_fault before own ≡ Some (named_twice own)
repeat_here before own h among same = (
    let at = at_contains before h among in
    let any = any_some (is_one own) before at.0 h at.1 (same_by h own same) in
    rw any refl)

names_broken : (main : Option Header) (nested : List Header) (f : Fault) → names_fault main nested ≡ Some f → IsNamedTwice main nested f
names_broken None nested f h = absurd (let g : ⊥ = cc in g)
names_broken (Some own) nested f h =
    let it = after_some repeat_fault (own ∷ []) nested f h in
    let r = repeat_is (own ∷ take it.0 nested) it.1 f it.3 in
    record { own = own; named = refl; place = it.0; later = it.1; present = it.2; before = r.0; among = r.1; same = r.2; is = r.3 }

names_unbroken : (main : Option Header) (nested : List Header) → names_fault main nested ≡ None → (f : Fault) → IsNamedTwice main nested f → ⊥
names_unbroken main nested none f t =
    let there : names_fault (Some t.own) nested ≡ None = ap (λ (o : Option Header). names_fault o nested) (sym t.named) ∙ none in
    let own = after_only repeat_fault (t.own ∷ []) nested there t.place t.later t.present in
    let wrong : None ≡ Some (named_twice t.later) = sym own ∙ repeat_here (t.own ∷ take t.place nested) t.later t.before t.among t.same in
    (let g : ⊥ = cc in g)

pub names_agree : (main : Option Header) (nested : List Header) → Agrees (names_fault main nested) (IsNamedTwice main nested)
names_agree main nested = record { broken = names_broken main nested; unbroken = names_unbroken main nested }

-- the first item that has a fault comes after items that have none
pub after_first : {X : Type 0} (w : List X → X → Option Fault) (before xs : List X) (f : Fault) → first_after w before xs ≡ Some f
    → (i : ℕ) × (x : X) × (slice_get xs i ≡ Some x) × (first_after w before (take i xs) ≡ None) × (w (before ++ take i xs) x ≡ Some f)
after_first w before [] f h = absurd (let g : ⊥ = cc in g)
after_first w before (x ∷ xs) f h = elim (or_some (w before x) (first_after w (before ++ x ∷ []) xs) f h) [
  | inl own ↦ (0, x, refl, refl, subst (λ (l : List _). w l x ≡ Some f) (sym (append-nil before)) own)
  | inr far ↦ (
      let rest = after_first w (before ++ x ∷ []) xs f far.1 in
      (suc rest.0, rest.1, rest.2, none_both far.0 rest.3, subst (λ (l : List _). w l rest.1 ≡ Some f) (append_assoc before (x ∷ []) (take rest.0 xs)) rest.4))
]

-- one that is none of these, where it has no fault
new_name : (before : List Header) (own : Header) (i : ℕ) → repeat_fault before own ≡ None → slice_get (map package_of before) i ≡ Some (package_of own) → ⊥
new_name before own i none at =
    let it = map_at package_of before i (package_of own) at in
    let wrong : None ≡ Some (named_twice own) = sym none ∙ repeat_here before own it.0 (contains_at before i it.0 it.1) (package_same it.0 own (same_package-from (package_of it.0) (package_of own) it.2)) in
    (let g : ⊥ = cc in g)

-- without a fault no two names are one
apart : (before xs : List Header) → AllDiffer (map package_of before) → first_after repeat_fault before xs ≡ None → AllDiffer (map package_of (before ++ xs))
apart before [] d none = subst (λ (hs : List Header). AllDiffer (map package_of hs)) (sym (append-nil before)) d
apart before (x ∷ xs) d none =
    let both = or_none_both (repeat_fault before x) (first_after repeat_fault (before ++ x ∷ []) xs) none in
    let more = differ_more (map package_of before) (package_of x) d (λ i at. new_name before x i both.0 at) in
    subst (λ (hs : List Header). AllDiffer (map package_of hs)) (append_assoc before (x ∷ []) xs)
    (apart (before ++ x ∷ []) xs (subst AllDiffer (sym (map-append package_of before (x ∷ []))) more) both.1)

names_apart : (own : Header) (xs : List Header) → names_fault (Some own) xs ≡ None → AllDiffer (map package_of (own ∷ xs))
names_apart own xs none = apart (own ∷ []) xs (differ_more [] (package_of own) differ_none (λ i at. (let g : ⊥ = cc in g))) none

-- and back
not_twice : (own : Header) (xs : List Header) → AllDiffer (map package_of (own ∷ xs)) → (f : Fault) → IsNamedTwice (Some own) xs f → ⊥
not_twice own xs d f t =
    let first : own ≡ t.own = (let e = t.named in cc) in
    let among : Contains (take (suc t.place) (own ∷ xs)) t.before = subst (λ (h : Header). Contains (h ∷ take t.place xs) t.before) (sym first) t.among in
    let at = at_contains (take (suc t.place) (own ∷ xs)) t.before among in
    let there = at_take (own ∷ xs) (suc t.place) at.0 t.before at.1 in
    let same = differ_at package_of (own ∷ xs) d at.0 (suc t.place) t.before t.later there.0 t.present (same_package-equal (package_of t.before) (package_of t.later) (same_by t.before t.later t.same)) in
    let lt = there.1 in
    omega arith

names_none : (own : Header) (xs : List Header) → AllDiffer (map package_of (own ∷ xs)) → names_fault (Some own) xs ≡ None
names_none own xs d = none_of (names_fault (Some own) xs) (names_agree (Some own) xs) (not_twice own xs d)

-- where packages are made, they have the names that are written
one_named : (n : NestedPackage) (p : UnresolvedPackage) → IsMadeByNested n p → package_of n.name ≡ p.name
one_named n p m = (let is : Some (package_of n.name) ≡ Some p.name = m.made.whole.name in cc)

one_spanned : (n : NestedPackage) (p : UnresolvedPackage) → IsMadeByNested n p → n.name.span ≡ p.name_span
one_spanned n p m = (let is : Some n.name.span ≡ Some p.name_span = m.made.whole.name_span in cc)

one_refused : (n : NestedPackage) (p : UnresolvedPackage) → IsMadeByNested n p → named_twice n.name ≡ fault_in 53 p.name_span (package_words p.name)
one_refused n p m =
    ap (λ (s : Span). fault_in 53 s (package_words (package_of n.name))) (one_spanned n p m)
    ∙ ap (λ (q : PackageName). fault_in 53 p.name_span (package_words q)) (one_named n p m)

all_named : (ns : List NestedPackage) (ps : List UnresolvedPackage) → AllZip IsMadeByNested ns ps → map package_of (map (λ (n : NestedPackage). n.name) ns) ≡ package_names ps
all_named [] [] each = refl
all_named [] (p ∷ ps) each = absurd each
all_named (n ∷ ns) [] each = absurd each
all_named (n ∷ ns) (p ∷ ps) each =
    ap (λ (q : PackageName). q ∷ map package_of (map (λ (m : NestedPackage). m.name) ns)) (one_named n p each.0) ∙ ap (λ (qs : List PackageName). p.name ∷ qs) (all_named ns ps each.1)

-- an item of a list that is made of another
map_one : {A B : Type 0} (f : A → B) (xs : List A) (i : ℕ) (x : A) → slice_get xs i ≡ Some x → slice_get (map f xs) i ≡ Some (f x)
map_one f xs i x at = slice_get-map f xs i ∙ ap (option_map f) at

-- items of two lists at one place
zip_at : {A B : Type 0} (R : A → B → Type 0) (xs : List A) (ys : List B) → AllZip R xs ys → (i : ℕ) (x : A) → slice_get xs i ≡ Some x → (y : B) × (slice_get ys i ≡ Some y) × R x y
zip_at R [] ys all i x at = absurd (let f : ⊥ = cc in f)
zip_at R (a ∷ xs) [] all i x at = absurd all
zip_at R (a ∷ xs) (b ∷ ys) all zero x at = (let e : a ≡ x = cc in (b, refl, subst (λ z. R z b) e all.0))
zip_at R (a ∷ xs) (b ∷ ys) all (suc i) x at = zip_at R xs ys all.1 i x at

zip_back : {A B : Type 0} (R : A → B → Type 0) (xs : List A) (ys : List B) → AllZip R xs ys → (i : ℕ) (y : B) → slice_get ys i ≡ Some y → (x : A) × (slice_get xs i ≡ Some x) × R x y
zip_back R xs [] all i y at = absurd (let f : ⊥ = cc in f)
zip_back R [] (b ∷ ys) all i y at = absurd all
zip_back R (a ∷ xs) (b ∷ ys) all zero y at = (let e : b ≡ y = cc in (a, refl, subst (λ z. R a z) e all.0))
zip_back R (a ∷ xs) (b ∷ ys) all (suc i) y at = zip_back R xs ys all.1 i y at

-- a main package and nested ones, and the names that are written
module _ (own : Header) (main : UnresolvedPackage) (ns : List NestedPackage) (nested : List UnresolvedPackage) (named : package_of own ≡ main.name) (each : AllZip IsMadeByNested ns nested) where
  abbrev hs : List Header
  hs = map (λ (n : NestedPackage). n.name) ns

  all_names : map package_of (own ∷ hs) ≡ package_names (main ∷ nested)
  all_names = ap (λ (q : PackageName). q ∷ map package_of hs) named ∙ ap (λ (qs : List PackageName). main.name ∷ qs) (all_named ns nested each)

  -- those before a place
  some_names : (i : ℕ) → map package_of (own ∷ take i hs) ≡ package_names (main ∷ take i nested)
  some_names i = sym (take-map package_of (suc i) (own ∷ hs)) ∙ ap (take (suc i)) all_names ∙ take-map (λ (p : UnresolvedPackage). p.name) (suc i) (main ∷ nested)

  repeated_package : (f : Fault) → names_fault (Some own) hs ≡ Some f → IsRepeatedPackage main nested f
  repeated_package f h =
      let it = after_first repeat_fault (own ∷ []) hs f h in
      let r = repeat_is (own ∷ take it.0 hs) it.1 f it.4 in
      let n = map_at (λ (n : NestedPackage). n.name) ns it.0 it.1 it.2 in
      let p = zip_at IsMadeByNested ns nested each it.0 n.0 n.1 in
      let at = at_contains (own ∷ take it.0 hs) r.0 r.1 in
      let key : package_of r.0 ≡ p.0.name = same_package-equal (package_of r.0) (package_of it.1) (same_by r.0 it.1 r.2) ∙ ap package_of (sym n.2) ∙ one_named n.0 p.0 p.2 in
      let keyed : slice_get (map package_of (own ∷ take it.0 hs)) at.0 ≡ Some p.0.name = map_one package_of (own ∷ take it.0 hs) at.0 r.0 at.1 ∙ ap Some key in
      record {
        later = p.0;
        again = record {
          place = it.0;
          present = p.1;
          again = subst (λ (ks : List PackageName). Contains ks p.0.name) (some_names it.0) (contains_at (map package_of (own ∷ take it.0 hs)) at.0 p.0.name keyed);
          apart = subst AllDiffer (some_names it.0) (names_apart own (take it.0 hs) it.3);
        };
        is = r.3 ∙ ap (λ (h : Header). named_twice h) (sym n.2) ∙ one_refused n.0 p.0 p.2;
      }

  package_repeated : (f : Fault) → IsRepeatedPackage main nested f → names_fault (Some own) hs ≡ Some f
  package_repeated f r =
      let i = r.again.place in
      let n = zip_back IsMadeByNested ns nested each i r.later r.again.present in
      let own_at : slice_get hs i ≡ Some n.0.name = map_one (λ (n : NestedPackage). n.name) ns i n.0 n.1 in
      let at = at_contains (package_names (main ∷ take i nested)) r.later.name r.again.again in
      let it = map_at package_of (own ∷ take i hs) at.0 r.later.name (ap (λ (ks : List PackageName). slice_get ks at.0) (some_names i) ∙ at.1) in
      let same : package_of it.0 ≡ package_of n.0.name = it.2 ∙ sym (one_named n.0 r.later n.2) in
      let none : names_fault (Some own) (take i hs) ≡ None = names_none own (take i hs) (subst AllDiffer (sym (some_names i)) r.again.apart) in
      let wrong = repeat_here (own ∷ take i hs) n.0.name it.0 (contains_at (own ∷ take i hs) at.0 it.0 it.1) (package_same it.0 n.0.name (same_package-from (package_of it.0) (package_of n.0.name) same)) in
      let is : named_twice n.0.name ≡ f = one_refused n.0 r.later n.2 ∙ sym r.is in
      after-at repeat_fault (own ∷ hs) (suc i) n.0.name f own_at none (wrong ∙ ap Some is)

  on_names : AgreeOnNames (names_fault (Some own) hs) main nested
  on_names = record {
    repeated = λ f. (repeated_package f, package_repeated f);
    apart = (λ none. subst AllDiffer all_names (names_apart own hs none), λ d. names_none own hs (subst AllDiffer (sym all_names) d));
  }

-- a header is there, where it names a package
header_there : (o : Option Header) (n : PackageName) → option_map package_of o ≡ Some n → (h : Header) × (o ≡ Some h) × (package_of h ≡ n)
header_there None n named = absurd (let f : ⊥ = cc in f)
header_there (Some h) n named = (let same : package_of h ≡ n = cc in (h, refl, same))

pub made_names : (sources : List SourceFile) (main : UnresolvedPackage) (nested : List UnresolvedPackage) → IsMadeOf (files_of sources) main → AllZip IsMadeByNested (nested_of sources) nested
    → AgreeOnNames (names_fault (last_header (files_of sources)) (nested_names sources)) main nested
made_names sources main nested made each =
    let own = header_there (last_header (files_of sources)) main.name made.whole.name in
    subst (λ (o : Option Header). AgreeOnNames (names_fault o (nested_names sources)) main nested) (sym own.1) (on_names own.0 main (nested_of sources) nested own.2 each)
