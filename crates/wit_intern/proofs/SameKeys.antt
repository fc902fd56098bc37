-- The test for equality of keys decides whether they are the same.
use Rattle.std.proofs.Common.{◌≡◌, Option, ap, refl, rules}
use Rattle.std.specs.Bool.{Decides}
use Rattle.std.specs.Option.{option_eq}
use Rattle.std.proofs.lemmas.Bool.Decides.{Decides-and, Decides-eqb, Decides-like}
use Rattle.wit_types.proofs.Same.{Decides-optional_type, Decides-row, Decides-type}
use Rattle.wit_types.specs.contracts.types.TypePartialEq.TheImpl.{eq-value as type_test}
use Rattle.wit_types.specs.declared.types.«Type».{«Type» as Ty}
use Rattle.wit_intern.specs.contracts.key.InternKeyPartialEq.TheImpl.{eq-value as key_test}
use Rattle.wit_intern.specs.declared.key.InternKey.{InternKey}
use Rattle.wit_intern.specs.declared.key.InternKey.TheVariants as key

two : {A B : Type 0} (make : A → B → InternKey) {a c : A} {b d : B} → (a ≡ c) × (b ≡ d) → make a b ≡ make c d
two make e = rw (e.0, e.1) refl

-- a form with one type, or with one that may be left out
one_type : (make : Ty → InternKey) → ((x y : Ty) → make x ≡ make y → x ≡ y) → (x y : Ty) → Decides (type_test.it x y) (make x ≡ make y)
one_type make as_stated x y = Decides-like _ (λ e. ap make e) (as_stated x y) (Decides-type x y)

one_optional : (make : Option Ty → InternKey) → ((x y : Option Ty) → make x ≡ make y → x ≡ y) → (x y : Option Ty) → Decides (option_eq type_test.it x y) (make x ≡ make y)
one_optional make as_stated x y = Decides-like _ (λ e. ap make e) (as_stated x y) (Decides-optional_type x y)

pub Decides-key : (a b : InternKey) → Decides (key_test.it a b) (a ≡ b)
Decides-key (key.Borrow i) b = search rules
Decides-key (key.Tuple x) (key.Tuple y) = Decides-like _ (λ e. ap (λ l. key.Tuple l) e) (λ e. search rules) (Decides-row Decides-type x y)
Decides-key (key.Tuple x) b = search rules
Decides-key (key.List x) (key.List y) = one_type key.List (λ u v e. search rules) x y
Decides-key (key.List x) b = search rules
Decides-key (key.Map x y) (key.Map u v) = Decides-like _ (two (λ k w. key.Map k w)) (λ e. search rules) (Decides-and _ _ (Decides-type x u) (Decides-type y v))
Decides-key (key.Map x y) b = search rules
Decides-key (key.FixedLengthList x m) (key.FixedLengthList y n) = Decides-like _ (two (λ k w. key.FixedLengthList k w)) (λ e. search rules) (Decides-and _ _ (Decides-type x y) (Decides-eqb m n))
Decides-key (key.FixedLengthList x m) b = search rules
Decides-key (key.Option x) (key.Option y) = one_type key.Option (λ u v e. search rules) x y
Decides-key (key.Option x) b = search rules
Decides-key (key.Result x y) (key.Result u v) = Decides-like _ (two (λ k w. key.Result k w)) (λ e. search rules) (Decides-and _ _ (Decides-optional_type x u) (Decides-optional_type y v))
Decides-key (key.Result x y) b = search rules
Decides-key (key.Future x) (key.Future y) = one_optional key.Future (λ u v e. search rules) x y
Decides-key (key.Future x) b = search rules
Decides-key (key.Stream x) (key.Stream y) = one_optional key.Stream (λ u v e. search rules) x y
Decides-key (key.Stream x) b = search rules
