-- Tests for equality of interfaces and worlds, which decide whether they are the same but for the order of their maps.
use Rattle.std.proofs.Common.{◌≡◌, ℕ, nat_eq, List, [], ◌∷◌, ◌&&◌, Bool, Option, Some, None, ap, refl, rules}
use Rattle.std.specs.Bool.{Decides}
use Rattle.std.specs.Cmp.{IsEquivalence, decided}
use Rattle.std.specs.Cmp.Lexicographic.{nat_list_eq_equiv, pointwise}
use Rattle.std.specs.HashMap.{entries_eq}
use Rattle.std.specs.HashMap.Eq.{get_from_hash_map_eq, hash_map_eq_from_get}
use Rattle.std.specs.Option.{option_eq}
use Rattle.std.proofs.lemmas.Bool.Decides.{Decides-and, Decides-at, Decides-eqb, Decides-like}
use Rattle.std.proofs.lemmas.Map.Lookups.{hash_map_eq-Decides}
use Rattle.indexmap.specs.Layout.{hash_map}
use Rattle.wit_types.proofs.Same.{Decides-docs, Decides-option, Decides-optional_text, Decides-row, Decides-span, Decides-stability, Decides-text, Decides-type_def}
use Rattle.wit_values.specs.contracts.span.SpanPartialEq.TheImpl.{eq-value as span_test}
use Rattle.wit_values.specs.declared.span.Span.{Span}
use Rattle.wit_functions.proofs.Same.{Decides-function}
use Rattle.wit_model.proofs.Same.{Decides-include, Decides-world_item}
use Rattle.wit_types.specs.contracts.stability.StabilityPartialEq.TheImpl.{eq-value as stability_test}
use Rattle.wit_types.specs.declared.stability.Stability.{Stability}
use Rattle.wit_model.specs.SamePackages.{AreBothSame, AreSame, HoldSamePairs, HoldSameValues, IsSameInterface, IsSamePackage, IsSameWorld, is_same_key, is_same_name, is_same_package_name}
use Rattle.wit_model.specs.contracts.ast_item.AstItemPartialEq.TheImpl.{eq-value as ast_item_test}
use Rattle.wit_model.specs.declared.ast_item.AstItem.{AstItem}
use Rattle.wit_model.specs.contracts.interface.InterfacePartialEq.TheImpl.{eq-value as interface_test}
use Rattle.wit_model.specs.contracts.world.WorldItemPartialEq.TheImpl.{eq-value as world_item_test}
use Rattle.wit_model.specs.contracts.world.WorldKeyPartialEq.TheImpl.{eq-value as key_test}
use Rattle.wit_model.specs.contracts.world.WorldPartialEq.TheImpl.{eq-value as world_test}
use Rattle.wit_model.specs.contracts.unresolved.UnresolvedPackagePartialEq.TheImpl.{eq-value as package_test}
use Rattle.wit_package_names.specs.contracts.package_name.PackageNamePartialEq.TheImpl.{eq-value as name_test}
use Rattle.wit_model.specs.declared.unresolved.UnresolvedPackage.{UnresolvedPackage}
use Rattle.wit_package_names.specs.declared.package_name.PackageName.{PackageName}
use Rattle.wit_model.specs.declared.interface.Interface.{Interface}
use Rattle.wit_model.specs.declared.world.World.{World}
use Rattle.wit_model.specs.declared.world.WorldItem.{WorldItem}
use Rattle.wit_model.specs.declared.world.WorldKey.{WorldKey}
use Rattle.wit_model.specs.declared.world.WorldKey.TheVariants as key

-- where the tests decide keys and values, that of maps decides whether they hold the same pairs
pub Decides-map : {K V : Type 0} {R : K → K → Bool} {E : V → V → Bool} → IsEquivalence R → ((a b : V) → Decides (E a b) (a ≡ b)) → (xs ys : List (K × V)) → Decides (entries_eq R (λ p q. E p.1 q.1) xs ys) (HoldSamePairs R xs ys)
Decides-map keys values xs ys = hash_map_eq-Decides keys values (hash_map {S = Unit {0}} xs tt 0) (hash_map {S = Unit {0}} ys tt 0) _ refl

Decides-named : {V : Type 0} {E : V → V → Bool} → ((a b : V) → Decides (E a b) (a ≡ b)) → (xs ys : List (List ℕ × V)) → Decides (entries_eq is_same_name (λ p q. E p.1 q.1) xs ys) (HoldSamePairs is_same_name xs ys)
Decides-named = Decides-map nat_list_eq_equiv

Decides-id : (a b : ℕ) → Decides (nat_eq a b) (a ≡ b)
Decides-id = Decides-eqb

Decides-key : (a b : WorldKey) → Decides (is_same_key a b) (a ≡ b)
Decides-key (key.Name a) (key.Name b) = search (rules, Decides-text)
Decides-key (key.Name a) (key.Interface j) = search rules
Decides-key (key.Interface i) (key.Name b) = search rules
Decides-key (key.Interface i) (key.Interface j) = search rules

key_test-same : (a b : WorldKey) → key_test.it a b ≡ is_same_key a b
key_test-same (key.Name a) (key.Name b) = refl
key_test-same (key.Name a) (key.Interface j) = refl
key_test-same (key.Interface i) (key.Name b) = refl
key_test-same (key.Interface i) (key.Interface j) = refl

Decides-items : (xs ys : List (WorldKey × WorldItem)) → Decides (entries_eq key_test.it (λ p q. world_item_test.it p.1 q.1) xs ys) (HoldSamePairs is_same_key xs ys)
Decides-items xs ys = Decides-at _ _ (λ i. entries_eq (λ a b. key_test-same a b i) (λ p q. world_item_test.it p.1 q.1) xs ys) (Decides-map (decided is_same_key Decides-key) Decides-world_item xs ys)

pub Decides-interface : (a b : Interface) → Decides (interface_test.it a b) (IsSameInterface a b)
Decides-interface a b = Decides-like _ (λ e. record { name = e.0; types = e.1.0; functions = e.1.1.0; docs = e.1.1.1.0; stability = e.1.1.1.1.0; «package» = e.1.1.1.1.1.0; span = e.1.1.1.1.1.1.0; clone_of = e.1.1.1.1.1.1.1 }) (λ s. (s.name, (s.types, (s.functions, (s.docs, (s.stability, (s.package, (s.span, s.clone_of)))))))) (Decides-and _ _ (Decides-optional_text a.name b.name) (Decides-and _ _ (Decides-named Decides-id a.types b.types) (Decides-and _ _ (Decides-named Decides-function a.functions b.functions) (Decides-and _ _ (Decides-docs a.docs b.docs) (Decides-and _ _ (Decides-stability a.stability b.stability) (Decides-and _ _ (Decides-option Decides-id a.package b.package) (Decides-and _ _ (Decides-span a.span b.span) (Decides-option Decides-id a.clone_of b.clone_of))))))))

pub Decides-world : (a b : World) → Decides (world_test.it a b) (IsSameWorld a b)
Decides-world a b = Decides-like _ (λ e. record { name = e.0; imports = e.1.0; exports = e.1.1.0; «package» = e.1.1.1.0; docs = e.1.1.1.1.0; stability = e.1.1.1.1.1.0; includes = e.1.1.1.1.1.1.0; span = e.1.1.1.1.1.1.1 }) (λ s. (s.name, (s.imports, (s.exports, (s.package, (s.docs, (s.stability, (s.includes, s.span)))))))) (Decides-and _ _ (Decides-text a.name b.name) (Decides-and _ _ (Decides-items a.imports b.imports) (Decides-and _ _ (Decides-items a.exports b.exports) (Decides-and _ _ (Decides-option Decides-id a.package b.package) (Decides-and _ _ (Decides-docs a.docs b.docs) (Decides-and _ _ (Decides-stability a.stability b.stability) (Decides-and _ _ (Decides-row Decides-include a.includes b.includes) (Decides-span a.span b.span))))))))

-- where a test decides sameness of values, that of lists decides it one by one
pub Decides-lists : {X : Type 0} {R : X → X → Type 0} {E : X → X → Bool} → ((a b : X) → Decides (E a b) (R a b)) → (xs ys : List X) → Decides (pointwise E xs ys) (AreSame R xs ys)
Decides-lists same [] [] = (λ e. tt, λ h. refl)
Decides-lists same [] (y ∷ ys) = (λ e. cc, λ h. absurd h)
Decides-lists same (x ∷ xs) [] = (λ e. cc, λ h. absurd h)
Decides-lists same (x ∷ xs) (y ∷ ys) = Decides-and _ _ (same x y) (Decides-lists same xs ys)

Decides-package_name : (a b : PackageName) → Decides (name_test.it a b) (a ≡ b)
Decides-package_name a b = search rules

Decides-both : {X : Type 0} {R : X → X → Type 0} {E : X → X → Bool} → ((a b : X) → Decides (E a b) (R a b)) → (x y : Option X) → Decides (option_eq E x y) (AreBothSame R x y)
Decides-both same None None = (λ e. tt, λ h. refl)
Decides-both same None (Some y) = (λ e. cc, λ h. absurd h)
Decides-both same (Some x) None = (λ e. cc, λ h. absurd h)
Decides-both same (Some x) (Some y) = same x y

-- where a test decides sameness of values, that of maps decides it key by key
Decides-values : {K V : Type 0} {R : K → K → Bool} {S : V → V → Type 0} {E : V → V → Bool} → IsEquivalence R → ((a b : V) → Decides (E a b) (S a b)) → (xs ys : List (K × V)) → Decides (entries_eq R (λ p q. E p.1 q.1) xs ys) (HoldSameValues R S xs ys)
Decides-values {R = R} {E = E} keys values xs ys = (
  λ e k. (Decides-both values _ _).0 (get_from_hash_map_eq R E keys (hash_map {S = Unit {0}} xs tt 0) (hash_map {S = Unit {0}} ys tt 0) e k),
  λ h. hash_map_eq_from_get R E (hash_map {S = Unit {0}} xs tt 0) (hash_map {S = Unit {0}} ys tt 0) (λ k. (Decides-both values _ _).1 (h k)),
)

Decides-ast_item : (a b : AstItem) → Decides (ast_item_test.it a b) (a ≡ b)
Decides-ast_item a b = search rules

-- an item with its visits
abbrev Visited : Type 0
Visited = AstItem × List Stability

abbrev visited_test : Visited → Visited → Bool
visited_test a b = ast_item_test.it a.0 b.0 && pointwise stability_test.it a.1 b.1

same_pair : {A B : Type 0} {p q : A × B} → (p.0 ≡ q.0) × (p.1 ≡ q.1) → p ≡ q
same_pair h = λ i. (h.0 i, h.1 i)

Decides-visited : (a b : Visited) → Decides (visited_test a b) (a ≡ b)
Decides-visited a b = Decides-like _ same_pair (λ e. (ap (λ v. v.0) e, ap (λ v. v.1) e)) (Decides-and _ _ (Decides-ast_item a.0 b.0) (Decides-row Decides-stability a.1 b.1))

Decides-same_package_name : (a b : PackageName) → Decides (is_same_package_name a b) (a ≡ b)
Decides-same_package_name a b = Decides-package_name a b

Decides-foreign : (xs ys : List (PackageName × List (List ℕ × Visited))) → Decides (entries_eq name_test.it (λ p q. entries_eq is_same_name (λ v w. visited_test v.1 w.1) p.1 q.1) xs ys) (HoldSameValues is_same_package_name (HoldSamePairs is_same_name) xs ys)
Decides-foreign xs ys = Decides-values (decided is_same_package_name Decides-same_package_name) (Decides-named Decides-visited) xs ys

-- a type that a handle requires, and where it is named
abbrev Required : Type 0
Required = ℕ × Span

Decides-required : (a b : Required) → Decides (nat_eq a.0 b.0 && span_test.it a.1 b.1) (a ≡ b)
Decides-required a b = Decides-like _ same_pair (λ e. (ap (λ r. r.0) e, ap (λ r. r.1) e)) (Decides-and _ _ (Decides-id a.0 b.0) (Decides-span a.1 b.1))

pub Decides-package : (a b : UnresolvedPackage) → Decides (package_test.it a b) (IsSamePackage a b)
Decides-package a b = Decides-like _ (λ e. record { name = e.0; worlds = e.1.0; interfaces = e.1.1.0; types = e.1.1.1.0; foreign_deps = e.1.1.1.1.0; docs = e.1.1.1.1.1.0; name_span = e.1.1.1.1.1.1.0; unknown_type_spans = e.1.1.1.1.1.1.1.0; foreign_dep_spans = e.1.1.1.1.1.1.1.1.0; required_resource_types = e.1.1.1.1.1.1.1.1.1 }) (λ s. (s.name, (s.worlds, (s.interfaces, (s.types, (s.foreign_deps, (s.docs, (s.name_span, (s.unknown_type_spans, (s.foreign_dep_spans, s.required_resource_types)))))))))) (Decides-and _ _ (Decides-package_name a.name b.name) (Decides-and _ _ (Decides-lists Decides-world a.worlds b.worlds) (Decides-and _ _ (Decides-lists Decides-interface a.interfaces b.interfaces) (Decides-and _ _ (Decides-row Decides-type_def a.types b.types) (Decides-and _ _ (Decides-foreign a.foreign_deps b.foreign_deps) (Decides-and _ _ (Decides-docs a.docs b.docs) (Decides-and _ _ (Decides-span a.name_span b.name_span) (Decides-and _ _ (Decides-row Decides-span a.unknown_type_spans b.unknown_type_spans) (Decides-and _ _ (Decides-row Decides-span a.foreign_dep_spans b.foreign_dep_spans) (Decides-row Decides-required a.required_resource_types b.required_resource_types))))))))))
