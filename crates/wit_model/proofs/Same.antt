-- Tests for equality of what worlds are made of, which decide whether they are the same.
use Rattle.std.proofs.Common.{◌≡◌, ℕ, nat_eq, List, ◌&&◌, Option, refl, rules}
use Rattle.std.specs.Bool.{Decides}
use Rattle.std.specs.Option.{option_eq}
use Rattle.std.specs.Cmp.Lexicographic.{pointwise}
use Rattle.std.proofs.lemmas.Bool.Decides.{Decides-and, Decides-eqb, Decides-like}
use Rattle.wit_values.specs.contracts.span.SpanPartialEq.TheImpl.{eq-value as span_test}
use Rattle.wit_values.specs.declared.span.Span.{Span}
use Rattle.wit_types.specs.contracts.docs.DocsPartialEq.TheImpl.{eq-value as docs_test}
use Rattle.wit_types.specs.contracts.stability.StabilityPartialEq.TheImpl.{eq-value as stability_test}
use Rattle.wit_types.specs.declared.docs.Docs.{Docs}
use Rattle.wit_types.specs.declared.stability.Stability.{Stability}
use Rattle.wit_types.proofs.Same.{Decides-docs, Decides-optional_text, Decides-row, Decides-span, Decides-stability}
use Rattle.wit_functions.proofs.Same.{Decides-function}
use Rattle.wit_model.specs.contracts.world.WorldItemPartialEq.TheImpl.{eq-value as world_item_test}
use Rattle.wit_model.specs.declared.world.WorldItem.{WorldItem}
use Rattle.wit_model.specs.declared.world.WorldItem.TheVariants as item
use Rattle.wit_model.specs.contracts.world.IncludeNamePartialEq.TheImpl.{eq-value as include_name_test}
use Rattle.wit_model.specs.declared.world.IncludeName.{IncludeName}
use Rattle.wit_model.specs.contracts.world.WorldIncludePartialEq.TheImpl.{eq-value as include_test}
use Rattle.wit_model.specs.declared.world.WorldInclude.{WorldInclude}

pub Decides-include_name : (a b : IncludeName) → Decides (include_name_test.it a b) (a ≡ b)
Decides-include_name a b = search rules

pub Decides-include : (a b : WorldInclude) → Decides (include_test.it a b) (a ≡ b)
Decides-include a b = let names = Decides-row Decides-include_name a.names b.names in search (rules, names)

five : {A B C D E R : Type 0} (make : A → B → C → D → E → R) {a a' : A} {b b' : B} {c c' : C} {d d' : D} {e e' : E} → (a ≡ a') × ((b ≡ b') × ((c ≡ c') × ((d ≡ d') × (e ≡ e')))) → make a b c d e ≡ make a' b' c' d' e'
five make h = rw (h.0, h.1.0, h.1.1.0, h.1.1.1.0, h.1.1.1.1) refl

Decides-interface_item : (i j : ℕ) (s t : Stability) (x y : Option (List ℕ)) (d e : Docs) (p q : Span) → Decides (nat_eq i j && (stability_test.it s t && (option_eq (pointwise nat_eq) x y && (docs_test.it d e && span_test.it p q)))) (item.Interface i s x d p ≡ item.Interface j t y e q)
Decides-interface_item i j s t x y d e p q = Decides-like _ (five (λ i s x d p. item.Interface i s x d p)) (λ e. search rules) (Decides-and _ _ (Decides-eqb i j) (Decides-and _ _ (Decides-stability s t) (Decides-and _ _ (Decides-optional_text x y) (Decides-and _ _ (Decides-docs d e) (Decides-span p q)))))

pub Decides-world_item : (a b : WorldItem) → Decides (world_item_test.it a b) (a ≡ b)
Decides-world_item (item.Interface i s x d p) (item.Interface j t y e q) = Decides-interface_item i j s t x y d e p q
Decides-world_item (item.Interface i s x d p) b = search rules
Decides-world_item (item.Function f) b = search (rules, Decides-function)
Decides-world_item (item.Type_ i s) b = search rules
