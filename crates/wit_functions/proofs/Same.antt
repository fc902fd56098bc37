-- Tests for equality of functions, which decide whether they are the same.
use Rattle.std.proofs.Common.{◌≡◌, ap, refl, rules}
use Rattle.std.specs.Bool.{Decides}
use Rattle.std.proofs.lemmas.Bool.Decides.{Decides-and, Decides-like}
use Rattle.wit_types.proofs.Same.{Decides-docs, Decides-optional_text, Decides-optional_type, Decides-row, Decides-span, Decides-stability, Decides-text, Decides-type}
use Rattle.wit_functions.specs.contracts.function.ParamPartialEq.TheImpl.{eq-value as param_test}
use Rattle.wit_functions.specs.declared.function.Param.{Param}
use Rattle.wit_functions.specs.contracts.function.FunctionKindPartialEq.TheImpl.{eq-value as function_kind_test}
use Rattle.wit_functions.specs.declared.function.FunctionKind.{FunctionKind}
use Rattle.wit_functions.specs.contracts.function.FunctionPartialEq.TheImpl.{eq-value as function_test}
use Rattle.wit_functions.specs.declared.function.Function.{Function}

pub Decides-param : (a b : Param) → Decides (param_test.it a b) (a ≡ b)
Decides-param a b = search (rules, Decides-type)

eight : {A B C D E F G H R : Type 0} (make : A → B → C → D → E → F → G → H → R) {a a' : A} {b b' : B} {c c' : C} {d d' : D} {e e' : E} {f f' : F} {g g' : G} {i i' : H} → (a ≡ a') × ((b ≡ b') × ((c ≡ c') × ((d ≡ d') × ((e ≡ e') × ((f ≡ f') × ((g ≡ g') × (i ≡ i'))))))) → make a b c d e f g i ≡ make a' b' c' d' e' f' g' i'
eight make h = rw (h.0, h.1.0, h.1.1.0, h.1.1.1.0, h.1.1.1.1.0, h.1.1.1.1.1.0, h.1.1.1.1.1.1.0, h.1.1.1.1.1.1.1) refl

pub Decides-function_kind : (a b : FunctionKind) → Decides (function_kind_test.it a b) (a ≡ b)
Decides-function_kind a b = search rules

pub Decides-function : (a b : Function) → Decides (function_test.it a b) (a ≡ b)
Decides-function a b = Decides-like _ (eight (λ name kind params result docs stability span external_id. record { name = name; kind = kind; params = params; result = result; docs = docs; stability = stability; span = span; external_id = external_id })) (λ e. (ap (λ r. r.name) e, (ap (λ r. r.kind) e, (ap (λ r. r.params) e, (ap (λ r. r.result) e, (ap (λ r. r.docs) e, (ap (λ r. r.stability) e, (ap (λ r. r.span) e, ap (λ r. r.external_id) e)))))))) (Decides-and _ _ (Decides-text a.name b.name) (Decides-and _ _ (Decides-function_kind a.kind b.kind) (Decides-and _ _ (Decides-row Decides-param a.params b.params) (Decides-and _ _ (Decides-optional_type a.result b.result) (Decides-and _ _ (Decides-docs a.docs b.docs) (Decides-and _ _ (Decides-stability a.stability b.stability) (Decides-and _ _ (Decides-span a.span b.span) (Decides-optional_text a.external_id b.external_id))))))))
