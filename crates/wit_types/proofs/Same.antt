-- Tests for equality that decide whether values are the same, from those of their parts.
use Rattle.std.proofs.Common.{◌≡◌, ℕ, nat_eq, List, Bool, ◌&&◌, Option, Some, None, ap, refl, rules}
use Rattle.std.specs.Bool.{Decides}
use Rattle.std.specs.Option.{option_eq}
use Rattle.std.specs.Cmp.Lexicographic.{pointwise}
use Rattle.std.proofs.lemmas.Bool.Decides.{Decides-like, Decides-and, Decides-eqb}
use Rattle.std.proofs.lemmas.Slice.Eq.{slice_eq-Decides}
use Rattle.wit_types.specs.contracts.types.TypePartialEq.TheImpl.{eq-value as type_test}
use Rattle.wit_types.specs.declared.types.«Type».{«Type» as Ty}
use Rattle.wit_types.specs.declared.types.TypeDefKind.TheVariants as kind
use Rattle.wit_values.specs.contracts.span.SpanPartialEq.TheImpl.{eq-value as span_test}
use Rattle.wit_values.specs.declared.span.Span.{Span}
use Rattle.wit_types.specs.contracts.stability.StabilityPartialEq.TheImpl.{eq-value as stability_test}
use Rattle.wit_types.specs.declared.stability.Stability.{Stability}
use Rattle.wit_types.specs.contracts.docs.DocsPartialEq.TheImpl.{eq-value as docs_test}
use Rattle.wit_types.specs.declared.docs.Docs.{Docs}
use Rattle.wit_types.specs.contracts.types.FieldPartialEq.TheImpl.{eq-value as field_test}
use Rattle.wit_types.specs.declared.types.Field.{Field}
use Rattle.wit_types.specs.contracts.types.FlagPartialEq.TheImpl.{eq-value as flag_test}
use Rattle.wit_types.specs.declared.types.Flag.{Flag}
use Rattle.wit_types.specs.contracts.types.CasePartialEq.TheImpl.{eq-value as case_test}
use Rattle.wit_types.specs.declared.types.Case.{Case}
use Rattle.wit_types.specs.contracts.types.EnumCasePartialEq.TheImpl.{eq-value as enum_case_test}
use Rattle.wit_types.specs.declared.types.EnumCase.{EnumCase}
use Rattle.wit_types.specs.contracts.types.Result_PartialEq.TheImpl.{eq-value as outcome_test}
use Rattle.wit_types.specs.declared.types.Result_.{Result_}
use Rattle.wit_types.specs.contracts.types.RecordPartialEq.TheImpl.{eq-value as record_test}
use Rattle.wit_types.specs.declared.types.Record.{Record}
use Rattle.wit_types.specs.contracts.types.FlagsPartialEq.TheImpl.{eq-value as flags_test}
use Rattle.wit_types.specs.declared.types.Flags.{Flags}
use Rattle.wit_types.specs.contracts.types.TuplePartialEq.TheImpl.{eq-value as tuple_test}
use Rattle.wit_types.specs.declared.types.Tuple.{Tuple}
use Rattle.wit_types.specs.contracts.types.VariantPartialEq.TheImpl.{eq-value as variant_test}
use Rattle.wit_types.specs.declared.types.Variant.{Variant}
use Rattle.wit_types.specs.contracts.types.EnumPartialEq.TheImpl.{eq-value as enum_test}
use Rattle.wit_types.specs.declared.types.Enum.{Enum}
use Rattle.wit_types.specs.contracts.types.TypeDefKindPartialEq.TheImpl.{eq-value as kind_test}
use Rattle.wit_types.specs.declared.types.TypeDefKind.{TypeDefKind}
use Rattle.wit_types.specs.contracts.types.TypeOwnerPartialEq.TheImpl.{eq-value as owner_test}
use Rattle.wit_types.specs.declared.types.TypeOwner.{TypeOwner}
use Rattle.wit_types.specs.contracts.types.TypeDefPartialEq.TheImpl.{eq-value as type_def_test}
use Rattle.wit_types.specs.declared.types.TypeDef.{TypeDef}

pub Decides-option : {A : Type 0} {E : A → A → Bool} → ((a b : A) → Decides (E a b) (a ≡ b)) → (x y : Option A) → Decides (option_eq E x y) (x ≡ y)
Decides-option same None None = search rules
Decides-option same None (Some b) = search rules
Decides-option same (Some a) None = search rules
Decides-option same (Some a) (Some b) = let d = same a b in search rules

pub Decides-row : {A : Type 0} {E : A → A → Bool} → ((a b : A) → Decides (E a b) (a ≡ b)) → (xs ys : List A) → Decides (pointwise E xs ys) (xs ≡ ys)
Decides-row {E = E} same xs ys = slice_eq-Decides same xs ys (pointwise E xs ys) refl

pub Decides-type : (a b : Ty) → Decides (type_test.it a b) (a ≡ b)
Decides-type a b = search rules

pub Decides-optional_type : (a b : Option Ty) → Decides (option_eq type_test.it a b) (a ≡ b)
Decides-optional_type = Decides-option Decides-type

pub Decides-docs : (a b : Docs) → Decides (docs_test.it a b) (a ≡ b)
Decides-docs a b = search rules

pub Decides-text : (a b : List ℕ) → Decides (pointwise nat_eq a b) (a ≡ b)
Decides-text a b = search rules

pub Decides-span : (a b : Span) → Decides (span_test.it a b) (a ≡ b)
Decides-span a b = search rules

pub Decides-stability : (a b : Stability) → Decides (stability_test.it a b) (a ≡ b)
Decides-stability a b = search rules

four : {A B C D R : Type 0} (make : A → B → C → D → R) {a a' : A} {b b' : B} {c c' : C} {d d' : D} → (a ≡ a') × ((b ≡ b') × ((c ≡ c') × (d ≡ d'))) → make a b c d ≡ make a' b' c' d'
four make e = rw (e.0, e.1.0, e.1.1.0, e.1.1.1) refl

two : {A B R : Type 0} (make : A → B → R) {a c : A} {b d : B} → (a ≡ c) × (b ≡ d) → make a b ≡ make c d
two make e = rw (e.0, e.1) refl

pub Decides-field : (a b : Field) → Decides (field_test.it a b) (a ≡ b)
Decides-field a b = Decides-like _ (four (λ name ty docs span. record { name = name; ty = ty; docs = docs; span = span })) (λ e. (ap (λ r. r.name) e, (ap (λ r. r.ty) e, (ap (λ r. r.docs) e, ap (λ r. r.span) e)))) (Decides-and _ _ (Decides-text a.name b.name) (Decides-and _ _ (Decides-type a.ty b.ty) (Decides-and _ _ (Decides-docs a.docs b.docs) (Decides-span a.span b.span))))

pub Decides-flag : (a b : Flag) → Decides (flag_test.it a b) (a ≡ b)
Decides-flag a b = search rules

pub Decides-case : (a b : Case) → Decides (case_test.it a b) (a ≡ b)
Decides-case a b = Decides-like _ (four (λ name ty docs span. record { name = name; ty = ty; docs = docs; span = span })) (λ e. (ap (λ r. r.name) e, (ap (λ r. r.ty) e, (ap (λ r. r.docs) e, ap (λ r. r.span) e)))) (Decides-and _ _ (Decides-text a.name b.name) (Decides-and _ _ (Decides-optional_type a.ty b.ty) (Decides-and _ _ (Decides-docs a.docs b.docs) (Decides-span a.span b.span))))

pub Decides-enum_case : (a b : EnumCase) → Decides (enum_case_test.it a b) (a ≡ b)
Decides-enum_case a b = search rules

pub Decides-outcome : (a b : Result_) → Decides (outcome_test.it a b) (a ≡ b)
Decides-outcome a b = Decides-like _ (two (λ ok err. record { ok = ok; err = err })) (λ e. (ap (λ r. r.ok) e, ap (λ r. r.err) e)) (Decides-and _ _ (Decides-optional_type a.ok b.ok) (Decides-optional_type a.err b.err))

pub Decides-record : (a b : Record) → Decides (record_test.it a b) (a ≡ b)
Decides-record a b = Decides-like _ (λ e. ap (λ r. record { fields = r }) e) (λ e. ap (λ r. r.fields) e) (Decides-row Decides-field a.fields b.fields)

pub Decides-flags : (a b : Flags) → Decides (flags_test.it a b) (a ≡ b)
Decides-flags a b = Decides-like _ (λ e. ap (λ r. record { flags = r }) e) (λ e. ap (λ r. r.flags) e) (Decides-row Decides-flag a.flags b.flags)

pub Decides-tuple : (a b : Tuple) → Decides (tuple_test.it a b) (a ≡ b)
Decides-tuple a b = Decides-like _ (λ e. ap (λ r. record { types = r }) e) (λ e. ap (λ r. r.types) e) (Decides-row Decides-type a.types b.types)

pub Decides-variant : (a b : Variant) → Decides (variant_test.it a b) (a ≡ b)
Decides-variant a b = Decides-like _ (λ e. ap (λ r. record { cases = r }) e) (λ e. ap (λ r. r.cases) e) (Decides-row Decides-case a.cases b.cases)

pub Decides-enum : (a b : Enum) → Decides (enum_test.it a b) (a ≡ b)
Decides-enum a b = Decides-like _ (λ e. ap (λ r. record { cases = r }) e) (λ e. ap (λ r. r.cases) e) (Decides-row Decides-enum_case a.cases b.cases)

Decides-option_kind : (x y : Ty) → Decides (type_test.it x y) (kind.Option x ≡ kind.Option y)
Decides-option_kind x y = Decides-like _ (λ e. ap (λ t. kind.Option t) e) (λ e. search rules) (Decides-type x y)

Decides-list_kind : (x y : Ty) → Decides (type_test.it x y) (kind.List x ≡ kind.List y)
Decides-list_kind x y = Decides-like _ (λ e. ap (λ t. kind.List t) e) (λ e. search rules) (Decides-type x y)

Decides-type_kind : (x y : Ty) → Decides (type_test.it x y) (kind.Type_ x ≡ kind.Type_ y)
Decides-type_kind x y = Decides-like _ (λ e. ap (λ t. kind.Type_ t) e) (λ e. search rules) (Decides-type x y)

Decides-future_kind : (x y : Option Ty) → Decides (option_eq type_test.it x y) (kind.Future x ≡ kind.Future y)
Decides-future_kind x y = Decides-like _ (λ e. ap (λ t. kind.Future t) e) (λ e. search rules) (Decides-optional_type x y)

Decides-stream_kind : (x y : Option Ty) → Decides (option_eq type_test.it x y) (kind.Stream x ≡ kind.Stream y)
Decides-stream_kind x y = Decides-like _ (λ e. ap (λ t. kind.Stream t) e) (λ e. search rules) (Decides-optional_type x y)

Decides-map : (x y u v : Ty) → Decides (type_test.it x u && type_test.it y v) (kind.Map x y ≡ kind.Map u v)
Decides-map x y u v = Decides-like _ (two (λ k w. kind.Map k w)) (λ e. search rules) (Decides-and _ _ (Decides-type x u) (Decides-type y v))

Decides-fixed : (x : Ty) (m : ℕ) (y : Ty) (n : ℕ) → Decides (type_test.it x y && nat_eq m n) (kind.FixedLengthList x m ≡ kind.FixedLengthList y n)
Decides-fixed x m y n = Decides-like _ (two (λ k w. kind.FixedLengthList k w)) (λ e. search rules) (Decides-and _ _ (Decides-type x y) (Decides-eqb m n))

pub Decides-kind : (a b : TypeDefKind) → Decides (kind_test.it a b) (a ≡ b)
Decides-kind (kind.Record x) b = search (rules, Decides-record)
Decides-kind kind.Resource b = search (rules)
Decides-kind (kind.Handle x) b = search (rules)
Decides-kind (kind.Flags x) b = search (rules, Decides-flags)
Decides-kind (kind.Tuple x) b = search (rules, Decides-tuple)
Decides-kind (kind.Variant x) b = search (rules, Decides-variant)
Decides-kind (kind.Enum x) b = search (rules, Decides-enum)
Decides-kind (kind.Option x) (kind.Option u) = Decides-option_kind x u
Decides-kind (kind.Option x) b = search rules
Decides-kind (kind.Result x) b = search (rules, Decides-outcome)
Decides-kind (kind.List x) (kind.List u) = Decides-list_kind x u
Decides-kind (kind.List x) b = search rules
Decides-kind (kind.Map x y) (kind.Map u v) = Decides-map x y u v
Decides-kind (kind.Map x y) b = search rules
Decides-kind (kind.FixedLengthList x n) (kind.FixedLengthList u m) = Decides-fixed x n u m
Decides-kind (kind.FixedLengthList x n) b = search rules
Decides-kind (kind.Future x) b = search (rules, Decides-future_kind)
Decides-kind (kind.Stream x) b = search (rules, Decides-stream_kind)
Decides-kind (kind.Type_ x) (kind.Type_ u) = Decides-type_kind x u
Decides-kind (kind.Type_ x) b = search rules
Decides-kind kind.Unknown b = search (rules)

seven : {A B C D E F G R : Type 0} (make : A → B → C → D → E → F → G → R) {a a' : A} {b b' : B} {c c' : C} {d d' : D} {e e' : E} {f f' : F} {g g' : G} → (a ≡ a') × ((b ≡ b') × ((c ≡ c') × ((d ≡ d') × ((e ≡ e') × ((f ≡ f') × (g ≡ g')))))) → make a b c d e f g ≡ make a' b' c' d' e' f' g'
seven make h = rw (h.0, h.1.0, h.1.1.0, h.1.1.1.0, h.1.1.1.1.0, h.1.1.1.1.1.0, h.1.1.1.1.1.1) refl

pub Decides-optional_text : (a b : Option (List ℕ)) → Decides (option_eq (pointwise nat_eq) a b) (a ≡ b)
Decides-optional_text = Decides-option Decides-text

pub Decides-owner : (a b : TypeOwner) → Decides (owner_test.it a b) (a ≡ b)
Decides-owner a b = search rules

pub Decides-type_def : (a b : TypeDef) → Decides (type_def_test.it a b) (a ≡ b)
Decides-type_def a b = Decides-like _ (seven (λ name kind owner docs stability span external_id. record { name = name; kind = kind; owner = owner; docs = docs; stability = stability; span = span; external_id = external_id })) (λ e. (ap (λ r. r.name) e, (ap (λ r. r.kind) e, (ap (λ r. r.owner) e, (ap (λ r. r.docs) e, (ap (λ r. r.stability) e, (ap (λ r. r.span) e, ap (λ r. r.external_id) e))))))) (Decides-and _ _ (Decides-optional_text a.name b.name) (Decides-and _ _ (Decides-kind a.kind b.kind) (Decides-and _ _ (Decides-owner a.owner b.owner) (Decides-and _ _ (Decides-docs a.docs b.docs) (Decides-and _ _ (Decides-stability a.stability b.stability) (Decides-and _ _ (Decides-span a.span b.span) (Decides-optional_text a.external_id b.external_id)))))))
