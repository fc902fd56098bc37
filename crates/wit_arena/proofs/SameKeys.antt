-- Whether two keys are one and the same.
use Rattle.std.proofs.Common.{◌≡◌, ◌↔◌, Bool, true, false, ◌&&◌, nat_eq, refl, ap, rules}
use Rattle.std.specs.Bool.{Decides, beq}
use Rattle.wit_arena.proofs.Names.{AliasForm, BorrowForm, Decides-and, Decides-eqb, Decides-like, Def, End, EnumForm, Expr, Exprs, FixedLengthListForm, FlagsForm, Form, FutureForm, Key, ListForm, MapForm, Member, More, Of, OptionForm, OwnForm, Prim, Primitive, RecordForm, ResourceForm, ResultForm, StreamForm, TupleForm, UnknownForm, Use, VariantForm, Whole, bytes_eq, pointwise, primitive_type, same_address, same_address-equal, same_address-from}
use Rattle.std.specs.Cmp.{booleans_Decides}
use Rattle.wit_values.specs.contracts.span.SpanPartialEq.TheImpl.{eq-value as span_test}
use Rattle.wit_types.specs.contracts.docs.DocsPartialEq.TheImpl.{eq-value as docs_test}
use Rattle.wit_types.specs.contracts.types.TypePartialEq.TheImpl.{eq-value as type_test}
use Rattle.wit_types.proofs.Same.{Decides-row, Decides-text, Decides-type}
use Rattle.wit_arena.proofs.OneKind.{primitive_type-injective}

abbrev same_primitive : Primitive → Primitive → Bool
same_primitive p q = type_test.it (primitive_type p) (primitive_type q)

abbrev same_member : Member → Member → Bool
same_member a b = bytes_eq a.name b.name && (docs_test.it a.docs b.docs && span_test.it a.span b.span)

-- a case with whether it has a type
abbrev same_case : Member × Bool → Member × Bool → Bool
same_case a b = same_member a.0 b.0 && beq a.1 b.1

abbrev same_form : Form → Form → Bool
same_form (RecordForm xs) (RecordForm ys) = pointwise same_member xs ys
same_form ResourceForm ResourceForm = true
same_form OwnForm OwnForm = true
same_form BorrowForm BorrowForm = true
same_form (FlagsForm xs) (FlagsForm ys) = pointwise same_member xs ys
same_form TupleForm TupleForm = true
same_form (VariantForm xs) (VariantForm ys) = pointwise same_case xs ys
same_form (EnumForm xs) (EnumForm ys) = pointwise same_member xs ys
same_form OptionForm OptionForm = true
same_form (ResultForm ok err) (ResultForm ok' err') = beq ok ok' && beq err err'
same_form ListForm ListForm = true
same_form MapForm MapForm = true
same_form (FixedLengthListForm m) (FixedLengthListForm n) = nat_eq m n
same_form (FutureForm borrowed) (FutureForm borrowed') = beq borrowed borrowed'
same_form (StreamForm borrowed) (StreamForm borrowed') = beq borrowed borrowed'
same_form AliasForm AliasForm = true
same_form UnknownForm UnknownForm = true
same_form _ _ = false

abbrev mutual
  same_expr : Expr → Expr → Bool
  same_expr (Prim p) (Prim q) = same_primitive p q
  same_expr (Use s name) (Use t other) = same_address s t && bytes_eq name other
  same_expr (Of form parts) (Of other parts') = same_form form other && same_exprs parts parts'
  same_expr _ _ = false

  same_exprs : Exprs → Exprs → Bool
  same_exprs End End = true
  same_exprs (More e es) (More f fs) = same_expr e f && same_exprs es fs
  same_exprs _ _ = false

abbrev pub same_key : Key → Key → Bool
same_key (Def s name) (Def t other) = same_address s t && bytes_eq name other
same_key (Whole form parts) (Whole other parts') = same_form form other && same_exprs parts parts'
same_key _ _ = false

two : {A B R : Type 0} (make : A → B → R) {a c : A} {b d : B} → (a ≡ c) × (b ≡ d) → make a b ≡ make c d
two make e = rw (e.0, e.1) refl

Decides-member : (a b : Member) → Decides (same_member a b) (a ≡ b)
Decides-member a b = search rules

Decides-case : (a b : Member × Bool) → Decides (same_case a b) (a ≡ b)
Decides-case a b = Decides-like _ (two (λ m borrowed. (m, borrowed))) (λ e. (ap (λ c. c.0) e, ap (λ c. c.1) e)) (Decides-and _ _ (Decides-member a.0 b.0) (booleans_Decides a.1 b.1))

Decides-form : (f g : Form) → Decides (same_form f g) (f ≡ g)
Decides-form (RecordForm xs) (RecordForm ys) = Decides-like _ (λ e. ap RecordForm e) (λ e. cc) (Decides-row Decides-member xs ys)
Decides-form (FlagsForm xs) (FlagsForm ys) = Decides-like _ (λ e. ap FlagsForm e) (λ e. cc) (Decides-row Decides-member xs ys)
Decides-form (VariantForm xs) (VariantForm ys) = Decides-like _ (λ e. ap VariantForm e) (λ e. cc) (Decides-row Decides-case xs ys)
Decides-form (EnumForm xs) (EnumForm ys) = Decides-like _ (λ e. ap EnumForm e) (λ e. cc) (Decides-row Decides-member xs ys)
Decides-form (ResultForm ok err) (ResultForm ok' err') = Decides-like _ (two ResultForm) (λ e. (cc, cc)) (Decides-and _ _ (booleans_Decides ok ok') (booleans_Decides err err'))
Decides-form (FixedLengthListForm m) (FixedLengthListForm n) = Decides-like _ (λ e. ap FixedLengthListForm e) (λ e. cc) (Decides-eqb m n)
Decides-form (FutureForm borrowed) (FutureForm borrowed') = Decides-like _ (λ e. ap FutureForm e) (λ e. cc) (booleans_Decides borrowed borrowed')
Decides-form (StreamForm borrowed) (StreamForm borrowed') = Decides-like _ (λ e. ap StreamForm e) (λ e. cc) (booleans_Decides borrowed borrowed')
Decides-form ResourceForm ResourceForm = (λ h. refl, λ e. refl)
Decides-form OwnForm OwnForm = (λ h. refl, λ e. refl)
Decides-form BorrowForm BorrowForm = (λ h. refl, λ e. refl)
Decides-form TupleForm TupleForm = (λ h. refl, λ e. refl)
Decides-form OptionForm OptionForm = (λ h. refl, λ e. refl)
Decides-form ListForm ListForm = (λ h. refl, λ e. refl)
Decides-form MapForm MapForm = (λ h. refl, λ e. refl)
Decides-form AliasForm AliasForm = (λ h. refl, λ e. refl)
Decides-form UnknownForm UnknownForm = (λ h. refl, λ e. refl)
-- the last line is read of each other pair
Decides-form f g = (λ h. cc, λ e. cc)

mutual
  Decides-expr : (e f : Expr) → Decides (same_expr e f) (e ≡ f)
  Decides-expr (Prim p) (Prim q) = Decides-like _ (λ e. ap Prim e) (λ e. cc) (Decides-like _ (primitive_type-injective p q) (λ e. ap primitive_type e) (Decides-type (primitive_type p) (primitive_type q)))
  Decides-expr (Use s name) (Use t other) = Decides-like _ (two Use) (λ e. (cc, cc)) (Decides-and _ _ (same_address-equal s t, same_address-from s t) (Decides-text name other))
  Decides-expr (Of form parts) (Of other parts') = Decides-like _ (two Of) (λ e. (cc, cc)) (Decides-and _ _ (Decides-form form other) (Decides-exprs parts parts'))
  Decides-expr e f = (λ h. cc, λ h. cc)

  Decides-exprs : (es fs : Exprs) → Decides (same_exprs es fs) (es ≡ fs)
  Decides-exprs (More e es) (More f fs) = Decides-like _ (two More) (λ e. (cc, cc)) (Decides-and _ _ (Decides-expr e f) (Decides-exprs es fs))
  Decides-exprs End End = (λ h. refl, λ e. refl)
  Decides-exprs es fs = (λ h. cc, λ h. cc)

pub same_key_determines : (a b : Key) → (same_key a b ≡ true) ↔ (a ≡ b)
same_key_determines (Def s name) (Def t other) = Decides-like _ (two Def) (λ e. (cc, cc)) (Decides-and _ _ (same_address-equal s t, same_address-from s t) (Decides-text name other))
same_key_determines (Whole form parts) (Whole other parts') = Decides-like _ (two Whole) (λ e. (cc, cc)) (Decides-and _ _ (Decides-form form other) (Decides-exprs parts parts'))
same_key_determines a b = (λ h. cc, λ h. cc)
