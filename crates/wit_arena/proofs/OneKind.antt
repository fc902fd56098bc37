-- A type of the arena is given by its form and its parts.
use Rattle.std.proofs.Common.{◌≡◌, ℕ, Bool, true, false, List, [], ◌∷◌, Option, Some, None, refl, sym, ap, ◌∙◌, is_some, ◌++◌, take, append_assoc}
use Rattle.wit_arena.proofs.Names.{AliasForm, Borrow, BorrowForm, Docs, EnumForm, FixedLengthListForm, FlagsForm, Form, FutureForm, ListForm, MapForm, Member, OptionForm, Own, OwnForm, RecordForm, ResourceForm, ResultForm, Span, StreamForm, TupleForm, TypeDefKind, UnknownForm, VariantForm, filter_map, kind_of, map, IsBelow, Leaf, Primitive, UnresolvedPackage, package_node, primitive_type, AllDiffer, AreAt, Def, End, Expr, Exprs, IsAt, Key, More, Of, Prim, Use, Whole, at_prefix, at_take, slice_get}
use Rattle.wit_types.specs.declared.types.Field.{Field}
use Rattle.wit_types.specs.declared.types.Case.{Case}
use Rattle.wit_types.specs.declared.types.EnumCase.{EnumCase}
use Rattle.wit_types.specs.declared.types.Flag.{Flag}
use Rattle.wit_types.specs.declared.types.«Type».{«Type» as Ty}
use Rattle.wit_types.specs.declared.types.«Type».TheVariants.{Id}
use Rattle.wit_types.specs.declared.types.«Type».TheVariants as type
use Rattle.wit_types.specs.declared.types.TypeDefKind.TheVariants as kind
use Rattle.wit_type_tree.specs.declared.types.Primitive.TheVariants as primitive

-- the first of some types, and the second
abbrev first : List Ty → Ty
first [] = type.Bool
first (t ∷ ts) = t

abbrev rest : List Ty → List Ty
rest [] = []
rest (t ∷ ts) = ts

-- the first, where one is stated
abbrev as_stated : Bool → List Ty → Option Ty
as_stated true ts = Some (first ts)
as_stated false ts = None

abbrev place : Ty → ℕ
place (type.Id i) = i
place _ = 0

abbrev field : Member → Ty → Field
field m t = record { name = m.name; ty = t; docs = m.docs; span = m.span }

abbrev fields : List Member → List Ty → List Field
fields [] ts = []
fields (m ∷ ms) ts = field m (first ts) ∷ fields ms (rest ts)

abbrev flag : Member → Flag
flag m = record { name = m.name; docs = m.docs; span = m.span }

abbrev enum_case : Member → EnumCase
enum_case m = record { name = m.name; docs = m.docs; span = m.span }

abbrev case_of : Member → Option Ty → Case
case_of m t = record { name = m.name; ty = t; docs = m.docs; span = m.span }

abbrev cases : List (Member × Bool) → List Ty → List Case
cases [] ts = []
cases ((m, true) ∷ ms) ts = case_of m (Some (first ts)) ∷ cases ms (rest ts)
cases ((m, false) ∷ ms) ts = case_of m None ∷ cases ms ts

-- the types of a result, where these are stated
abbrev results : Bool → Bool → List Ty → TypeDefKind
results true true ts = kind.Result (record { ok = Some (first ts); err = Some (first (rest ts)) })
results true false ts = kind.Result (record { ok = Some (first ts); err = None })
results false true ts = kind.Result (record { ok = None; err = Some (first ts) })
results false false ts = kind.Result (record { ok = None; err = None })

-- the type of a form and parts
abbrev made : Form → List Ty → TypeDefKind
made (RecordForm ms) ts = kind.Record (record { fields = fields ms ts })
made ResourceForm ts = kind.Resource
made OwnForm ts = kind.Handle (Own (place (first ts)))
made BorrowForm ts = kind.Handle (Borrow (place (first ts)))
made (FlagsForm ms) ts = kind.Flags (record { flags = map flag ms })
made TupleForm ts = kind.Tuple (record { types = ts })
made (VariantForm ms) ts = kind.Variant (record { cases = cases ms ts })
made (EnumForm ms) ts = kind.Enum (record { cases = map enum_case ms })
made OptionForm ts = kind.Option (first ts)
made (ResultForm ok err) ts = results ok err ts
made ListForm ts = kind.List (first ts)
made MapForm ts = kind.Map (first ts) (first (rest ts))
made (FixedLengthListForm n) ts = kind.FixedLengthList (first ts) n
made (FutureForm borrowed) ts = kind.Future (as_stated borrowed ts)
made (StreamForm borrowed) ts = kind.Stream (as_stated borrowed ts)
made AliasForm ts = kind.Type_ (first ts)
made UnknownForm ts = kind.Unknown

abbrev field_member : Field → Member
field_member f = record { name = f.name; docs = f.docs; span = f.span }

abbrev flag_member : Flag → Member
flag_member f = record { name = f.name; docs = f.docs; span = f.span }

abbrev case_member : Case → Member × Bool
case_member c = (record { name = c.name; docs = c.docs; span = c.span }, is_some c.ty)

abbrev enum_case_member : EnumCase → Member
enum_case_member c = record { name = c.name; docs = c.docs; span = c.span }

abbrev payloads : List Case → List Ty
payloads cs = filter_map (λ (c : Case). c.ty) cs

fields_back : (fs : List Field) → fields (map field_member fs) (map (λ f. f.ty) fs) ≡ fs
fields_back [] = refl
fields_back (f ∷ fs) = ap (λ l. f ∷ l) (fields_back fs)

map_back : {X Y : Type 0} (f : X → Y) (g : Y → X) → ((x : X) → g (f x) ≡ x) → (xs : List X) → map g (map f xs) ≡ xs
map_back f g same [] = refl
map_back f g same (x ∷ xs) = cc (same x, map_back f g same xs)

abbrev with_type : List ℕ → Option Ty → Docs → Span → Case
with_type name ty docs span = record { name = name; ty = ty; docs = docs; span = span }

case_back : (name : List ℕ) (ty : Option Ty) (docs : Docs) (span : Span) (cs : List Case) → cases (map case_member cs) (payloads cs) ≡ cs → cases (map case_member (with_type name ty docs span ∷ cs)) (payloads (with_type name ty docs span ∷ cs)) ≡ with_type name ty docs span ∷ cs
case_back name None docs span cs h = ap (λ l. with_type name None docs span ∷ l) h
case_back name (Some t) docs span cs h = ap (λ l. with_type name (Some t) docs span ∷ l) h

cases_back : (cs : List Case) → cases (map case_member cs) (payloads cs) ≡ cs
cases_back [] = refl
cases_back (c ∷ cs) = case_back c.name c.ty c.docs c.span cs (cases_back cs)

result_back : (ok err : Option Ty) → made (kind_of (kind.Result (record { ok = ok; err = err }))).0 (kind_of (kind.Result (record { ok = ok; err = err }))).1 ≡ kind.Result (record { ok = ok; err = err })
result_back None None = refl
result_back None (Some t) = refl
result_back (Some t) None = refl
result_back (Some t) (Some u) = refl

-- a type is the one of its form and its parts
back : (k : TypeDefKind) → made (kind_of k).0 (kind_of k).1 ≡ k
back (kind.Record r) = ap (λ l. kind.Record (record { fields = l })) (fields_back r.fields)
back (kind.Flags f) = ap (λ l. kind.Flags (record { flags = l })) (map_back flag_member flag (λ x. refl) f.flags)
back (kind.Variant v) = ap (λ l. kind.Variant (record { cases = l })) (cases_back v.cases)
back (kind.Enum e) = ap (λ l. kind.Enum (record { cases = l })) (map_back enum_case_member enum_case (λ x. refl) e.cases)
back (kind.Result r) = result_back r.ok r.err
back (kind.Handle (Own r)) = refl
back (kind.Future None) = refl
back (kind.Stream None) = refl
back _ = refl

-- so two of one form and the same parts are one
pub one_kind : (k l : TypeDefKind) → (kind_of k).0 ≡ (kind_of l).0 → (kind_of k).1 ≡ (kind_of l).1 → k ≡ l
one_kind k l form parts = sym (back k) ∙ ap (λ f. made f (kind_of k).1) form ∙ ap (made (kind_of l).0) parts ∙ back l

-- Primitive types and their words.
-- the primitive that a type is
abbrev primitive_of : Ty → Option Primitive
primitive_of type.Bool = Some primitive.Bool
primitive_of type.U8 = Some primitive.U8
primitive_of type.U16 = Some primitive.U16
primitive_of type.U32 = Some primitive.U32
primitive_of type.U64 = Some primitive.U64
primitive_of type.S8 = Some primitive.S8
primitive_of type.S16 = Some primitive.S16
primitive_of type.S32 = Some primitive.S32
primitive_of type.S64 = Some primitive.S64
primitive_of type.F32 = Some primitive.F32
primitive_of type.F64 = Some primitive.F64
primitive_of type.Char = Some primitive.Char
primitive_of type.String = Some primitive.String
primitive_of type.ErrorContext = Some primitive.ErrorContext
primitive_of (type.Id i) = None

-- the last line is read of each other primitive
primitive_of-primitive_type : (p : Primitive) → primitive_of (primitive_type p) ≡ Some p
primitive_of-primitive_type primitive.Bool = refl
primitive_of-primitive_type p = refl

pub primitive_type-injective : (p q : Primitive) → primitive_type p ≡ primitive_type q → p ≡ q
primitive_type-injective p q h =
    cc (sym (primitive_of-primitive_type p) ∙ ap primitive_of h ∙ primitive_of-primitive_type q)

-- no primitive is an entry
pub primitive_type-id : (p : Primitive) (i : ℕ) → primitive_type p ≡ type.Id i → ⊥
primitive_type-id p i h =
    cc (sym (primitive_of-primitive_type p) ∙ ap primitive_of h)

-- one level of a primitive
pub primitive_node : (p : UnresolvedPackage) (x : Primitive) → package_node p (primitive_type x) ≡ Leaf (primitive_type x)
primitive_node p primitive.Bool = refl
primitive_node p x = refl

-- a primitive names no place
pub primitive_below : (n : ℕ) (p : Primitive) → IsBelow n (primitive_type p)
primitive_below n primitive.Bool = tt
primitive_below n p = tt

-- Where types are among the keys that occurred.
pub same_some : {X : Type 0} {x y : X} → Some x ≡ Some y → x ≡ y
same_some e = cc

-- the second list is the first and more
pub record Extended (a b : List Key) : Type 0 where
  pub more : List Key
  pub is : b ≡ a ++ more

pub extended_trans : {a b c : List Key} → Extended a b → Extended b c → Extended a c
extended_trans {a} {b} {c} g h = record { more = g.more ++ h.more; is = rw (h.is, g.is) (append_assoc a g.more h.more) }

pub key_extended : {a b : List Key} → Extended a b → (i : ℕ) (k : Key) → slice_get a i ≡ Some k → slice_get b i ≡ Some k
key_extended {a} g i k h = rw g.is (at_prefix a g.more i k h)

-- what is at its place among the first n is so among all
at_untaken : (n : ℕ) (ks : List Key) (e : Expr) (t : Ty) → IsAt (take n ks) e t → IsAt ks e t
at_untaken n ks (Prim p) t h = h
at_untaken n ks (Use s name) t h = (h.0, h.1, (at_take ks n h.0 (Def s name) h.2).0)
at_untaken n ks (Of form parts) t h = (h.0, h.1, (at_take ks n h.0 (Whole form parts) h.2).0)

pub all_at_untaken : (n : ℕ) (ks : List Key) (es : Exprs) (ts : List Ty) → AreAt (take n ks) es ts → AreAt ks es ts
all_at_untaken n ks End [] h = tt
all_at_untaken n ks (More e es) (t ∷ ts) h = (at_untaken n ks e t h.0, all_at_untaken n ks es ts h.1)
all_at_untaken n ks es ts h = absurd h

-- one place, one expression
pub at_injective : (ks : List Key) (e f : Expr) (ty : Ty) → IsAt ks e ty → IsAt ks f ty → e ≡ f
at_injective ks (Prim p) (Prim q) ty h k = ap Prim (primitive_type-injective p q (sym h ∙ k))
at_injective ks (Prim p) f ty h k = absurd (primitive_type-id p k.0 (sym h ∙ k.1))
at_injective ks e (Prim q) ty h k = absurd (primitive_type-id q h.0 (sym k ∙ h.1))
at_injective ks e f ty h k = cc (h.1, k.1, h.2, k.2)

pub all_at_injective : (ks : List Key) (es fs : Exprs) (tys : List Ty) → AreAt ks es tys → AreAt ks fs tys → es ≡ fs
all_at_injective ks End End [] p q = refl
all_at_injective ks (More e es) (More f fs) (t ∷ ts) p q = let a = at_injective ks e f t p.0 q.0 in let b = all_at_injective ks es fs ts p.1 q.1 in cc
all_at_injective ks End (More f fs) [] p q = absurd q
all_at_injective ks (More e es) End [] p q = absurd p
all_at_injective ks es fs tys p q = search

-- one expression, one type
pub at_functional : (ks : List Key) → AllDiffer ks → (e : Expr) (t u : Ty) → IsAt ks e t → IsAt ks e u → t ≡ u
at_functional ks o (Prim p) t u h k = h ∙ sym k
at_functional ks o (Use s name) t u p q = p.1 ∙ ap Id (o.differ p.0 q.0 (Def s name) p.2 q.2) ∙ sym q.1
at_functional ks o (Of form parts) t u p q = p.1 ∙ ap Id (o.differ p.0 q.0 (Whole form parts) p.2 q.2) ∙ sym q.1
