-- Bodies of definitions that are alike: their shapes and their first faults.
use Rattle.std.proofs.Common.{◌≡◌, ℕ, Bool, true, false, cond, List, [], ◌∷◌, map, Option, Some, None, is_some, codes, refl, ap, ap₂}
use Rattle.wit_walk.proofs.Common.{AllZip, Both', Case, Enum, EnumCase, EnumForm, Err', Fault, Field, Flag, Flags, FlagsForm, Id, Member, Neither, None', Of, Ok', Plain, Prim, Record, RecordForm, Resource, ResourceFunc, ResultTypes, Row_of-Type, Shape, Some', Span, TypeBody, Variant, VariantForm, Word, all_shapes, body_of, body_types, bytes_eq, case_types, clash, clash_of, docs_text, empty_fault, end_of-Type, fault, fault_in, field_types, head, list_fault, lower_case, member, members_fault, more_of-Type, names_fault, option_map, option_or, row_fault, shape_of, slice_get, type_fault, «Type» as Written, Primitive}
use Rattle.std.specs.List.{find}
use Rattle.wit_syntax.specs.Shape.{Body}
use Rattle.wit_type_tree.specs.declared.types.«Type».TheVariants as written
use Rattle.wit_grammar.specs.Trees.{Name, Documents, Field as SeenField, Flag as SeenFlag, Case as SeenCase}
use Rattle.wit_grammar.specs.Seen.{see_body, see_case, see_enum_case, see_field, see_flag, see_resource_func, see_type}
use Rattle.wit_first.specs.KeyFaults.{is_key, key_fault}
use Rattle.wit_alike.proofs.Lists.{Both, both_of, both_same, consed, zip_after, zip_at, zip_find, zip_map, zip_of, zip_same}
use Rattle.wit_alike.proofs.Leaves.{SameId}
use Rattle.wit_alike.proofs.Types.{SameType, SameResult, SameRow, SameShape, SameShapes, same_shape, type_of}

-- ---- the first fault of a type
same_is_key : (t u : Written) → SameType t u → is_key t ≡ is_key u
same_is_key (written.Primitive s p) (written.Primitive t q) h = ap₂ (λ (at : Span) (r : Primitive). is_key (written.Primitive at r)) h.0 h.1
same_is_key (written.Primitive s p) u h = absurd h
same_is_key t (written.Primitive s p) h = absurd h
same_is_key t u h = refl

same_key : (t u : Written) (s r : Span) → SameType t u → s ≡ r → key_fault t s ≡ key_fault u r
same_key t u s r h e = ap₂ (λ (b : Bool) (at : Span). cond b None (Some (fault 26 at))) (same_is_key t u h) e

module _ (word handle other also : Id → Option Fault) (words : (a b : Id) → SameId a b → word a ≡ other b) (handles : (a b : Id) → SameId a b → handle a ≡ also b) where
  mutual
    pub same_type_fault : (t u : Written) → SameType t u → type_fault word handle t ≡ type_fault other also u
    same_type_fault (written.Primitive s p) (written.Primitive t q) h = refl
    same_type_fault (written.Name a) (written.Name b) h = words a b h
    same_type_fault (written.List' s p t) (written.List' r q u) h = same_type_fault t u h.1
    same_type_fault (written.FixedLengthList' s p t n) (written.FixedLengthList' r q u m) h = same_type_fault t u h.1
    same_type_fault (written.Map' s p k q v) (written.Map' r o l n w) h = ap₂ option_or (same_type_fault k l h.1) (ap₂ option_or (same_type_fault v w h.2) (same_key k l s r h.1 h.0))
    same_type_fault (written.Option' s p t) (written.Option' r q u) h = same_type_fault t u h.1
    same_type_fault (written.Result s of) (written.Result r by) h = same_outcome_fault s r of by h.1
    same_type_fault (written.Tuple' s x ts) (written.Tuple' r y us) h = same_row_fault (Some (fault 22 s)) (Some (fault 22 r)) ts us (ap (λ (at : Span). Some (fault 22 at)) h.0) h.1
    same_type_fault (written.Future' s None') (written.Future' r None') h = refl
    same_type_fault (written.Future' s (Some' p t)) (written.Future' r (Some' q u)) h = same_type_fault t u h.1
    same_type_fault (written.Future' s None') (written.Future' r (Some' q u)) h = absurd h.1
    same_type_fault (written.Future' s (Some' p t)) (written.Future' r None') h = absurd h.1
    same_type_fault (written.Stream' s None') (written.Stream' r None') h = refl
    same_type_fault (written.Stream' s (Some' p t)) (written.Stream' r (Some' q u)) h = same_type_fault t u h.1
    same_type_fault (written.Stream' s None') (written.Stream' r (Some' q u)) h = absurd h.1
    same_type_fault (written.Stream' s (Some' p t)) (written.Stream' r None') h = absurd h.1
    same_type_fault (written.Own s a) (written.Own r b) h = handles a b h.1
    same_type_fault (written.Borrow s a) (written.Borrow r b) h = handles a b h.1
    same_type_fault t u h = absurd h

    same_outcome_fault : (s r : Span) (of by : ResultTypes) → SameResult of by → type_fault word handle (written.Result s of) ≡ type_fault other also (written.Result r by)
    same_outcome_fault s r Neither Neither h = refl
    same_outcome_fault s r (Ok' p t) (Ok' q u) h = same_type_fault t u h
    same_outcome_fault s r (Err' p t) (Err' q u) h = same_type_fault t u h
    same_outcome_fault s r (Both' p t q u) (Both' x v y w) h = ap₂ option_or (same_type_fault t v h.0) (same_type_fault u w h.1)
    same_outcome_fault s r of by h = absurd h

    same_row_fault : {m n : _} (o p : Option Fault) (ts : Row_of-Type m) (us : Row_of-Type n) → o ≡ p → SameRow ts us → row_fault word handle o ts ≡ row_fault other also p us
    same_row_fault o p end_of-Type end_of-Type e h = e
    same_row_fault o p (more_of-Type t ts) (more_of-Type u us) e h = ap₂ option_or (same_type_fault t u h.0) (same_row_fault None None ts us refl h.1)
    same_row_fault o p ts us e h = absurd h

-- ---- bodies
abbrev pub SameBody : TypeBody → TypeBody → Type 0
SameBody (Record s fs) (Record r gs) = (s ≡ r) × AllZip (λ (f g : Field). see_field f ≡ see_field g) fs.items gs.items
SameBody (Flags s fs) (Flags r gs) = (s ≡ r) × AllZip (λ (f g : Flag). see_flag f ≡ see_flag g) fs.items gs.items
SameBody (Variant s cs) (Variant r ds) = (s ≡ r) × AllZip (λ (c d : Case). see_case c ≡ see_case d) cs.items ds.items
SameBody (Enum s cs) (Enum r ds) = (s ≡ r) × AllZip (λ (c d : EnumCase). see_enum_case c ≡ see_enum_case d) cs.items ds.items
SameBody (Resource fs) (Resource gs) = AllZip (λ (f g : ResourceFunc). see_resource_func f ≡ see_resource_func g) fs.items gs.items
SameBody (Plain t) (Plain u) = SameType t u
SameBody b c = ⊥

pub body_same : (b c : TypeBody) → see_body b ≡ see_body c → SameBody b c
body_same (Record s fs) (Record r gs) h = (let items : map see_field fs.items ≡ map see_field gs.items = cc in (cc, zip_of see_field fs.items gs.items items))
body_same (Flags s fs) (Flags r gs) h = (let items : map see_flag fs.items ≡ map see_flag gs.items = cc in (cc, zip_of see_flag fs.items gs.items items))
body_same (Variant s cs) (Variant r ds) h = (let items : map see_case cs.items ≡ map see_case ds.items = cc in (cc, zip_of see_case cs.items ds.items items))
body_same (Enum s cs) (Enum r ds) h = (let items : map see_enum_case cs.items ≡ map see_enum_case ds.items = cc in (cc, zip_of see_enum_case cs.items ds.items items))
body_same (Resource fs) (Resource gs) h = (let items : map see_resource_func fs.items ≡ map see_resource_func gs.items = cc in zip_of see_resource_func fs.items gs.items items)
body_same (Plain t) (Plain u) h = (let item : see_type t ≡ see_type u = cc in type_of t u item)
body_same b c h = absurd (let f : ⊥ = cc in f)

-- the types in a body
both_types : (o p : Option Written) → option_map see_type o ≡ option_map see_type p → Both SameType o p
both_types None None h = tt
both_types None (Some u) h = absurd (let f : ⊥ = cc in f)
both_types (Some t) None h = absurd (let f : ⊥ = cc in f)
both_types (Some t) (Some u) h = (let item : see_type t ≡ see_type u = cc in type_of t u item)

filtered : (cs ds : List Case) → AllZip (λ (c d : Case). see_case c ≡ see_case d) cs ds → AllZip SameType (case_types cs) (case_types ds)
filtered [] [] h = tt
filtered [] (d ∷ ds) h = absurd h
filtered (c ∷ cs) [] h = absurd h
filtered (c ∷ cs) (d ∷ ds) h = consed SameType c.ty d.ty (case_types cs) (case_types ds) (both_types c.ty d.ty (ap (λ (x : SeenCase). x.ty) h.0)) (filtered cs ds h.1)

same_field_types : (fs gs : List Field) → AllZip (λ (f g : Field). see_field f ≡ see_field g) fs gs → AllZip SameType (field_types fs) (field_types gs)
same_field_types fs gs h = zip_map (λ (f g : Field). see_field f ≡ see_field g) SameType (λ (f : Field). f.ty) (λ (f : Field). f.ty) (λ f g same. type_of f.ty g.ty (ap (λ (x : SeenField). x.ty) same)) fs gs h

pub same_body_types : (b c : TypeBody) → SameBody b c → AllZip SameType (body_types b) (body_types c)
same_body_types (Record s fs) (Record r gs) h = same_field_types fs.items gs.items h.1
same_body_types (Flags s fs) (Flags r gs) h = tt
same_body_types (Variant s cs) (Variant r ds) h = filtered cs.items ds.items h.1
same_body_types (Enum s cs) (Enum r ds) h = tt
same_body_types (Resource fs) (Resource gs) h = tt
same_body_types (Plain t) (Plain u) h = (h, tt)
same_body_types b c h = absurd h

-- ---- what a body says
abbrev pub SameMeaning : Body → Body → Type 0
SameMeaning b c = (b.form ≡ c.form) × SameShapes b.parts c.parts

same_all_shapes : (ts us : List Written) → AllZip SameType ts us → SameShapes (all_shapes ts) (all_shapes us)
same_all_shapes [] [] h = tt
same_all_shapes [] (u ∷ us) h = absurd h
same_all_shapes (t ∷ ts) [] h = absurd h
same_all_shapes (t ∷ ts) (u ∷ us) h = (same_shape t u h.0, same_all_shapes ts us h.1)

-- a member by what is seen of it
abbrev made : Documents → Name → Member
made d n = record { name = n.text; docs = record { contents = docs_text d.texts }; span = n.span }

abbrev optional : SeenCase → Bool → Member × Bool
optional x there = (made x.docs x.name, there)

abbrev in_variant : Option Written → Case → Member × Bool
in_variant ty c = (member c.docs c.name, is_some ty)

same_case : (c d : Case) → see_case c ≡ see_case d → in_variant c.ty c ≡ in_variant d.ty d
same_case c d h = there c.ty d.ty (both_of see_type c.ty d.ty (ap (λ (x : SeenCase). x.ty) h))
  where
    there : (o p : Option Written) → Both (λ (t u : Written). see_type t ≡ see_type u) o p → in_variant o c ≡ in_variant p d
    there None None k = ap (λ (x : SeenCase). optional x false) h
    there None (Some u) k = absurd k
    there (Some t) None k = absurd k
    there (Some t) (Some u) k = ap (λ (x : SeenCase). optional x true) h

same_head : (x y : Shape) → SameShape x y → SameMeaning (head x) (head y)
same_head (Prim p) (Prim q) h = (refl, (h, tt))
same_head (Word a) (Word b) h = (refl, (h, tt))
same_head (Of s f xs) (Of r g ys) h = (h.1, h.2)
same_head x y h = absurd h

same_written_body : (t u : Written) → SameType t u → SameMeaning (body_of (Plain t)) (body_of (Plain u))
same_written_body (written.Own s a) (written.Own r b) h = (refl, (h.1, tt))
same_written_body (written.Own s a) u h = absurd h
same_written_body t (written.Own r b) h = absurd h
same_written_body t u h = same_head (shape_of t) (shape_of u) (same_shape t u h)

pub same_meaning : (b c : TypeBody) → SameBody b c → SameMeaning (body_of b) (body_of c)
same_meaning (Record s fs) (Record r gs) h = (
  ap RecordForm (zip_same (λ (f g : Field). see_field f ≡ see_field g) (λ (f : Field). member f.docs f.name) (λ (f : Field). member f.docs f.name) (λ f g same. ap (λ (x : SeenField). made x.docs x.name) same) fs.items gs.items h.1),
  same_all_shapes (field_types fs.items) (field_types gs.items) (same_field_types fs.items gs.items h.1),
)
same_meaning (Flags s fs) (Flags r gs) h =
    (ap FlagsForm (zip_same (λ (f g : Flag). see_flag f ≡ see_flag g) (λ (f : Flag). member f.docs f.name) (λ (f : Flag). member f.docs f.name) (λ f g same. ap (λ (x : SeenFlag). made x.docs x.name) same) fs.items gs.items h.1), tt)
same_meaning (Variant s cs) (Variant r ds) h = (
  ap VariantForm (zip_same (λ (c d : Case). see_case c ≡ see_case d) (λ (c : Case). in_variant c.ty c) (λ (c : Case). in_variant c.ty c) same_case cs.items ds.items h.1),
  same_all_shapes (case_types cs.items) (case_types ds.items) (filtered cs.items ds.items h.1),
)
same_meaning (Enum s cs) (Enum r ds) h =
    (ap EnumForm (zip_same (λ (c d : EnumCase). see_enum_case c ≡ see_enum_case d) (λ (c : EnumCase). member c.docs c.name) (λ (c : EnumCase). member c.docs c.name) (λ c d same. ap (λ (x : SeenFlag). made x.docs x.name) same) cs.items ds.items h.1), tt)
same_meaning (Resource fs) (Resource gs) h = (refl, tt)
same_meaning (Plain t) (Plain u) h = same_written_body t u h
same_meaning b c h = absurd h

-- ---- the first fault of a list
abbrev clash_seen : List ℕ → Name → Name → Fault
clash_seen desc m n = fault_in 25 n.span (clash desc m.text n.text)

abbrev clash_by : List ℕ → Id → Id → Fault
clash_by desc earlier later = fault_in 25 later.span (clash desc earlier.name.now later.name.now)

same_clash : (desc : List ℕ) (before others : List Id) (a b : Id) → AllZip SameId before others → SameId a b → clash_of (λ (id : Id). lower_case id.name.now) (clash_by desc) before a ≡ clash_of (λ (id : Id). lower_case id.name.now) (clash_by desc) others b
same_clash desc before others a b earlier h =
    both_same SameId (λ (y : Id). clash_by desc y a) (λ (y : Id). clash_by desc y b) (λ x y same. ap₂ (λ (m n : Name). clash_seen desc m n) same h)
    (find (λ (y : Id). bytes_eq (lower_case y.name.now) (lower_case a.name.now)) before) (find (λ (y : Id). bytes_eq (lower_case y.name.now) (lower_case b.name.now)) others)
    (zip_find SameId (λ (y : Id). bytes_eq (lower_case y.name.now) (lower_case a.name.now)) (λ (y : Id). bytes_eq (lower_case y.name.now) (lower_case b.name.now)) (λ x y same. ap₂ (λ (m n : Name). bytes_eq (lower_case m.text) (lower_case n.text)) same h) before others earlier)

pub same_names_fault : (desc : List ℕ) (xs ys : List Id) → AllZip SameId xs ys → names_fault desc xs ≡ names_fault desc ys
same_names_fault desc xs ys h = zip_after SameId (clash_of (λ (id : Id). lower_case id.name.now) (clash_by desc)) (clash_of (λ (id : Id). lower_case id.name.now) (clash_by desc)) (same_clash desc) [] xs [] ys tt h

same_empty : {A : Type 0} (R : A → A → Type 0) (number : ℕ) (xs ys : List A) (s r : Span) → AllZip R xs ys → s ≡ r → empty_fault number xs s ≡ empty_fault number ys r
same_empty R number [] [] s r h e = ap (λ (at : Span). Some (fault number at)) e
same_empty R number [] (y ∷ ys) s r h e = absurd h
same_empty R number (x ∷ xs) [] s r h e = absurd h
same_empty R number (x ∷ xs) (y ∷ ys) s r h e = refl

module _ {A : Type 0} (R : A → A → Type 0) (name : A → Id) (named : (x y : A) → R x y → SameId (name x) (name y)) (xs ys : List A) (h : AllZip R xs ys) where
  same_names : (desc : List ℕ) → names_fault desc (map name xs) ≡ names_fault desc (map name ys)
  same_names desc = same_names_fault desc (map name xs) (map name ys) (zip_map R SameId name name named xs ys h)

  same_members : (number : ℕ) (desc : List ℕ) (s r : Span) → s ≡ r → members_fault number desc name s xs ≡ members_fault number desc name r ys
  same_members number desc s r e = ap₂ option_or (same_empty R number xs ys s r h e) (same_names desc)

pub same_list_fault : (b c : TypeBody) → SameBody b c → list_fault b ≡ list_fault c
same_list_fault (Record s fs) (Record r gs) h = same_members (λ (f g : Field). see_field f ≡ see_field g) (λ (x : Field). x.name) (λ f g same. ap (λ (x : SeenField). x.name) same) fs.items gs.items h.1 19 (codes "field") s r h.0
same_list_fault (Flags s fs) (Flags r gs) h =
    let Same : Flag → Flag → Type 0 = λ f g. see_flag f ≡ see_flag g in
    let named : (f g : Flag) → Same f g → SameId f.name g.name = λ f g same. ap (λ (x : SeenFlag). x.name) same in
    ap₂ option_or (same_empty Same 20 fs.items gs.items s r h.1 h.0) (ap₂ option_or
    (both_same Same (λ (flag : Flag). fault 21 flag.name.span) (λ (flag : Flag). fault 21 flag.name.span) (λ f g same. ap (λ (x : SeenFlag). fault 21 x.name.span) same) (slice_get fs.items 32) (slice_get gs.items 32) (zip_at Same fs.items gs.items 32 h.1))
    (same_names Same (λ (x : Flag). x.name) named fs.items gs.items h.1 (codes "flag")))
same_list_fault (Variant s cs) (Variant r ds) h = same_members (λ (c d : Case). see_case c ≡ see_case d) (λ (x : Case). x.name) (λ c d same. ap (λ (x : SeenCase). x.name) same) cs.items ds.items h.1 23 (codes "case") s r h.0
same_list_fault (Enum s cs) (Enum r ds) h = same_members (λ (c d : EnumCase). see_enum_case c ≡ see_enum_case d) (λ (x : EnumCase). x.name) (λ c d same. ap (λ (x : SeenFlag). x.name) same) cs.items ds.items h.1 24 (codes "case") s r h.0
same_list_fault (Resource fs) (Resource gs) h = refl
same_list_fault (Plain t) (Plain u) h = refl
same_list_fault b c h = absurd h
