-- Written types that are alike, and their shapes.
use Rattle.std.proofs.Common.{◌≡◌, Bool, true, false, Option, Some, None, refl, ap, sym, ◌∙◌}
use Rattle.wit_walk.proofs.Common.{AllZip, Both', Err', FixedLengthListForm, Held-Type-Future-1, More, Neither, None', Of, Ok', Prim, Primitive, ResultTypes, Row_of-Type, Shape, Shapes, Some', Span, Word, all_words, end_of-Type, more_of-Type, ok_of, ok_span, ok_type, option_map_or, row_shapes, shape_of, type_span, words, «Type» as Written, ⊤}
use Rattle.wit_syntax.specs.Shape.{End}
use Rattle.wit_type_tree.specs.declared.types.«Type».TheVariants as written
use Rattle.wit_grammar.specs.Trees.{Name, Ty, result}
use Rattle.wit_grammar.specs.Seen.{see_type, see_result, see_borrowed, see_row}
use Rattle.wit_alike.proofs.Lists.{Both, zip_append}
use Rattle.wit_alike.proofs.Leaves.{SameId, same_span}

abbrev mutual
  pub SameType : Written → Written → Type 0
  SameType (written.Primitive s p) (written.Primitive t q) = (s ≡ t) × (p ≡ q)
  SameType (written.Name a) (written.Name b) = SameId a b
  SameType (written.List' s p t) (written.List' r q u) = (s ≡ r) × SameType t u
  SameType (written.FixedLengthList' s p t n) (written.FixedLengthList' r q u m) = (s ≡ r) × SameType t u × (n ≡ m)
  SameType (written.Map' s p k q v) (written.Map' r o l n w) = (s ≡ r) × SameType k l × SameType v w
  SameType (written.Option' s p t) (written.Option' r q u) = (s ≡ r) × SameType t u
  SameType (written.Result s of) (written.Result r other) = (s ≡ r) × SameResult of other
  SameType (written.Tuple' s x ts) (written.Tuple' r y us) = (s ≡ r) × SameRow ts us
  SameType (written.Future' s t) (written.Future' r u) = (s ≡ r) × SameBorrowed t u
  SameType (written.Stream' s t) (written.Stream' r u) = (s ≡ r) × SameBorrowed t u
  SameType (written.Own s a) (written.Own r b) = (s ≡ r) × SameId a b
  SameType (written.Borrow s a) (written.Borrow r b) = (s ≡ r) × SameId a b
  SameType t u = ⊥

  pub SameResult : ResultTypes → ResultTypes → Type 0
  SameResult Neither Neither = ⊤
  SameResult (Ok' p t) (Ok' q u) = SameType t u
  SameResult (Err' p t) (Err' q u) = SameType t u
  SameResult (Both' p t q u) (Both' r v s w) = SameType t v × SameType u w
  SameResult of other = ⊥

  pub SameBorrowed : Held-Type-Future-1 → Held-Type-Future-1 → Type 0
  SameBorrowed None' None' = ⊤
  SameBorrowed (Some' p t) (Some' q u) = SameType t u
  SameBorrowed t u = ⊥

  pub SameRow : {m n : _} → Row_of-Type m → Row_of-Type n → Type 0
  SameRow end_of-Type end_of-Type = ⊤
  SameRow (more_of-Type t ts) (more_of-Type u us) = SameType t u × SameRow ts us
  SameRow ts us = ⊥

-- a result is seen as one
abbrev is_result : Ty → Bool
is_result (result s ok err) = true
is_result t = false

result_is : (s : Span) (of : ResultTypes) → is_result (see_result s of) ≡ true
result_is s Neither = refl
result_is s (Ok' p t) = refl
result_is s (Err' p t) = refl
result_is s (Both' p t q u) = refl

-- what is seen of types is equal, so they are alike
mutual
  pub type_of : (t u : Written) → see_type t ≡ see_type u → SameType t u
  type_of (written.Primitive s p) (written.Primitive t q) h = (cc, cc)
  type_of (written.Name a) (written.Name b) h = cc
  type_of (written.List' s p t) (written.List' r q u) h = (let item : see_type t ≡ see_type u = cc in (cc, type_of t u item))
  type_of (written.FixedLengthList' s p t n) (written.FixedLengthList' r q u m) h = (let item : see_type t ≡ see_type u = cc in (cc, type_of t u item, cc))
  type_of (written.Map' s p k q v) (written.Map' r o l n w) h = (let key : see_type k ≡ see_type l = cc in let value : see_type v ≡ see_type w = cc in (cc, type_of k l key, type_of v w value))
  type_of (written.Option' s p t) (written.Option' r q u) h = (let item : see_type t ≡ see_type u = cc in (cc, type_of t u item))
  type_of (written.Result s of) (written.Result r other) h = result_of s r of other h
  type_of (written.Tuple' s x ts) (written.Tuple' r y us) h = (let row : see_row ts ≡ see_row us = cc in (cc, row_of ts us row))
  type_of (written.Future' s t) (written.Future' r u) h = (let item : see_borrowed t ≡ see_borrowed u = cc in (cc, borrowed_of t u item))
  type_of (written.Stream' s t) (written.Stream' r u) h = (let item : see_borrowed t ≡ see_borrowed u = cc in (cc, borrowed_of t u item))
  type_of (written.Own s a) (written.Own r b) h = (cc, cc)
  type_of (written.Borrow s a) (written.Borrow r b) h = (cc, cc)
  type_of (written.Result s of) u h = absurd (let f : true ≡ is_result (see_type u) = sym (result_is s of) ∙ ap is_result h in let g : ⊥ = cc in g)
  type_of t (written.Result r other) h = absurd (let f : is_result (see_type t) ≡ true = ap is_result h ∙ result_is r other in let g : ⊥ = cc in g)
  type_of t u h = absurd (let f : ⊥ = cc in f)

  pub result_of : (s r : Span) (of other : ResultTypes) → see_result s of ≡ see_result r other → (s ≡ r) × SameResult of other
  result_of s r Neither Neither h = (cc, tt)
  result_of s r (Ok' p t) (Ok' q u) h = (let item : see_type t ≡ see_type u = cc in (cc, type_of t u item))
  result_of s r (Err' p t) (Err' q u) h = (let item : see_type t ≡ see_type u = cc in (cc, type_of t u item))
  result_of s r (Both' p t q u) (Both' o v n w) h = (let ok : see_type t ≡ see_type v = cc in let err : see_type u ≡ see_type w = cc in (cc, (type_of t v ok, type_of u w err)))
  result_of s r of other h = absurd (let f : ⊥ = cc in f)

  pub borrowed_of : (t u : Held-Type-Future-1) → see_borrowed t ≡ see_borrowed u → SameBorrowed t u
  borrowed_of None' None' h = tt
  borrowed_of (Some' p t) (Some' q u) h = (let item : see_type t ≡ see_type u = cc in type_of t u item)
  borrowed_of t u h = absurd (let f : ⊥ = cc in f)

  pub row_of : {m n : _} (ts : Row_of-Type m) (us : Row_of-Type n) → see_row ts ≡ see_row us → SameRow ts us
  row_of end_of-Type end_of-Type h = tt
  row_of (more_of-Type t ts) (more_of-Type u us) h = (let first : see_type t ≡ see_type u = cc in let rest : see_row ts ≡ see_row us = cc in (type_of t u first, row_of ts us rest))
  row_of ts us h = absurd (let f : ⊥ = cc in f)

-- ---- shapes
abbrev mutual
  pub SameShape : Shape → Shape → Type 0
  SameShape (Prim p) (Prim q) = p ≡ q
  SameShape (Word a) (Word b) = SameId a b
  SameShape (Of s f xs) (Of r g ys) = (s ≡ r) × (f ≡ g) × SameShapes xs ys
  SameShape x y = ⊥

  pub SameShapes : Shapes → Shapes → Type 0
  SameShapes End End = ⊤
  SameShapes (More x xs) (More y ys) = SameShape x y × SameShapes xs ys
  SameShapes xs ys = ⊥

mutual
  pub same_shape : (t u : Written) → SameType t u → SameShape (shape_of t) (shape_of u)
  same_shape (written.Primitive s p) (written.Primitive t q) h = h.1
  same_shape (written.Name a) (written.Name b) h = h
  same_shape (written.List' s p t) (written.List' r q u) h = (h.0, refl, (same_shape t u h.1, tt))
  same_shape (written.FixedLengthList' s p t n) (written.FixedLengthList' r q u m) h = (h.0, ap FixedLengthListForm h.2, (same_shape t u h.1, tt))
  same_shape (written.Map' s p k q v) (written.Map' r o l n w) h = (h.0, refl, (same_shape k l h.1, (same_shape v w h.2, tt)))
  same_shape (written.Option' s p t) (written.Option' r q u) h = (h.0, refl, (same_shape t u h.1, tt))
  same_shape (written.Result s Neither) (written.Result r Neither) h = (h.0, refl, tt)
  same_shape (written.Result s (Ok' p t)) (written.Result r (Ok' q u)) h = (h.0, refl, (same_shape t u h.1, tt))
  same_shape (written.Result s (Err' p t)) (written.Result r (Err' q u)) h = (h.0, refl, (same_shape t u h.1, tt))
  same_shape (written.Result s (Both' p t q u)) (written.Result r (Both' n v m w)) h = (h.0, refl, (same_shape t v h.1.0, (same_shape u w h.1.1, tt)))
  same_shape (written.Result s of) (written.Result r other) h = absurd h.1
  same_shape (written.Tuple' s x ts) (written.Tuple' r y us) h = (h.0, refl, same_shapes ts us h.1)
  same_shape (written.Future' s None') (written.Future' r None') h = (h.0, refl, tt)
  same_shape (written.Future' s (Some' p t)) (written.Future' r (Some' q u)) h = (h.0, refl, (same_shape t u h.1, tt))
  same_shape (written.Future' s None') (written.Future' r (Some' q u)) h = absurd h.1
  same_shape (written.Future' s (Some' p t)) (written.Future' r None') h = absurd h.1
  same_shape (written.Stream' s None') (written.Stream' r None') h = (h.0, refl, tt)
  same_shape (written.Stream' s (Some' p t)) (written.Stream' r (Some' q u)) h = (h.0, refl, (same_shape t u h.1, tt))
  same_shape (written.Stream' s None') (written.Stream' r (Some' q u)) h = absurd h.1
  same_shape (written.Stream' s (Some' p t)) (written.Stream' r None') h = absurd h.1
  same_shape (written.Own s a) (written.Own r b) h = h.1
  same_shape (written.Borrow s a) (written.Borrow r b) h = (h.0, refl, (h.1, tt))
  same_shape t u h = absurd h

  pub same_shapes : {m n : _} (ts : Row_of-Type m) (us : Row_of-Type n) → SameRow ts us → SameShapes (row_shapes ts) (row_shapes us)
  same_shapes end_of-Type end_of-Type h = tt
  same_shapes (more_of-Type t ts) (more_of-Type u us) h = (same_shape t u h.0, same_shapes ts us h.1)
  same_shapes ts us h = absurd h

-- the names in shapes
mutual
  pub same_words : (x y : Shape) → SameShape x y → AllZip SameId (words x) (words y)
  same_words (Prim p) (Prim q) h = tt
  same_words (Word a) (Word b) h = (h, tt)
  same_words (Of s f xs) (Of r g ys) h = same_all_words xs ys h.2
  same_words x y h = absurd h

  pub same_all_words : (xs ys : Shapes) → SameShapes xs ys → AllZip SameId (all_words xs) (all_words ys)
  same_all_words End End h = tt
  same_all_words (More x xs) (More y ys) h = zip_append SameId (words x) (all_words xs) (words y) (all_words ys) (same_words x y h.0) (same_all_words xs ys h.1)
  same_all_words xs ys h = absurd h

-- ---- where a type is, and what it gives as a result
pub same_type_span : (t u : Written) → SameType t u → type_span t ≡ type_span u
same_type_span (written.Primitive s p) (written.Primitive t q) h = h.0
same_type_span (written.Name a) (written.Name b) h = same_span a b h
same_type_span (written.List' s p t) (written.List' r q u) h = h.0
same_type_span (written.FixedLengthList' s p t n) (written.FixedLengthList' r q u m) h = h.0
same_type_span (written.Map' s p k q v) (written.Map' r o l n w) h = h.0
same_type_span (written.Option' s p t) (written.Option' r q u) h = h.0
same_type_span (written.Result s of) (written.Result r other) h = h.0
same_type_span (written.Tuple' s x ts) (written.Tuple' r y us) h = h.0
same_type_span (written.Future' s t) (written.Future' r u) h = h.0
same_type_span (written.Stream' s t) (written.Stream' r u) h = h.0
same_type_span (written.Own s a) (written.Own r b) h = h.0
same_type_span (written.Borrow s a) (written.Borrow r b) h = h.0
same_type_span t u h = absurd h

pub same_ok_type : (of other : ResultTypes) → SameResult of other → Both SameType (ok_type of) (ok_type other)
same_ok_type Neither Neither h = tt
same_ok_type (Ok' p t) (Ok' q u) h = h
same_ok_type (Err' p t) (Err' q u) h = tt
same_ok_type (Both' p t q u) (Both' r v s w) h = h.0
same_ok_type of other h = absurd h

-- what it gives, where it is a result
pub same_ok_of : (t u : Written) → SameType t u → Both (Both SameType) (ok_of t) (ok_of u)
same_ok_of (written.Primitive s p) (written.Primitive t q) h = tt
same_ok_of (written.Name a) (written.Name b) h = tt
same_ok_of (written.List' s p t) (written.List' r q u) h = tt
same_ok_of (written.FixedLengthList' s p t n) (written.FixedLengthList' r q u m) h = tt
same_ok_of (written.Map' s p k q v) (written.Map' r o l n w) h = tt
same_ok_of (written.Option' s p t) (written.Option' r q u) h = tt
same_ok_of (written.Result s of) (written.Result r other) h = same_ok_type of other h.1
same_ok_of (written.Tuple' s x ts) (written.Tuple' r y us) h = tt
same_ok_of (written.Future' s t) (written.Future' r u) h = tt
same_ok_of (written.Stream' s t) (written.Stream' r u) h = tt
same_ok_of (written.Own s a) (written.Own r b) h = tt
same_ok_of (written.Borrow s a) (written.Borrow r b) h = tt
same_ok_of t u h = absurd h

same_or_span : (s r : Span) (o p : Option Written) → s ≡ r → Both SameType o p → option_map_or type_span o s ≡ option_map_or type_span p r
same_or_span s r None None e h = e
same_or_span s r None (Some u) e h = absurd h
same_or_span s r (Some t) None e h = absurd h
same_or_span s r (Some t) (Some u) e h = same_type_span t u h

pub same_ok_span : (t u : Written) → SameType t u → ok_span t ≡ ok_span u
same_ok_span (written.Primitive s p) (written.Primitive t q) h = h.0
same_ok_span (written.Name a) (written.Name b) h = same_span a b h
same_ok_span (written.List' s p t) (written.List' r q u) h = h.0
same_ok_span (written.FixedLengthList' s p t n) (written.FixedLengthList' r q u m) h = h.0
same_ok_span (written.Map' s p k q v) (written.Map' r o l n w) h = h.0
same_ok_span (written.Option' s p t) (written.Option' r q u) h = h.0
same_ok_span (written.Result s of) (written.Result r other) h = same_or_span s r (ok_type of) (ok_type other) h.0 (same_ok_type of other h.1)
same_ok_span (written.Tuple' s x ts) (written.Tuple' r y us) h = h.0
same_ok_span (written.Future' s t) (written.Future' r u) h = h.0
same_ok_span (written.Stream' s t) (written.Stream' r u) h = h.0
same_ok_span (written.Own s a) (written.Own r b) h = h.0
same_ok_span (written.Borrow s a) (written.Borrow r b) h = h.0
same_ok_span t u h = absurd h
