-- Names and attributes that are alike: what is seen of them is equal.
use Rattle.std.proofs.Common.{◌≡◌, ℕ, Bool, true, false, not, cond, List, [], Option, Some, None, refl, ap, ap₂, sym, ◌∙◌, subst}
use Rattle.wit_walk.proofs.Common.{AllZip, Attribute, AttributeKind, Fault, Id, Span, attribute_span, counted_fault, external_fault, fault, first_after, first_of, is_of, kind_of, kinds_fault, metadata_fault, number_of, option_or, repeat_fault, stability_fault}
use Rattle.wit_type_tree.specs.declared.leaves.Attribute.TheVariants.{Since, Unstable, Deprecated, ExternalId}
use Rattle.wit_type_tree.specs.declared.attribute_kind.AttributeKind.TheVariants as kind
use Rattle.wit_grammar.specs.Trees.{Name, Attribute as SeenAttribute, since, unstable, deprecated, external}
use Rattle.wit_grammar.specs.Seen.{see_name, see_attribute}
use Rattle.wit_alike.proofs.Lists.{Both, both_same, zip_after, zip_find}

abbrev pub SameId : Id → Id → Type 0
SameId a b = see_name a ≡ see_name b

pub same_text : (a b : Id) → SameId a b → a.name.now ≡ b.name.now
same_text a b h = ap (λ (n : Name). n.text) h

pub same_span : (a b : Id) → SameId a b → a.span ≡ b.span
same_span a b h = ap (λ (n : Name). n.span) h

-- what is made of the text and the place of a name
pub by_name : {X : Type 0} (made : List ℕ → Span → X) (a b : Id) → SameId a b → made a.name.now a.span ≡ made b.name.now b.span
by_name made a b h = ap (λ (n : Name). made n.text n.span) h

-- ---- attributes
abbrev pub SameAttribute : Attribute → Attribute → Type 0
SameAttribute a b = see_attribute a ≡ see_attribute b

abbrev pub SameAttributes : List Attribute → List Attribute → Type 0
SameAttributes xs ys = AllZip SameAttribute xs ys

-- what counts of an attribute that is seen: its kind and its place
abbrev Mark : Type 0
Mark = AttributeKind × Span

abbrev mark_of : SeenAttribute → Mark
mark_of (since s v) = (kind.Since, s)
mark_of (unstable s f) = (kind.Unstable, s)
mark_of (deprecated s v) = (kind.Deprecated, s)
mark_of (external s id) = (kind.ExternalId, s)

abbrev mark : Attribute → Mark
mark a = (kind_of a, attribute_span a)

marked : (a : Attribute) → mark_of (see_attribute a) ≡ mark a
marked (Since s v) = refl
marked (Unstable s f) = refl
marked (Deprecated s v) = refl
marked (ExternalId s id) = refl

same_mark : (a b : Attribute) → SameAttribute a b → mark a ≡ mark b
same_mark a b h = sym (marked a) ∙ ap mark_of h ∙ marked b

same_kind : (a b : Attribute) → SameAttribute a b → kind_of a ≡ kind_of b
same_kind a b h = ap (λ (m : Mark). m.0) (same_mark a b h)

pub same_place : (a b : Attribute) → SameAttribute a b → attribute_span a ≡ attribute_span b
same_place a b h = ap (λ (m : Mark). m.1) (same_mark a b h)

-- an attribute is of a kind by its own kind
abbrev one_kind : AttributeKind → AttributeKind → Bool
one_kind kind.Since kind.Since = true
one_kind kind.Unstable kind.Unstable = true
one_kind kind.Deprecated kind.Deprecated = true
one_kind kind.ExternalId kind.ExternalId = true
one_kind k l = false

by_kind : (k : AttributeKind) (a : Attribute) → is_of k a ≡ one_kind k (kind_of a)
by_kind kind.Since (Since s v) = refl
by_kind kind.Unstable (Unstable s v) = refl
by_kind kind.Deprecated (Deprecated s v) = refl
by_kind kind.ExternalId (ExternalId s v) = refl
by_kind k a = refl

pub same_of : (k : AttributeKind) (a b : Attribute) → SameAttribute a b → is_of k a ≡ is_of k b
same_of k a b h = by_kind k a ∙ ap (one_kind k) (same_kind a b h) ∙ sym (by_kind k b)

pub same_first_of : (k : AttributeKind) (xs ys : List Attribute) → SameAttributes xs ys → Both SameAttribute (first_of k xs) (first_of k ys)
same_first_of k xs ys h = zip_find SameAttribute (is_of k) (is_of k) (same_of k) xs ys h

same_repeat : (before others : List Attribute) (a b : Attribute) → SameAttributes before others → SameAttribute a b → repeat_fault before a ≡ repeat_fault others b
same_repeat before others a b earlier h =
    both_same SameAttribute (λ (e : Attribute). fault (number_of (kind_of a)) (attribute_span a)) (λ (e : Attribute). fault (number_of (kind_of b)) (attribute_span b))
    (λ e f same. ap (λ (m : Mark). fault (number_of m.0) m.1) (same_mark a b h)) (first_of (kind_of a) before) (first_of (kind_of b) others)
    (subst (λ (k : AttributeKind). Both SameAttribute (first_of (kind_of a) before) (first_of k others)) (same_kind a b h) (same_first_of (kind_of a) before others earlier))

counted : (p q : Bool) (o r : Option Fault) → p ≡ q → o ≡ r → cond p o None ≡ cond q r None
counted p q o r h k = ap₂ (λ (b : Bool) (x : Option Fault). cond b x None) h k

module _ (counts : Attribute → Bool) (each : (a b : Attribute) → SameAttribute a b → counts a ≡ counts b) (xs ys : List Attribute) (h : SameAttributes xs ys) where
  same_counted : first_after (counted_fault counts) [] xs ≡ first_after (counted_fault counts) [] ys
  same_counted = zip_after SameAttribute (counted_fault counts) (counted_fault counts)
      (λ before others a b earlier same. counted (counts a) (counts b) (repeat_fault before a) (repeat_fault others b) (each a b same) (same_repeat before others a b earlier same)) [] xs [] ys tt h

same_kinds : (a b c x y z : Option Attribute) → Both SameAttribute a x → Both SameAttribute b y → Both SameAttribute c z → kinds_fault a b c ≡ kinds_fault x y z
same_kinds (Some a) (Some b) c (Some x) (Some y) z h k l = ap (λ (s : Span). Some (fault 33 s)) (same_place a x h)
same_kinds (Some a) (Some b) c (Some x) None z h k l = absurd k
same_kinds (Some a) (Some b) c None y z h k l = absurd h
same_kinds (Some a) None c (Some x) (Some y) z h k l = absurd k
same_kinds (Some a) None c (Some x) None z h k l = refl
same_kinds (Some a) None c None y z h k l = absurd h
same_kinds None b c (Some x) y z h k l = absurd h
same_kinds None (Some b) c None (Some y) z h k l = refl
same_kinds None (Some b) c None None z h k l = absurd k
same_kinds None None c None (Some y) z h k l = absurd k
same_kinds None None (Some c) None None (Some z) h k l = ap (λ (s : Span). Some (fault 34 s)) (same_place c z l)
same_kinds None None (Some c) None None None h k l = absurd l
same_kinds None None None None None (Some z) h k l = absurd l
same_kinds None None None None None None h k l = refl

module _ (xs ys : List Attribute) (h : SameAttributes xs ys) where
  pub same_stability : stability_fault xs ≡ stability_fault ys
  same_stability =
      let once = same_counted (λ (a : Attribute). not (is_of kind.ExternalId a)) (λ a b same. ap not (same_of kind.ExternalId a b same)) xs ys h in
      let together = same_kinds (first_of kind.Since xs) (first_of kind.Unstable xs) (first_of kind.Deprecated xs) (first_of kind.Since ys) (first_of kind.Unstable ys) (first_of kind.Deprecated ys)
      (same_first_of kind.Since xs ys h) (same_first_of kind.Unstable xs ys h) (same_first_of kind.Deprecated xs ys h) in
      ap₂ option_or once together

  pub same_external : external_fault xs ≡ external_fault ys
  same_external = same_counted (is_of kind.ExternalId) (same_of kind.ExternalId) xs ys h

  pub same_metadata : metadata_fault xs ≡ metadata_fault ys
  same_metadata = ap₂ option_or same_stability same_external
