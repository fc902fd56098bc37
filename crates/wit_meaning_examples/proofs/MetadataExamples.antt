-- Worked rows with docs and attributes: what they say, what occurs in a definition with a stability, and what breaks the rules of docs and attributes.
use Rattle.std.proofs.Common.{◌≡◌, ℕ, List, [], ◌∷◌, Some, None, inr, refl, ap, lit<, rules}
use Rattle.wit_arena.proofs.Common.{Address, AreMetadata, Attribute, AttributedUse, Box, Def, Defined, DeprecatedAlone, ExternalId, Global, InterfaceNamed, IsBrokenMetadata, IsBrokenStability, IsEntryOf, IsSecondDocs, IsWrongTop, Key, ListForm, Occurrence, Plain, Prim, Release, ScopeName, SinceAndUnstable, SinceTwice, Span, Stability, Stable, ToplevelUse, TypeDef, TypeOwner, Unknown, Version, Whole, about_name, chars-IsAscii, codes, docs_of, drop_trailing_whitespace, encode_utf8_all, fault, first_known, name_occurrences, named, no_docs, one, stability_of, stated_text, unnamed}
use Rattle.wit_types.specs.declared.stability.Stability.TheVariants.{Unstable}
use Rattle.std.specs.Str.{trim_end}
use Rattle.std.proofs.Math.Utf8.{encode}
use Rattle.std.proofs.lemmas.Str.Ascii.{IsAscii-from_all}
use denote.RawPtr.{Ptr}
use Rattle.wit_type_tree.specs.declared.leaves.Attribute.TheVariants as attribute
use Rattle.wit_tree.specs.declared.tree.AstItem.TheVariants.{Use as ToplevelItem}
use Rattle.wit_type_tree.specs.declared.leaves.Docs.{Docs as Comments}
use Rattle.wit_type_tree.specs.declared.types.Primitive.TheVariants as primitive
use Rattle.wit_type_tree.specs.declared.types.«Type».TheVariants as written
use Rattle.wit_type_tree.specs.declared.types.TypeDef.{TypeDef as Definition}
use Rattle.wit_tree.specs.declared.tree.UsePath.TheVariants as path
use Rattle.wit_tree.specs.declared.tree.PackageName.{PackageName as Header}
use Rattle.wit_types.specs.declared.types.«Type».TheVariants as type
use Rattle.wit_types.specs.declared.types.TypeDefKind.TheVariants as kind
use Rattle.wit_types.specs.declared.types.TypeOwner.TheVariants as owner
use Rattle.wit_arena.specs.Occurrences.{settled}
use Rattle.wit_meaning_examples.proofs.Examples.{at, id, vec, no_comments}

abbrev version : ℕ → Version
version major = record { major = major; minor = 0; patch = 0; pre = record { identifier = None }; build = record { identifier = None } }

abbrev release : ℕ → Release
release major = record { major = major; minor = 0; patch = 0; pre = []; build = [] }

abbrev stable : Stability
stable = Stable (release 1) None

-- of those that are known, the first
known_after_unknown : first_known (Unknown ∷ stable ∷ []) ≡ stable
known_after_unknown = refl

known_before_known : first_known (stable ∷ Stable (release 2) None ∷ []) ≡ stable
known_before_known = refl

none_known : first_known (Unknown ∷ Unknown ∷ []) ≡ Unknown
none_known = refl

abbrev in_i : Address
in_i = InterfaceNamed (codes "i")

abbrev list_seen : Span → Occurrence
list_seen span = record { key = Whole ListForm (one (Prim primitive.U8)); span = span; given = stable }

-- no white space is at the end of these docs
pub trimmed : trim_end (codes " Streams.") ≡ codes " Streams."
unfolding trim_end encode
trimmed = ap (λ cs. encode_utf8_all (drop_trailing_whitespace cs)) (chars-IsAscii (codes " Streams.") (IsAscii-from_all (codes " Streams.") (search rules)))

module _ (ptr : Ptr) (alloc : Global) where
  abbrev since : ℕ → Span → Attribute
  since major span = attribute.Since span (version major)

  abbrev unstable : Span → Attribute
  unstable span = attribute.Unstable span (id ptr alloc (codes "f") (at 0 1) refl)

  abbrev deprecated : Span → Attribute
  deprecated span = attribute.Deprecated span (version 2)

  -- after a feature, and later deprecated
  unstable_stated : stability_of (unstable (at 31 53) ∷ deprecated (at 54 82) ∷ []) ≡ Unstable (codes "f") (Some (release 2))
  unstable_stated = refl

  nothing_stated : stability_of [] ≡ Unknown
  nothing_stated = refl

  id_stated : stated_text ExternalId (since 1 (at 31 54) ∷ attribute.ExternalId (at 55 72) (record { ref_ptr = (0, 0); now = codes "x" }) ∷ []) ≡ Some (codes "x")
  id_stated = refl

  -- package foo:foo; interface i { @since(version = 1.0.0) type x = list<list<u8>>; }
  module _ where
    abbrev box : Box (Unit {0}) Global
    box = record { ptr = ptr; alloc = alloc; value = tt }

    abbrev x : Definition
    x = record { docs = no_comments ptr alloc; attributes = vec ptr alloc (since 1 (at 31 54) ∷ []) (lit< tt); name = id ptr alloc (codes "x") (at 60 61) refl; body = Plain (written.List' (at 64 68) box (written.List' (at 69 73) box (written.Primitive (at 74 76) primitive.U8))) }

    as_stated : stability_of x.attributes.items ≡ stable
    as_stated = refl

    -- the inner list is in a stable definition
    seen : name_occurrences in_i (Defined x) ≡ (list_seen (at 69 73) ∷ record { key = Def in_i (codes "x"); span = at 60 61; given = stable } ∷ [])
    seen = refl

    -- so it is stable itself
    abbrev inner : TypeDef
    inner = unnamed (kind.List type.U8) (settled [] stable (kind.List type.U8)) (at 69 73)

    inner_stable : inner.stability ≡ stable
    inner_stable = refl

    inner_is : (names : Address → List ScopeName) (owner_of : Address → TypeOwner) (id : Key → ℕ) → IsEntryOf names owner_of id [] (Whole ListForm (one (Prim primitive.U8))) (at 69 73) stable inner
    inner_is names owner_of id = (kind.List type.U8, refl, refl)

    abbrev outer : TypeDef
    outer = named (owner.Interface 0) (codes "x") (kind.List (type.Id 0)) (about_name (Defined x)).metadata (at 60 61)

    outer_noted : AreMetadata (about_name (Defined x)).metadata outer.docs outer.stability outer.external_id
    outer_noted = record { docs = refl; stability = refl; external_id = refl }

    -- in a signature a list has the stability of its items, where that is known
    list_of_lists : settled (inner ∷ outer ∷ []) Unknown (kind.List (type.Id 0)) ≡ stable
    list_of_lists = refl

    list_of_bytes : settled (inner ∷ outer ∷ []) Unknown (kind.List type.U8) ≡ Unknown
    list_of_bytes = refl

  -- @since(version = 1.0.0) @since(version = 2.0.0)
  since_twice : IsBrokenStability (since 1 (at 0 23) ∷ since 2 (at 24 47) ∷ []) (fault 30 (at 24 47))
  since_twice = SinceTwice (1, _, refl, refl, (λ none. (let f : ⊥ = cc in f)), refl)

  -- @unstable(feature = f) @since(version = 1.0.0)
  both_stated : IsBrokenStability (unstable (at 0 22) ∷ since 1 (at 23 46) ∷ []) (fault 33 (at 23 46))
  both_stated = SinceAndUnstable _ refl (λ none. (let f : ⊥ = cc in f)) refl

  -- @external-id("x") @external-id("y")
  abbrev x_and_y : List Attribute
  x_and_y = attribute.ExternalId (at 0 17) (record { ref_ptr = (0, 0); now = codes "x" }) ∷ attribute.ExternalId (at 18 35) (record { ref_ptr = (0, 0); now = codes "y" }) ∷ []

  id_twice : IsBrokenMetadata x_and_y (fault 35 (at 18 35))
  id_twice = inr (1, _, refl, refl, (λ none. (let f : ⊥ = cc in f)), refl)

  -- @deprecated(version = 2.0.0)
  deprecated_alone : IsBrokenStability (deprecated (at 0 28) ∷ []) (fault 34 (at 0 28))
  deprecated_alone = DeprecatedAlone _ refl refl refl refl

  -- one comment
  abbrev comment : List ℕ → Span → Comments
  comment text span = record { docs = vec ptr alloc (record { ref_ptr = (0, 0); now = text } ∷ []) (lit< tt); span = span }

  no_docs_stated : docs_of (no_comments ptr alloc) ≡ no_docs
  no_docs_stated = refl

  -- ///a package foo:foo; in two files
  abbrev documented : Header
  documented = record { docs = comment (codes "///a") (at 0 4); span = at 13 20; namespace = id ptr alloc (codes "foo") (at 13 16) refl; name = id ptr alloc (codes "foo") (at 17 20) refl; version = None }

  docs_twice : IsSecondDocs (documented ∷ []) (Some documented) (fault 2 (at 0 4))
  docs_twice = record { own = _; now = refl; documented = λ none. (let f : ⊥ = cc in f); before = _; among = (0, lit< tt, refl); documented_before = λ none. (let f : ⊥ = cc in f); is = refl }

  -- @since(version = 1.0.0) use x as y;
  abbrev attributed : ToplevelUse
  attributed = record { span = at 24 27; attributes = vec ptr alloc (since 1 (at 0 23) ∷ []) (lit< tt); item = path.Id (id ptr alloc (codes "x") (at 28 29) refl); as_ = Some (id ptr alloc (codes "y") (at 33 34) refl) }

  use_attributed : IsWrongTop [] (ToplevelItem attributed ∷ []) (fault 9 (at 24 27))
  use_attributed = AttributedUse _ (0, lit< tt, refl) (λ none. (let f : ⊥ = cc in f)) refl
