-- What is stated of things that are alike is equal.
use Rattle.std.proofs.Common.{◌≡◌, ℕ, List, Option, Some, None, refl, ap, ap₂, sym, ◌∙◌}
use Rattle.wit_arena.proofs.Common.{Attribute, AttributeKind, Declared, Defined, Docs, ForeignName, Item, Metadata, Release, ScopeName, Stability, TheInline, TheInterface, TheWorld, Used, about, about_name, attribute_text, attribute_version, declared_metadata, deprecation, docs_of, docs_text, first_of, metadata, no_docs, option_and_then, option_map, release_of, stability_by, stability_of, stated_text, stated_version}
use Rattle.wit_type_tree.specs.declared.leaves.Attribute.TheVariants.{Since, Unstable, Deprecated, ExternalId}
use Rattle.wit_type_tree.specs.declared.leaves.Docs.{Docs as Comments}
use Rattle.wit_type_tree.specs.declared.attribute_kind.AttributeKind.TheVariants as kind
use Rattle.wit_types.specs.declared.stability.Stability.TheVariants as stability
use Rattle.wit_grammar.specs.Trees.{Attribute as SeenAttribute, since, unstable, deprecated, external, Definition, Documents, Extern as SeenExtern, Interface as SeenInterface, Release as Numbers, UsedName, World as SeenWorld}
use Rattle.wit_grammar.specs.Seen.{see_attribute, see_docs}
use Rattle.wit_alike.proofs.Lists.{Both, zip_of}
use Rattle.wit_alike.proofs.Leaves.{SameAttribute, SameAttributes, same_first_of, same_span}
use Rattle.wit_alike.proofs.Items.{SameDeclared, SameItem, SameName, same_about_attributes}

-- ---- docs
abbrev documented : Documents → Docs
documented d = record { contents = docs_text d.texts }

pub same_docs_of : (d e : Comments) → see_docs d ≡ see_docs e → docs_of d ≡ docs_of e
same_docs_of d e h = ap documented h

-- ---- attributes
abbrev text_in : SeenAttribute → Option (List ℕ)
text_in (since s v) = None
text_in (unstable s f) = Some f.text
text_in (deprecated s v) = None
text_in (external s id) = Some id

by_text : (a : Attribute) → attribute_text a ≡ text_in (see_attribute a)
by_text (Since s v) = refl
by_text (Unstable s f) = refl
by_text (Deprecated s v) = refl
by_text (ExternalId s id) = refl

abbrev release_from : Numbers → Release
release_from r = record { major = r.0; minor = r.1; patch = r.2; pre = r.3; build = r.4 }

abbrev release_in : SeenAttribute → Option Release
release_in (since s v) = Some (release_from v)
release_in (unstable s f) = None
release_in (deprecated s v) = Some (release_from v)
release_in (external s id) = None

by_release : (a : Attribute) → option_map release_of (attribute_version a) ≡ release_in (see_attribute a)
by_release (Since s v) = refl
by_release (Unstable s f) = refl
by_release (Deprecated s v) = refl
by_release (ExternalId s id) = refl

text_there : (o p : Option Attribute) → Both SameAttribute o p → option_and_then attribute_text o ≡ option_and_then attribute_text p
text_there None None h = refl
text_there None (Some b) h = absurd h
text_there (Some a) None h = absurd h
text_there (Some a) (Some b) h = by_text a ∙ ap text_in h ∙ sym (by_text b)

release_there : (o p : Option Attribute) → Both SameAttribute o p → option_map release_of (option_and_then attribute_version o) ≡ option_map release_of (option_and_then attribute_version p)
release_there None None h = refl
release_there None (Some b) h = absurd h
release_there (Some a) None h = absurd h
release_there (Some a) (Some b) h = by_release a ∙ ap release_in h ∙ sym (by_release b)

module _ (xs ys : List Attribute) (h : SameAttributes xs ys) where
  pub same_stated_text : (k : AttributeKind) → stated_text k xs ≡ stated_text k ys
  same_stated_text k = text_there (first_of k xs) (first_of k ys) (same_first_of k xs ys h)

  same_release : (k : AttributeKind) → option_map release_of (stated_version k xs) ≡ option_map release_of (stated_version k ys)
  same_release k = release_there (first_of k xs) (first_of k ys) (same_first_of k xs ys h)

  pub same_stability_of : stability_of xs ≡ stability_of ys
  same_stability_of =
      ap₂ (λ (r : Option Release) (f : Option (List ℕ)). stability_by r f (deprecation xs)) (same_release kind.Since) (same_stated_text kind.Unstable)
      ∙ ap (stability_by (option_map release_of (stated_version kind.Since ys)) (stated_text kind.Unstable ys)) (same_release kind.Deprecated)

-- ---- metadata
abbrev stated_as : Docs → Stability → Option (List ℕ) → Metadata
stated_as docs known id = record { docs = docs; stability = known; external_id = id }

pub same_metadata_of : (d e : Docs) (xs ys : List Attribute) → d ≡ e → SameAttributes xs ys → metadata d xs ≡ metadata e ys
same_metadata_of d e xs ys docs h = ap (λ (x : Docs). metadata x xs) docs ∙ ap₂ (λ (s : Stability) (id : Option (List ℕ)). stated_as e s id) (same_stability_of xs ys h) (same_stated_text xs ys h kind.ExternalId)

-- of items
about_docs : (d e : Declared) → SameDeclared d e → see_docs (about d).docs ≡ see_docs (about e).docs
about_docs (TheInterface i) (TheInterface j) h = ap (λ (x : SeenInterface). x.prefix.docs) h
about_docs (TheWorld w) (TheWorld v) h = ap (λ (x : SeenWorld). x.prefix.docs) h
about_docs (TheInline w p x n is) (TheInline v q y m js) h = ap (λ (z : SeenExtern). z.prefix.docs) h.2
about_docs d e h = absurd h

pub same_item_metadata : (i j : Item) → SameItem i j → declared_metadata i.declared ≡ declared_metadata j.declared
same_item_metadata i j h =
    same_metadata_of (docs_of (about i.declared).docs) (docs_of (about j.declared).docs) (about i.declared).attributes (about j.declared).attributes
    (same_docs_of (about i.declared).docs (about j.declared).docs (about_docs i.declared j.declared h.1)) (same_about_attributes i.declared j.declared h.1)

same_declared_called : (d e : Declared) → SameDeclared d e → (about d).called ≡ (about e).called
same_declared_called (TheInterface i) (TheInterface j) h = ap (λ (x : SeenInterface). Some x.name.text) h
same_declared_called (TheWorld w) (TheWorld v) h = ap (λ (x : SeenWorld). Some x.name.text) h
same_declared_called (TheInline w p x n is) (TheInline v q y m js) h = refl
same_declared_called d e h = absurd h

pub same_item_called : (i j : Item) → SameItem i j → (about i.declared).called ≡ (about j.declared).called
same_item_called i j h = same_declared_called i.declared j.declared h.1

-- of names of scopes
pub same_name_span : (x y : ScopeName) → SameName x y → (about_name x).span ≡ (about_name y).span
same_name_span (Used s before n) (Used t others m) h = ap (λ (u : UsedName). u.name.span) h.2
same_name_span (Defined d) (Defined e) h = ap (λ (x : Definition). x.name.span) h
same_name_span (ForeignName before a) (ForeignName others b) h = same_span a b h.1
same_name_span x y h = absurd h

pub same_name_metadata : (x y : ScopeName) → SameName x y → (about_name x).metadata ≡ (about_name y).metadata
same_name_metadata (Used s before n) (Used t others m) h = same_metadata_of no_docs no_docs before others refl h.1
same_name_metadata (Defined d) (Defined e) h =
    same_metadata_of (docs_of d.docs) (docs_of e.docs) d.attributes.items e.attributes.items
    (same_docs_of d.docs e.docs (ap (λ (x : Definition). x.prefix.docs) h)) (zip_of see_attribute d.attributes.items e.attributes.items (ap (λ (x : Definition). x.prefix.attributes) h))
same_name_metadata (ForeignName before a) (ForeignName others b) h = same_metadata_of no_docs no_docs before others refl h.0
same_name_metadata x y h = absurd h
