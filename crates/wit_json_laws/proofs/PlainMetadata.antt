-- What plain trees say of things: stabilities whose versions are by SemVer, and packages with plain names.
use Rattle.std.proofs.Common.{◌≡◌, ℕ, ◌==◌, ◌&&◌, true, false, not, List, ◌++◌, map, Option, Some, None, get_or, refl, sym, ap, ◌∙◌}
use Rattle.wit_arena.proofs.Common.{All, Attribute, AttributeKind, Contains, Id, IfSome, IsValid, Release, Version, and_from, attribute_version, deprecation, find_at, first_of, flat_map, flat_map_at, is_of, list_all, list_all-append, list_all_at, option_and_then, option_map, package_of, parts_of, release_of, slice_get, slice_get-map, stability_by, stability_of, stated_text, stated_version, unwrap_or}
use Rattle.wit_type_tree.specs.declared.attribute_kind.AttributeKind.TheVariants as as_stated
use Rattle.wit_type_tree.specs.declared.leaves.Attribute.TheVariants as attribute
use Rattle.wit_tree.specs.declared.tree.PackageName.{PackageName as Written}
use Rattle.wit_grammar.specs.Seen.{see_attribute, see_name, see_package_id}
use Rattle.wit_json.specs.PlainPackages.{HasVersions, IsPlainName, IsVersion}
use Rattle.wit_json_laws.specs.PlainTrees.{IsPlainAttribute, IsPlainPackageId, IsPlainText}
use Rattle.wit_json_laws.proofs.Lists.{all_at, at_all}

-- ---- lists
pub all_seen : {X Y : Type 0} (P : Y → Type 0) (f : X → Y) (xs : List X) → All P (map f xs) → (k : ℕ) (x : X) → slice_get xs k ≡ Some x → P (f x)
all_seen P f xs all k x at = at_all P (map f xs) all k (f x) (slice_get-map f xs k ∙ ap (option_map f) at)

pub all_flat : {X Y : Type 0} (P : Y → Type 0) (f : X → List Y) (xs : List X) → ((k : ℕ) (x : X) → slice_get xs k ≡ Some x → All P (f x)) → All P (flat_map f xs)
all_flat P f xs each = all_at P (flat_map f xs) (λ k y at. (
    let it = flat_map_at f xs k y at in
    let own = it.3 in
    at_all P (f it.1) (each it.0 it.1 it.2) own.0 y own.1))

-- ---- texts
pub plain_both : (a b : List ℕ) → IsPlainText a → IsPlainText b → IsPlainText (a ++ b)
plain_both a b h k = list_all-append (λ c. not (c == 58) && not (c == 64)) a b ∙ and_from (list_all (λ c. not (c == 58) && not (c == 64)) a) (list_all (λ c. not (c == 58) && not (c == 64)) b) h k

lacks_byte : (c : ℕ) (text : List ℕ) → IsPlainText text → (not (c == 58) && not (c == 64)) ≡ false → Contains text c → ⊥
lacks_byte c text plain marked has =
    let test = λ (b : ℕ). not (b == 58) && not (b == 64) in
    let one : test (get_or text has.0 c) ≡ false = ap test has.2 ∙ marked in
    let none = list_all_at test text has.0 c has.1 one in
    let wrong : true ≡ false = sym plain ∙ none in
    let f : ⊥ = cc in
    f

pub no_colon : (text : List ℕ) → IsPlainText text → Contains text 58 → ⊥
no_colon text plain = lacks_byte 58 text plain refl

pub no_at : (text : List ℕ) → IsPlainText text → Contains text 64 → ⊥
no_at text plain = lacks_byte 64 text plain refl

-- ---- attributes
abbrev pub ArePlain : List Attribute → Type 0
ArePlain xs = All IsPlainAttribute (map see_attribute xs)

abbrev IsOwnVersion : Version → Type 0
IsOwnVersion v = IsValid (parts_of v)

version_plain : (a : Attribute) → IsPlainAttribute (see_attribute a) → IfSome (attribute_version a) IsOwnVersion
version_plain (attribute.Since span v) h = h
version_plain (attribute.Unstable span f) h = tt
version_plain (attribute.Deprecated span v) h = h
version_plain (attribute.ExternalId span id) h = tt

first_plain : (kind : AttributeKind) (xs : List Attribute) → ArePlain xs → (o : Option Attribute) → first_of kind xs ≡ o → IfSome (option_and_then attribute_version o) IsOwnVersion
first_plain kind xs plain None is = tt
first_plain kind xs plain (Some a) is = (let it = find_at (is_of kind) xs a is in version_plain a (all_seen IsPlainAttribute see_attribute xs plain it.0 a it.1))

stated_plain : (kind : AttributeKind) (xs : List Attribute) → ArePlain xs → IfSome (stated_version kind xs) IsOwnVersion
stated_plain kind xs plain = first_plain kind xs plain (first_of kind xs) refl

released : (o : Option Version) → IfSome o IsOwnVersion → IfSome (option_map release_of o) IsVersion
released None h = tt
released (Some v) h = h

by_versions : (since : Option Release) (feature : Option (List ℕ)) (deprecated : Option Release) → IfSome since IsVersion → IfSome deprecated IsVersion → HasVersions (stability_by since feature deprecated)
by_versions (Some r) feature deprecated p q = (p, q)
by_versions None (Some f) deprecated p q = q
by_versions None None deprecated p q = tt

pub stability_plain : (xs : List Attribute) → ArePlain xs → HasVersions (stability_of xs)
stability_plain xs plain =
    let within : (kind : AttributeKind) → IfSome (option_map release_of (stated_version kind xs)) IsVersion = λ kind. released (stated_version kind xs) (stated_plain kind xs plain) in
    by_versions (option_map release_of (stated_version as_stated.Since xs)) (stated_text as_stated.Unstable xs) (deprecation xs) (within as_stated.Since) (within as_stated.Deprecated)

-- ---- packages
version_released : (o : Option Version) → IfSome (option_map parts_of o) IsValid → IfSome (option_map release_of o) IsVersion
version_released None h = tt
version_released (Some v) h = h

pub package_plain : (p : Written) → IsPlainPackageId (see_package_id p) → IsPlainName (package_of p)
package_plain p h = record { namespace = no_colon p.namespace.name.now h.namespace; name = no_at p.name.name.now h.name; version = version_released p.version h.version }

-- a name, or another that means it
pub called_plain : (id : Id) (o : Option Id) → IsPlainText id.name.now → IfSome (option_map see_name o) (λ n. IsPlainText n.text) → IsPlainText (unwrap_or o id).name.now
called_plain id None h k = h
called_plain id (Some other) h k = k
