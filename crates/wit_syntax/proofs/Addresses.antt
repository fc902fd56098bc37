-- Versions, packages and addresses: the same ones are equal.
use Rattle.std.proofs.Common.{◌≡◌, ℕ, true, ◌&&◌, List, Option, Some, None, nat_eq, refl, ap, ◌∙◌, eqb-true, eq-eqb}
use Rattle.std.specs.Str.{bytes_eq}
use Rattle.std.proofs.lemmas.Bool.{and_parts, and_from}
use Rattle.wit_values.specs.declared.release.Release.{Release}
use Rattle.wit_package_names.specs.declared.package_name.PackageName.{PackageName}
use Rattle.wit_tree.specs.declared.tree.WorldSide.{WorldSide}
use Rattle.wit_tree.specs.declared.tree.WorldSide.TheVariants.{Imported, Exported}
use Rattle.wit_syntax.specs.ExternPart.{same_side}
use Rattle.wit_syntax.specs.Address.{Address, InterfaceNamed, WorldNamed, InlineAt, ForeignNamed, same_version, same_package, same_address}
use Rattle.wit_syntax.proofs.Names.{name_itself, name_equal}

number_itself : (n : ℕ) → nat_eq n n ≡ true
number_itself n = eq-eqb n n refl

pub number_equal : (m n : ℕ) → nat_eq m n ≡ true → m ≡ n
number_equal m n h = eqb-true m n h

abbrev release : ℕ → ℕ → ℕ → List ℕ → List ℕ → Release
release major minor patch pre build = record { major = major; minor = minor; patch = patch; pre = pre; build = build }

same_release-itself : (a : Release) → same_version (Some a) (Some a) ≡ true
same_release-itself a = and_from (nat_eq a.major a.major) _ (number_itself a.major) (and_from (nat_eq a.minor a.minor) _ (number_itself a.minor) (and_from (nat_eq a.patch a.patch) _ (number_itself a.patch) (and_from (bytes_eq a.pre a.pre) (bytes_eq a.build a.build) (name_itself a.pre) (name_itself a.build))))

same_release-equal : (a b : Release) → same_version (Some a) (Some b) ≡ true → a ≡ b
same_release-equal a b h =
    let one = and_parts (nat_eq a.major b.major) _ h in
    let two = and_parts (nat_eq a.minor b.minor) _ one.1 in
    let three = and_parts (nat_eq a.patch b.patch) _ two.1 in
    let four = and_parts (bytes_eq a.pre b.pre) (bytes_eq a.build b.build) three.1 in
    ap (λ x. release x a.minor a.patch a.pre a.build) (number_equal a.major b.major one.0)
    ∙ ap (λ x. release b.major x a.patch a.pre a.build) (number_equal a.minor b.minor two.0)
    ∙ ap (λ x. release b.major b.minor x a.pre a.build) (number_equal a.patch b.patch three.0)
    ∙ ap (λ x. release b.major b.minor b.patch x a.build) (name_equal a.pre b.pre four.0)
    ∙ ap (λ x. release b.major b.minor b.patch b.pre x) (name_equal a.build b.build four.1)

pub same_version-itself : (a : Option Release) → same_version a a ≡ true
same_version-itself None = refl
same_version-itself (Some a) = same_release-itself a

pub same_version-equal : (a b : Option Release) → same_version a b ≡ true → a ≡ b
same_version-equal None None h = refl
same_version-equal (Some a) (Some b) h = ap Some (same_release-equal a b h)
same_version-equal None (Some b) h = absurd (let f : ⊥ = cc in f)
same_version-equal (Some a) None h = absurd (let f : ⊥ = cc in f)

abbrev named : List ℕ → List ℕ → Option Release → PackageName
named namespace name version = record { namespace = namespace; name = name; version = version }

pub same_package-itself : (a : PackageName) → same_package a a ≡ true
same_package-itself a = and_from (bytes_eq a.namespace a.namespace) _ (name_itself a.namespace) (and_from (bytes_eq a.name a.name) (same_version a.version a.version) (name_itself a.name) (same_version-itself a.version))

pub same_package-equal : (a b : PackageName) → same_package a b ≡ true → a ≡ b
same_package-equal a b h =
    let one = and_parts (bytes_eq a.namespace b.namespace) _ h in
    let two = and_parts (bytes_eq a.name b.name) (same_version a.version b.version) one.1 in
    ap (λ x. named x a.name a.version) (name_equal a.namespace b.namespace one.0)
    ∙ ap (λ x. named b.namespace x a.version) (name_equal a.name b.name two.0)
    ∙ ap (λ x. named b.namespace b.name x) (same_version-equal a.version b.version two.1)

-- a side is itself, and no other
pub side_itself : (side : WorldSide) → same_side side side ≡ true
side_itself Imported = refl
side_itself Exported = refl

pub same_side-equal : (a b : WorldSide) → same_side a b ≡ true → a ≡ b
same_side-equal Imported Imported same = refl
same_side-equal Imported Exported same = absurd (let f : ⊥ = cc in f)
same_side-equal Exported Imported same = absurd (let f : ⊥ = cc in f)
same_side-equal Exported Exported same = refl

pub same_address-itself : (a : Address) → same_address a a ≡ true
same_address-itself (InterfaceNamed a) = name_itself a
same_address-itself (WorldNamed a) = name_itself a
same_address-itself (InlineAt a s i) = and_from (bytes_eq a a) (same_side s s && nat_eq i i) (name_itself a) (and_from (same_side s s) (nat_eq i i) (side_itself s) (number_itself i))
same_address-itself (ForeignNamed p a) = and_from (same_package p p) (bytes_eq a a) (same_package-itself p) (name_itself a)

pub same_address-equal : (a b : Address) → same_address a b ≡ true → a ≡ b
same_address-equal (InterfaceNamed a) (InterfaceNamed b) h = ap InterfaceNamed (name_equal a b h)
same_address-equal (WorldNamed a) (WorldNamed b) h = ap WorldNamed (name_equal a b h)
same_address-equal (InlineAt a s i) (InlineAt b t j) h =
    let one = and_parts (bytes_eq a b) (same_side s t && nat_eq i j) h in
    let two = and_parts (same_side s t) (nat_eq i j) one.1 in
    ap (λ x. InlineAt x s i) (name_equal a b one.0) ∙ ap (λ x. InlineAt b x i) (same_side-equal s t two.0) ∙ ap (InlineAt b t) (number_equal i j two.1)
same_address-equal (ForeignNamed p a) (ForeignNamed q b) h =
    let both = and_parts (same_package p q) (bytes_eq a b) h in
    ap (λ x. ForeignNamed x a) (same_package-equal p q both.0) ∙ ap (ForeignNamed q) (name_equal a b both.1)
same_address-equal (InterfaceNamed a) (WorldNamed b) h = absurd (let f : ⊥ = cc in f)
same_address-equal (InterfaceNamed a) (ForeignNamed q b) h = absurd (let f : ⊥ = cc in f)
same_address-equal (InterfaceNamed a) (InlineAt b t j) h = absurd (let f : ⊥ = cc in f)
same_address-equal (WorldNamed a) (InlineAt b t j) h = absurd (let f : ⊥ = cc in f)
same_address-equal (ForeignNamed p a) (InlineAt b t j) h = absurd (let f : ⊥ = cc in f)
same_address-equal (InlineAt a s i) (InterfaceNamed b) h = absurd (let f : ⊥ = cc in f)
same_address-equal (InlineAt a s i) (WorldNamed b) h = absurd (let f : ⊥ = cc in f)
same_address-equal (InlineAt a s i) (ForeignNamed q b) h = absurd (let f : ⊥ = cc in f)
same_address-equal (WorldNamed a) (InterfaceNamed b) h = absurd (let f : ⊥ = cc in f)
same_address-equal (WorldNamed a) (ForeignNamed q b) h = absurd (let f : ⊥ = cc in f)
same_address-equal (ForeignNamed p a) (InterfaceNamed b) h = absurd (let f : ⊥ = cc in f)
same_address-equal (ForeignNamed p a) (WorldNamed b) h = absurd (let f : ⊥ = cc in f)

-- equal ones are the same
pub same_address-from : (a b : Address) → a ≡ b → same_address a b ≡ true
same_address-from a b h = ap (λ (x : Address). same_address x b) h ∙ same_address-itself b

pub same_package-from : (a b : PackageName) → a ≡ b → same_package a b ≡ true
same_package-from a b h = ap (λ (x : PackageName). same_package x b) h ∙ same_package-itself b
