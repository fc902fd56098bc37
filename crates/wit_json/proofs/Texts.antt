-- Numbers, versions, names of packages, and keys of imports and exports: each is given by its text.
use Rattle.std.proofs.Common.{◌≡◌, ℕ, zero, suc, ◌+◌, ◌<◌, ◌≤◌, ◌^◌, ◌/◌, ◌%◌, Bool, true, false, cond, eqb, eqb-true, List, [], ◌∷◌, ◌++◌, length, ap, sym, ◌∙◌, refl, subst, arith}
use Rattle.std.specs.Prelude.{⊤, Option, Some, None, Result, Ok, Err, Contains, IfSome, drop}
use Rattle.std.specs.Fmt.{decimal, digit_glyph, digits, digits_onto}
use Rattle.std.specs.Str.Parse.{digits_value}
use Rattle.std.proofs.lemmas.Fmt.{decimal_injective, decimal_is_IsNumeral_wide}
use Rattle.semver.specs.Parse.{Parts, version_parts}
use Rattle.semver.specs.declared.error.Error.{Error}
use Rattle.semver.proofs.Grammar.{version_parts-complete}
use Rattle.wit_values.specs.declared.release.Release.{Release}
use Rattle.wit_values.specs.ReleaseText.{release_parts, release_text}
use Rattle.wit_package_names.specs.declared.package_name.PackageName.{PackageName}
use Rattle.wit_package_names.specs.PackageName.{at_version, name_text}
use Rattle.wit_model.specs.declared.world.WorldKey.{WorldKey}
use Rattle.wit_model.specs.declared.world.WorldKey.TheVariants as key
use Rattle.wit_json.specs.Worlds.{interface_key, world_key}
use Rattle.wit_json.specs.PlainPackages.{IsPlainKey, IsPlainName, IsVersion}

-- numbers

ten_pos : (k : ℕ) → 0 < 10 ^ k
ten_pos zero = omega arith
ten_pos (suc k) = omega (arith, ten_pos k)

-- digits that leave room are all that the number has
wide_step : (k n : ℕ) (acc : List ℕ) → ((m : ℕ) (ds : List ℕ) → length (digits_onto k 10 false m ds) < k + length ds → m < 10 ^ k) → (t : Bool) → eqb (n / 10) 0 ≡ t →
    length (cond t (digit_glyph false (n % 10) ∷ acc) (digits_onto k 10 false (n / 10) (digit_glyph false (n % 10) ∷ acc))) < suc k + length acc → n < 10 ^ suc k
wide_step k n acc shorter true is room = let none = eqb-true (n / 10) 0 is in omega (arith, none, ten_pos k)
wide_step k n acc shorter false is room = let prefix = shorter (n / 10) (digit_glyph false (n % 10) ∷ acc) (omega (arith, room)) in omega (arith, prefix)

wide : (k n : ℕ) (acc : List ℕ) → length (digits_onto k 10 false n acc) < k + length acc → n < 10 ^ k
wide zero n acc room = absurd (omega (arith, room))
wide (suc k) n acc room = wide_step k n acc (wide k) (eqb (n / 10) 0) refl room

-- a decimal text is that of at most 64 digits
all_digits : (n : ℕ) → digits_onto 64 10 false n [] ≡ decimal n
unfolding digits
all_digits n = refl

short_number : (n : ℕ) → length (decimal n) ≤ 20 → n < 10 ^ 64
short_number n short = wide 64 n [] (subst (λ (ds : List ℕ). length ds < 64 + 0) (sym (all_digits n)) (omega (arith, short)))

pub decimal_determines : (m n : ℕ) → length (decimal m) ≤ 20 → decimal m ≡ decimal n → m ≡ n
decimal_determines m n short same =
    let one = decimal_is_IsNumeral_wide m (short_number m short) in
    let other = decimal_is_IsNumeral_wide n (short_number n (subst (λ (ds : List ℕ). length ds ≤ 20) same short)) in
    sym one.1 ∙ ap (digits_value 10) same ∙ other.1

-- versions

abbrev parts_or : Result Parts Error → Parts
parts_or (Ok p) = p
parts_or (Err e) = (0, 0, 0, [], [])

pub release_determines : (a b : Release) → IsVersion a → IsVersion b → release_text a ≡ release_text b → a ≡ b
release_determines a b v w same =
    let parts : release_parts a ≡ release_parts b = ap parts_or (sym (version_parts-complete (release_parts a) v) ∙ ap version_parts same ∙ version_parts-complete (release_parts b) w) in
    (λ i. record { major = (parts i).0; minor = (parts i).1; patch = (parts i).2; pre = (parts i).3; build = (parts i).4 })

-- texts that a mark ends

-- nothing, or what begins with the mark
abbrev Begins : ℕ → List ℕ → Type 0
Begins m [] = ⊤
Begins m (x ∷ rest) = x ≡ m

abbrev first_of : ℕ → List ℕ → ℕ
first_of d [] = d
first_of d (x ∷ xs) = x

-- what comes before the first mark is stated, and what is from it on
cut_determines : (m : ℕ) (xs ys rest more : List ℕ) → Begins m rest → Begins m more → (Contains xs m → ⊥) → (Contains ys m → ⊥) → xs ++ rest ≡ ys ++ more → (xs ≡ ys) × (rest ≡ more)
cut_determines m [] [] rest more p q none other same = (refl, same)
cut_determines m [] (y ∷ ys) rest more p q none other same = absurd (other (0, omega arith, subst (Begins m) same p))
cut_determines m (x ∷ xs) [] rest more p q none other same = absurd (none (0, omega arith, subst (Begins m) (sym same) q))
cut_determines m (x ∷ xs) (y ∷ ys) rest more p q none other same =
    let tails = cut_determines m xs ys rest more p q (λ at. none (suc at.0, omega (arith, at.1), at.2)) (λ at. other (suc at.0, omega (arith, at.1), at.2)) (ap (drop 1) same) in
    let heads : x ≡ y = ap (first_of 0) same in
    ((λ i. heads i ∷ tails.0 i), tails.1)

-- names of packages

begins_version : (v : Option Release) → Begins 64 (at_version v)
begins_version None = tt
begins_version (Some v) = refl

at_version_determines : (a b : Option Release) → IfSome a IsVersion → IfSome b IsVersion → at_version a ≡ at_version b → a ≡ b
at_version_determines None None v w same = refl
at_version_determines None (Some b) v w same = absurd (cc same)
at_version_determines (Some a) None v w same = absurd (cc same)
at_version_determines (Some a) (Some b) v w same = ap Some (release_determines a b v w (ap (drop 1) same))

pub name_determines : (a b : PackageName) → IsPlainName a → IsPlainName b → name_text a ≡ name_text b → a ≡ b
name_determines a b p q same =
    let prefix = cut_determines 58 a.namespace b.namespace (58 ∷ (a.name ++ at_version a.version)) (58 ∷ (b.name ++ at_version b.version)) refl refl p.namespace q.namespace same in
    let back = cut_determines 64 a.name b.name (at_version a.version) (at_version b.version) (begins_version a.version) (begins_version b.version) p.name q.name (ap (drop 1) prefix.1) in
    let version = at_version_determines a.version b.version p.version q.version back.1 in
    (λ i. record { namespace = prefix.0 i; name = back.0 i; version = version i })

-- keys of imports and exports

colon_within : (place : ℕ) → Contains (interface_key place) 58
colon_within place = (9, omega arith, refl)

pub world_key_determines : (a b : WorldKey) → IsPlainKey a → IsPlainKey b → world_key a ≡ world_key b → a ≡ b
world_key_determines (key.Name n) (key.Name m) p q same = ap key.Name same
world_key_determines (key.Name n) (key.Interface j) p q same = absurd (p (subst (λ t. Contains t 58) (sym same) (colon_within j)))
world_key_determines (key.Interface i) (key.Name m) p q same = absurd (q (subst (λ t. Contains t 58) same (colon_within i)))
world_key_determines (key.Interface i) (key.Interface j) p q same = ap key.Interface (decimal_injective i j p q (ap (drop 10) same))
