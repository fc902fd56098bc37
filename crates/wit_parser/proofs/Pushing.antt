-- The first fault of a source that is pushed after files is a broken rule; and where there is none, no rule is broken.
use Rattle.std.proofs.Common.{◌≡◌, ℕ, Bool, true, false, List, [], ◌∷◌, Option, Some, None, inl, inr, ◌⊎◌, refl, sym, ap, ◌∙◌}
use Rattle.wit_items.proofs.Common.{Agrees, Fault, IsMismatch, IsSamePackage, NestedPackage, PackageFile, PackageName, Release, SourceFile, Version, at_contains, contains_at, docs_agree, false_from_ne_true, fault, fault_in, headers, last_header, mismatch, nesting_fault, option_map, option_or, or_none_both, or_some, other_fault, package_of, parts_of, push_fault, release_of, same_package, same_package-equal, same_package-from}
use Rattle.wit_values.specs.ReleaseText.{release_parts}
use Rattle.wit_tree.specs.declared.tree.PackageName.{PackageName as Header}
use Rattle.wit_parser.specs.Stray.{IsNesting, IsStray}

-- a version by its parts
abbrev of_parts : ℕ × ℕ × ℕ × List ℕ × List ℕ → Release
of_parts p = record { major = p.0; minor = p.1; patch = p.2; pre = p.3; build = p.4 }

releases_same : (a b : Option Version) → option_map parts_of a ≡ option_map parts_of b → option_map release_of a ≡ option_map release_of b
releases_same (Some v) (Some w) h = (let same : parts_of v ≡ parts_of w = cc in ap (λ p. Some (of_parts p)) same)
releases_same None None h = refl
releases_same a b h = cc

parts_same : (a b : Option Version) → option_map release_of a ≡ option_map release_of b → option_map parts_of a ≡ option_map parts_of b
parts_same (Some v) (Some w) h = (let same : release_of v ≡ release_of w = cc in ap Some (ap release_parts same))
parts_same None None h = refl
parts_same a b h = cc

-- two headers name one package
pub package_same : (a b : Header) → same_package (package_of a) (package_of b) ≡ true → IsSamePackage a b
package_same a b h =
    let same = same_package-equal (package_of a) (package_of b) h in
    record {
      namespace = ap (λ (p : PackageName). p.namespace) same;
      name = ap (λ (p : PackageName). p.name) same;
      version = parts_same a.version b.version (ap (λ (p : PackageName). p.version) same);
    }

pub same_by : (a b : Header) → IsSamePackage a b → same_package (package_of a) (package_of b) ≡ true
same_by a b h = same_package-from (package_of a) (package_of b) (cc (h.namespace, h.name, releases_same a.version b.version h.version))

-- a header after one of another package: its fault
abbrev pub another : (before own : Header) → Fault
another before own = fault_in 1 own.span (mismatch (package_of own) (package_of before))

-- that, and a header after one of the same package
pub other_here : (before own : Header) → (IsSamePackage before own → ⊥) → other_fault (Some before) (Some own) ≡ Some (another before own)
other_here before own other = rw (false_from_ne_true (same_package (package_of before) (package_of own)) (λ same. other (package_same before own same))) refl

pub same_here : (before own : Header) → IsSamePackage before own → other_fault (Some before) (Some own) ≡ None
same_here before own same = rw (same_by before own same) refl

other_broken : (previous current : Option Header) (f : Fault) → other_fault previous current ≡ Some f → IsMismatch previous current f
other_broken (Some before) (Some own) f h = by (same_package (package_of before) (package_of own)) refl
  where
    by : (b : Bool) → same_package (package_of before) (package_of own) ≡ b → IsMismatch (Some before) (Some own) f
    by true is = cc (rw is at h)
    by false is = record {
      before = before;
      own = own;
      was = refl;
      now = refl;
      other = λ one. cc (sym (same_by before own one) ∙ is);
      is = cc (rw is at h);
    }
other_broken _ current f h = cc

other_unbroken : (previous current : Option Header) → other_fault previous current ≡ None → (f : Fault) → IsMismatch previous current f → ⊥
other_unbroken previous current none f h =
    cc (sym none ∙ ap (λ (o : Option Header). other_fault o current) h.was ∙ ap (other_fault (Some h.before)) h.now ∙ other_here h.before h.own h.other)

pub other_agrees : (previous current : Option Header) → Agrees (other_fault previous current) (IsMismatch previous current)
other_agrees previous current = record { broken = other_broken previous current; unbroken = other_unbroken previous current }

-- a package that is nested
nesting_broken : (nested : List NestedPackage) (f : Fault) → nesting_fault nested ≡ Some f → IsNesting nested f
nesting_broken [] f h = absurd (let g : ⊥ = cc in g)
nesting_broken (inner ∷ rest) f h = (
    let same : Some (fault 3 inner.name.span) ≡ Some f = h in
    record { inner = inner; among = contains_at (inner ∷ rest) 0 inner refl; is = (let says : f ≡ fault 3 inner.name.span = cc in says) })

nesting_unbroken : (nested : List NestedPackage) → nesting_fault nested ≡ None → (f : Fault) → IsNesting nested f → ⊥
nesting_unbroken [] none f h = (let it = at_contains [] h.inner h.among in cc it.1)
nesting_unbroken (inner ∷ rest) none f h = cc

-- of two faults, one after the other
pub or_agrees : {a b : Option Fault} {A B C : Fault → Type 0} → Agrees a A → Agrees b B → ((f : Fault) → A f → C f) → ((f : Fault) → B f → C f) → ((f : Fault) → C f → A f ⊎ B f) → Agrees (option_or a b) C
or_agrees {a} {b} {A} {B} {C} x y left right back = record {
  broken = λ f h. elim (or_some a b f h) [
    | inl own ↦ left f (x.broken f own)
    | inr far ↦ right f (y.broken f far.1)
  ];
  unbroken = λ none f c. (
      let both = or_none_both a b none in
      elim (back f c) [
        | inl own ↦ x.unbroken both.0 f own
        | inr far ↦ y.unbroken both.1 f far
      ]);
}

-- a source
pub push_agrees : (files : List PackageFile) (s : SourceFile) → Agrees (push_fault files s) (IsStray files s)
push_agrees files s = or_agrees (other_agrees (last_header files) s.file.package_id) (or_agrees (docs_agree (headers files) s.file.package_id) (record { broken = nesting_broken s.nested.items; unbroken = nesting_unbroken s.nested.items }) (λ f x. inl x) (λ f x. inr x) (λ f x. x)) (λ f x. inl x) (λ f x. inr x) (λ f x. x)
