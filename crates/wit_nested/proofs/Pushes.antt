-- The first fault of sources is a reason why one of them cannot be pushed; and where there is none, each of them can.
use Rattle.std.proofs.Common.{◌≡◌, ◌⊎◌, List, [], ◌∷◌, take, Option, Some, None, inl, inr, refl, sym, subst}
use Rattle.wit_items.proofs.Common.{Agrees, ComesTo, Contains, Fault, IsBroken, IsDocumentedTwice, IsOtherPackage, NestedPackage, PackageFile, SourceFile, after_only, after_some, at_contains, contains_at, docs_agree, fault, faultless, first_in, headers, in_agrees, last_header, legal, one_first}
use mathlib.Core.Path.{fun_ext}
use Rattle.wit_tree.specs.declared.tree.PackageName.{PackageName as Header}
use Rattle.wit_parser.proofs.Pushing.{or_agrees, other_agrees}
use Rattle.wit_nested.specs.Nested.{IsBrokenAmong, IsBrokenNested, IsInner, IsUnfit, file_of}
use Rattle.wit_nested.specs.Nested.IsBrokenNested.{Inner, Alone}
use Rattle.wit_nested.specs.Nested.IsUnfit.{Nested, OtherPackage, DocumentedTwice}
use Rattle.wit_walk.proofs.Broken.{broken}
use Rattle.wit_walk.proofs.Decided.{decided}
use Rattle.wit_nested.specs.GroupFaults.{IsUnfitAmong}
use Rattle.wit_nested.specs.PushFaults.{IsWalk, inner_fault, nested_fault, file_fault, source_fault, files_of, pushes_fault}

-- the same fault in other words
pub agrees_as : {a : Option Fault} {A B : Fault → Type 0} → Agrees a A → ((f : Fault) → A f → B f) → ((f : Fault) → B f → A f) → Agrees a B
agrees_as x to back = record { broken = λ f h. to f (x.broken f h); unbroken = λ none f b. x.unbroken none f (back f b) }

-- where nothing is wrong there is none
pub none_of : {A : Fault → Type 0} (first : Option Fault) → Agrees first A → ((f : Fault) → A f → ⊥) → first ≡ None
none_of None x none = refl
none_of (Some f) x none = absurd (none f (x.broken f refl))

-- there is one walk of files
pub one_walk : (walk other : List PackageFile → Option Fault) → IsWalk walk → IsWalk other → walk ≡ other
one_walk walk other a b = fun_ext (λ (files : List PackageFile). one_first files (walk files) (other files) (a.each files) (b.each files))

found : (files : List PackageFile) → (first : Option Fault) × ComesTo files first
found files = elim (decided files) [
  | inl right ↦ (None, faultless files right)
  | inr wrong ↦ (Some wrong.0, wrong.1)
]

pub a_walk : (walk : List PackageFile → Option Fault) × IsWalk walk
a_walk = (λ files. (found files).0, record { each = λ files. (found files).1 })

-- what it comes to is a broken rule
pub walk_agrees : (walk : List PackageFile → Option Fault) → IsWalk walk → (files : List PackageFile) → Agrees (walk files) (IsBroken files)
walk_agrees walk walks files = record {
  broken = λ f is. broken files f (subst (ComesTo files) is (walks.each files));
  unbroken = λ none. legal files (subst (ComesTo files) none (walks.each files));
}

-- a package in a nested one
inner_broken : (n : NestedPackage) (inner : List Header) (f : Fault) → n.nested.items ≡ inner → inner_fault inner ≡ Some f → IsInner n f
inner_broken n [] f is h = absurd (let g : ⊥ = cc in g)
inner_broken n (i ∷ rest) f is h = (
    let same : Some (fault 3 i.span) ≡ Some f = h in
    record { inner = i; among = subst (λ hs. Contains hs i) (sym is) (contains_at (i ∷ rest) 0 i refl); is = (let says : f ≡ fault 3 i.span = cc in says) })

inner_unbroken : (inner : List Header) (i : Header) → inner_fault inner ≡ None → Contains inner i → ⊥
inner_unbroken [] i none among = (let it = at_contains [] i among in let at = it.1 in let g : ⊥ = cc in g)
inner_unbroken (j ∷ rest) i none among = (let g : ⊥ = cc in g)

inner_agrees : (n : NestedPackage) → Agrees (inner_fault n.nested.items) (IsInner n)
inner_agrees n = record { broken = λ f h. inner_broken n n.nested.items f refl h; unbroken = λ none f i. inner_unbroken n.nested.items i.inner none i.among }

nested_back : (n : NestedPackage) (f : Fault) → IsBrokenNested n f → IsInner n f ⊎ IsBroken (file_of n ∷ []) f
nested_back n f (Inner i) = inl i
nested_back n f (Alone b) = inr b

nested_agrees : (walk : List PackageFile → Option Fault) → IsWalk walk → (n : NestedPackage) → Agrees (nested_fault walk n) (IsBrokenNested n)
nested_agrees walk walks n = or_agrees (inner_agrees n) (walk_agrees walk walks (file_of n ∷ [])) (λ f i. Inner i) (λ f b. Alone b) (nested_back n)

file_agrees : (files : List PackageFile) (file : PackageFile) → Agrees (file_fault files file) (λ f. IsOtherPackage files file f ⊎ IsDocumentedTwice files file f)
file_agrees files file = or_agrees (other_agrees (last_header files) file.package_id) (docs_agree (headers files) file.package_id) (λ f x. inl x) (λ f x. inr x) (λ f x. x)

-- a source
unfit_back : (files : List PackageFile) (s : SourceFile) (f : Fault) → IsUnfit files s f → IsBrokenAmong s.nested.items f ⊎ (IsOtherPackage files s.file f ⊎ IsDocumentedTwice files s.file f)
unfit_back files s f (Nested b) = inl b
unfit_back files s f (OtherPackage other) = inr (inl other)
unfit_back files s f (DocumentedTwice twice) = inr (inr twice)

unfit_file : (files : List PackageFile) (s : SourceFile) (f : Fault) → IsOtherPackage files s.file f ⊎ IsDocumentedTwice files s.file f → IsUnfit files s f
unfit_file files s f (inl other) = OtherPackage other
unfit_file files s f (inr twice) = DocumentedTwice twice

among_agrees : (walk : List PackageFile → Option Fault) → IsWalk walk → (ns : List NestedPackage) → Agrees (first_in (nested_fault walk) ns) (IsBrokenAmong ns)
among_agrees walk walks ns = agrees_as (in_agrees (nested_fault walk) IsBrokenNested ns (nested_agrees walk walks)) (λ f h. record { n = h.0; among = h.1; broken = h.2 }) (λ f b. (b.n, b.among, b.broken))

pub source_agrees : (walk : List PackageFile → Option Fault) → IsWalk walk → (files : List PackageFile) (s : SourceFile) → Agrees (source_fault walk files s) (IsUnfit files s)
source_agrees walk walks files s = or_agrees (among_agrees walk walks s.nested.items) (file_agrees files s.file) (λ f b. Nested b) (unfit_file files s) (unfit_back files s)

-- sources
pub pushes_agree : (walk : List PackageFile → Option Fault) → IsWalk walk → (sources : List SourceFile) → Agrees (pushes_fault walk sources) (IsUnfitAmong sources)
pushes_agree walk walks sources =
    let w = λ (before : List SourceFile) (s : SourceFile). source_fault walk (files_of before) s in
    record {
      broken = λ f h. (
          let it = after_some w [] sources f h in
          record { place = it.0; s = it.1; present = it.2; unfit = (source_agrees walk walks (files_of (take it.0 sources)) it.1).broken f it.3 });
      unbroken = λ none f u. (source_agrees walk walks (files_of (take u.place sources)) u.s).unbroken (after_only w [] sources none u.place u.s u.present) f u.unfit;
    }
