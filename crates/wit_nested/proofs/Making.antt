-- Nested packages, one more at a time, and what a source with them comes to.
use Rattle.std.proofs.Common.{◌≡◌, ◌⊎◌, List, [], ◌∷◌, ◌++◌, Some, None, inl, inr, ap, sym, subst, ◌∙◌, append_assoc, map}
use Rattle.wit_items.proofs.Common.{AllZip, Contains, Contains-append_left, Contains-push, Err, Fault, IfErr, IfOk, IsBroken, IsDocumentedTwice, IsLegal, IsMadeOf, IsOtherPackage, Makes, NestedPackage, Ok, OnOk, PackageFile, ParseError, Refused, Result, SourceFile, UnresolvedPackage, map-append, refused_weaker}
use Rattle.wit_tree.specs.declared.tree.PackageName.{PackageName as Header}
use Rattle.wit_parser.specs.Stray.{IsNesting, IsStray}
use Rattle.wit_nested.specs.Nested.{GrowByNested, IsBrokenAmong, IsBrokenNested, IsMadeByNested, IsUnfit, file_of}
use Rattle.wit_nested.specs.Nested.IsBrokenNested.{Inner, Alone}
use Rattle.wit_nested.specs.Nested.IsUnfit.{Nested, OtherPackage, DocumentedTwice}
use Rattle.wit_nested.specs.NestedSources.{IsSourceOf}
use Rattle.wit_nested.proofs.PackageNames.{named_among, none_among, none_nested}

-- one more of two lists
pub zip_more : {A B : Type 0} (R : A → B → Type 0) (xs : List A) (ys : List B) (x : A) (y : B) → AllZip R xs ys → R x y → AllZip R (xs ++ x ∷ []) (ys ++ y ∷ [])
zip_more R [] [] x y all r = (r, tt)
zip_more R [] (b ∷ ys) x y all r = absurd all
zip_more R (a ∷ xs) [] x y all r = absurd all
zip_more R (a ∷ xs) (b ∷ ys) x y all r = (all.0, zip_more R xs ys x y all.1 r)

-- the next of a list is an element of it
pub next_among : {A : Type 0} (prefix rest all : List A) (x : A) → prefix ++ x ∷ rest ≡ all → Contains all x
next_among prefix rest all x e = subst (λ xs. Contains xs x) (append_assoc prefix (x ∷ []) rest ∙ e) (Contains-append_left (prefix ++ x ∷ []) rest x (Contains-push prefix x))

-- the first source is stray only where a package is nested in it
inner_of : (n : NestedPackage) (s : SourceFile) (f : Fault) → IsSourceOf n s → IsStray [] s f → IsBrokenNested n f
inner_of n s f is stray = elim stray [
  | inl other ↦ absurd (let was : None ≡ Some other.before = other.was in let e : ⊥ = cc in e)
  | inr (inl twice) ↦ absurd (none_among twice.before twice.among)
  | inr (inr nesting) ↦ Inner (named_among n s.nested.items f is.inner nesting)
]

-- a nested package with a package in it
pub inner_broken : (n : NestedPackage) (files : List PackageFile) (s : SourceFile) (e : ParseError) → files ≡ [] → IsSourceOf n s → Refused (IsStray files s) e → Refused (IsBrokenNested n) e
inner_broken n files s e none is h = refused_weaker (IsStray files s) (IsBrokenNested n) e (λ f stray. inner_of n s f is (subst (λ fs. IsStray fs s f) none stray)) h

-- the file of one
alone : (n : NestedPackage) (s : SourceFile) (old files : List PackageFile) → old ≡ [] → IsSourceOf n s → files ≡ old ++ s.file ∷ [] → files ≡ file_of n ∷ []
alone n s old files none is extended = extended ∙ (ap (λ fs. fs ++ s.file ∷ []) none ∙ ap (λ file. file ∷ []) is.file)

-- the package of one
pub one_made : (n : NestedPackage) (s : SourceFile) (old files : List PackageFile) (r : Result UnresolvedPackage ParseError) → old ≡ [] → IsSourceOf n s → files ≡ old ++ s.file ∷ [] →
    ((f : Fault) → IsStray old s f → ⊥) → OnOk r (IsLegal files) → IfOk r (Makes files) → IfOk r (IsMadeByNested n)
one_made n s old files (Ok p) none is extended fits legal whole = record {
  flat = sym is.inner ∙ ap (map (λ (i : NestedPackage). i.name)) (none_nested s.nested.items (λ f nesting. fits f (inr (inr nesting))));
  made = subst (λ fs. IsMadeOf fs p) (alone n s old files none is extended) (record { legal = legal; whole = whole });
}
one_made n s old files (Err e) none is extended fits legal whole = tt

-- one that breaks a rule
pub one_broken : (n : NestedPackage) (s : SourceFile) (old files : List PackageFile) (r : Result UnresolvedPackage ParseError) → old ≡ [] → IsSourceOf n s → files ≡ old ++ s.file ∷ [] →
    IfErr r (Refused (IsBroken files)) → IfErr r (Refused (IsBrokenNested n))
one_broken n s old files (Ok p) none is extended h = tt
one_broken n s old files (Err e) none is extended h = refused_weaker (IsBroken files) (IsBrokenNested n) e (λ f broken. Alone (subst (λ fs. IsBroken fs f) (alone n s old files none is extended) broken)) h

-- one of some is broken
pub broken_at : (prefix rest all : List NestedPackage) (n : NestedPackage) (e : ParseError) → prefix ++ n ∷ rest ≡ all → Refused (IsBrokenNested n) e → Refused (IsBrokenAmong all) e
broken_at prefix rest all n e same h = refused_weaker (IsBrokenNested n) (IsBrokenAmong all) e (λ f broken. record { n = n; among = next_among prefix rest all n same; broken = broken }) h

-- a source in which a broken one is nested
pub among_unfit : (files : List PackageFile) (s : SourceFile) (ns : List NestedPackage) (e : ParseError) → ns ≡ s.nested.items → Refused (IsBrokenAmong ns) e → Refused (IsUnfit files s) e
among_unfit files s ns e same h = refused_weaker (IsBrokenAmong ns) (IsUnfit files s) e (λ f broken. Nested (subst (λ ms. IsBrokenAmong ms f) same broken)) h

-- a source without nested packages is stray only where its file's header is
pub rest_stray : (files : List PackageFile) (s : SourceFile) (ns : List NestedPackage) (f : Fault) → ns ≡ [] → IsOtherPackage files s.file f ⊎ (IsDocumentedTwice files s.file f ⊎ IsNesting ns f) → IsUnfit files s f
rest_stray files s ns f none stray = elim stray [
  | inl other ↦ OtherPackage other
  | inr (inl twice) ↦ DocumentedTwice twice
  | inr (inr nesting) ↦ absurd (none_among nesting.inner (subst (λ ms. Contains ms nesting.inner) none nesting.among))
]

-- a source whose file cannot be after files
pub rest_unfit : (files : List PackageFile) (s rest : SourceFile) (e : ParseError) → rest.file ≡ s.file → rest.nested.items ≡ [] → Refused (IsStray files rest) e → Refused (IsUnfit files s) e
rest_unfit files s rest e same none h =
    refused_weaker (IsStray files rest) (IsUnfit files s) e (λ f stray. rest_stray files s rest.nested.items f none (subst (λ file. IsOtherPackage files file f ⊎ (IsDocumentedTwice files file f ⊎ IsNesting rest.nested.items f)) same stray)) h

-- the packages that are nested in a source come after packages
pub nested_extended : (ns ms : List NestedPackage) (made old new : List UnresolvedPackage) → ms ≡ ns → AllZip IsMadeByNested ms made → new ≡ old ++ made → GrowByNested ns old new
nested_extended ns ms made old new same each extended = record { made = made; each = subst (λ ks. AllZip IsMadeByNested ks made) same each; extended = extended }

-- a name more
pub name_more : (nested : List NestedPackage) (n : NestedPackage) (names : List Header) → map (λ (i : NestedPackage). i.name) nested ≡ names → map (λ (i : NestedPackage). i.name) (nested ++ n ∷ []) ≡ names ++ n.name ∷ []
name_more nested n names e = map-append (λ (i : NestedPackage). i.name) nested (n ∷ []) ∙ ap (λ ns. ns ++ n.name ∷ []) e
