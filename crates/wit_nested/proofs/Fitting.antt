-- What was taken is not unfit.
use Rattle.std.proofs.Common.{◌≡◌, ℕ, zero, suc, List, [], ◌∷◌, Some, inl, inr, sym, subst}
use Rattle.wit_items.proofs.Common.{AllZip, Contains, Fault, IsDocumentedTwice, IsOtherPackage, NestedPackage, PackageFile, SourceFile, UnresolvedPackage, at_contains, slice_get}
use Rattle.wit_parser.specs.Stray.{IsStray}
use Rattle.wit_nested.specs.Nested.{IsBrokenAmong, IsBrokenNested, IsMadeByNested, IsUnfit}
use Rattle.wit_nested.specs.Nested.IsBrokenNested.{Inner, Alone}
use Rattle.wit_nested.specs.Nested.IsUnfit.{Nested, OtherPackage, DocumentedTwice}
use Rattle.wit_nested.proofs.PackageNames.{none_among}

zip_at : {A B : Type 0} (R : A → B → Type 0) (xs : List A) (ys : List B) → AllZip R xs ys → (i : ℕ) (x : A) → slice_get xs i ≡ Some x → (y : B) × R x y
zip_at R [] ys all i x at = absurd (let f : ⊥ = cc in f)
zip_at R (a ∷ xs) [] all i x at = absurd all
zip_at R (a ∷ xs) (b ∷ ys) all zero x at = let e : a ≡ x = cc in (b, subst (λ z. R z b) e all.0)
zip_at R (a ∷ xs) (b ∷ ys) all (suc i) x at = zip_at R xs ys all.1 i x at

fit_nested : (n : NestedPackage) (p : UnresolvedPackage) (f : Fault) → IsMadeByNested n p → IsBrokenNested n f → ⊥
fit_nested n p f m (Inner i) = none_among i.inner (subst (λ hs. Contains hs i.inner) m.flat i.among)
fit_nested n p f m (Alone b) = m.made.legal f b

-- nothing is wrong with nested packages that make packages
fit_all : (ns : List NestedPackage) (ps : List UnresolvedPackage) (f : Fault) → AllZip IsMadeByNested ns ps → IsBrokenAmong ns f → ⊥
fit_all ns ps f each b =
    let at = at_contains ns b.n b.among in
    let made = zip_at IsMadeByNested ns ps each at.0 b.n at.1 in
    fit_nested b.n made.0 f made.1 b.broken

-- nor with a source in which they are nested, where its file may be after files
pub not_unfit : (files : List PackageFile) (s rest : SourceFile) (ns : List NestedPackage) (ps : List UnresolvedPackage) → ns ≡ s.nested.items → AllZip IsMadeByNested ns ps → rest.file ≡ s.file →
    ((f : Fault) → IsStray files rest f → ⊥) → (f : Fault) → IsUnfit files s f → ⊥
not_unfit files s rest ns ps same each is fits f (Nested b) = fit_all ns ps f each (subst (λ ms. IsBrokenAmong ms f) (sym same) b)
not_unfit files s rest ns ps same each is fits f (OtherPackage other) = fits f (inl (subst (λ file. IsOtherPackage files file f) (sym is) other))
not_unfit files s rest ns ps same each is fits f (DocumentedTwice twice) = fits f (inr (inl (subst (λ file. IsDocumentedTwice files file f) (sym is) twice)))
