-- The same files make the same packages.
use Rattle.std.proofs.Common.{◌≡◌, List, [], ◌∷◌, refl}
use Rattle.wit_items.proofs.Common.{AllZip, IsMadeOf, NestedPackage, PackageFile, UnresolvedPackage, one_made}
use Rattle.wit_nested.specs.Nested.{file_of, IsMadeByNested}

pub one_main : (files : List PackageFile) (p q : UnresolvedPackage) → IsMadeOf files p → IsMadeOf files q → p ≡ q
one_main files p q a b = one_made files p q a.legal a.whole b.whole

pub one_nested : (ns : List NestedPackage) (ps qs : List UnresolvedPackage) → AllZip IsMadeByNested ns ps → AllZip IsMadeByNested ns qs → ps ≡ qs
one_nested [] [] [] a b = refl
one_nested [] [] (q ∷ qs) a b = absurd b
one_nested [] (p ∷ ps) qs a b = absurd a
one_nested (n ∷ ns) [] qs a b = absurd a
one_nested (n ∷ ns) (p ∷ ps) [] a b = absurd b
one_nested (n ∷ ns) (p ∷ ps) (q ∷ qs) a b =
    let first : p ≡ q = one_main (file_of n ∷ []) p q a.0.made b.0.made in
    let rest : ps ≡ qs = one_nested ns ps qs a.1 b.1 in
    cc
