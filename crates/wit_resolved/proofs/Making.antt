-- Legal files make each package of a group.
use Rattle.std.proofs.Common.{◌≡◌, ℕ, List, [], ◌∷◌, Some, slice_get, refl, ap, ◌∙◌, subst, sym, inl, inr, zero, suc}
use Rattle.wit_arena.proofs.Common.{AllZip, IsMadeOf, NestedPackage, PackageFile, UnresolvedPackage, at_split}
use Rattle.wit_lex.specs.declared.source.Source.{Source}
use Rattle.wit_groups.specs.Nested.{GrowByNested, IsMadeByNested, file_of}
use Rattle.wit_groups.specs.Groups.{AreUsed, IsGroup}
use Rattle.wit_groups.specs.Groups.AreUsed.{None, More}
use Rattle.wit_resolved.specs.Valid.{AreMade, IsMade}

zip_made : (ns : List NestedPackage) (ps : List UnresolvedPackage) → AllZip IsMadeByNested ns ps → (k : ℕ) (p : UnresolvedPackage) → slice_get ps k ≡ Some p → IsMade p
zip_made [] [] all k p at = absurd (let wrong : ⊥ = cc in wrong)
zip_made [] (q ∷ ps) all k p at = absurd all
zip_made (n ∷ ns) [] all k p at = absurd all
zip_made (n ∷ ns) (q ∷ ps) all zero p at = (file_of n ∷ [], (let same : q ≡ p = cc in subst (IsMadeOf (file_of n ∷ [])) same all.0.made))
zip_made (n ∷ ns) (q ∷ ps) all (suc k) p at = zip_made ns ps all.1 k p at

extended_made : (ns : List NestedPackage) (old new : List UnresolvedPackage) → GrowByNested ns old new → AreMade old → AreMade new
extended_made ns old new grow made = λ k p at. elim (at_split old grow.made k p (ap (λ l. slice_get l k) (sym grow.extended) ∙ at)) [
  | inl prefix ↦ made k p prefix
  | inr back ↦ zip_made ns grow.made grow.each back.0 p back.2
]

used_made : (turn : List Source) (files : List PackageFile) (nested : List UnresolvedPackage) → AreUsed turn files nested → AreMade nested
used_made turn files nested None = λ k p at. absurd (let wrong : ⊥ = cc in wrong)
used_made turn files nested (More sources before packages kept s read in_use tree fit grow) = extended_made read.nested.items packages kept grow (used_made sources before packages in_use)

pub main_made : (sources : List Source) (main : UnresolvedPackage) (nested : List UnresolvedPackage) → IsGroup sources main nested → IsMade main
main_made sources main nested group = (group.files, group.made)

pub nested_made : (sources : List Source) (main : UnresolvedPackage) (nested : List UnresolvedPackage) → IsGroup sources main nested → AreMade nested
nested_made sources main nested group = used_made group.turn group.files nested group.in_use

-- the first of some packages, and the others
pub first_made : (p : UnresolvedPackage) (ps : List UnresolvedPackage) → AreMade (p ∷ ps) → IsMade p
first_made p ps made = made 0 p refl

pub others_made : (p : UnresolvedPackage) (ps : List UnresolvedPackage) → AreMade (p ∷ ps) → AreMade ps
others_made p ps made = λ k q at. made (suc k) q at
