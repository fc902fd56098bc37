-- Plain files make the packages of a group that sources make.
use Rattle.std.proofs.Common.{◌≡◌, ℕ, zero, suc, List, [], ◌∷◌, Some, inl, inr, refl, sym, ap, ◌∙◌, subst}
use Rattle.wit_arena.proofs.Common.{All, AllZip, IsMadeOf, NestedPackage, PackageFile, SourceFile, UnresolvedPackage, at_split, slice_get, string_bytes}
use Rattle.wit_lex.specs.declared.source.Source.{Source}
use Rattle.wit_grammar.specs.Seen.{see_file, see_nested}
use Rattle.wit_groups.specs.Nested.{GrowByNested, IsMadeByNested, file_of}
use Rattle.wit_groups.specs.Groups.{AreUsed, IsGroup, IsTree}
use Rattle.wit_groups.specs.Groups.AreUsed.{None, More}
use Rattle.wit_json.specs.Laws.{IsPlain}
use Rattle.wit_json.specs.PlainPackages.{IsPlainPackage}
use Rattle.wit_json_laws.specs.Laws.{IsPlainWhereMade}
use Rattle.wit_json_laws.specs.PlainTrees.{HasPlainNames, IsPlainFile, IsPlainNested}
use Rattle.wit_json_laws.proofs.Lists.{all_at, all_both, all_more, all_none, at_all}
use Rattle.wit_json_laws.proofs.PlainMetadata.{all_seen}
use Rattle.wit_json_laws.proofs.SpelledFiles.{spelled_plain}

-- plain legal files make the package
abbrev pub IsPlainMade : UnresolvedPackage → Type 0
IsPlainMade p = (files : List PackageFile) × All HasPlainNames files × IsMadeOf files p

made_plain : (p : UnresolvedPackage) → IsPlainMade p → IsPlainWhereMade p → IsPlainPackage p
made_plain p made plain = plain made.0 made.2.legal made.1 made.2.whole

read_plain : (s : Source) (read : SourceFile) → IsTree s read → IsPlainFile (see_file read)
read_plain s read tree = spelled_plain (string_bytes s.contents) s.offset (see_file read) tree

file_plain : (read : SourceFile) → IsPlainFile (see_file read) → HasPlainNames read.file
file_plain read h = record { header = h.header; declarations = h.declarations }

nested_plain : (n : NestedPackage) → IsPlainNested (see_nested n) → HasPlainNames (file_of n)
nested_plain n h = record { header = h.name; declarations = h.declarations }

-- ---- the files of the main package
used_plain : (turn : List Source) (files : List PackageFile) (nested : List UnresolvedPackage) → AreUsed turn files nested → All HasPlainNames files
used_plain turn files nested None = all_none HasPlainNames
used_plain turn files nested (More sources before packages kept s read in_use tree fit grow) =
    all_both HasPlainNames before (read.file ∷ []) (used_plain sources before packages in_use) (all_more HasPlainNames read.file [] (file_plain read (read_plain s read tree)) (all_none HasPlainNames))

-- ---- nested packages
zip_plain : (ns : List NestedPackage) (ps : List UnresolvedPackage) → AllZip IsMadeByNested ns ps → ((k : ℕ) (n : NestedPackage) → slice_get ns k ≡ Some n → HasPlainNames (file_of n)) → (k : ℕ) (p : UnresolvedPackage) → slice_get ps k ≡ Some p → IsPlainMade p
zip_plain [] [] all plain k p at = absurd (let wrong : ⊥ = cc in wrong)
zip_plain [] (q ∷ ps) all plain k p at = absurd all
zip_plain (n ∷ ns) [] all plain k p at = absurd all
zip_plain (n ∷ ns) (q ∷ ps) all plain zero p at =
    let same : q ≡ p = cc in
    (file_of n ∷ [], all_more HasPlainNames (file_of n) [] (plain 0 n refl) (all_none HasPlainNames), subst (IsMadeOf (file_of n ∷ [])) same all.0.made)
zip_plain (n ∷ ns) (q ∷ ps) all plain (suc k) p at = zip_plain ns ps all.1 (λ j m there. plain (suc j) m there) k p at

abbrev ArePlainMade : List UnresolvedPackage → Type 0
ArePlainMade ps = (k : ℕ) (p : UnresolvedPackage) → slice_get ps k ≡ Some p → IsPlainMade p

extended_plain : (ns : List NestedPackage) (old new : List UnresolvedPackage) → GrowByNested ns old new → ((k : ℕ) (n : NestedPackage) → slice_get ns k ≡ Some n → HasPlainNames (file_of n)) → ArePlainMade old → ArePlainMade new
extended_plain ns old new grow plain made k p at = elim (at_split old grow.made k p (ap (λ (l : List UnresolvedPackage). slice_get l k) (sym grow.extended) ∙ at)) [
  | inl prefix ↦ made k p prefix
  | inr back ↦ zip_plain ns grow.made grow.each plain back.0 p back.2
]

no_packages : ArePlainMade []
no_packages k p at = absurd (let wrong : ⊥ = cc in wrong)

packages_made : (turn : List Source) (files : List PackageFile) (nested : List UnresolvedPackage) → AreUsed turn files nested → ArePlainMade nested
packages_made turn files nested None = no_packages
packages_made turn files nested (More sources before packages kept s read in_use tree fit grow) =
    let whole = read_plain s read tree in
    extended_plain read.nested.items packages kept grow (λ k n at. nested_plain n (all_seen IsPlainNested see_nested read.nested.items whole.nested k n at)) (packages_made sources before packages in_use)

module _ (sources : List Source) (main : UnresolvedPackage) (nested : List UnresolvedPackage) (group : IsGroup sources main nested) where
  pub main_made : IsPlainMade main
  main_made = (group.files, used_plain group.turn group.files nested group.in_use, group.made)

  pub nested_made : (k : ℕ) (p : UnresolvedPackage) → slice_get nested k ≡ Some p → IsPlainMade p
  nested_made = packages_made group.turn group.files nested group.in_use

  pub plain_group : IsPlainWhereMade main → All IsPlainWhereMade nested → IsPlain (sources, main, nested)
  plain_group one each = record {
    main = made_plain main main_made one;
    nested = all_at IsPlainPackage nested (λ k p at. made_plain p (nested_made k p at) (at_all IsPlainWhereMade nested each k p at));
  }
