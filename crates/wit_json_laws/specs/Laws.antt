-- What holds of the packages of all legal files and of all sources, by which their JSON has no key twice and says them.
use Rattle.std.specs.Prelude.{ℕ, ◌≡◌, List, All}
use Rattle.json.specs.Strict.{HasUniqueKeys}
use Rattle.wit_lex.specs.declared.source.Source.{Source}
use Rattle.wit_tree.specs.declared.tree.PackageFile.{PackageFile}
use Rattle.wit_grammar.specs.Laws.{IsSpelled}
use Rattle.wit_grammar.specs.Trees.{File}
use Rattle.wit_model.specs.declared.unresolved.UnresolvedPackage.{UnresolvedPackage}
use Rattle.wit_syntax.specs.Broken.{IsLegal}
use Rattle.wit_arena.specs.Made.{Makes}
use Rattle.wit_groups.specs.Groups.{IsGroup}
use Rattle.wit_groups.specs.declared.group.UnresolvedPackageGroup.{UnresolvedPackageGroup}
use Rattle.wit_json.specs.DistinctKeys.{HasOwnEntries}
use Rattle.wit_json.specs.Laws.{Group, HasOwnMaps, IsPlain, json_of, stated_of}
use Rattle.wit_json.specs.Numbers.{HasShortNumbers}
use Rattle.wit_json.specs.PlainPackages.{IsPlainPackage}
use Rattle.wit_json_laws.specs.PlainTrees.{HasPlainNames, IsPlainFile}

-- no map of a package that legal files make has a key twice
abbrev pub PackagesHaveOwnMaps : Type 0
PackagesHaveOwnMaps = (files : List PackageFile) (p : UnresolvedPackage) → IsLegal files → Makes files p → HasOwnEntries p

-- nor has one of the packages of a group
abbrev pub GroupsHaveOwnMaps : Type 0
GroupsHaveOwnMaps = (sources : List Source) (main : UnresolvedPackage) (nested : List UnresolvedPackage) → IsGroup sources main nested → HasOwnMaps (sources, main, nested)

-- each tree that a source spells is plain
abbrev pub SpelledIsPlain : Type 0
SpelledIsPlain = (source : List ℕ) (offset : ℕ) (tree : File) → IsSpelled source offset tree → IsPlainFile tree

-- so is a package that legal plain trees make
abbrev pub IsPlainWhereMade : UnresolvedPackage → Type 0
IsPlainWhereMade p = (files : List PackageFile) → IsLegal files → All HasPlainNames files → Makes files p → IsPlainPackage p

-- the sources of a group, its main package and the nested ones
abbrev pub group_of : UnresolvedPackageGroup → Group
group_of g = (g.source_map.sources.items, g.main, g.nested)

-- its sources make its packages, as in each group that `from_sources` or `parse` gives
abbrev pub IsRead : UnresolvedPackageGroup → Type 0
IsRead g = IsGroup g.source_map.sources.items g.main g.nested

-- then the group is plain
abbrev pub IsPlainWhereRead : UnresolvedPackageGroup → Type 0
IsPlainWhereRead g = IsRead g → IsPlain (group_of g)

-- no object in the JSON of a group has a key twice, if its sources make its packages
abbrev pub HasOwnJson : UnresolvedPackageGroup → Type 0
HasOwnJson g = IsRead g → HasUniqueKeys (json_of (group_of g))

-- all of two groups but the texts of their sources is equal
abbrev pub AreAlike : UnresolvedPackageGroup → UnresolvedPackageGroup → Type 0
AreAlike g h = stated_of (group_of g) ≡ stated_of (group_of h)

-- they have one JSON
abbrev pub HaveOneJson : UnresolvedPackageGroup → UnresolvedPackageGroup → Type 0
HaveOneJson g h = json_of (group_of g) ≡ json_of (group_of h)

-- groups with one JSON are alike, if their sources make their packages and the numbers in it are short, as in all that is written
abbrev pub IsStatedByJson : UnresolvedPackageGroup → UnresolvedPackageGroup → Type 0
IsStatedByJson g h = IsRead g → IsRead h → HasShortNumbers (json_of (group_of g)) → HaveOneJson g h → AreAlike g h
