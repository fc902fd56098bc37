-- Paths to items of other packages that are borrowed, and the keys by which the items are distinguished.
use Rattle.std.specs.Prelude.{◌≡◌, ℕ, Bool, true, false, List, Option, map, position}
use Rattle.std.specs.Map.{keys_of}
use Rattle.std.specs.Option.{option_map}
use Rattle.wit_values.specs.declared.release.Release.{Release}
use Rattle.wit_tree.specs.declared.tree.PackageName.{PackageName}
use Rattle.wit_syntax.specs.Address.{Address, ForeignNamed, package_of, same_address}
use Rattle.wit_syntax.specs.Repeats.{firsts}
use Rattle.wit_syntax.specs.Foreign.{ForeignVisit, path_visits, visited, same_item}
use Rattle.wit_files.specs.declared.visit.Visit.{Visit}
use Rattle.wit_files.specs.declared.visit.Wanted.{Wanted}
use Rattle.wit_files.specs.declared.visit.Wanted.TheVariants as wanted
use Rattle.wit_files.specs.declared.foreign.ForeignVisit.{ForeignVisit as Borrowed}
use Rattle.wit_files.specs.declared.foreign.VersionKey.{VersionKey}
use Rattle.wit_files.specs.declared.foreign.ForeignKey.{ForeignKey}
use Rattle.wit_files.specs.declared.foreign.ForeignItems.{ForeignItems}

-- the visit that is borrowed
abbrev pub foreign_view : Borrowed → ForeignVisit
foreign_view v = record { attributes = v.attributes.now; of = v.package.now; id = v.name; wants_world = v.wants_world }

-- whether a path is that of an include
abbrev pub wants_world : Wanted → Bool
wants_world wanted.Interface = false
wants_world wanted.World = true
wants_world wanted.Unknown = false

-- the version, and the item, that a key means
abbrev pub key_release : VersionKey → Release
key_release k = record { major = k.major; minor = k.minor; patch = k.patch; pre = k.pre.now; build = k.build.now }

abbrev pub key_address : ForeignKey → Address
key_address k = ForeignNamed (record { namespace = k.namespace.now; name = k.package.now; version = option_map key_release k.version }) k.name.now

-- these are the items that the visits lead to, each at its first visit, with their keys
pub record AreItemsOf (visits : List ForeignVisit) (borrowed : ForeignItems) : Type 0 where
  pub items : map foreign_view borrowed.items.items ≡ firsts same_item visits
  pub keys : map key_address (keys_of borrowed.keys) ≡ map visited (firsts same_item visits)

-- the visit of a path, where that has a package
abbrev pub path_visit : Visit → List ForeignVisit
path_visit v = path_visits v.attributes.now (wants_world v.wanted) v.path.now

-- the place of an item of a package among those that visits lead to
abbrev pub item_place : PackageName → List ℕ → List ForeignVisit → Option ℕ
item_place p name visits = position (λ v. same_address (visited v) (ForeignNamed (package_of p) name)) (firsts same_item visits)
