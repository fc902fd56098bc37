-- What files name of other packages.
use Rattle.std.specs.Prelude.{Bool, true, false, not, List, [], ◌∷◌, ◌++◌, Option, find}
use Rattle.std.specs.List.{flat_map, filter}
use Rattle.wit_type_tree.specs.declared.leaves.Id.{Id}
use Rattle.wit_type_tree.specs.declared.leaves.Attribute.{Attribute}
use Rattle.wit_tree.specs.declared.tree.PackageName.{PackageName as Written}
use Rattle.wit_tree.specs.declared.tree.Extern.{Extern}
use Rattle.wit_tree.specs.declared.tree.UsePath.{UsePath}
use Rattle.wit_tree.specs.declared.tree.UsePath.TheVariants as path
use Rattle.wit_tree.specs.declared.tree.AstItem.{AstItem}
use Rattle.wit_tree.specs.declared.tree.AstItem.TheVariants as ast
use Rattle.wit_tree.specs.declared.tree.PackageFile.{PackageFile}
use Rattle.wit_syntax.specs.ExternPart.{extern_paths}
use Rattle.wit_syntax.specs.Address.{Address, ForeignNamed, package_of, same_package, same_address}
use Rattle.wit_syntax.specs.Repeats.{firsts}
use Rattle.wit_syntax.specs.Source.{TheInterface, TheWorld, Part, UsePart, IncludePart, about, walk, inline_uses}

-- a path with a package, the attributes before it, and whether it wants a world
pub record ForeignVisit : Type 0 where
  pub attributes : List Attribute
  pub of : Written
  pub id : Id
  pub wants_world : Bool

-- the item that is visited
abbrev pub visited : ForeignVisit → Address
visited v = ForeignNamed (package_of v.of) v.id.name.now

abbrev pub path_visits : List Attribute → Bool → UsePath → List ForeignVisit
path_visits attributes world (path.Id id) = []
path_visits attributes world (path.Package p id) = record { attributes = attributes; of = p; id = id; wants_world = world } ∷ []

-- an include wants a world, a `use` does not
abbrev pub part_visits : Part → List ForeignVisit
part_visits (UsePart u) = path_visits u.attributes.items false u.from
part_visits (IncludePart i) = path_visits i.attributes.items true i.from
part_visits _ = []

-- what is imported or exported by a path wants an interface, as each `use` does that is written there
abbrev pub extern_visits : Extern → List ForeignVisit
extern_visits x = flat_map (λ u. path_visits u.attributes.items false u.from) (inline_uses x.kind) ++ flat_map (path_visits x.attributes.items false) (extern_paths x.kind)

-- of an interface and a world those of uses and includes come first, then those of imports, and then those of exports
abbrev pub declaration_visits : AstItem → List ForeignVisit
declaration_visits (ast.Interface i) = walk part_visits extern_visits (about (TheInterface i)).parts
declaration_visits (ast.World w) = walk part_visits extern_visits (about (TheWorld w)).parts
declaration_visits (ast.Use u) = path_visits u.attributes.items false u.item

-- the paths with a package of all files, in source order
abbrev pub foreign_visits : List PackageFile → List ForeignVisit
foreign_visits files = flat_map (λ (f : PackageFile). flat_map declaration_visits f.decl_list.items.items) files

abbrev pub same_item : ForeignVisit → ForeignVisit → Bool
same_item a b = same_address (visited a) (visited b)

-- each item of another package where it is first visited: it is a world if that visit wants one
abbrev pub foreign_items : List PackageFile → List ForeignVisit
foreign_items files = firsts same_item (foreign_visits files)

-- the interfaces of other packages, and their worlds
abbrev pub foreign_interfaces : List PackageFile → List ForeignVisit
foreign_interfaces files = filter (λ v. not v.wants_world) (foreign_items files)

abbrev pub foreign_worlds : List PackageFile → List ForeignVisit
foreign_worlds files = filter (λ v. v.wants_world) (foreign_items files)

-- the item at an address
abbrev pub foreign_at : List PackageFile → Address → Option ForeignVisit
foreign_at files s = find (λ v. same_address (visited v) s) (foreign_items files)

-- each other package where it is first named
abbrev pub foreign_packages : List PackageFile → List ForeignVisit
foreign_packages files = firsts (λ a b. same_package (package_of a.of) (package_of b.of)) (foreign_visits files)
