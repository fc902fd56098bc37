-- Trees in which no name has a `:` or an `@`, and each version is one by SemVer 2.0.0: each tree that a source spells is such.
use Rattle.std.specs.Prelude.{◌≡◌, ◌==◌, ◌&&◌, not, true, List, map, IfSome, All, ⊤}
use Rattle.std.specs.List.{list_all}
use Rattle.std.specs.Option.{option_map}
use Rattle.semver.specs.Grammar.{IsValid}
use Rattle.wit_tree.specs.declared.tree.PackageFile.{PackageFile}
use Rattle.wit_grammar.specs.Trees.{Text, Name, Attribute, since, unstable, deprecated, external, NamedFunction, ResourceFunction, method, of_resource, maker, Body, alias, of_fields, of_flags, of_cases, of_labels, of_funcs, Definition, PackageId, Path, by_name, by_package, UsedName, Use, TopUse, InterfaceItem, uses, defines, has_func, Interface, ExternKind, inline_interface, by_path, by_func, named_path, Extern, Include, WorldItem, crosses, world_uses, world_defines, includes, World, Declaration, of_interface, of_world, of_use, Nested, File}
use Rattle.wit_grammar.specs.Seen.{see_declaration, see_package_id}

-- it has neither mark
abbrev pub IsPlainText : Text → Type 0
IsPlainText text = list_all (λ b. not (b == 58) && not (b == 64)) text ≡ true

abbrev pub IsPlainWord : Name → Type 0
IsPlainWord n = IsPlainText n.text

-- its version is one by SemVer, if it has one
abbrev pub IsPlainAttribute : Attribute → Type 0
IsPlainAttribute (since span version) = IsValid version
IsPlainAttribute (unstable span feature) = ⊤
IsPlainAttribute (deprecated span version) = IsValid version
IsPlainAttribute (external span id) = ⊤

abbrev pub ArePlainAttributes : List Attribute → Type 0
ArePlainAttributes xs = All IsPlainAttribute xs

pub record IsPlainPackageId (p : PackageId) : Type 0 where
  pub namespace : IsPlainWord p.namespace
  pub name : IsPlainWord p.name
  pub version : IfSome p.version IsValid

abbrev pub IsPlainPath : Path → Type 0
IsPlainPath (by_name name) = ⊤
IsPlainPath (by_package owner name) = IsPlainPackageId owner

-- a used name, and what it is called, if that is another name
abbrev pub IsPlainUsed : UsedName → Type 0
IsPlainUsed n = IsPlainWord n.name × IfSome n.local IsPlainWord

pub record IsPlainUse (u : Use) : Type 0 where
  pub attributes : ArePlainAttributes u.attributes
  pub from : IsPlainPath u.from
  pub names : All IsPlainUsed u.names

-- ---- functions and definitions
pub record IsPlainFunction (f : NamedFunction) : Type 0 where
  pub attributes : ArePlainAttributes f.prefix.attributes
  pub name : IsPlainWord f.name

abbrev pub IsPlainMember : ResourceFunction → Type 0
IsPlainMember (method f) = IsPlainFunction f
IsPlainMember (of_resource f) = IsPlainFunction f
IsPlainMember (maker prefix span params returned) = ArePlainAttributes prefix.attributes

abbrev pub IsPlainBody : Body → Type 0
IsPlainBody (alias t) = ⊤
IsPlainBody (of_fields span fields) = ⊤
IsPlainBody (of_flags span flags) = ⊤
IsPlainBody (of_cases span cases) = ⊤
IsPlainBody (of_labels span cases) = ⊤
IsPlainBody (of_funcs funcs) = All IsPlainMember funcs

pub record IsPlainDefinition (d : Definition) : Type 0 where
  pub attributes : ArePlainAttributes d.prefix.attributes
  pub name : IsPlainWord d.name
  pub body : IsPlainBody d.body

-- ---- interfaces
abbrev pub IsPlainItem : InterfaceItem → Type 0
IsPlainItem (uses u) = IsPlainUse u
IsPlainItem (defines d) = IsPlainDefinition d
IsPlainItem (has_func f) = IsPlainFunction f

pub record IsPlainInterface (i : Interface) : Type 0 where
  pub attributes : ArePlainAttributes i.prefix.attributes
  pub items : All IsPlainItem i.items

-- ---- worlds
abbrev pub IsPlainKind : ExternKind → Type 0
IsPlainKind (inline_interface name items) = IsPlainWord name × All IsPlainItem items
IsPlainKind (by_path path) = IsPlainPath path
IsPlainKind (by_func name func) = IsPlainWord name
IsPlainKind (named_path name path) = IsPlainWord name × IsPlainPath path

pub record IsPlainExtern (e : Extern) : Type 0 where
  pub attributes : ArePlainAttributes e.prefix.attributes
  pub kind : IsPlainKind e.kind

pub record IsPlainInclude (i : Include) : Type 0 where
  pub attributes : ArePlainAttributes i.attributes
  pub from : IsPlainPath i.from

abbrev pub IsPlainWorldItem : WorldItem → Type 0
IsPlainWorldItem (crosses e) = IsPlainExtern e
IsPlainWorldItem (world_uses u) = IsPlainUse u
IsPlainWorldItem (world_defines d) = IsPlainDefinition d
IsPlainWorldItem (includes i) = IsPlainInclude i

pub record IsPlainWorld (w : World) : Type 0 where
  pub attributes : ArePlainAttributes w.prefix.attributes
  pub items : All IsPlainWorldItem w.items

-- ---- files
pub record IsPlainTopUse (u : TopUse) : Type 0 where
  pub attributes : ArePlainAttributes u.attributes
  pub item : IsPlainPath u.item

abbrev pub IsPlainDeclaration : Declaration → Type 0
IsPlainDeclaration (of_interface i) = IsPlainInterface i
IsPlainDeclaration (of_world w) = IsPlainWorld w
IsPlainDeclaration (of_use u) = IsPlainTopUse u

pub record IsPlainNested (n : Nested) : Type 0 where
  pub name : IsPlainPackageId n.name
  pub declarations : All IsPlainDeclaration n.declarations

pub record IsPlainFile (f : File) : Type 0 where
  pub header : IfSome f.header IsPlainPackageId
  pub declarations : All IsPlainDeclaration f.declarations
  pub nested : All IsPlainNested f.nested

-- what a tree of the code says
pub record HasPlainNames (f : PackageFile) : Type 0 where
  pub header : IfSome (option_map see_package_id f.package_id) IsPlainPackageId
  pub declarations : All IsPlainDeclaration (map see_declaration f.decl_list.items.items)
