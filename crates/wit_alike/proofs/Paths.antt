-- Packages, paths, and the names at the tops of files, that are alike.
use Rattle.std.proofs.Common.{◌≡◌, ℕ, List, [], Option, Some, None, refl, ap, ap₂, sym, ◌∙◌}
use Rattle.wit_walk.proofs.Common.{Address, AllZip, AstItem, Foreign, ForeignNamed, Id, Interface, InterfaceNamed, Local, PackageName, Release, Target, TopName, UsePath, Version, World, bytes_eq, find, leads, option_map, option_map_or, package_of, parts_of, path_id, path_scope, release_of, target_scope, top_name, top_text}
use Rattle.std.specs.Prelude.{unwrap_or}
use Rattle.wit_tree.specs.declared.tree.PackageName.{PackageName as Header}
use Rattle.wit_tree.specs.declared.tree.UsePath.TheVariants as path
use Rattle.wit_tree.specs.declared.tree.AstItem.TheVariants as ast
use Rattle.wit_grammar.specs.Trees.{PackageId, TopUse, Interface as SeenInterface, World as SeenWorld, Release as Numbers}
use Rattle.wit_grammar.specs.Seen.{see_name, see_package_id, see_path, see_declaration, see_interface, see_world, see_top_use}
use Rattle.wit_alike.proofs.Lists.{Both, zip_find}
use Rattle.wit_alike.proofs.Leaves.{SameId, same_text}

-- ---- packages
abbrev pub SameHeader : Header → Header → Type 0
SameHeader p q = see_package_id p ≡ see_package_id q

abbrev as_release : Numbers → Release
as_release r = record { major = r.0; minor = r.1; patch = r.2; pre = r.3; build = r.4 }

abbrev as_package : PackageId → PackageName
as_package p = record { namespace = p.namespace.text; name = p.name.text; version = option_map as_release p.version }

by_numbers : (o : Option Version) → option_map release_of o ≡ option_map as_release (option_map parts_of o)
by_numbers None = refl
by_numbers (Some v) = refl

abbrev made_package : List ℕ → List ℕ → Option Release → PackageName
made_package namespace name version = record { namespace = namespace; name = name; version = version }

seen_package : (p : Header) → package_of p ≡ as_package (see_package_id p)
seen_package p = ap (λ (o : Option Release). made_package p.namespace.name.now p.name.name.now o) (by_numbers p.version)

pub same_package_of : (p q : Header) → SameHeader p q → package_of p ≡ package_of q
same_package_of p q h = seen_package p ∙ ap as_package h ∙ sym (seen_package q)

-- ---- paths
abbrev pub SamePath : UsePath → UsePath → Type 0
SamePath (path.Id a) (path.Id b) = SameId a b
SamePath (path.Package p a) (path.Package q b) = SameHeader p q × SameId a b
SamePath a b = ⊥

pub path_of : (a b : UsePath) → see_path a ≡ see_path b → SamePath a b
path_of (path.Id a) (path.Id b) h = cc
path_of (path.Package p a) (path.Package q b) h = (cc, cc)
path_of a b h = absurd (let f : ⊥ = cc in f)

pub same_path_id : (a b : UsePath) → SamePath a b → SameId (path_id a) (path_id b)
same_path_id (path.Id a) (path.Id b) h = h
same_path_id (path.Package p a) (path.Package q b) h = h.1
same_path_id a b h = absurd h

abbrev pub SameTarget : Target → Target → Type 0
SameTarget (Local a) (Local b) = SameId a b
SameTarget (Foreign p a) (Foreign q b) = (p ≡ q) × SameId a b
SameTarget a b = ⊥

abbrev pub SameTop : TopName → TopName → Type 0
SameTop t u = SameId t.id u.id × SameTarget t.target u.target

or_local : (o p : Option TopName) (a b : Id) → Both SameTop o p → SameId a b → SameTarget (option_map_or (λ (t : TopName). t.target) o (Local a)) (option_map_or (λ (t : TopName). t.target) p (Local b))
or_local None None a b h k = k
or_local None (Some u) a b h k = absurd h
or_local (Some t) None a b h k = absurd h
or_local (Some t) (Some u) a b h k = h.1

pub same_leads : (top other : List TopName) (a b : UsePath) → AllZip SameTop top other → SamePath a b → SameTarget (leads top a) (leads other b)
same_leads top other (path.Id a) (path.Id b) tops h =
    or_local (find (λ (t : TopName). bytes_eq (top_text t) a.name.now) top) (find (λ (t : TopName). bytes_eq (top_text t) b.name.now) other) a b
    (zip_find SameTop (λ (t : TopName). bytes_eq (top_text t) a.name.now) (λ (t : TopName). bytes_eq (top_text t) b.name.now) (λ t u same. ap₂ bytes_eq (same_text t.id u.id same.0) (same_text a b h)) top other tops) h
same_leads top other (path.Package p a) (path.Package q b) tops h = (same_package_of p q h.0, h.1)
same_leads top other a b tops h = absurd h

pub same_scope_of : (named : List ℕ → Address) (t u : Target) → SameTarget t u → target_scope named t ≡ target_scope named u
same_scope_of named (Local a) (Local b) h = ap named (same_text a b h)
same_scope_of named (Foreign p a) (Foreign q b) h = ap₂ ForeignNamed h.0 (same_text a b h.1)
same_scope_of named t u h = absurd h

pub same_path_scope : (top other : List TopName) (a b : UsePath) → AllZip SameTop top other → SamePath a b → path_scope top a ≡ path_scope other b
same_path_scope top other a b tops h = same_scope_of InterfaceNamed (leads top a) (leads other b) (same_leads top other a b tops h)

-- a name, or else another
pub same_or_id : (o p : Option Id) (a b : Id) → option_map see_name o ≡ option_map see_name p → SameId a b → SameId (unwrap_or o a) (unwrap_or p b)
same_or_id None None a b h k = k
same_or_id None (Some y) a b h k = absurd (let f : ⊥ = cc in f)
same_or_id (Some x) None a b h k = absurd (let f : ⊥ = cc in f)
same_or_id (Some x) (Some y) a b h k = cc

-- ---- declarations
abbrev pub SameAst : AstItem → AstItem → Type 0
SameAst (ast.Interface i) (ast.Interface j) = see_interface i ≡ see_interface j
SameAst (ast.World w) (ast.World v) = see_world w ≡ see_world v
SameAst (ast.Use u) (ast.Use t) = see_top_use u ≡ see_top_use t
SameAst a b = ⊥

pub ast_of : (a b : AstItem) → see_declaration a ≡ see_declaration b → SameAst a b
ast_of (ast.Interface i) (ast.Interface j) h = cc
ast_of (ast.World w) (ast.World v) h = cc
ast_of (ast.Use u) (ast.Use t) h = cc
ast_of a b h = absurd (let f : ⊥ = cc in f)

pub same_top_name : (a b : AstItem) → SameAst a b → SameTop (top_name a) (top_name b)
same_top_name (ast.Interface i) (ast.Interface j) h = (ap (λ (x : SeenInterface). x.name) h, ap (λ (x : SeenInterface). x.name) h)
same_top_name (ast.World w) (ast.World v) h = (ap (λ (x : SeenWorld). x.name) h, ap (λ (x : SeenWorld). x.name) h)
same_top_name (ast.Use u) (ast.Use t) h =
    let from = path_of u.item t.item (ap (λ (x : TopUse). x.item) h) in
    (same_or_id u.as_ t.as_ (path_id u.item) (path_id t.item) (ap (λ (x : TopUse). x.local) h) (same_path_id u.item t.item from), same_leads [] [] u.item t.item tt from)
same_top_name a b h = absurd h
