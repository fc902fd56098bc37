-- The map of other packages has no key twice, and none of its maps has.
use Rattle.std.proofs.Common.{◌≡◌, ℕ, List, map, sym, ap, ◌∙◌, subst}
use Rattle.wit_arena.proofs.Common.{All, AllDiffer, AstItem, ForeignNamed, ForeignVisit, PackageFile, PackageName, Stability, dep, differ_at, differ_by, filter, firsts_differ, foreign_entry, foreign_items, foreign_packages, foreign_visits, kept_at, kept_differ, map_map, package_of, same_address, same_package, same_package-equal, same_package-from, stability_of, visited, visits_differ}
use Rattle.wit_json.specs.DistinctKeys.{HasOwnKeys}
use Rattle.wit_json_laws.proofs.Lists.{all_map, own_keys}

-- the items of another package
abbrev pub Items : Type 0
Items = List (List ℕ × (AstItem × List Stability))

abbrev pub Dep : Type 0
Dep = PackageName × Items

abbrev owner : ForeignVisit → PackageName
owner v = package_of v.of

packages_differ : (files : List PackageFile) → AllDiffer (map owner (foreign_packages files))
packages_differ files = firsts_differ (λ (a b : ForeignVisit). same_package (owner a) (owner b)) owner (λ x y is. same_package-from (owner x) (owner y) is) (λ x y is. same_package-equal (owner x) (owner y) is) (foreign_visits files)

pub dep_keys : (files : List PackageFile) → HasOwnKeys (map (dep files) (foreign_packages files))
dep_keys files = own_keys (map (dep files) (foreign_packages files)) (subst AllDiffer (sym (map_map (λ (d : Dep). d.0) (dep files) (foreign_packages files))) (packages_differ files))

abbrev name : ForeignVisit → List ℕ
name v = v.id.name.now

abbrev item_entry : List PackageFile → ForeignVisit → List ℕ × (AstItem × List Stability)
item_entry files v = (name v, (foreign_entry files v, map (λ (u : ForeignVisit). stability_of u.attributes) (filter (λ (u : ForeignVisit). same_address (visited u) (visited v)) (foreign_visits files))))

-- items of one package that differ have names that do
names_differ : (files : List PackageFile) (p : PackageName) → AllDiffer (map name (filter (λ (u : ForeignVisit). same_package (owner u) p) (foreign_items files)))
names_differ files p =
    let test = λ (u : ForeignVisit). same_package (owner u) p in
    let kept = filter test (foreign_items files) in
    let differ : AllDiffer (map visited kept) = kept_differ visited test (foreign_items files) (visits_differ files) in
    differ_by name kept (λ i j x y at_x at_y same. (
    let a = kept_at test (foreign_items files) i x at_x in
    let b = kept_at test (foreign_items files) j y at_y in
    let owners : owner x ≡ owner y = same_package-equal (owner x) p a.2 ∙ sym (same_package-equal (owner y) p b.2) in
    differ_at visited kept differ i j x y at_x at_y (ap (λ (q : PackageName). ForeignNamed q (name x)) owners ∙ ap (ForeignNamed (owner y)) same)))

item_keys : (files : List PackageFile) (p : PackageName) → HasOwnKeys (map (item_entry files) (filter (λ (u : ForeignVisit). same_package (owner u) p) (foreign_items files)))
item_keys files p =
    let kept = filter (λ (u : ForeignVisit). same_package (owner u) p) (foreign_items files) in
    own_keys (map (item_entry files) kept) (subst AllDiffer (sym (map_map (λ (e : List ℕ × (AstItem × List Stability)). e.0) (item_entry files) kept)) (names_differ files p))

pub dep_items : (files : List PackageFile) → All (λ (d : Dep). HasOwnKeys d.1) (map (dep files) (foreign_packages files))
dep_items files = all_map (λ (d : Dep). HasOwnKeys d.1) (dep files) (foreign_packages files) (λ k v at. item_keys files (owner v))
