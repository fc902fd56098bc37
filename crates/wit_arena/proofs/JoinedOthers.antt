-- Files that declare the same name the same of other packages, and require the same of them.
use Rattle.std.proofs.Common.{◌≡◌, ℕ, not, List, Option, Some, None, ap, ◌∙◌}
use Rattle.wit_arena.proofs.Names.{Address, AreAlike, AreRequired, AstItem, AtForeign, AtResource, ForeignUse, ForeignVisit, HandleRequires, Id, Key, PackageFile, PackageName, Span, Stability, UnresolvedPackage, filter, firsts, foreign_interfaces, foreign_uses_alike, foreign_worlds, if◌then◌else◌, map, package_of, same_address, same_foreign_use, same_item, same_package, stability_of, visited, visits_same, position_or_len}
use Rattle.wit_model.specs.declared.ast_item.AstItem.TheVariants as entry
use Rattle.wit_syntax.proofs.JoinedLegal.{ends_onward}
use Rattle.wit_arena.proofs.PackageIfDone.{NamesOthers}
use Rattle.wit_arena.proofs.Required.{zip_weaker}

-- what is named of other packages, by the visits
abbrev items_by : List ForeignVisit → List ForeignVisit
items_by vs = firsts same_item vs

abbrev interfaces_by : List ForeignVisit → List ForeignVisit
interfaces_by vs = filter (λ v. not v.wants_world) (items_by vs)

abbrev worlds_by : List ForeignVisit → List ForeignVisit
worlds_by vs = filter (λ (v : ForeignVisit). v.wants_world) (items_by vs)

abbrev packages_by : List ForeignVisit → List ForeignVisit
packages_by vs = firsts (λ a b. same_package (package_of a.of) (package_of b.of)) vs

abbrev entry_by : List ForeignVisit → ForeignVisit → AstItem
entry_by vs v = if v.wants_world then entry.World (position_or_len (λ (y : ForeignVisit). same_item y v) (worlds_by vs)) else entry.Interface (position_or_len (λ (y : ForeignVisit). same_item y v) (interfaces_by vs))

abbrev item_by : List ForeignVisit → ForeignVisit → List ℕ × (AstItem × List Stability)
item_by vs v = (v.id.name.now, (entry_by vs v, map (λ u. stability_of u.attributes) (filter (λ u. same_address (visited u) (visited v)) vs)))

abbrev dep_by : List ForeignVisit → ForeignVisit → PackageName × List (List ℕ × (AstItem × List Stability))
dep_by vs v = (package_of v.of, map (item_by vs) (filter (λ u. same_package (package_of u.of) (package_of v.of)) (items_by vs)))

module _ (files others : List PackageFile) (a : AreAlike files others) where
  pub others_onward : (p : UnresolvedPackage) → NamesOthers files p → NamesOthers others p
  others_onward p h = (
    h.0 ∙ ap (λ (vs : List ForeignVisit). map (dep_by vs) (packages_by vs)) (visits_same files others a),
    h.1 ∙ ap (λ (vs : List ForeignVisit). map (λ v. v.of.span) (packages_by vs)) (visits_same files others a),
    h.2 ∙ ap (λ (ts : List ForeignUse). map (λ t. t.id.span) (firsts same_foreign_use ts)) (foreign_uses_alike files others a),
  )

  pub foreign_interfaces_same : foreign_interfaces files ≡ foreign_interfaces others
  foreign_interfaces_same = ap interfaces_by (visits_same files others a)

  pub foreign_worlds_same : foreign_worlds files ≡ foreign_worlds others
  foreign_worlds_same = ap worlds_by (visits_same files others a)

  -- names in handles end where they did
  pub required_onward : (ks : List Key) (hs : List (Address × Id)) (rs : List (ℕ × Span)) → AreRequired files ks hs rs → AreRequired others ks hs rs
  required_onward ks hs rs h = (h.0, zip_weaker (HandleRequires files ks) (HandleRequires others ks) onward hs h.0 h.1, h.2)
    where
      onward : (x : Address × Id) (r : Option (ℕ × Span)) → HandleRequires files ks x r → HandleRequires others ks x r
      onward x None own = ends_onward files others a x.0 x.1 AtResource own
      onward x (Some r) far = (far.0, far.1, ends_onward files others a x.0 x.1 (AtForeign far.0 far.1) far.2, far.3, far.4)
