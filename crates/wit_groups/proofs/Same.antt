-- Groups with equal packages and equal sources are the same.
use Rattle.std.proofs.Common.{◌≡◌, List, [], ◌∷◌, Option, Some, None, refl, subst}
use Rattle.wit_lex.specs.Sources.{as_stated}
use Rattle.wit_arena.proofs.Common.{Interface, UnresolvedPackage, World}
use Rattle.wit_model.specs.SamePackages.{AreBothSame, AreSame, HoldSamePairs, IsSameInterface, IsSamePackage, IsSameWorld, is_same_name}
use Rattle.wit_groups.specs.SameGroups.{IsSameGroup}
use Rattle.wit_groups.specs.declared.group.UnresolvedPackageGroup.{UnresolvedPackageGroup}

all_same : {X : Type 0} (R : X → X → Type 0) → ((x : X) → R x x) → (xs : List X) → AreSame R xs xs
all_same R same [] = tt
all_same R same (x ∷ xs) = (same x, all_same R same xs)

both_same : {X : Type 0} (R : X → X → Type 0) → ((x : X) → R x x) → (o : Option X) → AreBothSame R o o
both_same R same None = tt
both_same R same (Some x) = same x

interface_same : (i : Interface) → IsSameInterface i i
interface_same i = record { name = refl; types = λ k. refl; functions = λ k. refl; docs = refl; stability = refl; «package» = refl; span = refl; clone_of = refl }

world_same : (w : World) → IsSameWorld w w
world_same w = record { name = refl; imports = λ k. refl; exports = λ k. refl; «package» = refl; docs = refl; stability = refl; includes = refl; span = refl }

package_same : (p : UnresolvedPackage) → IsSamePackage p p
package_same p = record {
  name = refl;
  worlds = all_same IsSameWorld world_same p.worlds;
  interfaces = all_same IsSameInterface interface_same p.interfaces;
  types = refl;
  foreign_deps = λ k. both_same (HoldSamePairs is_same_name) (λ items name. refl) _;
  docs = refl;
  name_span = refl;
  unknown_type_spans = refl;
  foreign_dep_spans = refl;
  required_resource_types = refl;
}

pub group_same : (a b : UnresolvedPackageGroup) → a.main ≡ b.main → a.nested ≡ b.nested → as_stated a.source_map.sources.items ≡ as_stated b.source_map.sources.items → IsSameGroup a b
group_same a b main nested sources = record {
  main = subst (IsSamePackage a.main) main (package_same a.main);
  nested = subst (AreSame IsSamePackage a.nested) nested (all_same IsSamePackage package_same a.nested);
  sources = sources;
}
