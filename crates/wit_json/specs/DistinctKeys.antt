-- Packages whose maps have no key twice, as their types see to it.
use Rattle.std.specs.Prelude.{◌≢◌, List, All, AllPairs, map}
use Rattle.wit_model.specs.declared.interface.Interface.{Interface}
use Rattle.wit_model.specs.declared.world.World.{World}
use Rattle.wit_model.specs.declared.unresolved.UnresolvedPackage.{UnresolvedPackage}

-- no two entries of a map have one key
abbrev pub HasOwnKeys : {K A : Type 0} → List (K × A) → Type 0
HasOwnKeys entries = AllPairs (λ a b. a ≢ b) (map (λ e. e.0) entries)

pub record HasOwnMembers (i : Interface) : Type 0 where
  pub types : HasOwnKeys i.types
  pub functions : HasOwnKeys i.functions

pub record HasOwnSides (v : World) : Type 0 where
  pub imports : HasOwnKeys v.imports
  pub exports : HasOwnKeys v.exports

-- no map of a package has a key twice
pub record HasOwnEntries (p : UnresolvedPackage) : Type 0 where
  pub interfaces : All HasOwnMembers p.interfaces
  pub worlds : All HasOwnSides p.worlds
  pub deps : HasOwnKeys p.foreign_deps
  pub items : All (λ d. HasOwnKeys d.1) p.foreign_deps
