-- Where names end, through uses and definitions that are other words for a type.
use Rattle.std.specs.Prelude.{◌≡◌, ℕ, zero, suc, List, Option, Some, None, Contains}
use Rattle.std.specs.Option.{option_map_or}
use Rattle.wit_type_tree.specs.declared.leaves.Id.{Id}
use Rattle.wit_tree.specs.declared.tree.PackageFile.{PackageFile}
use Rattle.wit_type_tree.specs.declared.types.«Type».{«Type» as Written}
use Rattle.wit_syntax.specs.Form.{Form, AliasForm, ResourceForm, UnknownForm}
use Rattle.wit_syntax.specs.Address.{Address}
use Rattle.wit_syntax.specs.Shape.{Shape, Shapes, Word, More, all_handles}
use Rattle.wit_syntax.specs.Source.{ScopeName, local_name, meaning, about_name}
use Rattle.wit_syntax.specs.Fault.{Fault, no_resource}
use Rattle.wit_syntax.specs.ScopesOfTrees.{scope}
use Rattle.std.specs.Option.{unwrap_or}

-- a resource, a name of another package, or anything else
pub data End : Type 0 where
  AtResource Elsewhere : End
  AtForeign : (scope : Address) (name : List ℕ) → End

-- where a name of a scope ends, by its form and its parts, where `ends` says where these do: another word for a type where that ends; of
-- a name of another package nothing is known but whose it is
abbrev pub named_end : (Shape → Option End) → Address → List ℕ → Form → Shapes → Option End
named_end ends s name AliasForm (More x xs) = ends x
named_end ends s name ResourceForm xs = Some AtResource
named_end ends s name UnknownForm xs = Some (AtForeign s name)
named_end ends s name form xs = Some Elsewhere

-- where a written type of a scope ends, in at most so many steps
abbrev pub shape_end : List PackageFile → ℕ → Address → Shape → Option End
shape_end files zero s x = None
shape_end files (suc n) s (Word id) = option_map_or (λ (x : ScopeName). named_end (shape_end files n (unwrap_or (about_name x).from s)) s (local_name x) (about_name x).body.form (about_name x).body.parts) (meaning (scope files s) id.name.now) None
shape_end files (suc n) s x = Some Elsewhere

-- a name of a scope ends there
abbrev pub EndsAt : List PackageFile → Address → Id → End → Type 0
EndsAt files s id end = (steps : ℕ) × (shape_end files steps s (Word id) ≡ Some end)

-- a name in a handle ends at no resource
abbrev pub IsNoResource : List PackageFile → Address → List Written → Fault → Type 0
IsNoResource files s types f = (id : Id) × Contains (all_handles types) id × EndsAt files s id Elsewhere × (f ≡ no_resource id)
