-- What a world imports or exports as a function.
use Rattle.std.proofs.Common.{◌≡◌, ℕ, zero, suc, Some}
use Rattle.std.specs.Prelude.{slice_get}
use Rattle.wit_type_tree.specs.declared.leaves.Id.{Id}
use Rattle.wit_type_tree.specs.declared.types.Func.{Func}
use Rattle.wit_tree.specs.declared.tree.Extern.{Extern}
use Rattle.wit_tree.specs.declared.tree.ExternKind.{ExternKind}
use Rattle.wit_tree.specs.declared.tree.ExternKind.TheVariants as extern
use Rattle.wit_syntax.specs.Function.{SourceFunction, side_function, extern_functions}

-- it is the function of a name, on its side
pub extern_at : (x : Extern) (kind : ExternKind) (k : ℕ) (fn : SourceFunction) → slice_get (extern_functions x kind) k ≡ Some fn → (name : Id) × (f : Func) × (side_function x.side x.docs x.attributes.items name f ≡ fn)
extern_at x (extern.Interface name items) k fn at = absurd (let f : ⊥ = cc in f)
extern_at x (extern.Path path) k fn at = absurd (let f : ⊥ = cc in f)
extern_at x (extern.Func name f) zero fn at = (name, f, cc)
extern_at x (extern.Func name f) (suc k) fn at = absurd (let f : ⊥ = cc in f)
extern_at x (extern.NamedPath name path) k fn at = absurd (let f : ⊥ = cc in f)
