-- The definitions of a scope in their order.
use Rattle.std.specs.Prelude.{◌≡◌, ℕ, List, [], take, Some, Contains, slice_get}
use Rattle.wit_arena.specs.Common.{Defined, Env, HasNames, Id, IsOrder, ScopeName, defined, in_order, local_name, needed_ids, rows_of}
use Rattle.wit_type_tree.specs.declared.types.TypeDef.{TypeDef as Definition}

-- no name of a scope needs one
abbrev pub NeedNone : List ScopeName → Type 0
NeedNone xs = (i : ℕ) (x : ScopeName) → slice_get xs i ≡ Some x → needed_ids x ≡ []

-- these are the definitions of a scope, in its least dependency-first order
pub record AreOrdered (xs ds : List ScopeName) : Type 0 where
  pub order : List ℕ
  pub least : IsOrder (rows_of xs) order
  pub are : ds ≡ defined (in_order xs order)

-- each name that one of these needs is in a table already, or one before it has it
pub record AreInTurn (env : Env) (ds : List ScopeName) : Type 0 where
  pub known : List ScopeName
  pub has : HasNames env known
  pub earlier : (k : ℕ) (d : Definition) (id : Id) → slice_get ds k ≡ Some (Defined d) → Contains (needed_ids (Defined d)) id
      → ((i : ℕ) → (y : ScopeName) → slice_get known i ≡ Some y → local_name y ≡ id.name.now → ⊥)
      → (j : ℕ) × (y : ScopeName) × (slice_get (take k ds) j ≡ Some y) × (local_name y ≡ id.name.now)
