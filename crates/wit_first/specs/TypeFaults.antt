-- The first fault of a written type, in written order: E22, E26, and those of the names in it.
use Rattle.std.specs.Prelude.{Option, None, Some}
use Rattle.std.specs.Option.{option_or}
use Rattle.wit_type_tree.specs.declared.leaves.Id.{Id}
use Rattle.wit_type_tree.specs.declared.types.«Type».{«Type» as Written, Some', Row_of-Type, end_of-Type, more_of-Type}
use Rattle.wit_type_tree.specs.declared.types.«Type».TheVariants as written
use Rattle.wit_type_tree.specs.declared.types.ResultTypes.{Ok', Err', Both'}
use Rattle.wit_type_tree.specs.TypeParts.{row_types}
use Rattle.wit_syntax.specs.Fault.{Fault, fault}
use Rattle.wit_first.specs.KeyFaults.{key_fault}
use Rattle.wit_first.specs.ListFaults.{empty_fault}

-- A tuple without parts is wrong, and a map is looked at after its key and its value. `word` says what is wrong with a name, and `handle` with one in a handle.
abbrev mutual
  pub type_fault : (word handle : Id → Option Fault) → Written → Option Fault
  type_fault word handle (written.Name id) = word id
  type_fault word handle (written.List' span p t) = type_fault word handle t
  type_fault word handle (written.FixedLengthList' span p t size) = type_fault word handle t
  type_fault word handle (written.Map' span p key q value) = option_or (type_fault word handle key) (option_or (type_fault word handle value) (key_fault key span))
  type_fault word handle (written.Option' span p t) = type_fault word handle t
  type_fault word handle (written.Result span (Ok' p t)) = type_fault word handle t
  type_fault word handle (written.Result span (Err' p t)) = type_fault word handle t
  type_fault word handle (written.Result span (Both' p t q u)) = option_or (type_fault word handle t) (type_fault word handle u)
  type_fault word handle (written.Tuple' span shape ts) = row_fault word handle (Some (fault 22 span)) ts
  type_fault word handle (written.Future' span (Some' p t)) = type_fault word handle t
  type_fault word handle (written.Stream' span (Some' p t)) = type_fault word handle t
  type_fault word handle (written.Own span id) = handle id
  type_fault word handle (written.Borrow span id) = handle id
  type_fault word handle _ = None

  -- of types in a row: `empty` is that of a row without types
  pub row_fault : (word handle : Id → Option Fault) → (empty : Option Fault) → {m : _} → Row_of-Type m → Option Fault
  row_fault word handle empty end_of-Type = empty
  row_fault word handle empty (more_of-Type t rest) = option_or (type_fault word handle t) (row_fault word handle None rest)

-- what is looked at before the parts of a type: a name, or that a tuple has no type
abbrev pub prefix_fault : (word handle : Id → Option Fault) → Written → Option Fault
prefix_fault word handle (written.Name id) = word id
prefix_fault word handle (written.Own span id) = handle id
prefix_fault word handle (written.Borrow span id) = handle id
prefix_fault word handle (written.Tuple' span shape ts) = empty_fault 22 (row_types ts) span
prefix_fault word handle t = None

-- and after them: the key of a map
abbrev pub back_fault : Written → Option Fault
back_fault (written.Map' span p key q value) = key_fault key span
back_fault t = None
