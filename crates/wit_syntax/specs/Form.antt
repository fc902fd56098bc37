-- What a type is apart from its parts.
use Rattle.std.specs.Prelude.{ℕ, Bool, List}
use Rattle.wit_values.specs.declared.span.Span.{Span}
use Rattle.wit_types.specs.declared.docs.Docs.{Docs}

-- a field, flag or case without its type
pub record Member : Type 0 where
  pub name : List ℕ
  pub docs : Docs
  pub span : Span

-- everything of a type but its parts
pub data Form : Type 0 where
  RecordForm FlagsForm EnumForm : (members : List Member) → Form
  VariantForm : (cases : List (Member × Bool)) → Form
  ResultForm : (has_ok has_err : Bool) → Form
  FutureForm StreamForm : (has_payload : Bool) → Form
  FixedLengthListForm : (size : ℕ) → Form
  ListForm MapForm TupleForm OptionForm OwnForm BorrowForm ResourceForm AliasForm UnknownForm : Form
