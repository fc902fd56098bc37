-- What bodies of definitions are resolved to, and their members.
use Rattle.std.specs.Prelude.{Bool, List, Result, Vec, is_some}
use Rattle.wit_arena.specs.Common.{Case as MadeCase, EnumCase as MadeEnumCase, Field as MadeField, Flag as MadeFlag, Global, Member, ParseError, Required, Stability, TypeBody, TypeDef, TypeDefKind, all_handles, body_of, body_types, env_of, option_or}
use Rattle.wit_entries.specs.EntryFaults.{lost_in, Resolves, written_fault}
use Rattle.wit_entries.specs.ResolvedForms.{IsKindOf}
use Rattle.wit_entries.specs.declared.names.TypeScope.{TypeScope}
use Rattle.wit_first.specs.ListFaults.{list_fault}
use Rattle.wit_first.specs.First.{first_in}

-- a field, a flag or a case that was made, without its type
abbrev pub field_member : MadeField → Member
field_member f = record { name = f.name; docs = f.docs; span = f.span }

abbrev pub flag_member : MadeFlag → Member
flag_member f = record { name = f.name; docs = f.docs; span = f.span }

abbrev pub case_member : MadeCase → Member × Bool
case_member c = (record { name = c.name; docs = c.docs; span = c.span }, is_some c.ty)

abbrev pub enum_case_member : MadeEnumCase → Member
enum_case_member c = record { name = c.name; docs = c.docs; span = c.span }

-- a call resolves a body to a kind
abbrev pub ResolvesBody : TypeScope → Stability → (old new : List TypeDef) → (before after : Vec Required Global) → TypeBody → Result TypeDefKind ParseError → Type 0
ResolvesBody s given old new before after b r = Resolves (env_of s.names.now) old new before.items after.items (all_handles (body_types b)) (option_or (list_fault b) (first_in (written_fault (lost_in s.functions) (env_of s.names.now) new) (body_types b))) (IsKindOf old new (env_of s.names.now) given (body_of b)) r
