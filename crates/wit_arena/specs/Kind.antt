-- The form and the parts of a type of the arena, and where its entries end, through those that are other words for a type.
use Rattle.std.specs.Prelude.{List, [], ◌∷◌, ◌++◌, map, is_some, ℕ, zero, suc, Option, Some, None, slice_get, take}
use Rattle.wit_arena.specs.Names.{AliasForm, BorrowForm, Case, EnumCase, EnumForm, Field, FixedLengthListForm, Flag, FlagsForm, Form, FutureForm, ListForm, MapForm, OptionForm, OwnForm, RecordForm, ResourceForm, ResultForm, StreamForm, TupleForm, TypeDef, TypeDefKind, UnknownForm, VariantForm, filter_map, option_to_list, «Type» as Ty}
use Rattle.wit_types.specs.declared.types.«Type».TheVariants.{Id}
use Rattle.wit_types.specs.declared.types.Handle.TheVariants.{Own, Borrow}
use Rattle.wit_types.specs.declared.types.TypeDefKind.TheVariants as kind

-- the form and the parts of a type of the arena
abbrev pub kind_of : TypeDefKind → Form × List Ty
kind_of (kind.Record r) = (RecordForm (map (λ (f : Field). record { name = f.name; docs = f.docs; span = f.span }) r.fields), map (λ f. f.ty) r.fields)
kind_of kind.Resource = (ResourceForm, [])
kind_of (kind.Handle (Own r)) = (OwnForm, Id r ∷ [])
kind_of (kind.Handle (Borrow r)) = (BorrowForm, Id r ∷ [])
kind_of (kind.Flags f) = (FlagsForm (map (λ (x : Flag). record { name = x.name; docs = x.docs; span = x.span }) f.flags), [])
kind_of (kind.Tuple t) = (TupleForm, t.types)
kind_of (kind.Variant v) = (VariantForm (map (λ (c : Case). (record { name = c.name; docs = c.docs; span = c.span }, is_some c.ty)) v.cases), filter_map (λ c. c.ty) v.cases)
kind_of (kind.Enum e) = (EnumForm (map (λ (c : EnumCase). record { name = c.name; docs = c.docs; span = c.span }) e.cases), [])
kind_of (kind.Option t) = (OptionForm, t ∷ [])
kind_of (kind.Result r) = (ResultForm (is_some r.ok) (is_some r.err), option_to_list r.ok ++ option_to_list r.err)
kind_of (kind.List t) = (ListForm, t ∷ [])
kind_of (kind.Map k v) = (MapForm, k ∷ v ∷ [])
kind_of (kind.FixedLengthList t n) = (FixedLengthListForm n, t ∷ [])
kind_of (kind.Future t) = (FutureForm (is_some t), option_to_list t)
kind_of (kind.Stream t) = (StreamForm (is_some t), option_to_list t)
kind_of (kind.Type_ t) = (AliasForm, t ∷ [])
kind_of kind.Unknown = (UnknownForm, [])

-- where an entry of the arena ends: at a resource, at the unknown type at a place, or at anything else
pub data EntryEnd : Type 0 where
  IsResource : EntryEnd
  IsUnknown : (place : ℕ) → EntryEnd
  IsOther : EntryEnd

-- another word for a type ends where that does
abbrev pub part_end : (ℕ → Option EntryEnd) → List Ty → Option EntryEnd
part_end ends (Id i ∷ parts) = ends i
part_end ends parts = Some IsOther

abbrev pub kind_end : (ℕ → Option EntryEnd) → ℕ → Form → List Ty → Option EntryEnd
kind_end ends place AliasForm parts = part_end ends parts
kind_end ends place ResourceForm parts = Some IsResource
kind_end ends place UnknownForm parts = Some (IsUnknown place)
kind_end ends place form parts = Some IsOther

-- nothing is known of a place where nothing is
abbrev pub found_end : (ℕ → Option EntryEnd) → ℕ → Option TypeDef → Option EntryEnd
found_end ends place None = Some IsOther
found_end ends place (Some e) = kind_end ends place (kind_of e.kind).0 (kind_of e.kind).1

-- where the entry at a place ends, in so many steps, by those that come before it
abbrev pub entry_end : ℕ → List TypeDef → ℕ → Option EntryEnd
entry_end zero es place = None
entry_end (suc n) es place = found_end (entry_end n (take place es)) place (slice_get es place)
