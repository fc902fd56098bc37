-- What a tree of the code says.
use Rattle.std.specs.Prelude.{ℕ, List, map, Option, Some, None, Box}
use Rattle.std.specs.Option.{option_map}
use Rattle.std.specs.declared.alloc.Global.{Global}
use denote.Ref.{Bor}
use Rattle.semver.specs.Identifiers.{parts_of}
use Rattle.wit_values.specs.declared.span.Span.{Span}
use Rattle.wit_type_tree.specs.declared.leaves.Id.{Id}
use Rattle.wit_type_tree.specs.declared.leaves.Docs.{Docs}
use Rattle.wit_type_tree.specs.declared.leaves.Attribute.{Attribute as WrittenAttribute}
use Rattle.wit_type_tree.specs.declared.leaves.Attribute.TheVariants.{Since, Unstable, Deprecated, ExternalId}
use Rattle.wit_type_tree.specs.declared.types.Param.{Param}
use Rattle.wit_type_tree.specs.declared.types.Func.{Func}
use Rattle.wit_type_tree.specs.declared.types.NamedFunc.{NamedFunc}
use Rattle.wit_type_tree.specs.declared.types.ResourceFunc.{ResourceFunc}
use Rattle.wit_type_tree.specs.declared.types.ResourceFunc.TheVariants.{Method, Static, Constructor}
use Rattle.wit_type_tree.specs.declared.types.Field.{Field as WrittenField}
use Rattle.wit_type_tree.specs.declared.types.Flag.{Flag as WrittenFlag}
use Rattle.wit_type_tree.specs.declared.types.Case.{Case as WrittenCase}
use Rattle.wit_type_tree.specs.declared.types.EnumCase.{EnumCase}
use Rattle.wit_type_tree.specs.declared.types.TypeBody.{TypeBody}
use Rattle.wit_type_tree.specs.declared.types.TypeBody.TheVariants.{Record, Flags, Variant, Enum, Resource, Plain}
use Rattle.wit_type_tree.specs.declared.types.TypeDef.{TypeDef}
use Rattle.wit_type_tree.specs.declared.types.«Type».{«Type» as Written, Primitive as Word, Name as NameOf, List', FixedLengthList', Map', Option', Result, Tuple', Future', Stream', Own, Borrow, Held-Type-Future-1, None', Some', Row_of-Type, end_of-Type, more_of-Type}
use Rattle.wit_type_tree.specs.declared.types.ResultTypes.{ResultTypes, Neither, Ok', Err', Both'}
use Rattle.wit_tree.specs.declared.tree.PackageName.{PackageName}
use Rattle.wit_tree.specs.declared.tree.UsePath.{UsePath}
use Rattle.wit_tree.specs.declared.tree.UsePath.TheVariants.{Id as IdPath, Package as PackagePath}
use Rattle.wit_tree.specs.declared.tree.UseName.{UseName}
use Rattle.wit_tree.specs.declared.tree.Use.{Use as WrittenUse}
use Rattle.wit_tree.specs.declared.tree.ToplevelUse.{ToplevelUse}
use Rattle.wit_tree.specs.declared.tree.InterfaceItem.{InterfaceItem as WrittenItem}
use Rattle.wit_tree.specs.declared.tree.InterfaceItem.TheVariants.{TypeDef as ItemDef, Use as ItemUse, Func as ItemFunc}
use Rattle.wit_tree.specs.declared.tree.Interface.{Interface as WrittenInterface}
use Rattle.wit_tree.specs.declared.tree.ExternKind.{ExternKind as WrittenKind}
use Rattle.wit_tree.specs.declared.tree.ExternKind.TheVariants.{Interface as KindInterface, Path as KindPath, Func as KindFunc, NamedPath as KindNamed}
use Rattle.wit_tree.specs.declared.tree.Extern.{Extern as WrittenExtern}
use Rattle.wit_tree.specs.declared.tree.IncludeName.{IncludeName}
use Rattle.wit_tree.specs.declared.tree.Include.{Include as WrittenInclude}
use Rattle.wit_tree.specs.declared.tree.WorldItem.{WorldItem as WrittenWorldItem}
use Rattle.wit_tree.specs.declared.tree.WorldItem.TheVariants.{Extern as WorldExtern, Use as WorldUse, TypeDef as WorldDef, Include as WorldInclude}
use Rattle.wit_tree.specs.declared.tree.World.{World as WrittenWorld}
use Rattle.wit_tree.specs.declared.tree.AstItem.{AstItem}
use Rattle.wit_tree.specs.declared.tree.AstItem.TheVariants.{Interface as AstInterface, World as AstWorld, Use as AstUse}
use Rattle.wit_tree.specs.declared.tree.NestedPackage.{NestedPackage}
use Rattle.wit_tree.specs.declared.tree.SourceFile.{SourceFile}
use Rattle.wit_grammar.specs.Trees.{Name, Documents, Ty, primitive, named, list, fixed, maps, option, result, tuple, future, stream, own, borrow, Perhaps, nothing, this, Tys, end, and, Attribute, since, unstable, deprecated, external, Prefix, Parameter, Function, NamedFunction, ResourceFunction, method, of_resource, maker, Field, Flag, Case, Body, alias, of_fields, of_flags, of_cases, of_labels, of_funcs, Definition, PackageId, Path, by_name, by_package, UsedName, Use, TopUse, InterfaceItem, uses, defines, has_func, Interface, ExternKind, inline_interface, by_path, by_func, named_path, Extern, RenamedName, Include, WorldItem, crosses, world_uses, world_defines, includes, World, Declaration, of_interface, of_world, of_use, Nested, File}

abbrev pub see_name : Id → Name
see_name id = record { text = id.name.now; span = id.span }

abbrev pub see_docs : Docs → Documents
see_docs d = record { texts = map (λ (text : Bor (List ℕ)). text.now) d.docs.items; span = d.span }

abbrev mutual
  pub see_type : Written → Ty
  see_type (Word s p) = primitive s p
  see_type (NameOf id) = named (see_name id)
  see_type (List' s p t) = list s (see_type t)
  see_type (FixedLengthList' s p t size) = fixed s (see_type t) size
  see_type (Map' s p key q value) = maps s (see_type key) (see_type value)
  see_type (Option' s p t) = option s (see_type t)
  see_type (Result s of) = see_result s of
  see_type (Tuple' s shape ts) = tuple s (see_row ts)
  see_type (Future' s t) = future s (see_borrowed t)
  see_type (Stream' s t) = stream s (see_borrowed t)
  see_type (Own s id) = own s (see_name id)
  see_type (Borrow s id) = borrow s (see_name id)

  pub see_result : Span → ResultTypes → Ty
  see_result s Neither = result s nothing nothing
  see_result s (Ok' p t) = result s (this (see_type t)) nothing
  see_result s (Err' p t) = result s nothing (this (see_type t))
  see_result s (Both' p t q u) = result s (this (see_type t)) (this (see_type u))

  pub see_borrowed : Held-Type-Future-1 → Perhaps
  see_borrowed None' = nothing
  see_borrowed (Some' p t) = this (see_type t)

  pub see_row : {m : _} → Row_of-Type m → Tys
  see_row end_of-Type = end
  see_row (more_of-Type t rest) = and (see_type t) (see_row rest)

abbrev pub see_boxed : Option (Box Written Global) → Perhaps
see_boxed None = nothing
see_boxed (Some b) = this (see_type b.value)

-- ---- what items have in front
abbrev pub see_attribute : WrittenAttribute → Attribute
see_attribute (Since s v) = since s (parts_of v)
see_attribute (Unstable s f) = unstable s (see_name f)
see_attribute (Deprecated s v) = deprecated s (parts_of v)
see_attribute (ExternalId s id) = external s id.now

abbrev pub see_prefix : Docs → List WrittenAttribute → Prefix
see_prefix docs attributes = record { docs = see_docs docs; attributes = map see_attribute attributes }

-- ---- functions
abbrev pub see_param : Param → Parameter
see_param p = record { name = see_name p.name; ty = see_type p.ty }

abbrev pub see_func : Func → Function
see_func f = record { span = f.span; form = f.form; params = map see_param f.params.items; returned = option_map see_type f.result }

abbrev pub see_named_func : NamedFunc → NamedFunction
see_named_func f = record { prefix = see_prefix f.docs f.attributes.items; name = see_name f.name; func = see_func f.func }

abbrev pub see_resource_func : ResourceFunc → ResourceFunction
see_resource_func (Method f) = method (see_named_func f)
see_resource_func (Static f) = of_resource (see_named_func f)
see_resource_func (Constructor docs attributes s params returned) =
    maker (see_prefix docs attributes.items) s (map see_param params.items) (option_map see_type returned)

-- ---- definitions of types
abbrev pub see_field : WrittenField → Field
see_field f = record { docs = see_docs f.docs; name = see_name f.name; ty = see_type f.ty }

abbrev pub see_flag : WrittenFlag → Flag
see_flag f = record { docs = see_docs f.docs; name = see_name f.name }

abbrev pub see_case : WrittenCase → Case
see_case c = record { docs = see_docs c.docs; name = see_name c.name; ty = option_map see_type c.ty }

abbrev pub see_enum_case : EnumCase → Flag
see_enum_case c = record { docs = see_docs c.docs; name = see_name c.name }

abbrev pub see_body : TypeBody → Body
see_body (Record s fields) = of_fields s (map see_field fields.items)
see_body (Flags s fs) = of_flags s (map see_flag fs.items)
see_body (Variant s cases) = of_cases s (map see_case cases.items)
see_body (Enum s cases) = of_labels s (map see_enum_case cases.items)
see_body (Resource funcs) = of_funcs (map see_resource_func funcs.items)
see_body (Plain t) = alias (see_type t)

abbrev pub see_definition : TypeDef → Definition
see_definition d = record { prefix = see_prefix d.docs d.attributes.items; name = see_name d.name; body = see_body d.body }

-- ---- paths and uses
abbrev pub see_package_id : PackageName → PackageId
see_package_id p = record { docs = see_docs p.docs; span = p.span; namespace = see_name p.namespace; name = see_name p.name; version = option_map parts_of p.version }

abbrev pub see_path : UsePath → Path
see_path (IdPath id) = by_name (see_name id)
see_path (PackagePath id name) = by_package (see_package_id id) (see_name name)

abbrev pub see_used : UseName → UsedName
see_used u = record { name = see_name u.name; local = option_map see_name u.as_ }

abbrev pub see_use : WrittenUse → Use
see_use u = record { attributes = map see_attribute u.attributes.items; from = see_path u.from; names = map see_used u.names.items }

abbrev pub see_top_use : ToplevelUse → TopUse
see_top_use u = record { span = u.span; attributes = map see_attribute u.attributes.items; item = see_path u.item; local = option_map see_name u.as_ }

-- ---- interfaces
abbrev pub see_item : WrittenItem → InterfaceItem
see_item (ItemDef d) = defines (see_definition d)
see_item (ItemUse u) = uses (see_use u)
see_item (ItemFunc f) = has_func (see_named_func f)

abbrev pub see_interface : WrittenInterface → Interface
see_interface i = record { prefix = see_prefix i.docs i.attributes.items; name = see_name i.name; items = map see_item i.items.items }

-- ---- worlds
abbrev pub see_kind : WrittenKind → ExternKind
see_kind (KindInterface name items) = inline_interface (see_name name) (map see_item items.items)
see_kind (KindPath path) = by_path (see_path path)
see_kind (KindFunc name f) = by_func (see_name name) (see_func f)
see_kind (KindNamed name path) = named_path (see_name name) (see_path path)

abbrev pub see_extern : WrittenExtern → Extern
see_extern e = record { side = e.side; prefix = see_prefix e.docs e.attributes.items; kind = see_kind e.kind }

abbrev pub see_renamed : IncludeName → RenamedName
see_renamed n = record { name = see_name n.name; local = see_name n.as_ }

abbrev pub see_include : WrittenInclude → Include
see_include i = record { attributes = map see_attribute i.attributes.items; from = see_path i.from; names = map see_renamed i.names.items }

abbrev pub see_world_item : WrittenWorldItem → WorldItem
see_world_item (WorldExtern e) = crosses (see_extern e)
see_world_item (WorldUse u) = world_uses (see_use u)
see_world_item (WorldDef d) = world_defines (see_definition d)
see_world_item (WorldInclude i) = includes (see_include i)

abbrev pub see_world : WrittenWorld → World
see_world w = record { prefix = see_prefix w.docs w.attributes.items; name = see_name w.name; items = map see_world_item w.items.items }

-- ---- files
abbrev pub see_declaration : AstItem → Declaration
see_declaration (AstInterface i) = of_interface (see_interface i)
see_declaration (AstWorld w) = of_world (see_world w)
see_declaration (AstUse u) = of_use (see_top_use u)

abbrev pub see_nested : NestedPackage → Nested
see_nested p = record { name = see_package_id p.name; declarations = map see_declaration p.decl_list.items.items; nested = map see_package_id p.nested.items }

abbrev pub see_file : SourceFile → File
see_file s = record {
  header = option_map see_package_id s.file.package_id;
  declarations = map see_declaration s.file.decl_list.items.items;
  nested = map see_nested s.nested.items;
}
