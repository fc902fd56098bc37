-- Trees as plain data: what a file says, wherever the code's tree lies in memory.
use Rattle.std.specs.Prelude.{ℕ, List, [], ◌∷◌, Option, Some, None}
use Rattle.wit_values.specs.declared.span.Span.{Span}
use Rattle.wit_type_tree.specs.declared.types.Primitive.{Primitive}
use Rattle.wit_type_tree.specs.declared.types.FuncForm.{FuncForm}
use Rattle.wit_tree.specs.declared.tree.WorldSide.{WorldSide}

abbrev pub Text : Type 0
Text = List ℕ

-- a name without a `%` in front, and where it is written
pub record Name : Type 0 where
  pub text : Text
  pub span : Span

-- comments with their marks, and the span from the first to the end of the last
pub record Documents : Type 0 where
  pub texts : List Text
  pub span : Span

-- major, minor, patch, prerelease and build
abbrev pub Release : Type 0
Release = ℕ × ℕ × ℕ × List ℕ × List ℕ

-- ---- types
mutual
  pub data Ty : Type 0 where
    primitive : (span : Span) (p : Primitive) → Ty
    named : (name : Name) → Ty
    list : (span : Span) (item : Ty) → Ty
    fixed : (span : Span) (item : Ty) (size : ℕ) → Ty
    maps : (span : Span) (key value : Ty) → Ty
    option : (span : Span) (value : Ty) → Ty
    result : (span : Span) (ok err : Perhaps) → Ty
    tuple : (span : Span) (parts : Tys) → Ty
    future : (span : Span) (value : Perhaps) → Ty
    stream : (span : Span) (item : Perhaps) → Ty
    own : (span : Span) (name : Name) → Ty
    borrow : (span : Span) (name : Name) → Ty

  -- a type, where there is one
  pub data Perhaps : Type 0 where
    nothing : Perhaps
    this : (t : Ty) → Perhaps

  -- types in a row
  pub data Tys : Type 0 where
    end : Tys
    and : (t : Ty) (rest : Tys) → Tys

abbrev pub tys : List Ty → Tys
tys [] = end
tys (t ∷ ts) = and t (tys ts)

abbrev pub perhaps : Option Ty → Perhaps
perhaps None = nothing
perhaps (Some t) = this t

-- ---- what items have in front
pub data Attribute : Type 0 where
  since : (span : Span) (version : Release) → Attribute
  unstable : (span : Span) (feature : Name) → Attribute
  deprecated : (span : Span) (version : Release) → Attribute
  -- no text spells it
  external : (span : Span) (id : Text) → Attribute

pub record Prefix : Type 0 where
  pub docs : Documents
  pub attributes : List Attribute

-- ---- functions
pub record Parameter : Type 0 where
  pub name : Name
  pub ty : Ty

pub record Function : Type 0 where
  pub span : Span
  pub form : FuncForm
  pub params : List Parameter
  pub returned : Option Ty

pub record NamedFunction : Type 0 where
  pub prefix : Prefix
  pub name : Name
  pub func : Function

pub data ResourceFunction : Type 0 where
  method : (func : NamedFunction) → ResourceFunction
  of_resource : (func : NamedFunction) → ResourceFunction
  maker : (prefix : Prefix) (span : Span) (params : List Parameter) (returned : Option Ty) → ResourceFunction

-- ---- definitions of types
pub record Field : Type 0 where
  pub docs : Documents
  pub name : Name
  pub ty : Ty

pub record Flag : Type 0 where
  pub docs : Documents
  pub name : Name

pub record Case : Type 0 where
  pub docs : Documents
  pub name : Name
  pub ty : Option Ty

pub data Body : Type 0 where
  alias : (t : Ty) → Body
  of_fields : (span : Span) (fields : List Field) → Body
  of_flags : (span : Span) (flags : List Flag) → Body
  of_cases : (span : Span) (cases : List Case) → Body
  of_labels : (span : Span) (cases : List Flag) → Body
  of_funcs : (funcs : List ResourceFunction) → Body

pub record Definition : Type 0 where
  pub prefix : Prefix
  pub name : Name
  pub body : Body

-- ---- paths and uses
pub record PackageId : Type 0 where
  pub docs : Documents
  pub span : Span
  pub namespace : Name
  pub name : Name
  pub version : Option Release

pub data Path : Type 0 where
  by_name : (name : Name) → Path
  by_package : (owner : PackageId) (name : Name) → Path

pub record UsedName : Type 0 where
  pub name : Name
  pub local : Option Name

pub record Use : Type 0 where
  pub attributes : List Attribute
  pub from : Path
  pub names : List UsedName

pub record TopUse : Type 0 where
  pub span : Span
  pub attributes : List Attribute
  pub item : Path
  pub local : Option Name

-- ---- interfaces
pub data InterfaceItem : Type 0 where
  uses : (u : Use) → InterfaceItem
  defines : (d : Definition) → InterfaceItem
  has_func : (f : NamedFunction) → InterfaceItem

pub record Interface : Type 0 where
  pub prefix : Prefix
  pub name : Name
  pub items : List InterfaceItem

-- ---- worlds
pub data ExternKind : Type 0 where
  inline_interface : (name : Name) (items : List InterfaceItem) → ExternKind
  by_path : (path : Path) → ExternKind
  by_func : (name : Name) (func : Function) → ExternKind
  named_path : (name : Name) (path : Path) → ExternKind

pub record Extern : Type 0 where
  pub side : WorldSide
  pub prefix : Prefix
  pub kind : ExternKind

pub record RenamedName : Type 0 where
  pub name : Name
  pub local : Name

pub record Include : Type 0 where
  pub attributes : List Attribute
  pub from : Path
  pub names : List RenamedName

pub data WorldItem : Type 0 where
  crosses : (e : Extern) → WorldItem
  world_uses : (u : Use) → WorldItem
  world_defines : (d : Definition) → WorldItem
  includes : (i : Include) → WorldItem

pub record World : Type 0 where
  pub prefix : Prefix
  pub name : Name
  pub items : List WorldItem

-- ---- files
pub data Declaration : Type 0 where
  of_interface : (i : Interface) → Declaration
  of_world : (w : World) → Declaration
  of_use : (u : TopUse) → Declaration

-- what is in a file, or in the braces of a package, to any depth
mutual
  pub data Item : Type 0 where
    declares : (d : Declaration) → Item
    nests : (name : PackageId) (items : Items) → Item

  pub data Items : Type 0 where
    no_more : Items
    then_item : (item : Item) (rest : Items) → Items

abbrev pub items_of : List Item → Items
items_of [] = no_more
items_of (x ∷ xs) = then_item x (items_of xs)

-- a package in a file: its declarations, and the names of the packages in it in turn, of which nothing else is kept
pub record Nested : Type 0 where
  pub name : PackageId
  pub declarations : List Declaration
  pub nested : List PackageId

pub record File : Type 0 where
  pub header : Option PackageId
  pub declarations : List Declaration
  pub nested : List Nested
