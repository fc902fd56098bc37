-- The grammar of WIT, a line a rule, from definitions up to files.
use Rattle.std.specs.Prelude.{ℕ, zero, suc, Bool, true, false, List, [], ◌∷◌, ◌++◌, Option, Some, None, codes}
use Rattle.std.specs.List.{flat_map}
use Rattle.std.specs.Option.{is_some}
use Rattle.wit_values.specs.declared.span.Span.{Span}
use Rattle.wit_type_tree.specs.declared.types.FuncForm.{FuncForm}
use Rattle.wit_type_tree.specs.declared.types.FuncForm.TheVariants.{Getter}
use Rattle.wit_tree.specs.declared.tree.WorldSide.{WorldSide}
use Rattle.wit_tree.specs.declared.tree.WorldSide.TheVariants.{Imported, Exported}
use Rattle.wit_lex.specs.declared.kind.Kind.TheVariants.{Colon, Semicolon, Equals, OpenParen, CloseParen, OpenBrace, CloseBrace, End, Word}
use Rattle.wit_lex.specs.declared.word.Word.TheVariants as word
use Rattle.wit_grammar.specs.Grammar.{Gram, mark, spanned, name, name_but, docs, never, deeper, both, act, either, opt, until, listed, seq, applied, ◌▸◌, ◌◂◌}
use Rattle.wit_grammar.specs.Trees.{Name, Documents, Release, Ty, Attribute, Prefix, Parameter, Function, NamedFunction, ResourceFunction, method, of_resource, maker, Field, Flag, Case, Body, alias, of_fields, of_flags, of_cases, of_labels, of_funcs, Definition, PackageId, Path, by_name, InterfaceItem, uses, defines, has_func, Interface, ExternKind, inline_interface, by_path, by_func, named_path, Extern, RenamedName, Include, WorldItem, crosses, world_uses, world_defines, includes, World, Declaration, of_interface, of_world, of_use, Item, declares, nests, Items, no_more, then_item, items_of, Nested, File}
use Rattle.wit_grammar.specs.Rules.{joined, label, types, signature, accessor, func_word, function, func_of, prefix, at_version, item_path, package_path, rest_of_path, path_of, path, release_of, used, use_of, top_used, top_use_of}

-- ---- definitions of types
-- 'type' name '=' type ';'
unfoldable pub alias_definition : Gram (Name × Body)
alias_definition = Word word.Type ▸ both (λ n t. (n, alias t)) name (Equals ▸ (types 100 ◂ Semicolon))

unfoldable pub field : Gram Field
field = both (λ d x. record { docs = d; name = x.0; ty = x.1 }) docs (seq label (types 100))

-- 'record' name '{' name ':' type, .. '}'
unfoldable pub record_definition : Gram (Name × Body)
record_definition = Word word.Record ▸ both (λ n xs. (n, of_fields n.span xs)) name (listed OpenBrace CloseBrace field)

unfoldable pub flag : Gram Flag
flag = both (λ d n. record { docs = d; name = n }) docs name

-- 'flags' name '{' name, .. '}'
unfoldable pub flags_definition : Gram (Name × Body)
flags_definition = Word word.Flags ▸ both (λ n xs. (n, of_flags n.span xs)) name (listed OpenBrace CloseBrace flag)

-- ( '(' type ')' )?
unfoldable pub case_type : Gram (Option Ty)
case_type = opt (OpenParen ▸ (types 100 ◂ CloseParen))

unfoldable pub case : Gram Case
case = both (λ d x. record { docs = d; name = x.0; ty = x.1 }) docs (seq name case_type)

-- 'variant' name '{' name ( '(' type ')' )?, .. '}'
unfoldable pub variant_definition : Gram (Name × Body)
variant_definition = Word word.Variant ▸ both (λ n xs. (n, of_cases n.span xs)) name (listed OpenBrace CloseBrace case)

-- 'enum' name '{' name, .. '}'
unfoldable pub enum_definition : Gram (Name × Body)
enum_definition = Word word.Enum ▸ both (λ n xs. (n, of_labels n.span xs)) name (listed OpenBrace CloseBrace flag)

-- function ';'
unfoldable pub closed_function : Gram Function
closed_function = function ◂ Semicolon

-- signature ';'
unfoldable pub closed_signature : Gram (List Parameter × Option Ty)
closed_signature = signature ◂ Semicolon

-- 'constructor' signature ';'
unfoldable pub constructed : Gram (Span × List Parameter × Option Ty)
constructed = both (λ s x. (s, x.0, x.1)) (spanned (Word word.Constructor)) closed_signature

-- 'static'?
unfoldable pub is_static : Gram Bool
is_static = act is_some (opt (mark (Word word.Static)))

-- name ':' 'static'? function ';'
unfoldable pub member : Gram (Name × Bool × Function)
member = both (λ n x. (n, x.0, x.1)) label (seq is_static closed_function)

abbrev pub maker_of : Prefix → Span × List Parameter × Option Ty → ResourceFunction
maker_of f x = maker f x.0 x.1 x.2

abbrev pub named_func_of : Prefix → Name → Function → NamedFunction
named_func_of f n x = record { prefix = f; name = n; func = x }

abbrev pub member_of : Prefix → Name × Bool × Function → ResourceFunction
member_of f (n, false, x) = method (named_func_of f n x)
member_of f (n, true, x) = of_resource (named_func_of f n x)

unfoldable pub resource_function : Gram ResourceFunction
resource_function = both applied prefix (either (act (λ x f. maker_of f x) constructed) (act (λ x f. member_of f x) member))

-- '{' function .. '}'
unfoldable pub braced_functions : Gram (List ResourceFunction)
braced_functions = OpenBrace ▸ (until resource_function CloseBrace ◂ CloseBrace)

-- ';' | '{' function .. '}'
unfoldable pub resource_body : Gram (List ResourceFunction)
resource_body = either (act (λ _. []) (mark Semicolon)) braced_functions

unfoldable pub resource_definition : Gram (Name × Body)
resource_definition = Word word.Resource ▸ both (λ n xs. (n, of_funcs xs)) name resource_body

unfoldable pub definition : Gram (Name × Body)
definition =
    either alias_definition (either record_definition (either flags_definition (either variant_definition (either enum_definition resource_definition))))

abbrev pub definition_of : Prefix → Name × Body → Definition
definition_of f x = record { prefix = f; name = x.0; body = x.1 }

-- ---- interfaces
-- name ':' function ';'
unfoldable pub named_function : Gram (Name × Function)
named_function = seq label closed_function

unfoldable pub interface_item : Gram InterfaceItem
interface_item =
    both applied prefix
    (either (act (λ x f. uses (use_of f.attributes x)) used)
    (either (act (λ x f. has_func (named_func_of f x.0 x.1)) named_function) (act (λ x f. defines (definition_of f x)) definition)))

-- '{' item .. '}'
unfoldable pub interface_items : Gram (List InterfaceItem)
interface_items = OpenBrace ▸ (until interface_item CloseBrace ◂ CloseBrace)

-- 'interface' name '{' .. '}'
unfoldable pub interface_rule : Gram (Name × List InterfaceItem)
interface_rule = Word word.Interface ▸ seq name interface_items

abbrev pub interface_of : Prefix → Name × List InterfaceItem → Interface
interface_of f x = record { prefix = f; name = x.0; items = x.1 }

-- ---- worlds
-- after the second name: '/' and the rest of a path, or the rest of a path that this name begins
unfoldable pub after_second : Gram (Name → Name → ExternKind)
after_second =
    either (act (λ x first second. by_path (package_path first second x)) (item_path ◂ Semicolon))
    (act (λ x first second. named_path first (path_of second x)) (rest_of_path ◂ Semicolon))

unfoldable pub extern_path : Gram (Name → ExternKind)
extern_path = both (λ second x first. x first second) (name_but (codes "get" ∷ codes "set" ∷ [])) after_second

abbrev pub accessor_name : Span × FuncForm → Name
accessor_name (s, Getter) = record { text = codes "get"; span = s }
accessor_name (s, other) = record { text = codes "set"; span = s }

-- 'get' or 'set' is a name, where no '(' follows
unfoldable pub get_or_set : Gram (Name → ExternKind)
get_or_set =
    both applied accessor
    (either (act (λ x a n. by_func n (func_of a x)) closed_signature) (act (λ x a n. x n (accessor_name a)) after_second))

-- 'async'? 'func' signature ';'
unfoldable pub worded_function : Gram Function
worded_function = both func_of func_word closed_signature

unfoldable pub inline_items : Gram (List InterfaceItem)
inline_items = Word word.Interface ▸ interface_items

-- after a name and ':'
unfoldable pub after_colon : Gram (Name → ExternKind)
after_colon =
    either (act (λ xs n. inline_interface n xs) inline_items)
    (either (act (λ f n. by_func n f) worded_function) (either get_or_set extern_path))

unfoldable pub extern_kind : Gram ExternKind
extern_kind = both applied name (either (Colon ▸ after_colon) (act (λ _ n. by_path (by_name n)) (mark Semicolon)))

-- 'import' | 'export'
unfoldable pub side : Gram WorldSide
side = either (act (λ _. Imported) (mark (Word word.Import))) (act (λ _. Exported) (mark (Word word.Export)))

unfoldable pub extern : Gram (WorldSide × ExternKind)
extern = seq side extern_kind

abbrev pub extern_of : Prefix → WorldSide × ExternKind → Extern
extern_of f x = record { side = x.0; prefix = f; kind = x.1 }

-- name 'as' name
unfoldable pub renamed : Gram RenamedName
renamed = both (λ n l. record { name = n; local = l }) name (Word word.As ▸ name)

-- ';'?
unfoldable pub maybe_semicolon : Gram Bool
maybe_semicolon = act is_some (opt (mark Semicolon))

-- 'with' '{' name 'as' name, .. '}' ';'? | ';'
unfoldable pub renames : Gram (List RenamedName)
renames =
    either (Word word.With ▸ both (λ xs _. xs) (listed OpenBrace CloseBrace renamed) maybe_semicolon)
    (act (λ _. []) (mark Semicolon))

unfoldable pub include : Gram (Path × List RenamedName)
include = Word word.Include ▸ seq path renames

abbrev pub include_of : List Attribute → Path × List RenamedName → Include
include_of xs x = record { attributes = xs; from = x.0; names = x.1 }

unfoldable pub world_item : Gram WorldItem
world_item =
    both applied prefix
    (either (act (λ x f. world_uses (use_of f.attributes x)) used)
    (either (act (λ x f. includes (include_of f.attributes x)) include)
    (either (act (λ x f. crosses (extern_of f x)) extern) (act (λ x f. world_defines (definition_of f x)) definition))))

unfoldable pub world_items : Gram (List WorldItem)
world_items = OpenBrace ▸ (until world_item CloseBrace ◂ CloseBrace)

-- 'world' name '{' .. '}'
unfoldable pub world_rule : Gram (Name × List WorldItem)
world_rule = Word word.World ▸ seq name world_items

abbrev pub world_of : Prefix → Name × List WorldItem → World
world_of f x = record { prefix = f; name = x.0; items = x.1 }

-- ---- files
unfoldable pub declaration : Gram Declaration
declaration =
    both applied prefix
    (either (act (λ x f. of_use (top_use_of f.attributes x)) top_used)
    (either (act (λ x f. of_world (world_of f x)) world_rule) (act (λ x f. of_interface (interface_of f x)) interface_rule)))

-- 'package' name ':' name
unfoldable pub two_names : Gram (Name × Name)
two_names = Word word.Package ▸ seq label name

-- 'package' name ':' name ( '@' version )?
unfoldable pub package_names : Gram (Name × Name × Option (Span × Release))
package_names = both (λ x v. (x.0, x.1, v)) two_names at_version

-- the end of the version, or of the name where there is none
abbrev pub last_span : Name → Option (Span × Release) → Span
last_span n None = n.span
last_span n (Some x) = x.0

abbrev pub package_of : Documents → Name × Name × Option (Span × Release) → PackageId
package_of d x = record { docs = d; span = joined x.0.span (last_span x.1 x.2); namespace = x.0; name = x.1; version = release_of x.2 }

-- '{' item .. '}'
unfoldable pub braced : Gram Item → Gram (List Item)
braced item = OpenBrace ▸ (until item CloseBrace ◂ CloseBrace)

abbrev pub nest : Documents → (Name × Name × Option (Span × Release)) × List Item → Item
nest d x = nests (package_of d x.0) (items_of x.1)

-- a package, whose docs are before this, or a declaration
abbrev pub item_of : Gram ((Name × Name × Option (Span × Release)) × List Item) → Gram Item
item_of inner = either (both nest docs inner) (act declares declaration)

-- 'package' .. '{' item .. '}', with packages in one another of at most so many levels
unfoldable pub package_to : ℕ → Gram ((Name × Name × Option (Span × Release)) × List Item)
package_to zero = deeper (Word word.Package ∷ [])
package_to (suc n) = seq package_names (braced (item_of (package_to n)))

unfoldable pub item_to : ℕ → Gram Item
item_to n = item_of (package_to n)

-- what a file begins with: a header, or an item
pub data Beginning : Type 0 where
  header : PackageId → Beginning
  first_item : Item → Beginning

abbrev pub header_or_nested : PackageId → Option (List Item) → Beginning
header_or_nested p None = header p
header_or_nested p (Some xs) = first_item (nests p (items_of xs))

-- 'package' name ':' name ( '@' version )? ( ';' | '{' item .. '}' )
unfoldable pub package_first : Gram Beginning
package_first =
    both (λ d x. header_or_nested (package_of d x.0) x.1) docs
    (seq package_names (either (act (λ xs. Some xs) (braced (item_to 99))) (act (λ _. None) (mark Semicolon))))

unfoldable pub beginning : Gram Beginning
beginning = either package_first (act (λ d. first_item (declares d)) declaration)

-- ---- what is kept of what is spelled
abbrev pub declaration_in : Item → List Declaration
declaration_in (declares d) = d ∷ []
declaration_in (nests p items) = []

abbrev pub declarations_in : Items → List Declaration
declarations_in no_more = []
declarations_in (then_item x rest) = declaration_in x ++ declarations_in rest

abbrev pub name_in : Item → List PackageId
name_in (declares d) = []
name_in (nests p items) = p ∷ []

abbrev pub names_in : Items → List PackageId
names_in no_more = []
names_in (then_item x rest) = name_in x ++ names_in rest

abbrev pub nested_of : PackageId → List Item → Nested
nested_of p xs = record { name = p; declarations = declarations_in (items_of xs); nested = names_in (items_of xs) }

abbrev pub nested_in : Item → List Nested
nested_in (declares d) = []
nested_in (nests p items) = record { name = p; declarations = declarations_in items; nested = names_in items } ∷ []

abbrev pub file_from : Option PackageId → List Item → File
file_from h xs = record { header = h; declarations = flat_map declaration_in xs; nested = flat_map nested_in xs }

abbrev pub file_of : Option (Beginning × List Item) → File
file_of None = file_from None []
file_of (Some (header p, xs)) = file_from (Some p) xs
file_of (Some (first_item x, xs)) = file_from None (x ∷ xs)

-- item .. up to the end of the text
unfoldable pub items_to_end : Gram (List Item)
items_to_end = until (item_to 100) End

-- a file up to its end
unfoldable pub file : Gram File
file = both (λ x _. file_of x) (opt (seq beginning items_to_end)) (until (never {A = Item}) End)
