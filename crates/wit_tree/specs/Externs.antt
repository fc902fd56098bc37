-- Where paths, and what a world imports or exports, are written.
use Rattle.wit_values.specs.declared.span.Span.{Span}
use Rattle.wit_tree.specs.declared.tree.UsePath.{UsePath}
use Rattle.wit_tree.specs.declared.tree.UsePath.TheVariants.{Id as PathName, Package as PathPackage}
use Rattle.wit_tree.specs.declared.tree.ExternKind.{ExternKind}
use Rattle.wit_tree.specs.declared.tree.ExternKind.TheVariants.{Interface, Path, Func, NamedPath}

-- a path is where its last name does
abbrev pub path_span : UsePath → Span
path_span (PathName id) = id.span
path_span (PathPackage package_name name) = name.span

-- what has a name in the world is where that does, and a path without one where the path does
abbrev pub extern_span : ExternKind → Span
extern_span (Interface name items) = name.span
extern_span (Path path) = path_span path
extern_span (Func name func) = name.span
extern_span (NamedPath name path) = name.span
