-- What each name of a scope needs, and each item, as tables whose orders are those in which they are resolved.
use Rattle.std.specs.Prelude.{if◌then◌else◌, ℕ, Bool, true, false, not, List, [], ◌∷◌, ◌++◌, map, slice_get}
use Rattle.wit_type_tree.specs.declared.leaves.Id.{Id}
use Rattle.std.specs.List.{flat_map, filter, filter_map}
use Rattle.wit_tree.specs.declared.tree.Include.{Include}
use Rattle.wit_tree.specs.declared.tree.Use.{Use}
use Rattle.wit_tree.specs.declared.tree.UsePath.{UsePath}
use Rattle.wit_tree.specs.declared.tree.PackageFile.{PackageFile}
use Rattle.wit_graph.specs.Table.{Row}
use Rattle.wit_syntax.specs.ExternPart.{extern_paths}
use Rattle.wit_syntax.specs.Shape.{all_words, body_of}
use Rattle.wit_syntax.specs.Source.{Defined, ExternPart, Foreign, IncludePart, Item, Local, Part, ScopeName, Target, UsePart, all_items, inline_uses, is_world, item_name, leads, local_name, parts, own_uses}
use Rattle.wit_syntax.specs.Repeats.{AllDiffer}

-- the names that a name of a scope needs: those in a definition's body; a used name needs none of its own scope
abbrev pub needed_ids : ScopeName → List Id
needed_ids (Defined d) = all_words (body_of d.body).parts
needed_ids _ = []

-- the table of a scope: each of its names with the names in its body
abbrev pub rows_of : List ScopeName → List Row
rows_of xs = map (λ x. record { name = local_name x; needs = needed_ids x }) xs

-- a list in an order of its places
abbrev pub in_order : {X : Type 0} → List X → List ℕ → List X
in_order xs places = filter_map (slice_get xs) places

abbrev pub is_defined : ScopeName → Bool
is_defined (Defined d) = true
is_defined _ = false

-- those that are used
abbrev pub used : List ScopeName → List ScopeName
used xs = filter (λ x. not (is_defined x)) xs

-- those that are defined
abbrev pub defined : List ScopeName → List ScopeName
defined xs = filter is_defined xs

-- the names of a scope as they are resolved: the used ones, and then the definitions in an order of the table
abbrev pub in_turn : List ScopeName → List ℕ → List ScopeName
in_turn xs order = used xs ++ defined (in_order xs order)

-- the paths of a part to interfaces: that of a `use`, that by which a world imports or exports one, and those of uses that are written there
abbrev pub use_path : Part → List UsePath
use_path (UsePart u) = u.from ∷ []
use_path (ExternPart x) = map (λ u. u.from) (inline_uses x.kind) ++ extern_paths x.kind
use_path _ = []

abbrev pub part_includes : Part → List Include
part_includes (IncludePart i) = i ∷ []
part_includes _ = []

-- the paths of includes in a part
abbrev pub include_path : Part → List UsePath
include_path p = map (λ (i : Include). i.from) (part_includes p)

-- the paths of an item to interfaces
abbrev pub use_paths : Item → List UsePath
use_paths i = flat_map use_path (parts i)

-- the paths of its includes
abbrev pub include_paths : Item → List UsePath
include_paths i = flat_map include_path (parts i)

-- the includes of an item, in source order
abbrev pub includes : Item → List Include
includes i = flat_map part_includes (parts i)

-- the paths to items that have to come before: of an interface those of uses, of a world those of includes
abbrev pub needed_paths : Item → List UsePath
needed_paths i = if is_world i then map (λ (n : Include). n.from) (includes i) else map (λ (u : Use). u.from) (flat_map own_uses (parts i))

-- the name of an item of the package that a path leads to
abbrev pub local_target : Target → List Id
local_target (Local id) = id ∷ []
local_target (Foreign p id) = []

-- an item with the names of the items that it needs
abbrev pub item_row : Item → Row
item_row i = record { name = item_name i; needs = flat_map (λ path. local_target (leads i.top path)) (needed_paths i) }

-- the table of the items of all files: each with the items that have to come before it
abbrev pub item_rows : List PackageFile → List Row
item_rows files = map item_row (all_items files)

-- the interfaces among items
abbrev pub interfaces_of : List Item → List Item
interfaces_of is = filter (λ i. not (is_world i)) is

-- the worlds among items
abbrev pub worlds_of : List Item → List Item
worlds_of is = filter is_world is

abbrev pub part_uses : Part → List Use
part_uses (UsePart u) = u ∷ []
part_uses (ExternPart x) = inline_uses x.kind
part_uses _ = []

-- the uses of an item, and of interfaces that are written in it, in source order
abbrev pub uses : Item → List Use
uses i = flat_map part_uses (parts i)

abbrev pub local_names : List ScopeName → List (List ℕ)
local_names xs = map local_name xs

-- no two of these have one name
abbrev pub AreDistinct : List ScopeName → Type 0
AreDistinct xs = AllDiffer (map local_name xs)
