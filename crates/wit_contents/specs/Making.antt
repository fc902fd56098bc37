-- What is made of files, item by item: what is resolved, and what grows.
use Rattle.std.specs.Prelude.{◌≡◌, ◌++◌, ◌∷◌, [], Bool}
use Rattle.wit_contents.specs.Names.{BorrowedItem, Growing, Interface, InterfaceNamed, Interfaces, IsItemOf, IsNameIndex, Resolved, World, WorldNamed, interfaces_at, is_world, item_view, others_of, prefix_of, worlds_at}
use Rattle.wit_arena.specs.Common.{AddsForeign}
use Rattle.wit_contents.specs.declared.making.Making.{Making}

-- each interface is found by its name
abbrev pub IsIndexed : Interfaces → Type 0
IsIndexed is = IsNameIndex InterfaceNamed (interfaces_at (prefix_of is.files) is.arena) is.by_name

-- each world is found by its name
abbrev pub AreIndexed : Resolved → Type 0
AreIndexed r = IsNameIndex WorldNamed (worlds_at (others_of r.interfaces.files) r.worlds) r.world_names

-- an interface was put after those before it, under its name
pub record PutsInterface (a b : Resolved) (added : Interface) : Type 0 where
  pub files : b.interfaces.files ≡ a.interfaces.files
  pub arena : b.interfaces.arena ≡ a.interfaces.arena ++ added ∷ []
  pub worlds : b.worlds ≡ a.worlds
  pub world_names : b.world_names ≡ a.world_names
  pub index : IsIndexed a.interfaces → IsIndexed b.interfaces

-- a world was put after those before it, under its name
pub record PutsWorld (a b : Resolved) (added : World) : Type 0 where
  pub interfaces : b.interfaces ≡ a.interfaces
  pub arena : b.worlds ≡ a.worlds ++ added ∷ []
  pub index : AreIndexed a → AreIndexed b

-- an item of the files whose interfaces are resolved is a world, or an interface
pub record IsItemIn (is : Interfaces) (world : Bool) (i : BorrowedItem) : Type 0 where
  pub sort : is_world (item_view i) ≡ world
  pub item : IsItemOf is.files i

-- nothing grew but types
pub record IsBare (g : Growing) : Type 0 where
  pub inside : g.inside ≡ []
  pub required : g.required.items ≡ []

-- only what files name of other packages is made
pub record IsBegun (m : Making) : Type 0 where
  pub foreign : AddsForeign m.resolved.interfaces.files m.growing.types m.resolved.interfaces.arena m.resolved.worlds
  pub bare : IsBare m.growing
  pub interfaces : m.resolved.interfaces.by_name ≡ []
  pub worlds : m.resolved.world_names ≡ []
