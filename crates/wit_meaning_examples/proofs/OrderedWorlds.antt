-- Worlds with an order of the names of each of their scopes, and what is resolved in it.
use Rattle.std.proofs.Common.{List, [], ◌∷◌, ◌++◌}
use Rattle.wit_arena.proofs.Common.{Address, Ordered, PackageFile, SideFunction, SideInline, SideItem, SideLink, Turned, address, flat_map, foreign_interfaces, foreign_worlds, map, ordered_names, side_items, turned, visited}

-- a world, and the interfaces that are written in it, each with an order of its names
pub record OrderedWorld : Type 0 where
  pub own : Ordered
  pub inside : List Ordered

-- what is on the sides of a world, one after another: its functions, each by itself, and the interfaces that are written there, whole
abbrev pub side_turns : Address → List SideItem → List Ordered → List Turned
side_turns s [] os = []
side_turns s (SideFunction fn ∷ xs) os = record { address = s; names = []; functions = fn ∷ [] } ∷ side_turns s xs os
side_turns s (SideLink link ∷ xs) os = side_turns s xs os
side_turns s (SideInline x name items ∷ xs) [] = side_turns s xs []
side_turns s (SideInline x name items ∷ xs) (o ∷ os) = turned o ∷ side_turns s xs os

-- a world, as it is resolved: its names, and then what is on its sides
abbrev pub world_turns : OrderedWorld → List Turned
world_turns w = record { address = address w.own.item; names = ordered_names w.own; functions = [] } ∷ side_turns (address w.own.item) (side_items w.own.item) w.inside

-- interfaces and then worlds, as they are resolved
abbrev pub all_turns : List Ordered → List OrderedWorld → List Turned
all_turns is ws = map turned is ++ flat_map world_turns ws

-- the interfaces that are written in worlds
abbrev pub all_inside : List OrderedWorld → List Ordered
all_inside ws = flat_map (λ w. w.inside) ws

-- the addresses of items
abbrev pub addresses : List Ordered → List Address
addresses os = map (λ o. address o.item) os

-- the addresses of other packages' interfaces, and of these
abbrev pub interface_addresses : List PackageFile → List Ordered → List Address
interface_addresses files os = map visited (foreign_interfaces files) ++ addresses os

-- the addresses of other packages' worlds, and of these
abbrev pub world_addresses : List PackageFile → List OrderedWorld → List Address
world_addresses files ws = map visited (foreign_worlds files) ++ map (λ w. address w.own.item) ws
