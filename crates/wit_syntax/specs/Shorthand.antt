-- Names that clauses of the code and proofs cite for what other definitions write out.
use Rattle.std.specs.Prelude.{ℕ, Bool, ◌&&◌, List, ◌++◌, codes}
use Rattle.std.specs.List.{flat_map}
use Rattle.std.specs.Str.{bytes_eq}
use Rattle.wit_type_tree.specs.declared.leaves.Id.{Id}
use Rattle.wit_type_tree.specs.declared.leaves.Attribute.{Attribute}
use Rattle.wit_tree.specs.declared.tree.UseName.{UseName}
use Rattle.wit_syntax.specs.Address.{Address, same_address}
use Rattle.wit_syntax.specs.Sides.{SideItem, members_after}
use Rattle.wit_syntax.specs.Source.{Local, TopName, ForeignUse, Item}

-- a name in words around it
abbrev pub around : (before name back : List ℕ) → List ℕ
around before name back = before ++ (codes "`" ++ (name ++ (codes "`" ++ back)))

-- a declared item at the top of a file means itself
abbrev pub itself : Id → TopName
itself id = record { id = id; target = Local id }

-- a name that is used from a scope
abbrev pub use_of_foreign : Address → List Attribute → UseName → ForeignUse
use_of_foreign s attributes n = record { from = s; attributes = attributes; id = n.name }

-- whether two of them are one name of one scope
abbrev pub same_foreign_use : ForeignUse → ForeignUse → Bool
same_foreign_use a b = same_address a.from b.from && bytes_eq a.id.name.now b.id.name.now

-- the interfaces that are written in an item after these
abbrev pub inline_after : Item → List SideItem → List SideItem → List Item
inline_after i before xs = flat_map (λ m. m.1) (members_after i before xs)
