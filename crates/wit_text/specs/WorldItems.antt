-- One item more of a world.
use Rattle.std.specs.Prelude.{◌≡◌, [], ◌∷◌, ◌++◌, Vec}
use Rattle.std.specs.declared.alloc.Global.{Global}
use Rattle.wit_tree.specs.declared.tree.WorldItem.{WorldItem}
use Rattle.wit_grammar.specs.Grammar.{Gram}
use Rattle.wit_grammar.specs.Trees.{WorldItem as Said}
use Rattle.wit_grammar.specs.Seen.{see_world_item}
use Rattle.wit_reader.specs.declared.reader.Reader.{Reader}
use Rattle.wit_reader.specs.Reading.{Reads}

-- an item that was read by a grammar was added to the others
pub record Adds (g : Gram Said) (old : Reader) (before after : Vec WorldItem Global) (new : Reader) : Type 0 where
  pub item : WorldItem
  pub items : after.items ≡ before.items ++ item ∷ []
  pub reads : Reads g old (see_world_item item) new
