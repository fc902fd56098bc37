-- What is read after names or attributes that were read before.
use Rattle.std.specs.Prelude.{map, Vec}
use Rattle.std.specs.declared.alloc.Global.{Global}
use Rattle.wit_type_tree.specs.declared.leaves.Attribute.{Attribute}
use Rattle.wit_type_tree.specs.declared.leaves.Id.{Id}
use Rattle.wit_grammar.specs.Trees.{Path, TopUse, Use}
use Rattle.wit_grammar.specs.Seen.{see_attribute, see_name}
use Rattle.wit_grammar.specs.Grammar.{Gram, act}
use Rattle.wit_grammar.specs.Rules.{item_path, package_path, path_of, rest_of_path, top_use_of, top_used, use_of, used}

abbrev pub item_after : (first second : Id) → Gram Path
item_after first second = act (package_path (see_name first) (see_name second)) item_path

abbrev pub rest_after : Id → Gram Path
rest_after first = act (path_of (see_name first)) rest_of_path

abbrev pub use_after : Vec Attribute Global → Gram Use
use_after attributes = act (use_of (map see_attribute attributes.items)) used

abbrev pub top_use_after : Vec Attribute Global → Gram TopUse
top_use_after attributes = act (top_use_of (map see_attribute attributes.items)) top_used
