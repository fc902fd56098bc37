-- What is read in parts: a definition, a signature, members between braces.
use Rattle.std.specs.Prelude.{List, map, Option, Vec}
use Rattle.std.specs.declared.alloc.Global.{Global}
use Rattle.std.specs.Option.{option_map}
use Rattle.wit_type_tree.specs.declared.leaves.Id.{Id}
use Rattle.wit_type_tree.specs.declared.types.Param.{Param}
use Rattle.wit_type_tree.specs.declared.types.TypeBody.{TypeBody}
use Rattle.wit_type_tree.specs.declared.types.«Type».{«Type» as Written}
use Rattle.wit_lex.specs.declared.kind.Kind.TheVariants.{OpenBrace, CloseBrace}
use Rattle.wit_grammar.specs.Trees.{Name, Body, Parameter, Ty}
use Rattle.wit_grammar.specs.Seen.{see_body, see_name, see_param, see_type}
use Rattle.wit_grammar.specs.Grammar.{Gram, listed}

-- the name and the body of a definition
abbrev pub see_defined : Id × TypeBody → Name × Body
see_defined d = (see_name d.0, see_body d.1)

abbrev pub see_signature : Vec Param Global × Option Written → List Parameter × Option Ty
see_signature s = (map see_param s.0.items, option_map see_type s.1)

abbrev pub braced_list : {A : Type 0} → Gram A → Gram (List A)
braced_list item = listed OpenBrace CloseBrace item
