-- A text with the tree that it spells, and three that spell none with the fault at which reading them stops, computed.
use Rattle.std.proofs.Common.{◌≡◌, ℕ, List, [], ◌∷◌, ◌++◌, refl, Some, None}
use Rattle.std.specs.Prelude.{codes}
use Rattle.wit_values.specs.declared.span.Span.{Span}
use Rattle.wit_type_tree.specs.declared.types.FuncForm.TheVariants.{Plain}
use Rattle.wit_type_tree.specs.declared.types.Primitive.TheVariants.{U8, U64}
use Rattle.wit_tree.specs.declared.tree.WorldSide.TheVariants.{Imported, Exported}
use Rattle.wit_lex.specs.declared.fault.ReadFault.TheVariants.{Token, Comment}
use Rattle.wit_grammar.specs.Trees.{Name, Release, list, primitive, named, result, this, nothing, Prefix, since, Function, method, of_funcs, Definition, PackageId, by_package, by_name, Use, uses, defines, Interface, crosses, by_path, by_func, World, of_interface, of_world, File}
use Rattle.wit_grammar.specs.Rules.{no_docs}
use Rattle.wit_grammar.specs.Laws.{IsSpelled, IsReadAs, StopsAt}
use Rattle.wit_grammar.proofs.Opened.{all_rules, reading}
use Rattle.wit_grammar.proofs.Whole.{read_is_spelled, one_tree, stopped_spells_none}

abbrev at : ℕ → ℕ → Span
at from to = record { start = from; end = to }

abbrev text : List ℕ
text =
    codes "package wasi:demo@0.2.0;\n\n/// Streams.\n@since(version = 0.2.0)\ninterface streams {\n  use wasi:io/error@0.2.0.{error};\n"
    ++ codes "  resource input {\n    read: func(len: u64) -> result<list<u8>, error>;\n  }\n}\n"
    ++ codes "world w {\n  import streams;\n  export run: func() -> result;\n}\n"

abbrev name : List ℕ → ℕ → ℕ → Name
name text from to = record { text = text; span = at from to }

abbrev bare : Prefix
bare = record { docs = no_docs; attributes = [] }

abbrev release : Release
release = (0, 2, 0, [], [])

abbrev demo : PackageId
demo = record { docs = no_docs; span = at 8 23; namespace = name (codes "wasi") 8 12; name = name (codes "demo") 13 17; version = Some release }

abbrev wasi_io : PackageId
wasi_io = record { docs = no_docs; span = at 89 96; namespace = name (codes "wasi") 89 93; name = name (codes "io") 94 96; version = Some release }

abbrev use_error : Use
use_error = record { attributes = []; from = by_package wasi_io (name (codes "error") 97 102); names = record { name = name (codes "error") 110 115; local = None } ∷ [] }

abbrev read : Function
read = record {
  span = at 147 151;
  form = Plain;
  params = record { name = name (codes "len") 152 155; ty = primitive (at 157 160) U64 } ∷ [];
  returned = Some (result (at 165 171) (this (list (at 172 176) (primitive (at 177 179) U8))) (this (named (name (codes "error") 182 187))));
}

abbrev input : Definition
input = record { prefix = bare; name = name (codes "input") 129 134; body = of_funcs (method (record { prefix = bare; name = name (codes "read") 141 145; func = read }) ∷ []) }

abbrev streams : Interface
streams = record {
  prefix = record { docs = record { texts = codes "/// Streams." ∷ []; span = at 26 38 }; attributes = since (at 39 62) release ∷ [] };
  name = name (codes "streams") 73 80;
  items = uses use_error ∷ defines input ∷ [];
}

abbrev run_func : Function
run_func = record { span = at 238 242; form = Plain; params = []; returned = Some (result (at 248 254) nothing nothing) }

abbrev w : World
w = record {
  prefix = bare;
  name = name (codes "w") 202 203;
  items = crosses (record { side = Imported; prefix = bare; kind = by_path (by_name (name (codes "streams") 215 222)) })
      ∷ crosses (record { side = Exported; prefix = bare; kind = by_func (name (codes "run") 233 236) run_func }) ∷ [];
}

abbrev tree : File
tree = record { header = Some demo; declarations = of_interface streams ∷ of_world w ∷ []; nested = [] }

is_read : IsReadAs text 0 tree
unfolding all_rules reading
is_read = (record { source = text; offset = 0; place = 257 }, refl)

pub this_tree : IsSpelled text 0 tree
this_tree = read_is_spelled text 0 tree is_read

pub no_other : (other : File) → IsSpelled text 0 other → tree ≡ other
no_other other h = one_tree text 0 tree other this_tree h

-- a result with an error that has no type
abbrev no_type : List ℕ
no_type = codes "interface i { f: func() -> result<_>; }"

pub stops_at_bracket : StopsAt no_type 0 Token 35 36
unfolding all_rules reading
stops_at_bracket = refl

pub no_type_no_tree : (tree : File) → IsSpelled no_type 0 tree → ⊥
no_type_no_tree tree = stopped_spells_none no_type 0 Token 35 36 tree stops_at_bracket

-- a header without a semicolon
abbrev no_semicolon : List ℕ
no_semicolon = codes "package a:b interface i {}"

pub stops_at_word : StopsAt no_semicolon 0 Token 12 21
unfolding all_rules reading
stops_at_word = refl

pub no_semicolon_no_tree : (tree : File) → IsSpelled no_semicolon 0 tree → ⊥
no_semicolon_no_tree tree = stopped_spells_none no_semicolon 0 Token 12 21 tree stops_at_word

-- a comment without an end
abbrev no_end : List ℕ
no_end = codes "interface i { /* }"

pub stops_at_comment : StopsAt no_end 0 Comment 14 16
unfolding all_rules reading
stops_at_comment = refl

pub no_end_no_tree : (tree : File) → IsSpelled no_end 0 tree → ⊥
no_end_no_tree tree = stopped_spells_none no_end 0 Comment 14 16 tree stops_at_comment
