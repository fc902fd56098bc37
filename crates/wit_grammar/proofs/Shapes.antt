-- One token decides the grammar of WIT: by computing, rule by rule and level by level.
use Rattle.std.proofs.Common.{◌≡◌, ℕ, zero, suc, List, [], ◌∷◌, ◌++◌, map, true, false, refl}
use Rattle.std.specs.Prelude.{codes}
use Rattle.wit_lex.specs.declared.kind.Kind.{Kind}
use Rattle.wit_lex.specs.declared.kind.Kind.TheVariants.{Semicolon, OpenAngle, OpenBrace, At, End, Word}
use Rattle.wit_lex.specs.declared.word.Word.TheVariants as word
use Rattle.wit_grammar.specs.TokenKinds.{same_kind}
use Rattle.wit_grammar.proofs.Opened.{type_rules, function_rules, prefix_rules, definition_rules, extern_rules}
use Rattle.wit_grammar.specs.Trees.{Ty}
use Rattle.wit_grammar.specs.Grammar.{Gram, Terminal, of_kind, of_text, first, nullable, deeper, seq}
use Rattle.wit_grammar.specs.OneToken.{apart, more, one_token}
use Rattle.wit_grammar.specs.Rules.{label, type_kinds, type_of, types, since_version, of_feature, since_attribute, unstable_attribute, deprecated_attribute, after_at, attribute, attributes, prefix, at_version, used}
use Rattle.wit_grammar.specs.ItemRules.{closed_function, definition, named_function, interface_item, interface_items, interface_rule, extern, include, world_item, world_items, world_rule, declaration, two_names, package_names, braced, item_of, package_to, item_to, package_first, beginning, items_to_end, file}

-- what other rules ask of one that takes a token
pub record Shape {A : Type 0} (g : Gram A) (fs ms : List Terminal) : Type 0 where
  pub one : one_token g ≡ true
  pub some : nullable g ≡ false
  pub firsts : first g ≡ fs
  pub mores : more g ≡ ms

abbrev words : List Kind → List Terminal
words ks = map of_kind ks

-- ---- types
abbrev type_firsts : List Terminal
type_firsts = words type_kinds

abbrev type_mores : List Terminal
type_mores = words (OpenAngle ∷ OpenAngle ∷ OpenAngle ∷ [])

level_one : Shape (type_of (deeper type_kinds)) type_firsts type_mores
unfolding type_rules
level_one = record { one = refl; some = refl; firsts = refl; mores = refl }

next_level : (t : Gram Ty) → Shape t type_firsts type_mores → Shape (type_of t) type_firsts type_mores
unfolding type_rules
next_level t h = record { one = rw (h.one, h.some, h.firsts, h.mores) refl; some = refl; firsts = refl; mores = rw h.some refl }

types_shape : (n : ℕ) → Shape (types (suc n)) type_firsts type_mores
unfolding types
types_shape zero = level_one
types_shape (suc n) = next_level (types (suc n)) (types_shape n)

a_type : Shape (types 100) type_firsts type_mores
a_type = types_shape 99

-- ---- functions and definitions
abbrev function_firsts : List Terminal
function_firsts = of_text (codes "get") ∷ of_text (codes "set") ∷ words (Word word.Async ∷ Word word.Func ∷ [])

a_function : Shape closed_function function_firsts []
unfolding function_rules
a_function = let t = a_type in record { one = rw (t.one, t.some, t.mores) refl; some = refl; firsts = refl; mores = refl }

abbrev definition_firsts : List Terminal
definition_firsts = words (Word word.Type ∷ Word word.Record ∷ Word word.Flags ∷ Word word.Variant ∷ Word word.Enum ∷ Word word.Resource ∷ [])

a_definition : Shape definition definition_firsts []
unfolding definition_rules prefix_rules
a_definition = let t = a_type in let f = a_function in record { one = rw (t.one, t.some, t.mores) (rw (f.one, f.some, f.firsts, f.mores) refl); some = refl; firsts = refl; mores = rw t.some refl }

-- ---- interfaces
a_use : Shape used (words (Word word.Use ∷ [])) []
unfolding prefix_rules
a_use = record { one = refl; some = refl; firsts = refl; mores = refl }

the_items : Shape interface_items (words (OpenBrace ∷ [])) []
unfolding same_kind label prefix attributes attribute after_at since_attribute unstable_attribute deprecated_attribute since_version of_feature named_function interface_item interface_items
the_items =
    let f = a_function in
    let d = a_definition in
    let u = a_use in
    record { one = rw (f.one, f.some, f.mores) (rw (d.one, d.some, d.firsts, d.mores) (rw (u.one, u.some, u.firsts, u.mores) refl)); some = refl; firsts = refl; mores = refl }

-- ---- worlds
an_extern : Shape extern (words (Word word.Import ∷ Word word.Export ∷ [])) []
unfolding extern_rules prefix_rules
an_extern =
    let t = a_type in
    let i = the_items in
    record { one = rw (t.one, t.some, t.mores) (rw i.one refl); some = refl; firsts = refl; mores = rw (i.mores, i.some) refl }

an_include : Shape include (words (Word word.Include ∷ [])) (words (Semicolon ∷ []))
unfolding extern_rules prefix_rules
an_include = record { one = refl; some = refl; firsts = refl; mores = refl }

world_shape : Shape world_items (words (OpenBrace ∷ [])) []
unfolding same_kind prefix attributes attribute after_at since_attribute unstable_attribute deprecated_attribute since_version of_feature world_item world_items
world_shape =
    let e = an_extern in
    let i = an_include in
    let d = a_definition in
    let u = a_use in
    record { one = rw (e.one, e.some, e.firsts, e.mores) (rw (i.one, i.some, i.firsts, i.mores) (rw (d.one, d.some, d.firsts, d.mores) (rw (u.one, u.some, u.firsts, u.mores) refl))); some = refl; firsts = refl; mores = refl }

-- ---- files
abbrev declaration_firsts : List Terminal
declaration_firsts = words (At ∷ Word word.Use ∷ Word word.World ∷ Word word.Interface ∷ [])

a_declaration : Shape declaration declaration_firsts []
unfolding prefix_rules interface_rule world_rule declaration
a_declaration =
    let i = the_items in
    let w = world_shape in
    record { one = rw (i.one, w.one) refl; some = refl; firsts = refl; mores = rw (i.some, i.mores, w.some, w.mores) refl }

abbrev package_firsts : List Terminal
package_firsts = words (Word word.Package ∷ [])

package_next : (g : Gram _) → Shape g package_firsts [] → Shape (seq package_names (braced (item_of g))) package_firsts []
unfolding same_kind label at_version two_names package_names braced
package_next g h =
    let d = a_declaration in
    record { one = rw (h.one, h.some, h.firsts, h.mores) (rw (d.one, d.some, d.firsts, d.mores) refl); some = refl; firsts = refl; mores = refl }

packages_shape : (n : ℕ) → Shape (package_to n) package_firsts []
unfolding package_to
packages_shape zero = record { one = refl; some = refl; firsts = refl; mores = refl }
packages_shape (suc n) = package_next (package_to n) (packages_shape n)

item_next : (g : Gram _) → Shape g package_firsts [] → Shape (item_of g) (package_firsts ++ declaration_firsts) []
unfolding same_kind
item_next g h =
    let d = a_declaration in
    record {
      one = rw (h.one, h.some, h.firsts) (rw (d.one, d.some, d.firsts) refl);
      some = rw (h.some, d.some) refl;
      firsts = rw (h.firsts, d.firsts) refl;
      mores = rw (h.some, h.mores, d.mores) refl;
    }

items_shape : (n : ℕ) → Shape (item_to n) (package_firsts ++ declaration_firsts) []
unfolding item_to
items_shape n = item_next (package_to n) (packages_shape n)

a_beginning : Shape beginning (package_firsts ++ declaration_firsts) []
unfolding same_kind label at_version two_names package_names braced package_first beginning
a_beginning =
    let d = a_declaration in
    let i = items_shape 99 in
    record {
      one = rw (i.one, i.some, i.firsts, i.mores) (rw (d.one, d.some, d.firsts) refl);
      some = rw d.some refl;
      firsts = rw d.firsts refl;
      mores = rw d.mores refl;
    }

-- one token decides, and the end of the text is no further item
pub file_one : one_token file ≡ true
unfolding same_kind items_to_end file
file_one =
    let b = a_beginning in
    let i = items_shape 100 in
    rw (b.one, b.some, b.firsts, b.mores) (rw (i.one, i.some, i.firsts, i.mores) refl)

pub file_last : apart (of_kind End ∷ []) (more file) ≡ true
unfolding same_kind items_to_end file
file_last =
    let b = a_beginning in
    rw (b.some, b.firsts, b.mores) refl
