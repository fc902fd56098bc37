-- The items of a file or of a nested package.
use Rattle.std.specs.Prelude.{◌≡◌, ℕ, List, map, cond, Vec}
use Rattle.std.specs.declared.alloc.Global.{Global}
use Rattle.wit_type_tree.specs.declared.leaves.Docs.{Docs}
use Rattle.wit_tree.specs.declared.tree.DeclList.{DeclList}
use Rattle.wit_tree.specs.declared.tree.PackageName.{PackageName}
use Rattle.wit_lex.specs.declared.fault.ReadError.{ReadError}
use Rattle.wit_lex.specs.declared.fault.ReadError.TheVariants.{Fault}
use Rattle.wit_lex.specs.declared.fault.ReadFault.TheVariants as fault
use Rattle.wit_lex.specs.declared.kind.Kind.TheVariants.{Word}
use Rattle.wit_lex.specs.declared.word.Word.TheVariants as word
use Rattle.wit_lex.specs.declared.token.Token.{Token}
use Rattle.wit_grammar.specs.TokenKinds.{same_kind}
use Rattle.wit_grammar.specs.Grammar.{Gram, docs}
use Rattle.wit_grammar.specs.Trees.{Declaration, Item, PackageId, declares, items_of}
use Rattle.wit_grammar.specs.Seen.{see_docs, see_declaration, see_package_id}
use Rattle.wit_grammar.specs.ItemRules.{item_to, declarations_in, names_in}
use Rattle.wit_reader.specs.declared.reader.Reader.{Reader}
use Rattle.wit_reader.specs.Reading.{Reads, ReadsOn, Refuses}
use Rattle.wit_text.specs.declared.declaration.PackageItem.{PackageItem}
use Rattle.wit_text.specs.declared.declaration.PackageItem.TheVariants.{Declaration as Declared, Package}

-- a package was begun: its docs were read, and its word is the token
pub record Begins (old : Reader) (found : Docs) (new : Reader) : Type 0 where
  pub reads : ReadsOn docs old (see_docs found) new
  pub word : new.token.kind ≡ Word word.Package

-- whatever levels of packages may follow, a declaration was read as an item, or a package was begun
abbrev pub ReadsItem : Reader → PackageItem → Reader → Type 0
ReadsItem old (Declared item) new = (n : ℕ) → Reads (item_to n) old (declares (see_declaration item)) new
ReadsItem old (Package found) new = Begins old found new

abbrev pub RefusesItem : Reader → ReadError → Type 0
RefusesItem old e = (n : ℕ) → Refuses (item_to n) old e

-- packages are nested too deeply, or the token begins none
abbrev pub level_fault : Token → ReadError
level_fault t = Fault (cond (same_kind t.kind (Word word.Package)) fault.Nesting fault.Token) t.start t.end

-- something was read by a grammar, of which nothing is kept
pub record Skips {A : Type 0} (g : Gram A) (old new : Reader) : Type 0 where
  pub value : A
  pub reads : Reads g old value new

-- of the items of a package its declarations, and the names of the packages among them
abbrev pub kept_items : List Item → List Declaration × List PackageId
kept_items xs = (declarations_in (items_of xs), names_in (items_of xs))

abbrev pub see_items : DeclList × Vec PackageName Global → List Declaration × List PackageId
see_items x = (map see_declaration x.0.items.items, map see_package_id x.1.items)
