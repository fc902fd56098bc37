-- A file, item by item, and whole.
use Rattle.std.specs.Prelude.{◌≡◌, ℕ, List, [], ◌∷◌, ◌++◌, map, Vec, Option, Some, None, Result, Ok, Err}
use Rattle.std.specs.declared.alloc.Global.{Global}
use Rattle.std.specs.List.{flat_map}
use Rattle.std.specs.Option.{option_map}
use Rattle.wit_type_tree.specs.declared.error.ParseError.{ParseError}
use Rattle.wit_type_tree.specs.RefusalText.{IsAllocationFailure}
use Rattle.wit_tree.specs.declared.tree.AstItem.{AstItem}
use Rattle.wit_tree.specs.declared.tree.NestedPackage.{NestedPackage}
use Rattle.wit_tree.specs.declared.tree.PackageName.{PackageName}
use Rattle.wit_tree.specs.declared.tree.SourceFile.{SourceFile}
use Rattle.wit_lex.specs.declared.fault.ReadError.{ReadError}
use Rattle.wit_lex.specs.TextFaults.{IsRefusalOf, IsWithin}
use Rattle.wit_grammar.specs.Grammar.{run}
use Rattle.wit_grammar.specs.Trees.{File, Item, PackageId}
use Rattle.wit_grammar.specs.Seen.{see_declaration, see_file, see_nested, see_package_id}
use Rattle.wit_grammar.specs.ItemRules.{Beginning, header, first_item, beginning, package_first, item_to, items_to_end, file, declaration_in, nested_in}
use Rattle.wit_grammar.specs.Laws.{start}
use Rattle.wit_reader.specs.declared.reader.Reader.{Reader}
use Rattle.wit_reader.specs.Reading.{Reads, ReadsOn}

-- these items were added to the declarations of a file, and to the packages in it
pub record AreAdded (items : List Item) (before after : Vec AstItem Global) (prefix back : Vec NestedPackage Global) : Type 0 where
  pub declarations : map see_declaration after.items ≡ map see_declaration before.items ++ flat_map declaration_in items
  pub nested : map see_nested back.items ≡ map see_nested prefix.items ++ flat_map nested_in items

-- an item was read, and added
pub record AddsItem (old : Reader) (declarations declared : Vec AstItem Global) (nested extended : Vec NestedPackage Global) (new : Reader) : Type 0 where
  pub item : Item
  pub reads : Reads (item_to 100) old item new
  pub added : AreAdded (item ∷ []) declarations declared nested extended

-- items up to the end of the text were read, and added
pub record AddsItems (old : Reader) (declarations declared : Vec AstItem Global) (nested extended : Vec NestedPackage Global) (new : Reader) : Type 0 where
  pub items : List Item
  pub reads : ReadsOn items_to_end old items new
  pub added : AreAdded items declarations declared nested extended

-- the item that a file begins with, where that is no header
abbrev pub item_first : Beginning → List Item
item_first (header p) = []
item_first (first_item x) = x ∷ []

abbrev pub header_first : Beginning → Option PackageId
header_first (header p) = Some p
header_first (first_item x) = None

-- a header was read, or a package in the file, which was added
pub record AddsPackage (old : Reader) (head : Option PackageName) (nested extended : Vec NestedPackage Global) (new : Reader) : Type 0 where
  pub begins : Beginning
  pub reads : Reads package_first old begins new
  pub header : option_map see_package_id head ≡ header_first begins
  pub none : flat_map declaration_in (item_first begins) ≡ []
  pub added : map see_nested extended.items ≡ map see_nested nested.items ++ flat_map nested_in (item_first begins)

-- a header was read, or an item, which was added
pub record AddsBeginning (old : Reader) (head : Option PackageName) (declarations declared : Vec AstItem Global) (nested extended : Vec NestedPackage Global) (new : Reader) : Type 0 where
  pub begins : Beginning
  pub reads : Reads beginning old begins new
  pub header : option_map see_package_id head ≡ header_first begins
  pub added : AreAdded (item_first begins) declarations declared nested extended

-- the file that has these
abbrev pub file_with : Option PackageName → List AstItem → List NestedPackage → File
file_with head declarations nested = record { header = option_map see_package_id head; declarations = map see_declaration declarations; nested = map see_nested nested }

-- a tree, or memory ran out
abbrev pub Gives : Result SourceFile ParseError → File → Type 0
Gives (Ok read) tree = see_file read ≡ tree
Gives (Err e) tree = IsAllocationFailure e

-- the refusal is that of the fault at which reading stops, within the source, or memory ran out
pub data IsFaultOf (source : List ℕ) (offset : ℕ) (e : ParseError) : Type 0 where
  At : (fault : ReadError) → run file (start source offset) ≡ Err fault → IsWithin source fault → IsRefusalOf fault offset e → IsFaultOf source offset e
  Wanted : IsAllocationFailure e → IsFaultOf source offset e
