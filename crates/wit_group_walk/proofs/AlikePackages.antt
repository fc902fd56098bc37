-- Files that are alike make one package.
use Rattle.std.proofs.Common.{◌≡◌, List, sym}
use Rattle.wit_items.proofs.Common.{AllZip, IsLegal, Makes, PackageFile, UnresolvedPackage, one_made}
use Rattle.wit_walk.proofs.Common.{AstItem}
use Rattle.wit_tree.specs.declared.tree.AstItem.TheVariants as ast
use Rattle.wit_alike.proofs.Paths.{SameAst}
use Rattle.wit_alike.proofs.Items.{SameFile}
use Rattle.wit_alike.proofs.Tables.{turned}
use Rattle.wit_alike_packages.proofs.Made.{made_alike}

ast_back : (a b : AstItem) → SameAst a b → SameAst b a
ast_back (ast.Interface i) (ast.Interface j) h = sym h
ast_back (ast.World w) (ast.World v) h = sym h
ast_back (ast.Use u) (ast.Use t) h = sym h
ast_back a b h = absurd h

file_back : (f g : PackageFile) → SameFile f g → SameFile g f
file_back f g h = (sym h.0, turned SameAst ast_back f.decl_list.items.items g.decl_list.items.items h.1)

pub one_package_of_alike : (files others : List PackageFile) → AllZip SameFile files others → (p q : UnresolvedPackage) → IsLegal files → Makes files p → Makes others q → p ≡ q
one_package_of_alike files others h p q legal a b = one_made files p q legal a (made_alike others files (turned SameFile file_back files others h) q b)
