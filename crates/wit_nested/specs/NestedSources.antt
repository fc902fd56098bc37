-- What is said between the functions that take nested packages.
use Rattle.std.specs.Prelude.{◌≡◌, map}
use Rattle.wit_tree.specs.declared.tree.NestedPackage.{NestedPackage}
use Rattle.wit_tree.specs.declared.tree.SourceFile.{SourceFile}
use Rattle.wit_nested.specs.Nested.{file_of}

-- a source with what a nested package has, in which packages of the same names are nested
pub record IsSourceOf (n : NestedPackage) (s : SourceFile) : Type 0 where
  pub file : s.file ≡ file_of n
  pub inner : map (λ i. i.name) s.nested.items ≡ n.nested.items
