-- What sources come to: the package that they make and those that are nested in them, or why they make none.
use Rattle.std.specs.Prelude.{◌≡◌, ℕ, ◌+◌, List, [], ◌∷◌, ◌++◌, length, string_bytes}
use Rattle.wit_tree.specs.declared.tree.PackageFile.{PackageFile}
use Rattle.wit_tree.specs.declared.tree.SourceFile.{SourceFile}
use Rattle.wit_type_tree.specs.declared.error.ParseError.{ParseError}
use Rattle.wit_type_tree.specs.RefusalText.{IsAllocationFailure}
use Rattle.wit_lex.specs.declared.source.Source.{Source}
use Rattle.wit_lex.specs.Sources.{IsSource, IsTooLarge}
use Rattle.wit_grammar.specs.Trees.{File}
use Rattle.wit_grammar.specs.Seen.{see_file}
use Rattle.wit_grammar.specs.Laws.{IsSpelled}
use Rattle.wit_text.specs.Files.{IsFaultOf}
use Rattle.wit_bundle.specs.SourcePaths.{IsByPath}
use Rattle.wit_model.specs.declared.unresolved.UnresolvedPackage.{UnresolvedPackage}
use Rattle.wit_syntax.specs.Fault.{Fault, fault_of}
use Rattle.wit_syntax.specs.Broken.{IsBroken, Refused}
use Rattle.wit_arena.specs.Faithful.{IsMadeOf}
use Rattle.wit_nested.specs.Nested.{GrowByNested, IsUnfit}
use Rattle.wit_nested.specs.PackageNames.{AreNamedApart, IsRepeatedPackage}

-- the source spells the tree, from its beginning to its end
abbrev pub IsTree : Source → SourceFile → Type 0
IsTree s read = IsSpelled (string_bytes s.contents) s.offset (see_file read)

-- no tree is spelled, and the refusal is of the fault at which reading stops; or memory ran out
pub record IsUnread (s : Source) (e : ParseError) : Type 0 where
  pub none : (tree : File) → IsSpelled (string_bytes s.contents) s.offset tree → IsAllocationFailure e
  pub fault : IsFaultOf (string_bytes s.contents) s.offset e

-- there is a tree of each source, none of which is unfit after those before it; these are their files, and the packages that are nested in
-- them
pub data AreUsed : List Source → List PackageFile → List UnresolvedPackage → Type 0 where
  None : AreUsed [] [] []
  More : (sources : List Source) (files : List PackageFile) (packages kept : List UnresolvedPackage) (s : Source) (read : SourceFile) → AreUsed sources files packages → IsTree s read →
      ((f : Fault) → IsUnfit files read f → ⊥) → GrowByNested read.nested.items packages kept → AreUsed (sources ++ s ∷ []) (files ++ read.file ∷ []) kept

-- the package that sources make, taken by path, and those that are nested in them, in the order in which they are written, each with a name of its own
pub record IsGroup (sources : List Source) (main : UnresolvedPackage) (nested : List UnresolvedPackage) : Type 0 where
  pub turn : List Source
  pub by_path : IsByPath sources turn
  pub files : List PackageFile
  pub in_use : AreUsed turn files nested
  pub made : IsMadeOf files main
  pub apart : AreNamedApart main nested

-- one of some sources cannot be read, or its tree is unfit after the files of those before it; or the files of all break a rule; or
-- all of them are read, fit and legal, and a nested package has the name of the main one or of a nested one before it
pub data AreRefused (turn : List Source) (e : ParseError) : Type 0 where
  Unread : (prefix rest : List Source) (s : Source) → turn ≡ prefix ++ s ∷ rest → (files : List PackageFile) (packages : List UnresolvedPackage) → AreUsed prefix files packages →
      IsUnread s e → AreRefused turn e
  Unfit : (prefix rest : List Source) (s : Source) → turn ≡ prefix ++ s ∷ rest → (files : List PackageFile) (packages : List UnresolvedPackage) (read : SourceFile) → AreUsed prefix files packages →
      IsTree s read → Refused (IsUnfit files read) e → AreRefused turn e
  Illegal : (files : List PackageFile) (packages : List UnresolvedPackage) → AreUsed turn files packages → Refused (IsBroken files) e → AreRefused turn e
  Repeated : (files : List PackageFile) (packages : List UnresolvedPackage) (main : UnresolvedPackage) → AreUsed turn files packages → IsMadeOf files main →
      IsRepeatedPackage main packages (fault_of e) → AreRefused turn e

-- the sources, taken by path, are refused, or an allocation failed
pub data IsRefused (sources : List Source) (e : ParseError) : Type 0 where
  InTurn : (turn : List Source) → IsByPath sources turn → AreRefused turn e → IsRefused sources e
  Wanted : IsAllocationFailure e → IsRefused sources e

-- a text under a path is the only source
pub record IsAlone (path text : List ℕ) (sources : List Source) : Type 0 where
  pub source : Source
  pub is : IsSource path text 0 source
  pub only : sources ≡ source ∷ []

-- a text is too large to be a source, or is refused as the only one
pub data IsUnparsed (path text : List ℕ) (sources : List Source) (e : ParseError) : Type 0 where
  TooLarge : sources ≡ [] → IsTooLarge (length text + 1) e → IsUnparsed path text sources e
  Alone : IsAlone path text sources → IsRefused sources e → IsUnparsed path text sources e
