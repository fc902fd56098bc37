-- The output of a text is one.
use Rattle.std.proofs.Common.{◌≡◌, ℕ, List, [], ◌∷◌, ◌++◌, Option, Some, None, refl, sym, ap₂, ◌∙◌, subst, arith}
use Rattle.wit_items.proofs.Common.{AllZip, Fault, IsLegal, Makes, NestedPackage, PackageFile, SourceFile, UnresolvedPackage, earliest, first_after, first_in, in-append, last_header, none_both, or_none_both}
use Rattle.wit_lex.specs.declared.source.Source.{Source}
use Rattle.wit_lex.specs.Sources.{stated_of}
use Rattle.wit_bundle.specs.Bundle.{sources_of}
use Rattle.wit_bundle.specs.Laid.{AreLaid}
use Rattle.wit_grammar.specs.Laws.{IsSpelled}
use Rattle.wit_grammar.specs.Seen.{see_file}
use Rattle.wit_alike.proofs.Lists.{zip_flat}
use Rattle.wit_groups.specs.GroupFaults.{joined_faults, names_fault, nested_names}
use Rattle.wit_groups.specs.Nested.{file_of}
use Rattle.wit_groups.specs.PushFaults.{IsWalk, file_fault, files_of, inner_fault, nested_fault, nested_of}
use Rattle.wit_groups.proofs.Pushes.{walk_agrees}
use Rattle.wit_groups.specs.Groups.{IsTree}
use Rattle.wit_groups.specs.SourceFaults.{AreFaultless, Read, Tree, trees_of}
use Rattle.wit_groups.proofs.Sequences.{pushed, sequence_trees}
use Rattle.wit_listing.specs.Listing.{listing_text}
use Rattle.wit_tool.specs.FaultLine.{IsFaultLine}
use Rattle.wit_tool.specs.Output.{IsOutput, IsSourcesOutput, MakePackages}
use Rattle.wit_tool.specs.Output.IsOutput.{OfSources, TooLarge}
use Rattle.wit_tool.specs.Output.IsSourcesOutput.{Line, Listing}
use Rattle.wit_group_walk.proofs.Alike.{SameNested, SameSource, same_file_of, same_files_of, same_nested}
use Rattle.wit_group_walk.proofs.AlikePackages.{one_package_of_alike}
use Rattle.wit_group_walk.proofs.LaidSources.{laid_turns, one_laid}
use Rattle.wit_group_walk.proofs.Lines.{Stated, one_line}
use Rattle.wit_group_walk.proofs.Texts.{one_reading}

-- ---- trees of sources that are stated alike
one_tree : (s t : Source) (read other : SourceFile) → stated_of s ≡ stated_of t → IsTree s read → IsTree t other → SameSource read other
one_tree s t read other same a b = one_reading s (Tree read) (Tree other) a (subst (λ (x : Stated). IsSpelled x.1 x.2 (see_file other)) (sym same) b)

same_trees : (turn next : List Source) (trees others : List SourceFile) → AllZip (λ (s t : Source). stated_of s ≡ stated_of t) turn next → AllZip IsTree turn trees → AllZip IsTree next others → AllZip SameSource trees others
same_trees [] [] [] [] same a b = tt
same_trees [] [] [] (u ∷ others) same a b = absurd b
same_trees [] [] (t ∷ trees) others same a b = absurd a
same_trees [] (n ∷ next) trees others same a b = absurd same
same_trees (s ∷ turn) [] trees others same a b = absurd same
same_trees (s ∷ turn) (n ∷ next) [] others same a b = absurd a
same_trees (s ∷ turn) (n ∷ next) (t ∷ trees) [] same a b = absurd b
same_trees (s ∷ turn) (n ∷ next) (t ∷ trees) (u ∷ others) same a b = (one_tree s n t u same.0 a.0 b.0, same_trees turn next trees others same.1 a.1 b.1)

-- ---- trees that are alike make the same packages
abbrev MakesAlone : NestedPackage → UnresolvedPackage → Type 0
MakesAlone n p = Makes (file_of n ∷ []) p

module _ (walk : List PackageFile → Option Fault) (walks : IsWalk walk) where
  legal : (files : List PackageFile) → walk files ≡ None → IsLegal files
  legal files none = (walk_agrees walk walks files).unbroken none

  abbrev alone : NestedPackage → Option Fault
  alone n = walk (file_of n ∷ [])

  alone_in : (ns : List NestedPackage) → first_in (nested_fault walk) ns ≡ None → first_in alone ns ≡ None
  alone_in [] none = refl
  alone_in (n ∷ ns) none =
      let both = or_none_both (nested_fault walk n) (first_in (nested_fault walk) ns) none in
      none_both (or_none_both (inner_fault n.nested.items) (alone n) both.0).1 (alone_in ns both.1)

  -- packages that are nested in sources that were pushed are legal by themselves
  alone_nested : (before trees : List SourceFile) → first_after (pushed walk) before trees ≡ None → first_in alone (nested_of trees) ≡ None
  alone_nested before [] none = refl
  alone_nested before (t ∷ trees) none =
      let both = or_none_both (pushed walk before t) (first_after (pushed walk) (before ++ t ∷ []) trees) none in
      let own = or_none_both (first_in (nested_fault walk) t.nested.items) (file_fault (files_of before) t.file) both.0 in
      in-append alone t.nested.items (nested_of trees) ∙ none_both (alone_in t.nested.items own.0) (alone_nested (before ++ t ∷ []) trees both.1)

  one_of_nested : (ns ms : List NestedPackage) (ps qs : List UnresolvedPackage) → AllZip SameNested ns ms → first_in alone ns ≡ None → AllZip MakesAlone ns ps → AllZip MakesAlone ms qs → ps ≡ qs
  one_of_nested [] [] [] [] same none a b = refl
  one_of_nested [] [] [] (q ∷ qs) same none a b = absurd b
  one_of_nested [] [] (p ∷ ps) qs same none a b = absurd a
  one_of_nested [] (m ∷ ms) ps qs same none a b = absurd same
  one_of_nested (n ∷ ns) [] ps qs same none a b = absurd same
  one_of_nested (n ∷ ns) (m ∷ ms) [] qs same none a b = absurd a
  one_of_nested (n ∷ ns) (m ∷ ms) (p ∷ ps) [] same none a b = absurd b
  one_of_nested (n ∷ ns) (m ∷ ms) (p ∷ ps) (q ∷ qs) same none a b =
      let both = or_none_both (alone n) (first_in alone ns) none in
      ap₂ (λ (x : UnresolvedPackage) (xs : List UnresolvedPackage). x ∷ xs)
      (one_package_of_alike (file_of n ∷ []) (file_of m ∷ []) (same_file_of n m same.0, tt) p q (legal (file_of n ∷ []) both.0) a.0 b.0)
      (one_of_nested ns ms ps qs same.1 both.1 a.1 b.1)

  one_packages : (trees others : List SourceFile) → AllZip SameSource trees others → first_after (pushed walk) [] trees ≡ None → earliest (joined_faults walk trees) ≡ None → (main other : UnresolvedPackage) (nested more : List UnresolvedPackage) → MakePackages trees main nested → MakePackages others other more → (main ≡ other) × (nested ≡ more)
  one_packages trees others same pushes joined main other nested more m n =
      let right = legal (files_of trees) (or_none_both (walk (files_of trees)) (earliest (names_fault (last_header (files_of trees)) (nested_names trees) ∷ [])) joined).0 in (
        one_package_of_alike (files_of trees) (files_of others) (same_files_of trees others same) main other right m.whole n.whole,
        one_of_nested (nested_of trees) (nested_of others) nested more (same_all trees others same) (alone_nested [] trees pushes) m.each n.each,
      )
    where
      same_all : (ss ts : List SourceFile) → AllZip SameSource ss ts → AllZip SameNested (nested_of ss) (nested_of ts)
      same_all ss ts h = zip_flat SameSource SameNested (λ (s : SourceFile). s.nested.items) (λ (s : SourceFile). s.nested.items) same_nested ss ts h

pub one_of_trees : (trees others : List SourceFile) (p q : UnresolvedPackage) → AllZip SameSource trees others → IsLegal (files_of trees) → Makes (files_of trees) p → Makes (files_of others) q → p ≡ q
one_of_trees trees others p q same right a b = one_package_of_alike (files_of trees) (files_of others) (same_files_of trees others same) p q right a b

-- ---- sources of the same paths and texts
module _ (parts : List (List ℕ × List ℕ)) (sources others : List Source) (laid : AreLaid parts sources) (also : AreLaid parts others) where
  pub one_made : (reads known : List Read) → AreFaultless sources reads → AreFaultless others known → (main other : UnresolvedPackage) (nested more : List UnresolvedPackage) → MakePackages (trees_of reads) main nested → MakePackages (trees_of known) other more → (main ≡ other) × (nested ≡ more)
  one_made reads known a b main other nested more m n =
      let t = sequence_trees a.walk [] a.ordered reads a.is in
      let u = sequence_trees b.walk [] b.ordered known b.is in
      let turns = laid_turns parts sources others a.ordered b.ordered laid also a.by_path b.by_path in
      let same = same_trees a.ordered b.ordered (trees_of reads) (trees_of known) turns t.0 u.0 in
      one_packages a.walk a.walks (trees_of reads) (trees_of known) same t.1 t.2 main other nested more m n

  pub one_sources_output : (status other : ℕ) (output another : List ℕ) → IsSourcesOutput sources status output → IsSourcesOutput others other another → (status ≡ other) × (output ≡ another)
  one_sources_output status other output another (Listing reads none main nested made is text) (Listing known also_none more rest also_made also_is also_text) =
      let it = one_made reads known none also_none main more nested rest made also_made in
      (is ∙ sym also_is, text ∙ ap₂ listing_text it.0 it.1 ∙ sym also_text)
  one_sources_output status other output another (Listing reads none main nested made is text) (Line known f first also_is line) = absurd (let same = one_laid parts sources others laid also reads known None (Some f) none first in let wrong : ⊥ = cc in wrong)
  one_sources_output status other output another (Line reads f first is line) (Listing known none more rest made also_is text) = absurd (let same = one_laid parts sources others laid also reads known (Some f) None first none in let wrong : ⊥ = cc in wrong)
  one_sources_output status other output another (Line reads f first is line) (Line known g also_first also_is also_line) = (
      let firsts : Some f ≡ Some g = one_laid parts sources others laid also reads known (Some f) (Some g) first also_first in
      let same : f ≡ g = cc in
      (is ∙ sym also_is, one_line parts sources others g output another laid also (subst (λ (h : Fault). IsFaultLine sources h output) same line) also_line))

pub one_output : (text : List ℕ) (status other : ℕ) (output another : List ℕ) → IsOutput text status output → IsOutput text other another → (status ≡ other) × (output ≡ another)
one_output text status other output another (TooLarge large is line) (TooLarge much also_is also_line) = (is ∙ sym also_is, line ∙ sym also_line)
one_output text status other output another (TooLarge large is line) (OfSources fits sources laid it) = absurd (omega (arith, large, fits))
one_output text status other output another (OfSources fits sources laid it) (TooLarge large is line) = absurd (omega (arith, large, fits))
one_output text status other output another (OfSources fits sources laid it) (OfSources also_fits others also its) = one_sources_output (sources_of text) sources others laid also status other output another it its
