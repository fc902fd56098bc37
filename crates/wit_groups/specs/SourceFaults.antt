-- The first fault of sources: each is read, and pushed before the next is read; and then that of the group that they make.
use Rattle.std.specs.Prelude.{◌≡◌, ◌⊎◌, ℕ, ◌+◌, nat_lt, if◌then◌else◌, List, [], ◌∷◌, ◌++◌, length, MatchResult, Option, None, Result, Some, string_bytes, codes}
use Rattle.std.specs.List.{AllZip}
use Rattle.wit_type_tree.specs.RefusalText.{IsAllocationFailure}
use Rattle.wit_type_tree.specs.declared.error.ParseError.{ParseError}
use Rattle.wit_tree.specs.declared.tree.PackageFile.{PackageFile}
use Rattle.wit_tree.specs.declared.tree.SourceFile.{SourceFile}
use Rattle.wit_lex.specs.TextFaults.{rule_of, words_of}
use Rattle.wit_lex.specs.declared.fault.ReadFault.{ReadFault}
use Rattle.wit_lex.specs.declared.source.Source.{Source}
use Rattle.wit_grammar.specs.Laws.{StopsAt}
use Rattle.wit_grammar.specs.Seen.{see_file}
use Rattle.wit_bundle.specs.SourcePaths.{IsByPath}
use Rattle.wit_syntax.specs.Broken.{IsBroken, last_header}
use Rattle.wit_syntax.specs.Fault.{Fault, fault_of, fault_in}
use Rattle.wit_first.specs.First.{IsOr}
use Rattle.wit_nested.specs.Nested.{IsUnfit}
use Rattle.wit_groups.specs.Groups.{IsAlone, IsTree}
use Rattle.wit_walk.specs.Walk.{earliest}
use Rattle.wit_nested.specs.GroupFaults.{IsNamedTwice, joined_faults, nested_names}
use Rattle.wit_nested.specs.PushFaults.{IsWalk, files_of, source_fault}

-- what is read of a source: its tree, or the fault at which reading stops
pub data Read : Type 0 where
  Tree : (tree : SourceFile) → Read
  Stop : (f : Fault) → Read

-- E46 to E51, of a source whose first byte has the place `offset`
abbrev pub stop_fault : ℕ → ReadFault → (from to : ℕ) → Fault
stop_fault offset stop from to = fault_in (rule_of stop) (record { start = offset + from; end = offset + to }) (words_of stop)

-- reading the source stops there
abbrev pub IsStop : Source → Fault → Type 0
IsStop s f = (stop : ReadFault) × (from : ℕ) × (to : ℕ) × StopsAt (string_bytes s.contents) s.offset stop from to × (f ≡ stop_fault s.offset stop from to)

abbrev pub IsRead : Source → Read → Type 0
IsRead s (Tree tree) = IsTree s tree
IsRead s (Stop f) = IsStop s f

-- the trees of what is read
abbrev pub trees_of : List Read → List SourceFile
trees_of [] = []
trees_of (Tree tree ∷ reads) = tree ∷ trees_of reads
trees_of (Stop f ∷ reads) = trees_of reads

-- Sources come to a fault, or to none, after these trees, where this is read of them. Those after one that cannot be read or pushed are not looked at.
abbrev pub SequenceComesTo : (List PackageFile → Option Fault) → List SourceFile → List Source → List Read → Option Fault → Type 0
SequenceComesTo walk before [] [] first = first ≡ earliest (joined_faults walk before)
SequenceComesTo walk before [] (r ∷ reads) first = ⊥
SequenceComesTo walk before (s ∷ rest) [] first = ⊥
SequenceComesTo walk before (s ∷ rest) (Stop f ∷ reads) first = IsStop s f × (first ≡ Some f)
SequenceComesTo walk before (s ∷ rest) (Tree tree ∷ reads) first = IsTree s tree × IsOr (source_fault walk (files_of before) tree) (SequenceComesTo walk (before ++ tree ∷ []) rest reads) first

-- so do sources, in the order of their paths
pub record SourcesComeTo (sources : List Source) (reads : List Read) (first : Option Fault) : Type 0 where
  pub ordered : List Source
  pub by_path : IsByPath sources ordered
  pub walk : List PackageFile → Option Fault
  pub walks : IsWalk walk
  pub is : SequenceComesTo walk [] ordered reads first

-- a fault is the first of sources; and sources have none
abbrev pub IsFirstOfSources : List Source → List Read → Fault → Type 0
IsFirstOfSources sources reads f = SourcesComeTo sources reads (Some f)

abbrev pub AreFaultless : List Source → List Read → Type 0
AreFaultless sources reads = SourcesComeTo sources reads None

-- by what is read of them, sources have this first fault, or none
abbrev pub HaveFirst : List Source → Option Fault → Type 0
HaveFirst sources first = (reads : List Read) × SourcesComeTo sources reads first

-- a refusal states it, or that an allocation failed
abbrev pub StatesFirst : List Source → ParseError → Type 0
StatesFirst sources e = IsAllocationFailure e ⊎ HaveFirst sources (Some (fault_of e))

-- a call that returns an error beside something else finds a first fault
abbrev pub FindsBeside : {T S : Type 0} → (Option Fault → Type 0) → Result T (S × ParseError) → Type 0
FindsBeside IsFirst r = MatchResult r (λ _. IsFirst None) (λ e. IsAllocationFailure e.1 ⊎ IsFirst (Some (fault_of e.1)))

-- sources in this order, from the first on, come to the refusal
abbrev pub AreStopped : List Source → ParseError → Type 0
AreStopped ordered e = (walk : List PackageFile → Option Fault) → IsWalk walk → IsAllocationFailure e ⊎ ((reads : List Read) × SequenceComesTo walk [] ordered reads (Some (fault_of e)))

-- two readings say the same: their trees do, but for addresses, or they stop at one fault
abbrev pub AreAlike : Read → Read → Type 0
AreAlike (Tree one) (Tree other) = see_file one ≡ see_file other
AreAlike (Stop f) (Stop g) = f ≡ g
AreAlike one other = ⊥

-- a text is too large to be a source: E52
abbrev pub size_fault : List ℕ → Option Fault
size_fault text = if nat_lt 4294967295 (length text + 1) then Some (fault_in 52 (record { start = 0; end = 0 }) (codes "sources too large")) else None

-- what a text under a path comes to: that, or what it comes to as the only source
abbrev pub TextComesTo : (path text : List ℕ) → List Read → Option Fault → Type 0
TextComesTo path text reads first = IsOr (size_fault text) (λ later. (sources : List Source) × IsAlone path text sources × SourcesComeTo sources reads later) first

-- by what is read of it, a text has this first fault, or none
abbrev pub TextHasFirst : (path text : List ℕ) → Option Fault → Type 0
TextHasFirst path text first = (reads : List Read) × TextComesTo path text reads first

-- what is wrong with sources: one cannot be read, or its tree is unfit after the files of those before it; or the files of all break a rule, or a
-- nested package has the name of the main one or of a nested one before it
pub data IsBrokenSequence (sources : List Source) (f : Fault) : Type 0 where
  Unread : (prefix rest : List Source) (s : Source) → sources ≡ prefix ++ s ∷ rest → IsStop s f → IsBrokenSequence sources f
  Unfit : (prefix rest : List Source) (s : Source) → sources ≡ prefix ++ s ∷ rest → (trees : List SourceFile) (tree : SourceFile) → AllZip IsTree prefix trees →
      IsTree s tree → IsUnfit (files_of trees) tree f → IsBrokenSequence sources f
  Illegal : (trees : List SourceFile) → AllZip IsTree sources trees → IsBroken (files_of trees) f → IsBrokenSequence sources f
  NamedTwice : (trees : List SourceFile) → AllZip IsTree sources trees → IsNamedTwice (last_header (files_of trees)) (nested_names trees) f → IsBrokenSequence sources f

-- the same, in the order of their paths
pub record AreBroken (sources : List Source) (f : Fault) : Type 0 where
  pub ordered : List Source
  pub by_path : IsByPath sources ordered
  pub broken : IsBrokenSequence ordered f
