-- What calls write is the output of their sources or their text.
use Rattle.std.proofs.Common.{◌≡◌, ◌⊎◌, inl, inr, ℕ, ◌≤◌, List, [], ◌∷◌, ◌++◌, map, Option, Some, None, Result, Ok, Err, refl, ap, sym, subst}
use Rattle.wit_arena.proofs.Common.{AllZip, IsAllocationFailure, Makes, NestedPackage, PackageFile, ParseError, SourceFile, UnresolvedPackage, fault_of}
use Rattle.wit_lex.specs.declared.source.Source.{Source}
use Rattle.wit_lex.specs.Sources.{IsTooLarge}
use Rattle.wit_bundle.specs.Bundle.{sources_of}
use Rattle.wit_bundle.specs.Laid.{AreLaid, room}
use Rattle.wit_groups.specs.Nested.{IsMadeByNested, file_of}
use Rattle.wit_groups.specs.PushFaults.{nested_of}
use Rattle.wit_groups.proofs.Pushes.{a_walk}
use Rattle.wit_groups.specs.declared.group.UnresolvedPackageGroup.{UnresolvedPackageGroup}
use Rattle.wit_groups.specs.Groups.{IsGroup}
use Rattle.wit_groups.specs.SourceFaults.{AreFaultless, HaveFirst, Read, StatesFirst, Tree, trees_of}
use Rattle.wit_groups.proofs.Used.{group_trees}
use Rattle.wit_listing.specs.declared.fault.RunFault.{RunFault}
use Rattle.wit_listing.specs.declared.fault.RunFault.TheVariants.{Output, Memory}
use Rattle.wit_listing.specs.ErrorLine.{IsErrorLine}
use Rattle.wit_listing.specs.Listing.{listing_text}
use Rattle.wit_listing.specs.Output.{IsWritten}
use Rattle.wit_tool.specs.Output.{IsPrinted, IsSourcesOutput, MakePackages, OrMemory, Writes, listed_status}
use Rattle.wit_tool.specs.Output.IsOutput.{OfSources, TooLarge}
use Rattle.wit_tool.specs.Output.IsSourcesOutput.{Line, Listing}
use Rattle.wit_tool.specs.Run.{IsListed, IsRefusalWritten}
use Rattle.wit_tool.proofs.FaultLines.{line_is, line_of_memory, line_of_size, too_many}

-- the trees of what is read, where all is
trees_are : (trees : List SourceFile) → trees_of (map Tree trees ++ []) ≡ trees
trees_are [] = refl
trees_are (t ∷ trees) = ap (λ (ts : List SourceFile). t ∷ ts) (trees_are trees)

made_alone : (ns : List NestedPackage) (ps : List UnresolvedPackage) → AllZip IsMadeByNested ns ps → AllZip (λ (n : NestedPackage) (p : UnresolvedPackage). Makes (file_of n ∷ []) p) ns ps
made_alone [] [] made = tt
made_alone [] (p ∷ ps) made = absurd made
made_alone (n ∷ ns) [] made = absurd made
made_alone (n ∷ ns) (p ∷ ps) made = (made.0.made.whole, made_alone ns ps made.1)

-- sources that make a group have no fault, and their trees make its packages
pub packages_of_group : (sources : List Source) (main : UnresolvedPackage) (nested : List UnresolvedPackage) → IsGroup sources main nested → (reads : List Read) × AreFaultless sources reads × MakePackages (trees_of reads) main nested
packages_of_group sources main nested g =
    let it = group_trees a_walk.0 a_walk.1 g.turn g.files main nested g.in_use g.made g.apart in
    let used = it.0 in
    let same : trees_of (map Tree used.trees ++ []) ≡ used.trees = trees_are used.trees in
    let packages : MakePackages used.trees main nested = record {
      whole = subst (λ (files : List PackageFile). Makes files main) used.files_are g.made.whole;
      each = made_alone (nested_of used.trees) nested used.made;
    } in
    (map Tree used.trees ++ [], record { ordered = g.turn; by_path = g.by_path; walk = a_walk.0; walks = a_walk.1; is = it.1 }, subst (λ (trees : List SourceFile). MakePackages trees main nested) (sym same) packages)

-- so this is their output
listed : (sources : List Source) (main : UnresolvedPackage) (nested : List UnresolvedPackage) → IsGroup sources main nested → (status : ℕ) (output : List ℕ) → status ≡ 0 → output ≡ listing_text main nested → IsSourcesOutput sources status output
listed sources main nested g status output is text = (let it = packages_of_group sources main nested g in Listing it.0 it.1 main nested it.2 is text)

-- the listing of a group was written
pub writes_listing : (sources : List Source) (group : UnresolvedPackageGroup) (old new : Option (List ℕ)) (result : Result (Option UnresolvedPackageGroup) RunFault) → IsGroup sources group.main group.nested → IsListed group old new result → Writes (OrMemory (IsSourcesOutput sources)) old new result
writes_listing sources group old new (Ok answer) made w = (w.1, inl (listed sources group.main group.nested made (listed_status answer) w.1 (ap listed_status w.0) w.2), w.3)
writes_listing sources group old new (Err Output) made w = (0, w.0, inl (listed sources group.main group.nested made 0 w.0 refl w.1), w.2)
writes_listing sources group old new (Err Memory) made w = w

-- the line of a refusal is printed
printed_line : (sources : List Source) (e : ParseError) (status : ℕ) (text : List ℕ) → status ≡ 1 → IsAllocationFailure e ⊎ HaveFirst sources (Some (fault_of e)) → IsErrorLine sources e text → OrMemory (IsSourcesOutput sources) status text
printed_line sources e status text is (inl failed) line = inr (is, line_of_memory sources e text failed line)
printed_line sources e status text is (inr first) line = inl (Line first.0 (fault_of e) first.1 is (line_is sources e text line))

pub writes_line : (sources : List Source) (e : ParseError) (old new : Option (List ℕ)) (result : Result (Option UnresolvedPackageGroup) RunFault) → StatesFirst sources e → IsRefusalWritten sources e old new result → Writes (OrMemory (IsSourcesOutput sources)) old new result
writes_line sources e old new (Ok answer) first w = (w.1, printed_line sources e (listed_status answer) w.1 (ap listed_status w.0) first w.2, w.3)
writes_line sources e old new (Err Output) first w = (1, w.0, printed_line sources e 1 w.0 refl first w.1, w.2)
writes_line sources e old new (Err Memory) first w = w

-- what is printed of the sources of a text is printed of the text
printed_of : (text : List ℕ) (sources : List Source) → room (sources_of text) ≤ 4294967295 → AreLaid (sources_of text) sources → (status : ℕ) (output : List ℕ) → OrMemory (IsSourcesOutput sources) status output → IsPrinted text status output
printed_of text sources fits laid status output (inl is) = inl (OfSources fits sources laid is)
printed_of text sources fits laid status output (inr wanted) = inr wanted

pub writes_text : (text : List ℕ) (sources : List Source) (old new : Option (List ℕ)) (result : Result (Option UnresolvedPackageGroup) RunFault) → room (sources_of text) ≤ 4294967295 → AreLaid (sources_of text) sources →
    Writes (OrMemory (IsSourcesOutput sources)) old new result → Writes (IsPrinted text) old new result
writes_text text sources old new (Ok answer) fits laid w = (w.0, printed_of text sources fits laid (listed_status answer) w.0 w.1, w.2)
writes_text text sources old new (Err Output) fits laid w = (w.0, w.1, printed_of text sources fits laid w.0 w.1 w.2, w.3)
writes_text text sources old new (Err Memory) fits laid w = w

-- the line for sources that are too large
printed_size : (text : List ℕ) (e : ParseError) (line : List ℕ) → e.rule ≡ 52 → IsTooLarge (room (sources_of text)) e → IsErrorLine [] e line → IsPrinted text 1 line
printed_size text e line rule large is = inl (TooLarge (too_many (room (sources_of text)) e rule large) refl (line_of_size (room (sources_of text)) e line rule large is))

-- was written, and the call went on; or it was not
pub writes_size : (text : List ℕ) (e : ParseError) (old new : Option (List ℕ)) → e.rule ≡ 52 → IsTooLarge (room (sources_of text)) e → IsWritten (IsErrorLine [] e) old new (Ok tt) → Writes (IsPrinted text) old new (Ok None)
writes_size text e old new rule large w = (w.0, printed_size text e w.0 rule large w.1, w.2)

pub fails_size : (text : List ℕ) (sources : List Source) (e : ParseError) (old new : Option (List ℕ)) (fault : RunFault) → sources ≡ [] → e.rule ≡ 52 → IsTooLarge (room (sources_of text)) e →
    IsWritten (IsErrorLine sources e) old new (Err fault) → Writes (IsPrinted text) old new (Err fault)
fails_size text sources e old new Output none rule large w = (1, w.0, printed_size text e w.0 rule large (subst (λ (s : List Source). IsErrorLine s e w.0) none w.1), w.2)
fails_size text sources e old new Memory none rule large w = w
