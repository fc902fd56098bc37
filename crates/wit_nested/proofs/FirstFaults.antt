-- The first fault of a nested package, of several, of a source, and of what was pushed.
use Rattle.std.proofs.Common.{◌≡◌, ◌⊎◌, List, [], ◌∷◌, ◌++◌, Option, Some, None, inl, inr, refl, sym, ap, ◌∙◌, subst, map}
use Rattle.wit_items.proofs.Common.{AllZip, ComesTo, Err, Fault, Finds, FindsBy, IsAllocationFailure, IsMadeOf, NestedPackage, Ok, PackageFile, ParseError, Refused, Reports, Result, SourceFile, UnresolvedPackage, earliest, fault_of, first_in, headers, in-append, last_header, nesting_fault, one_first, option_or, or_none, other_fault, push_fault, second_docs_fault}
use Rattle.wit_tree.specs.declared.tree.PackageName.{PackageName as Header}
use Rattle.wit_nested.specs.Nested.{IsMadeByNested, file_of}
use Rattle.wit_nested.specs.NestedSources.{IsSourceOf}
use Rattle.wit_nested.specs.PackageNames.{AreNamedApart, IsRepeatedPackage}
use Rattle.wit_nested.specs.PushFaults.{FindsWalked, IsWalk, file_fault, files_of, inner_fault, nested_fault, nested_of, source_fault}
use Rattle.wit_nested.specs.GroupFaults.{AgreeOnNames, joined_faults, names_fault, nested_names}
use Rattle.wit_nested.proofs.Names.{made_names}

-- an earlier fault, or a later one where there is no earlier
pub reports_first : (a b : Option Fault) (e : ParseError) → Reports a e → Reports (option_or a b) e
reports_first a b e (inl wanted) = inl wanted
reports_first a b e (inr is) = inr (ap (λ (o : Option Fault). option_or o b) is)

pub finds_after : {T : Type 0} (a b : Option Fault) (r : Result T ParseError) → a ≡ None → Finds b r → Finds (option_or a b) r
finds_after a b r none it = subst (λ (o : Option Fault). Finds (option_or o b) r) (sym none) it

-- what `resolve` finds in files is what they come to
walk_stops : (files : List PackageFile) (e : ParseError) → IsAllocationFailure e ⊎ ComesTo files (Some (fault_of e)) → (walk : List PackageFile → Option Fault) → IsWalk walk → Reports (walk files) e
walk_stops files e (inl wanted) walk walks = inl wanted
walk_stops files e (inr is) walk walks = inr (one_first files (walk files) (Some (fault_of e)) (walks.each files) is)

pub walk_finds : {T : Type 0} (files : List PackageFile) (r : Result T ParseError) → FindsBy (ComesTo files) r → FindsWalked (λ walk. walk files) r
walk_finds files (Ok x) it walk walks = one_first files (walk files) None (walks.each files) it
walk_finds files (Err e) it walk walks = walk_stops files e it walk walks

-- a nested package that is pushed by itself
nesting_is : (ns : List NestedPackage) → nesting_fault ns ≡ inner_fault (map (λ (i : NestedPackage). i.name) ns)
nesting_is [] = refl
nesting_is (n ∷ ns) = refl

no_docs : (own : Option Header) → second_docs_fault [] own ≡ None
no_docs None = refl
no_docs (Some own) = refl

pub alone_pushed : (n : NestedPackage) (files : List PackageFile) (s : SourceFile) → files ≡ [] → IsSourceOf n s → push_fault files s ≡ inner_fault n.nested.items
alone_pushed n files s none is =
    ap (λ (fs : List PackageFile). push_fault fs s) none ∙ ap (λ (o : Option Fault). option_or o (nesting_fault s.nested.items)) (no_docs s.file.package_id) ∙ nesting_is s.nested.items ∙ ap inner_fault is.inner

pub one_stops : (n : NestedPackage) (files : List PackageFile) (s : SourceFile) (e : ParseError) → files ≡ [] → IsSourceOf n s → Reports (push_fault files s) e → (walk : List PackageFile → Option Fault) → IsWalk walk → Reports (nested_fault walk n) e
one_stops n files s e none is it walk walks = reports_first (inner_fault n.nested.items) (walk (file_of n ∷ [])) e (subst (λ (o : Option Fault). Reports o e) (alone_pushed n files s none is) it)

pub one_finds : {T : Type 0} (n : NestedPackage) (old files : List PackageFile) (s : SourceFile) (r : Result T ParseError) → old ≡ [] → IsSourceOf n s → files ≡ old ++ s.file ∷ [] → push_fault old s ≡ None → FindsBy (ComesTo files) r → FindsWalked (λ walk. nested_fault walk n) r
one_finds n old files s r none is extended fits it walk walks =
    let file : files ≡ file_of n ∷ [] = extended ∙ (ap (λ fs. fs ++ s.file ∷ []) none ∙ ap (λ file. file ∷ []) is.file) in
    finds_after (inner_fault n.nested.items) (walk (file_of n ∷ [])) r (sym (alone_pushed n old s none is) ∙ fits) (subst (λ (fs : List PackageFile). Finds (walk fs) r) file (walk_finds files r it walk walks))

-- one of several
pub in_stops : {X : Type 0} (w : X → Option Fault) (prefix rest all : List X) (x : X) (e : ParseError) → prefix ++ x ∷ rest ≡ all → first_in w prefix ≡ None → Reports (w x) e → Reports (first_in w all) e
in_stops w prefix rest all x e same none it =
    let own : first_in w all ≡ option_or (w x) (first_in w rest) = ap (first_in w) (sym same) ∙ in-append w prefix (x ∷ rest) ∙ ap (λ (o : Option Fault). option_or o (option_or (w x) (first_in w rest))) none in
    subst (λ (o : Option Fault). Reports o e) (sym own) (reports_first (w x) (first_in w rest) e it)

-- a source in which nothing is nested
pub file_pushed : (files : List PackageFile) (s own : SourceFile) → own.file ≡ s.file → own.nested.items ≡ [] → push_fault files own ≡ file_fault files s.file
file_pushed files s own same none =
    let other = λ (f : PackageFile). other_fault (last_header files) f.package_id in
    let docs = λ (f : PackageFile). second_docs_fault (headers files) f.package_id in
    ap (λ (ns : List NestedPackage). option_or (other own.file) (option_or (docs own.file) (nesting_fault ns))) none
    ∙ ap (λ (f : PackageFile). option_or (other f) (option_or (docs f) None)) same
    ∙ ap (option_or (other s.file)) (or_none (docs s.file))

-- which is so after the packages that are nested in it
module _ (files : List PackageFile) (s own : SourceFile) (same : own.file ≡ s.file) (none : own.nested.items ≡ []) (nested : (walk : List PackageFile → Option Fault) → IsWalk walk → first_in (nested_fault walk) s.nested.items ≡ None) where
  after_nested : (walk : List PackageFile → Option Fault) → IsWalk walk → source_fault walk files s ≡ push_fault files own
  after_nested walk walks = ap (λ (o : Option Fault). option_or o (file_fault files s.file)) (nested walk walks) ∙ sym (file_pushed files s own same none)

  pub source_none : push_fault files own ≡ None → (walk : List PackageFile → Option Fault) → IsWalk walk → source_fault walk files s ≡ None
  source_none it walk walks = after_nested walk walks ∙ it

  pub source_stops : (e : ParseError) → Reports (push_fault files own) e → (walk : List PackageFile → Option Fault) → IsWalk walk → Reports (source_fault walk files s) e
  source_stops e it walk walks = subst (λ (o : Option Fault). Reports o e) (sym (after_nested walk walks)) it

-- what was pushed: files that come to a fault
pub files_stop : (files : List PackageFile) (nested : List UnresolvedPackage) (e : ParseError) → IsAllocationFailure e ⊎ ComesTo files (Some (fault_of e)) → (sources : List SourceFile) → files_of sources ≡ files → AllZip IsMadeByNested (nested_of sources) nested → (walk : List PackageFile → Option Fault) → IsWalk walk → Reports (earliest (joined_faults walk sources)) e
files_stop files nested e it sources same each walk walks =
    let own : Reports (walk (files_of sources)) e = subst (λ (fs : List PackageFile). Reports (walk fs) e) (sym same) (walk_stops files e it walk walks) in
    reports_first (walk (files_of sources)) (earliest (names_fault (last_header (files_of sources)) (nested_names sources) ∷ [])) e own

-- files that come to none, and a name of a package
module _ (files : List PackageFile) (main : UnresolvedPackage) (nested : List UnresolvedPackage) (right : ComesTo files None) (made : IsMadeOf files main) (sources : List SourceFile) (same : files_of sources ≡ files) (each : AllZip IsMadeByNested (nested_of sources) nested) (walk : List PackageFile → Option Fault) (walks : IsWalk walk) where
  abbrev names : Option Fault
  names = names_fault (last_header (files_of sources)) (nested_names sources)

  agree : AgreeOnNames names main nested
  agree = made_names sources main nested (subst (λ (fs : List PackageFile). IsMadeOf fs main) (sym same) made) each

  only_names : earliest (joined_faults walk sources) ≡ names
  only_names = ap (λ (o : Option Fault). option_or o (option_or names None)) (ap walk same ∙ one_first files (walk files) None (walks.each files) right) ∙ or_none names

  pub names_stop : (e : ParseError) → Refused (IsRepeatedPackage main nested) e → Reports (earliest (joined_faults walk sources)) e
  names_stop e (inl wanted) = inl wanted
  names_stop e (inr again) = (let a : AgreeOnNames names main nested = agree in inr (only_names ∙ (a.repeated (fault_of e)).1 again))

  pub joined_none : AreNamedApart main nested → earliest (joined_faults walk sources) ≡ None
  joined_none apart = (let a : AgreeOnNames names main nested = agree in only_names ∙ a.apart.1 apart)
