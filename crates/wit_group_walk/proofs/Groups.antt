-- Sources that make a group have no fault.
use Rattle.std.proofs.Common.{◌≡◌, ◌⊎◌, List, [], ◌∷◌, ◌++◌, Option, Some, None, inl, inr, refl, sym, ap, ◌∙◌, subst, append_assoc}
use Rattle.wit_items.proofs.Common.{AllZip, Fault, IsMadeOf, PackageFile, SourceFile, UnresolvedPackage, append-nil, earliest, first_after, last_header, map-append, or_none, or_none_both}
use Rattle.wit_lex.specs.declared.source.Source.{Source}
use Rattle.wit_bundle.specs.SourcePaths.{IsByPath}
use Rattle.wit_groups.specs.Nested.{GrowByNested, IsMadeByNested}
use Rattle.wit_groups.specs.Groups.{AreUsed, IsGroup, IsTree}
use Rattle.wit_groups.specs.Groups.AreUsed.{None as NoneUsed, More}
use Rattle.wit_groups.specs.GroupFaults.{names_fault, nested_names}
use Rattle.wit_groups.specs.PushFaults.{IsWalk, files_of, nested_of}
use Rattle.wit_groups.specs.SourceFaults.{Read, IsRead, trees_of, SourcesComeTo, IsFirstOfSources, AreFaultless, AreBroken}
use Rattle.wit_groups.proofs.Names.{made_names}
use Rattle.wit_groups.proofs.Pushes.{a_walk, source_agrees}
use Rattle.wit_groups.proofs.Used.{group_sequence}
use Rattle.wit_groups.proofs.Sequences.{pushed, sequence_broken, sequence_comes, sequence_trees}

module _ (walk : List PackageFile → Option Fault) (walks : IsWalk walk) where
  -- one of two lists, in two parts
  zip_split : {A B : Type 0} (R : A → B → Type 0) (xs us : List A) (zs : List B) → AllZip R (xs ++ us) zs → (ys vs : List B) × (zs ≡ ys ++ vs) × AllZip R xs ys × AllZip R us vs
  zip_split R [] us zs all = ([], zs, refl, tt, all)
  zip_split R (x ∷ xs) us [] all = absurd all
  zip_split R (x ∷ xs) us (z ∷ zs) all = (let it = zip_split R xs us zs all.1 in (z ∷ it.0, it.1, ap (λ (l : List _). z ∷ l) it.2, (all.0, it.3), it.4))

  -- trees that can be pushed are used
  used_from : (done : List Source) (before : List SourceFile) (packages : List UnresolvedPackage) → AreUsed done (files_of before) packages → (ordered : List Source) (trees : List SourceFile) (more : List UnresolvedPackage) →
      AllZip IsTree ordered trees → first_after (pushed walk) before trees ≡ None → AllZip IsMadeByNested (nested_of trees) more → AreUsed (done ++ ordered) (files_of (before ++ trees)) (packages ++ more)
  used_from done before packages used [] [] [] each none made =
      subst (λ (l : List Source). AreUsed l (files_of (before ++ [])) (packages ++ [])) (sym (append-nil done))
      (subst (λ (l : List SourceFile). AreUsed done (files_of l) (packages ++ [])) (sym (append-nil before)) (subst (λ (l : List UnresolvedPackage). AreUsed done (files_of before) l) (sym (append-nil packages)) used))
  used_from done before packages used [] [] (p ∷ more) each none made = absurd made
  used_from done before packages used [] (t ∷ trees) more each none made = absurd each
  used_from done before packages used (s ∷ ordered) [] more each none made = absurd each
  used_from done before packages used (s ∷ ordered) (t ∷ trees) more each none made =
      let both = or_none_both (pushed walk before t) (first_after (pushed walk) (before ++ t ∷ []) trees) none in
      let it = zip_split IsMadeByNested t.nested.items (nested_of trees) more made in
      let grow : GrowByNested t.nested.items packages (packages ++ it.0) = record { made = it.0; each = it.3; extended = refl } in
      let one = More done (files_of before) packages (packages ++ it.0) s t used each.0 ((source_agrees walk walks (files_of before) t).unbroken both.0) grow in
      let next = subst (λ (l : List PackageFile). AreUsed (done ++ s ∷ []) l (packages ++ it.0)) (sym (map-append (λ (s : SourceFile). s.file) before (t ∷ []))) one in
      let all = used_from (done ++ s ∷ []) (before ++ t ∷ []) (packages ++ it.0) next ordered trees it.1 each.1 both.1 it.4 in
      subst (λ (l : List Source). AreUsed l (files_of (before ++ t ∷ trees)) (packages ++ more)) (append_assoc done (s ∷ []) ordered)
      (subst (λ (l : List SourceFile). AreUsed ((done ++ s ∷ []) ++ ordered) (files_of l) (packages ++ more)) (append_assoc before (t ∷ []) trees)
      (subst (λ (l : List UnresolvedPackage). AreUsed ((done ++ s ∷ []) ++ ordered) (files_of ((before ++ t ∷ []) ++ trees)) l) (append_assoc packages it.0 it.1 ∙ ap (λ (l : List UnresolvedPackage). packages ++ l) (sym it.2)) all))

by_first : (sources : List Source) (reads : List Read) (first : Option Fault) → SourcesComeTo sources reads first → AreFaultless sources reads ⊎ ((f : Fault) × IsFirstOfSources sources reads f)
by_first sources reads None it = inl it
by_first sources reads (Some f) it = inr (f, it)

pub decided : (sources ordered : List Source) (reads : List Read) → IsByPath sources ordered → AllZip IsRead ordered reads → AreFaultless sources reads ⊎ ((f : Fault) × IsFirstOfSources sources reads f)
decided sources ordered reads by_path each =
    let it = sequence_comes a_walk.0 [] ordered reads each in
    by_first sources reads it.0 (record { ordered = ordered; by_path = by_path; walk = a_walk.0; walks = a_walk.1; is = it.1 })

pub broken : (sources : List Source) (reads : List Read) (f : Fault) → IsFirstOfSources sources reads f → AreBroken sources f
broken sources reads f it = record { ordered = it.ordered; by_path = it.by_path; broken = sequence_broken it.walk it.walks [] [] tt it.ordered reads f it.is }

pub faultless : (sources : List Source) (main : UnresolvedPackage) (nested : List UnresolvedPackage) → IsGroup sources main nested → (reads : List Read) × AreFaultless sources reads
faultless sources main nested g =
    let it = group_sequence a_walk.0 a_walk.1 g.turn g.files main nested g.in_use g.made g.apart in
    (it.0, record { ordered = g.turn; by_path = g.by_path; walk = a_walk.0; walks = a_walk.1; is = it.1 })

pub group : (sources : List Source) (reads : List Read) (main : UnresolvedPackage) (nested : List UnresolvedPackage) → AreFaultless sources reads → IsMadeOf (files_of (trees_of reads)) main →
    AllZip IsMadeByNested (nested_of (trees_of reads)) nested → IsGroup sources main nested
group sources reads main nested it made each =
    let trees = trees_of reads in
    let t = sequence_trees it.walk [] it.ordered reads it.is in
    let names = names_fault (last_header (files_of trees)) (nested_names trees) in
    let both = or_none_both (it.walk (files_of trees)) (earliest (names ∷ [])) t.2 in
    record {
      turn = it.ordered;
      by_path = it.by_path;
      files = files_of trees;
      in_use = used_from it.walk it.walks [] [] [] NoneUsed it.ordered trees nested t.0 t.1 each;
      made = made;
      apart = (made_names trees main nested made each).apart.0 (sym (or_none names) ∙ both.1);
    }
