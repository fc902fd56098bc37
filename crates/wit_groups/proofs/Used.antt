-- Sources that are read and pushed, by their trees.
use Rattle.std.proofs.Common.{◌≡◌, List, [], ◌∷◌, ◌++◌, Option, None, refl, sym, ap, ◌∙◌, subst, map}
use Rattle.wit_arena.proofs.Common.{AllZip, Fault, IsMadeOf, NestedPackage, PackageFile, SourceFile, UnresolvedPackage, append-nil, flat_map-append, last_header, map-append, zip_both}
use Rattle.wit_lex.specs.declared.source.Source.{Source}
use Rattle.wit_walk.proofs.Common.{after-more, earliest, none_both, or_none}
use Rattle.wit_nested.specs.Nested.{IsMadeByNested, IsUnfit}
use Rattle.wit_nested.specs.PackageNames.{AreNamedApart}
use Rattle.wit_nested.specs.GroupFaults.{joined_faults, names_fault, nested_names}
use Rattle.wit_nested.specs.PushFaults.{IsWalk, files_of, nested_of, pushes_fault, source_fault}
use Rattle.wit_nested.proofs.Making.{zip_more}
use Rattle.wit_nested.proofs.Names.{made_names}
use Rattle.wit_nested.proofs.Pushes.{none_of, source_agrees, walk_agrees}
use Rattle.wit_groups.specs.Groups.{AreUsed, IsTree}
use Rattle.wit_groups.specs.Groups.AreUsed.{None as NoneUsed, More}
use Rattle.wit_groups.specs.SourceFaults.{Read, Tree, SequenceComesTo}
use Rattle.wit_groups.proofs.Sequences.{pushed, sequence_prefix}

-- the trees of sources that are used: they can be pushed, and the nested packages are made of what is nested in them
pub record HasTrees (walk : List PackageFile → Option Fault) (ordered : List Source) (files : List PackageFile) (packages : List UnresolvedPackage) : Type 0 where
  pub trees : List SourceFile
  pub each : AllZip IsTree ordered trees
  pub files_are : files ≡ files_of trees
  pub none : pushes_fault walk trees ≡ None
  pub made : AllZip IsMadeByNested (nested_of trees) packages

module _ (walk : List PackageFile → Option Fault) (walks : IsWalk walk) where
  fits : (files : List PackageFile) (read : SourceFile) → ((f : Fault) → IsUnfit files read f → ⊥) → source_fault walk files read ≡ None
  fits files read fit = none_of (source_fault walk files read) (source_agrees walk walks files read) fit

  pub used_trees : (ordered : List Source) (files : List PackageFile) (packages : List UnresolvedPackage) → AreUsed ordered files packages → HasTrees walk ordered files packages
  used_trees _ _ _ NoneUsed = record { trees = []; each = tt; files_are = refl; none = refl; made = tt }
  used_trees _ _ _ (More sources files packages kept s read used tree fit grow) =
      let it = used_trees sources files packages used in
      let nested : nested_of (it.trees ++ read ∷ []) ≡ nested_of it.trees ++ read.nested.items = flat_map-append (λ (s : SourceFile). s.nested.items) it.trees (read ∷ []) ∙ ap (λ (l : List NestedPackage). nested_of it.trees ++ l) (append-nil read.nested.items) in
      let all = zip_both IsMadeByNested (nested_of it.trees) read.nested.items packages grow.made it.made grow.each in
      record {
        trees = it.trees ++ read ∷ [];
        each = zip_more IsTree sources it.trees s read it.each tree;
        files_are = ap (λ (l : List PackageFile). l ++ read.file ∷ []) it.files_are ∙ sym (map-append (λ (s : SourceFile). s.file) it.trees (read ∷ []));
        none = after-more (pushed walk) it.trees read it.none ∙ fits (files_of it.trees) read (subst (λ (l : List PackageFile). (f : Fault) → IsUnfit l read f → ⊥) it.files_are fit);
        made = subst (λ (ps : List UnresolvedPackage). AllZip IsMadeByNested (nested_of (it.trees ++ read ∷ [])) ps) (sym grow.extended) (subst (λ (ns : List NestedPackage). AllZip IsMadeByNested ns (packages ++ grow.made)) (sym nested) all);
      }

  -- nothing is wrong with the files of all, nor with the names
  pub joined_none : (trees : List SourceFile) → walk (files_of trees) ≡ None → names_fault (last_header (files_of trees)) (nested_names trees) ≡ None → earliest (joined_faults walk trees) ≡ None
  joined_none trees files names = none_both files (or_none (names_fault (last_header (files_of trees)) (nested_names trees)) ∙ names)

  -- sources that make a group have no fault, by their trees
  pub group_trees : (ordered : List Source) (files : List PackageFile) (main : UnresolvedPackage) (nested : List UnresolvedPackage) → AreUsed ordered files nested → IsMadeOf files main → AreNamedApart main nested →
      (it : HasTrees walk ordered files nested) × SequenceComesTo walk [] ordered (map Tree it.trees ++ []) None
  group_trees ordered files main nested used made apart =
      let it = used_trees ordered files nested used in
      let made_of : IsMadeOf (files_of it.trees) main = subst (λ (fs : List PackageFile). IsMadeOf fs main) it.files_are made in
      let right : walk (files_of it.trees) ≡ None = none_of (walk (files_of it.trees)) (walk_agrees walk walks (files_of it.trees)) made_of.legal in
      let none = joined_none it.trees right ((made_names it.trees main nested made_of it.made).apart.1 apart) in
      (it, subst (λ (l : List Source). SequenceComesTo walk [] l (map Tree it.trees ++ []) None) (append-nil ordered) (sequence_prefix walk [] ordered it.trees [] [] None it.each it.none (sym none)))

  pub group_sequence : (ordered : List Source) (files : List PackageFile) (main : UnresolvedPackage) (nested : List UnresolvedPackage) → AreUsed ordered files nested → IsMadeOf files main → AreNamedApart main nested → (reads : List Read) × SequenceComesTo walk [] ordered reads None
  group_sequence ordered files main nested used made apart = (let it = group_trees ordered files main nested used made apart in (map Tree it.0.trees ++ [], it.1))
