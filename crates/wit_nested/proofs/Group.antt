-- The first fault of a group: it is one, and something that is wrong with it.
use Rattle.std.proofs.Common.{◌≡◌, ◌⊎◌, List, Option, Some, None, inl, inr, refl, sym, ap, ◌∙◌, subst}
use Rattle.wit_items.proofs.Common.{Agrees, Fault, IsBroken, PackageFile, SourceFile, earliest, last_header, or_none}
use Rattle.wit_nested.specs.PushFaults.{IsWalk, files_of}
use Rattle.wit_nested.specs.GroupFaults.{names_fault, nested_names, joined_faults, group_fault, GroupComesTo, IsFirstOfGroup, IsFaultlessGroup, IsUnfitAmong, IsNamedTwice, IsBrokenGroup, IsLegalGroup}
use Rattle.wit_nested.specs.GroupFaults.IsBrokenGroup.{Unfit, Broken, NamedTwice}
use Rattle.wit_nested.proofs.Names.{names_agree}
use Rattle.wit_nested.proofs.Pushes.{a_walk, none_of, one_walk, pushes_agree, walk_agrees}
use Rattle.wit_parser.proofs.Pushing.{or_agrees}

-- what is wrong with the files of all sources, or with the names of the packages
pub joined_agrees : (walk : List PackageFile → Option Fault) → IsWalk walk → (sources : List SourceFile) → Agrees (earliest (joined_faults walk sources)) (λ f. IsBroken (files_of sources) f ⊎ IsNamedTwice (last_header (files_of sources)) (nested_names sources) f)
joined_agrees walk walks sources =
    let names = names_fault (last_header (files_of sources)) (nested_names sources) in
    let last = subst (λ (o : Option Fault). Agrees o (IsNamedTwice (last_header (files_of sources)) (nested_names sources))) (sym (or_none names)) (names_agree (last_header (files_of sources)) (nested_names sources)) in
    or_agrees (walk_agrees walk walks (files_of sources)) last (λ f b. inl b) (λ f t. inr t) (λ f x. x)

group_back : (sources : List SourceFile) (f : Fault) → IsBrokenGroup sources f → IsUnfitAmong sources f ⊎ (IsBroken (files_of sources) f ⊎ IsNamedTwice (last_header (files_of sources)) (nested_names sources) f)
group_back sources f (Unfit u) = inl u
group_back sources f (Broken b) = inr (inl b)
group_back sources f (NamedTwice t) = inr (inr t)

joined_broken : (sources : List SourceFile) (f : Fault) → IsBroken (files_of sources) f ⊎ IsNamedTwice (last_header (files_of sources)) (nested_names sources) f → IsBrokenGroup sources f
joined_broken sources f (inl b) = Broken b
joined_broken sources f (inr t) = NamedTwice t

pub group_agrees : (walk : List PackageFile → Option Fault) → IsWalk walk → (sources : List SourceFile) → Agrees (group_fault walk sources) (IsBrokenGroup sources)
group_agrees walk walks sources = or_agrees (pushes_agree walk walks sources) (joined_agrees walk walks sources) (λ f u. Unfit u) (joined_broken sources) (group_back sources)

pub one_first : (sources : List SourceFile) (first other : Option Fault) → GroupComesTo sources first → GroupComesTo sources other → first ≡ other
one_first sources first other a b = sym a.is ∙ ap (λ (walk : List PackageFile → Option Fault). group_fault walk sources) (one_walk a.walk b.walk a.walks b.walks) ∙ b.is

pub broken : (sources : List SourceFile) (f : Fault) → IsFirstOfGroup sources f → IsBrokenGroup sources f
broken sources f it = (group_agrees it.walk it.walks sources).broken f it.is

pub legal : (sources : List SourceFile) → IsFaultlessGroup sources → IsLegalGroup sources
legal sources it = (group_agrees it.walk it.walks sources).unbroken it.is

pub faultless : (sources : List SourceFile) → IsLegalGroup sources → IsFaultlessGroup sources
faultless sources right = record { walk = a_walk.0; walks = a_walk.1; is = none_of (group_fault a_walk.0 sources) (group_agrees a_walk.0 a_walk.1 sources) right }

by_first : (sources : List SourceFile) (first : Option Fault) → GroupComesTo sources first → IsLegalGroup sources ⊎ ((f : Fault) × IsFirstOfGroup sources f)
by_first sources None it = inl (legal sources it)
by_first sources (Some f) it = inr (f, it)

pub decided : (sources : List SourceFile) → IsLegalGroup sources ⊎ ((f : Fault) × IsFirstOfGroup sources f)
decided sources = by_first sources (group_fault a_walk.0 sources) (record { walk = a_walk.0; walks = a_walk.1; is = refl })
