-- What sources come to, one after another.
use Rattle.std.proofs.Common.{◌≡◌, ◌⊎◌, List, [], ◌∷◌, ◌++◌, Option, Some, None, inl, inr, refl, sym, ap, ◌∙◌, subst, append_assoc, map}
use Rattle.wit_arena.proofs.Common.{AllZip, Fault, IsBroken, PackageFile, SourceFile, append-nil, last_header}
use Rattle.wit_lex.specs.declared.source.Source.{Source}
use Rattle.wit_walk.proofs.Common.{IsOr, earliest, first_after, none_both, or_none_both}
use Rattle.wit_groups.specs.Groups.{IsTree}
use Rattle.wit_nested.proofs.Making.{zip_more}
use Rattle.wit_nested.specs.GroupFaults.{IsNamedTwice, joined_faults, nested_names}
use Rattle.wit_nested.specs.PushFaults.{IsWalk, files_of, source_fault}
use Rattle.wit_groups.specs.SourceFaults.{Read, Tree, Stop, IsRead, IsStop, trees_of, SequenceComesTo, IsBrokenSequence}
use Rattle.wit_groups.specs.SourceFaults.IsBrokenSequence.{Unread, Unfit, Illegal, NamedTwice}
use Rattle.wit_nested.proofs.Group.{joined_agrees}
use Rattle.wit_nested.proofs.Pushes.{source_agrees}

-- where two relations say one fault, so does what comes first
pub or_two : (o : Option Fault) (Later Other : Option Fault → Type 0) → ((x y : Option Fault) → Later x → Other y → x ≡ y) → (x y : Option Fault) → IsOr o Later x → IsOr o Other y → x ≡ y
or_two None Later Other one x y a b = one x y a b
or_two (Some f) Later Other one x y a b = a ∙ sym b

pub or_at : (o : Option Fault) (Later : Option Fault → Type 0) (first : Option Fault) → o ≡ None → Later first → IsOr o Later first
or_at None Later first none h = h
or_at (Some f) Later first none h = absurd (let g : ⊥ = cc in g)

pub or_here : (o : Option Fault) (Later : Option Fault → Type 0) (f : Fault) → o ≡ Some f → IsOr o Later (Some f)
or_here None Later f is = absurd (let g : ⊥ = cc in g)
or_here (Some g) Later f is = sym is

or_back : (o : Option Fault) (Later : Option Fault → Type 0) → IsOr o Later None → (o ≡ None) × Later None
or_back None Later h = (refl, h)
or_back (Some f) Later h = absurd (let g : ⊥ = cc in g)

or_either : (o : Option Fault) (Later : Option Fault → Type 0) (f : Fault) → IsOr o Later (Some f) → (o ≡ Some f) ⊎ Later (Some f)
or_either None Later f h = inr h
or_either (Some g) Later f h = inl (sym h)

-- the fault of a source after those before it
abbrev pub pushed : (List PackageFile → Option Fault) → List SourceFile → SourceFile → Option Fault
pushed walk before s = source_fault walk (files_of before) s

-- and they come to one of these
pub or_comes : (o : Option Fault) (Later : Option Fault → Type 0) → (first : Option Fault) × Later first → (first : Option Fault) × IsOr o Later first
or_comes None Later it = it
or_comes (Some f) Later it = (Some f, refl)

pub sequence_comes : (walk : List PackageFile → Option Fault) (before : List SourceFile) (sources : List Source) (reads : List Read) → AllZip IsRead sources reads → (first : Option Fault) × SequenceComesTo walk before sources reads first
sequence_comes walk before [] [] each = (earliest (joined_faults walk before), refl)
sequence_comes walk before [] (r ∷ reads) each = absurd each
sequence_comes walk before (s ∷ sources) [] each = absurd each
sequence_comes walk before (s ∷ sources) (Stop f ∷ reads) each = (Some f, (each.0, refl))
sequence_comes walk before (s ∷ sources) (Tree t ∷ reads) each =
    let it = or_comes (pushed walk before t) (SequenceComesTo walk (before ++ t ∷ []) sources reads) (sequence_comes walk (before ++ t ∷ []) sources reads each.1) in
    (it.0, (each.0, it.1))

-- sources that are read and pushed, and then others
pub sequence_prefix : (walk : List PackageFile → Option Fault) (before : List SourceFile) (prefix : List Source) (trees : List SourceFile) (rest : List Source) (reads : List Read) (first : Option Fault) →
    AllZip IsTree prefix trees → first_after (pushed walk) before trees ≡ None → SequenceComesTo walk (before ++ trees) rest reads first → SequenceComesTo walk before (prefix ++ rest) (map Tree trees ++ reads) first
sequence_prefix walk before [] [] rest reads first each none h = subst (λ (l : List SourceFile). SequenceComesTo walk l rest reads first) (append-nil before) h
sequence_prefix walk before [] (t ∷ trees) rest reads first each none h = absurd each
sequence_prefix walk before (s ∷ prefix) [] rest reads first each none h = absurd each
sequence_prefix walk before (s ∷ prefix) (t ∷ trees) rest reads first each none h =
    let both = or_none_both (pushed walk before t) (first_after (pushed walk) (before ++ t ∷ []) trees) none in
    let later = subst (λ (l : List SourceFile). SequenceComesTo walk l rest reads first) (sym (append_assoc before (t ∷ []) trees)) h in
    (each.0, or_at (pushed walk before t) (SequenceComesTo walk (before ++ t ∷ []) (prefix ++ rest) (map Tree trees ++ reads)) first both.0 (sequence_prefix walk (before ++ t ∷ []) prefix trees rest reads first each.1 both.1 later))

-- where there is no fault, all are read and pushed
pub sequence_trees : (walk : List PackageFile → Option Fault) (before : List SourceFile) (sources : List Source) (reads : List Read) → SequenceComesTo walk before sources reads None →
    AllZip IsTree sources (trees_of reads) × (first_after (pushed walk) before (trees_of reads) ≡ None) × (earliest (joined_faults walk (before ++ trees_of reads)) ≡ None)
sequence_trees walk before [] [] h = (tt, refl, ap (λ (l : List SourceFile). earliest (joined_faults walk l)) (append-nil before) ∙ sym h)
sequence_trees walk before [] (r ∷ reads) h = absurd h
sequence_trees walk before (s ∷ sources) [] h = absurd h
sequence_trees walk before (s ∷ sources) (Stop f ∷ reads) h = absurd (let wrong = h.1 in let g : ⊥ = cc in g)
sequence_trees walk before (s ∷ sources) (Tree t ∷ reads) h =
    let both = or_back (pushed walk before t) (SequenceComesTo walk (before ++ t ∷ []) sources reads) h.1 in
    let later = sequence_trees walk (before ++ t ∷ []) sources reads both.1 in
    ((h.0, later.0), none_both both.0 later.1, ap (λ (l : List SourceFile). earliest (joined_faults walk l)) (sym (append_assoc before (t ∷ []) (trees_of reads))) ∙ later.2)

-- the fault is something that is wrong with sources, where others are read before them
pub sequence_broken : (walk : List PackageFile → Option Fault) → IsWalk walk → (done : List Source) (before : List SourceFile) → AllZip IsTree done before → (sources : List Source) (reads : List Read) (f : Fault) → SequenceComesTo walk before sources reads (Some f) → IsBrokenSequence (done ++ sources) f
sequence_broken walk walks done before each [] [] f h = by ((joined_agrees walk walks before).broken f (sym h))
  where
    here : AllZip IsTree (done ++ []) before
    here = subst (λ (l : List Source). AllZip IsTree l before) (sym (append-nil done)) each

    by : IsBroken (files_of before) f ⊎ IsNamedTwice (last_header (files_of before)) (nested_names before) f → IsBrokenSequence (done ++ []) f
    by (inl b) = Illegal before here b
    by (inr t) = NamedTwice before here t
sequence_broken walk walks done before each [] (r ∷ reads) f h = absurd h
sequence_broken walk walks done before each (s ∷ sources) [] f h = absurd h
sequence_broken walk walks done before each (s ∷ sources) (Stop g ∷ reads) f h = Unread done sources s refl (let is : Some f ≡ Some g = h.1 in let same : g ≡ f = cc in subst (IsStop s) same h.0)
sequence_broken walk walks done before each (s ∷ sources) (Tree t ∷ reads) f h = elim (or_either (pushed walk before t) (SequenceComesTo walk (before ++ t ∷ []) sources reads) f h.1) [
  | inl own ↦ Unfit done sources s refl before t each h.0 ((source_agrees walk walks (files_of before) t).broken f own)
  | inr far ↦ (
      let later = sequence_broken walk walks (done ++ s ∷ []) (before ++ t ∷ []) (zip_more IsTree done before s t each h.0) sources reads f far in
      subst (λ (l : List Source). IsBrokenSequence l f) (append_assoc done (s ∷ []) sources) later)
]
