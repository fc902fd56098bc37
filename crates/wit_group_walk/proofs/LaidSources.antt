-- Sources of the same paths and texts have one first fault, whatever is read of them.
use Rattle.std.proofs.Common.{◌≡◌, ℕ, List, [], ◌∷◌, Option, string_bytes, refl, sym, ap, ◌∙◌, subst}
use Rattle.wit_items.proofs.Common.{AllZip, Fault, PackageFile}
use Rattle.wit_lex.specs.declared.source.Source.{Source}
use Rattle.wit_lex.specs.Sources.{as_stated, stated_of}
use Rattle.wit_bundle.specs.Laid.{AreLaid}
use Rattle.wit_bundle.specs.SourcePaths.{IsByPath}
use Rattle.wit_alike.proofs.Lists.{zip_of}
use Rattle.wit_groups.proofs.Pushes.{one_walk}
use Rattle.wit_groups.specs.Groups.{IsAlone}
use Rattle.wit_groups.specs.SourceFaults.{HaveFirst, Read, SequenceComesTo, SourcesComeTo, TextHasFirst, size_fault}
use Rattle.wit_groups.proofs.Sequences.{or_two}
use Rattle.wit_group_walk.proofs.Alike.{one_sequence}
use Rattle.wit_group_walk.proofs.ByPath.{same_by_path}

-- those that are stated alike
module _ (sources others : List Source) (same : as_stated sources ≡ as_stated others) where
  stated_turns : (turn next : List Source) → IsByPath sources turn → IsByPath others next → AllZip (λ (s t : Source). stated_of s ≡ stated_of t) turn next
  stated_turns turn next = same_by_path sources others turn next (zip_of stated_of sources others same)

  one_of_reads : (reads known : List Read) (first other : Option Fault) → SourcesComeTo sources reads first → SourcesComeTo others known other → first ≡ other
  one_of_reads reads known first other a b =
      one_sequence a.walk a.walks [] [] tt a.ordered b.ordered (stated_turns a.ordered b.ordered a.by_path b.by_path) reads known first other a.is
      (subst (λ (walk : List PackageFile → Option Fault). SequenceComesTo walk [] b.ordered known other) (one_walk b.walk a.walk b.walks a.walks) b.is)

pub one_had : (sources : List Source) (first other : Option Fault) → HaveFirst sources first → HaveFirst sources other → first ≡ other
one_had sources first other a b = one_of_reads sources sources refl a.0 b.0 first other a.1 b.1

-- those that are laid from the same parts
laid_alike : (parts : List (List ℕ × List ℕ)) (sources others : List Source) → AreLaid parts sources → AreLaid parts others → as_stated sources ≡ as_stated others
laid_alike parts sources others laid also = laid.are ∙ sym also.are

pub laid_turns : (parts : List (List ℕ × List ℕ)) (sources others turn next : List Source) → AreLaid parts sources → AreLaid parts others → IsByPath sources turn → IsByPath others next → AllZip (λ (s t : Source). stated_of s ≡ stated_of t) turn next
laid_turns parts sources others turn next laid also = stated_turns sources others (laid_alike parts sources others laid also) turn next

pub one_laid : (parts : List (List ℕ × List ℕ)) (sources others : List Source) → AreLaid parts sources → AreLaid parts others → (reads known : List Read) (first other : Option Fault) → SourcesComeTo sources reads first → SourcesComeTo others known other → first ≡ other
one_laid parts sources others laid also = one_of_reads sources others (laid_alike parts sources others laid also)

pub one_laid_had : (parts : List (List ℕ × List ℕ)) (sources others : List Source) (first other : Option Fault) → AreLaid parts sources → AreLaid parts others → HaveFirst sources first → HaveFirst others other → first ≡ other
one_laid_had parts sources others first other laid also a b = one_laid parts sources others laid also a.0 b.0 first other a.1 b.1

-- the only source of a text
pub alone_laid : (path contents : List ℕ) (sources : List Source) → IsAlone path contents sources → AreLaid ((path, contents) ∷ []) sources
alone_laid path contents sources a = record {
  are = ap as_stated a.only
      ∙ ap (λ (p : List ℕ). (p, string_bytes a.source.contents, a.source.offset) ∷ []) a.is.path_bytes
      ∙ ap (λ (t : List ℕ). (path, t, a.source.offset) ∷ []) a.is.contents
      ∙ ap (λ (n : ℕ). (path, contents, n) ∷ []) a.is.offset;
}

pub one_of_text : (path text : List ℕ) (first other : Option Fault) → TextHasFirst path text first → TextHasFirst path text other → first ≡ other
one_of_text path text first other a b =
    let Later : List Read → Option Fault → Type 0 = λ reads o. (sources : List Source) × IsAlone path text sources × SourcesComeTo sources reads o in
    or_two (size_fault text) (Later a.0) (Later b.0)
    (λ x y p q. one_laid ((path, text) ∷ []) p.0 q.0 (alone_laid path text p.0 p.1) (alone_laid path text q.0 q.1) a.0 b.0 x y p.2 q.2) first other a.1 b.1
