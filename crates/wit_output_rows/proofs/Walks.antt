-- What the walk of files comes to, where it computes; and sources that are in the order of their paths.
use Rattle.std.proofs.Common.{◌≡◌, ℕ, zero, suc, ◌+◌, ◌<◌, ◌≤◌, false, List, [], ◌∷◌, Option, Some, None, get_or, string_bytes, refl, sym, subst, arith}
use Rattle.wit_arena.proofs.Common.{Fault, IsPermutation-refl, PackageFile, SourceFile, is_lt, last_header, nat_cmp, slice_cmp}
use Rattle.wit_lex.specs.declared.source.Source.{Source}
use Rattle.wit_bundle.specs.SourcePaths.{IsByPath}
use Rattle.wit_walk.proofs.Common.{ComesTo, IsOr, earliest, first_fault, one_first}
use Rattle.wit_groups.specs.GroupFaults.{joined_faults, names_fault, nested_names}
use Rattle.wit_groups.specs.PushFaults.{IsWalk, files_of}
use Rattle.wit_output_rows.proofs.Outcomes.{outcome, outcomes}

-- files come to what is computed with those outcomes, in any number of steps
pub comes : (files : List PackageFile) (first : Option Fault) → ((steps : ℕ) → first_fault files (record { outcome = outcome; steps = steps }) ≡ first) → ComesTo files first
comes files first computed = record { outcome = outcome; outcomes = outcomes; enough = 0; is = λ steps le. computed steps }

-- and so does each walk
pub walks_to : (walk : List PackageFile → Option Fault) → IsWalk walk → (files : List PackageFile) (first : Option Fault) → ((steps : ℕ) → first_fault files (record { outcome = outcome; steps = steps }) ≡ first) → walk files ≡ first
walks_to walk walks files first computed = one_first files (walk files) first (walks.each files) (comes files first computed)

-- where it takes steps to find where names in handles end: two of them do
after_two : (files : List PackageFile) (first : Option Fault) → ((k : ℕ) → first_fault files (record { outcome = outcome; steps = suc (suc k) }) ≡ first) → (steps : ℕ) → 2 ≤ steps → first_fault files (record { outcome = outcome; steps = steps }) ≡ first
after_two files first computed zero le = absurd (omega (arith, le))
after_two files first computed (suc zero) le = absurd (omega (arith, le))
after_two files first computed (suc (suc k)) le = computed k

pub walks_in_two : (walk : List PackageFile → Option Fault) → IsWalk walk → (files : List PackageFile) (first : Option Fault) → ((k : ℕ) → first_fault files (record { outcome = outcome; steps = suc (suc k) }) ≡ first) → walk files ≡ first
walks_in_two walk walks files first computed = one_first files (walk files) first (walks.each files) (record { outcome = outcome; outcomes = outcomes; enough = 2; is = after_two files first computed })

pub none_by_path : IsByPath [] []
none_by_path = record { same = IsPermutation-refl []; sorted = λ k d low high. absurd (omega arith); stable = λ x. refl }

pub one_by_path : (s : Source) → IsByPath (s ∷ []) (s ∷ [])
one_by_path s = record { same = IsPermutation-refl (s ∷ []); sorted = λ k d low high. absurd (omega arith); stable = λ x. refl }

-- of two sources the path of the second is not below that of the first
pub two_by_path : (s t : Source) → is_lt (slice_cmp nat_cmp (string_bytes t.path) (string_bytes s.path)) ≡ false → IsByPath (s ∷ t ∷ []) (s ∷ t ∷ [])
two_by_path s t order = record { same = IsPermutation-refl (s ∷ t ∷ []); sorted = sorted; stable = λ x. refl }
  where
    sorted : (k : ℕ) (d : Source) → 0 ≤ k → k + 1 < 2 → is_lt (slice_cmp nat_cmp (string_bytes (get_or (s ∷ t ∷ []) (k + 1) d).path) (string_bytes (get_or (s ∷ t ∷ []) k d).path)) ≡ false
    sorted zero d low high = order
    sorted (suc k) d low high = absurd (omega arith)

-- trees that are pushed come to what their files come to
pub joined_fault : (walk : List PackageFile → Option Fault) (trees : List SourceFile) (f : Fault) → walk (files_of trees) ≡ Some f → Some f ≡ earliest (joined_faults walk trees)
joined_fault walk trees f is = rw is refl

-- where that is none, and the names of their packages are apart, to none
pub joined_none : (walk : List PackageFile → Option Fault) (trees : List SourceFile) → walk (files_of trees) ≡ None → names_fault (last_header (files_of trees)) (nested_names trees) ≡ None → None ≡ earliest (joined_faults walk trees)
joined_none walk trees files names = rw (files, names) refl

-- where there is no earlier fault
pub no_earlier : (o first : Option Fault) (IsLater : Option Fault → Type 0) → o ≡ None → IsLater first → IsOr o IsLater first
no_earlier o first IsLater none later = subst (λ (x : Option Fault). IsOr x IsLater first) (sym none) later
