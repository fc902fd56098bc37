-- Types that refer only backwards, in the words of the data model.
use Rattle.std.proofs.Common.{ℕ, ◌≤◌, List, [], ◌∷◌, ◌++◌, Option, Some, None, All, arith, subst}
use Rattle.wit_arena.proofs.Names.{All-cons, All-head, All-nil, All-tail, IsBackward, IsBelow, IsFaithful, PackageFile, TypeDefKind, UnresolvedPackage, cons_option, filter_map, kind_of, map, map_map, option_to_list, places_to, rank}
use Rattle.wit_types.specs.declared.types.Field.{Field}
use Rattle.wit_syntax.proofs.Common.{IsBelow as IsKindBelow}
use Rattle.wit_types.specs.InnerTypes.{place_of}
use Rattle.wit_types.specs.declared.types.«Type».{«Type» as Ty}
use Rattle.wit_types.specs.declared.types.«Type».TheVariants as type
use Rattle.wit_types.specs.declared.types.Case.{Case}
use Rattle.wit_types.specs.declared.types.Handle.TheVariants as handle
use Rattle.wit_types.specs.declared.types.TypeDefKind.TheVariants as kind

-- each of these is below
abbrev AreBelow : ℕ → List Ty → Type 0
AreBelow n ts = All (IsBelow n) ts

place_below : (n : ℕ) (t : Ty) → IsBelow n t → places_to (place_of t) ≤ n
place_below n (type.Id i) h = omega (arith, h)
place_below n _ h = omega arith

first_below : (n : ℕ) (t : Ty) (ts : List Ty) → AreBelow n (t ∷ ts) → rank (Some t) ≤ n
first_below n t ts h = place_below n t (All-head (IsBelow n) t ts h)

slot_below : (n : ℕ) (s : Option Ty) → AreBelow n (option_to_list s) → rank s ≤ n
slot_below n None h = omega arith
slot_below n (Some t) h = first_below n t [] h

types_below : (n : ℕ) (ts : List Ty) → AreBelow n ts → All (λ s. rank s ≤ n) (map (λ t. Some t) ts)
types_below n [] h = All-nil (λ s. rank s ≤ n)
types_below n (t ∷ ts) h = All-cons (λ s. rank s ≤ n) (Some t) (map (λ t. Some t) ts) (first_below n t ts h) (types_below n ts (All-tail (IsBelow n) t ts h))

fields_below : (n : ℕ) (fs : List Field) → AreBelow n (map (λ f. f.ty) fs) → All (λ s. rank s ≤ n) (map (λ f. Some f.ty) fs)
fields_below n fs h = subst (All (λ s. rank s ≤ n)) (map_map (λ (t : Ty). Some t) (λ (f : Field). f.ty) fs) (types_below n (map (λ (f : Field). f.ty) fs) h)

case_below : (n : ℕ) (s : Option Ty) (ss : List (Option Ty)) (ts : List Ty) → AreBelow n (cons_option s ts) → (AreBelow n ts → All (λ x. rank x ≤ n) ss) → All (λ x. rank x ≤ n) (s ∷ ss)
case_below n None ss ts h rest = All-cons (λ s. rank s ≤ n) None ss (omega arith) (rest h)
case_below n (Some t) ss ts h rest = All-cons (λ s. rank s ≤ n) (Some t) ss (first_below n t ts h) (rest (All-tail (IsBelow n) t ts h))

cases_below : (n : ℕ) (cs : List Case) → AreBelow n (filter_map (λ c. c.ty) cs) → All (λ s. rank s ≤ n) (map (λ c. c.ty) cs)
cases_below n [] h = All-nil (λ s. rank s ≤ n)
cases_below n (c ∷ cs) h = case_below n c.ty (map (λ c. c.ty) cs) (filter_map (λ c. c.ty) cs) h (cases_below n cs)

last_below : (n : ℕ) (s : Option Ty) → AreBelow n (option_to_list s) → All (λ s. rank s ≤ n) (s ∷ [])
last_below n s h = All-cons (λ s. rank s ≤ n) s [] (slot_below n s h) (All-nil (λ s. rank s ≤ n))

both_below : (n : ℕ) (a b : Option Ty) → AreBelow n (option_to_list a ++ option_to_list b) → All (λ s. rank s ≤ n) (a ∷ b ∷ [])
both_below n None b h = All-cons (λ s. rank s ≤ n) None (b ∷ []) (omega arith) (last_below n b h)
both_below n (Some t) b h = All-cons (λ s. rank s ≤ n) (Some t) (b ∷ []) (first_below n t (option_to_list b) h) (last_below n b (All-tail (IsBelow n) t (option_to_list b) h))

-- the slots of a kind, and the place of a handle's resource, are below where the parts are
kind_below : (n : ℕ) (k : TypeDefKind) → AreBelow n (kind_of k).1 → IsKindBelow n k
kind_below n (kind.Record r) h = (fields_below n r.fields h, omega arith)
kind_below n (kind.Handle (handle.Own i)) h = (All-nil (λ s. rank s ≤ n), first_below n (type.Id i) [] h)
kind_below n (kind.Handle (handle.Borrow i)) h = (All-nil (λ s. rank s ≤ n), first_below n (type.Id i) [] h)
kind_below n (kind.Tuple t) h = (types_below n t.types h, omega arith)
kind_below n (kind.Variant v) h = (cases_below n v.cases h, omega arith)
kind_below n (kind.Option t) h = (last_below n (Some t) h, omega arith)
kind_below n (kind.Result r) h = (both_below n r.ok r.err h, omega arith)
kind_below n (kind.List t) h = (last_below n (Some t) h, omega arith)
kind_below n (kind.Map a b) h = (both_below n (Some a) (Some b) h, omega arith)
kind_below n (kind.FixedLengthList t size) h = (last_below n (Some t) h, omega arith)
kind_below n (kind.Future t) h = (last_below n t h, omega arith)
kind_below n (kind.Stream t) h = (last_below n t h, omega arith)
kind_below n (kind.Type_ t) h = (last_below n (Some t) h, omega arith)
kind_below n _ h = (All-nil (λ s. rank s ≤ n), omega arith)

-- so the ids of a package that files make are below the places of their entries
pub ids_backward : (files : List PackageFile) (p : UnresolvedPackage) → IsFaithful files p → IsBackward p.types
ids_backward files p is k d at = kind_below k d.kind (is.backward k d at)
