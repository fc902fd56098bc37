-- The first known stability of the parts of a kind, slot by slot.
use Rattle.std.proofs.Common.{◌≡◌, ℕ, zero, suc, ◌+◌, List, [], ◌∷◌, ◌++◌, take, Option, Some, None, refl, sym, ap, ◌∙◌}
use Rattle.wit_types.specs.declared.types.Field.{Field}
use Rattle.wit_arena.proofs.Common.{Stability, TypeDef, TypeDefKind, cons_option, filter_map, first_known, get_or_from_slice_get, kind_of, map, map_map, option_map, option_to_list, slice_get, slice_get-map, slice_get_within, slots, stability_at, take_more}
use Rattle.wit_types.specs.declared.stability.Stability.TheVariants as stability
use Rattle.wit_types.specs.declared.types.Case.{Case}
use Rattle.wit_types.specs.declared.types.Handle.{Handle}
use Rattle.wit_types.specs.declared.types.«Type».{«Type» as Ty}
use Rattle.wit_types.specs.declared.types.TypeDefKind.TheVariants as kind
use Rattle.wit_entries.specs.EntryFaults.{known, slot_stability}

-- a known one is the first of all after it
first_here : (x : Stability) (xs : List Stability) (s : Stability) → known x ≡ Some s → known (first_known (x ∷ xs)) ≡ Some s
first_here stability.Unknown xs s is = absurd (let f : ⊥ = cc in f)
first_here (stability.Unstable feature deprecated) xs s is = is
first_here (stability.Stable since deprecated) xs s is = is

-- one after others of which none is known
first_after : (xs : List Stability) (i : ℕ) (x s : Stability) → slice_get xs i ≡ Some x → known (first_known (take i xs)) ≡ None → known x ≡ Some s → known (first_known xs) ≡ Some s
first_after [] i x s at none is = absurd (let f : ⊥ = cc in f)
first_after (y ∷ xs) zero x s at none is =
    let same : x ≡ y = cc in
    first_here y xs s (ap known (sym same) ∙ is)
first_after (stability.Unknown ∷ xs) (suc i) x s at none is = first_after xs i x s at none is
first_after (stability.Unstable feature deprecated ∷ xs) (suc i) x s at none is = absurd (let f : ⊥ = cc in f)
first_after (stability.Stable since deprecated ∷ xs) (suc i) x s at none is = absurd (let f : ⊥ = cc in f)

none_one : (x : Stability) → known x ≡ None → known (first_known (x ∷ [])) ≡ None
none_one stability.Unknown is = refl
none_one (stability.Unstable feature deprecated) is = is
none_one (stability.Stable since deprecated) is = is

none_append : (xs ys : List Stability) → known (first_known xs) ≡ None → known (first_known ys) ≡ None → known (first_known (xs ++ ys)) ≡ None
none_append [] ys none more = more
none_append (stability.Unknown ∷ xs) ys none more = none_append xs ys none more
none_append (stability.Unstable feature deprecated ∷ xs) ys none more = none
none_append (stability.Stable since deprecated ∷ xs) ys none more = none

slot_at : (es : List TypeDef) (k : TypeDefKind) (i : ℕ) (t : Option Ty) → slice_get (slots k) i ≡ Some t → slice_get (map (slot_stability es) (slots k)) i ≡ Some (slot_stability es t)
slot_at es k i t at = slice_get-map (slot_stability es) (slots k) i ∙ ap (option_map (slot_stability es)) at

-- none is known up to a slot
abbrev pub IsNoneKnown : List TypeDef → TypeDefKind → ℕ → Type 0
IsNoneKnown es k i = known (first_known (take i (map (slot_stability es) (slots k)))) ≡ None

-- the first known one is in a slot after those of which none is known
pub known_here : (es : List TypeDef) (k : TypeDefKind) (i : ℕ) (t : Option Ty) (s : Stability) → slice_get (slots k) i ≡ Some t → IsNoneKnown es k i → known (slot_stability es t) ≡ Some s → known (first_known (map (slot_stability es) (slots k))) ≡ Some s
known_here es k i t s at none is = first_after (map (slot_stability es) (slots k)) i (slot_stability es t) s (slot_at es k i t at) none is

-- nor in one slot more
pub none_more : (es : List TypeDef) (k : TypeDefKind) (i : ℕ) (t : Option Ty) → slice_get (slots k) i ≡ Some t → IsNoneKnown es k i → known (slot_stability es t) ≡ None → IsNoneKnown es k (i + 1)
none_more es k i t at none is =
    let xs = map (slot_stability es) (slots k) in
    let x = slot_stability es t in
    let there = slot_at es k i t at in
    let in_use : take (i + 1) xs ≡ take i xs ++ x ∷ [] = take_more xs i x (slice_get_within xs i x there) ∙ ap (λ (y : Stability). take i xs ++ y ∷ []) (get_or_from_slice_get xs i x x there) in
    ap (λ (l : List Stability). known (first_known l)) in_use ∙ none_append (take i xs) (x ∷ []) none (none_one x is)

-- the same after one stability
first_more : (x : Stability) (xs ys : List Stability) → first_known xs ≡ first_known ys → first_known (x ∷ xs) ≡ first_known (x ∷ ys)
first_more stability.Unknown xs ys h = h
first_more (stability.Unstable feature deprecated) xs ys h = refl
first_more (stability.Stable since deprecated) xs ys h = refl

option_slot : (es : List TypeDef) (o : Option Ty) (ts : List Ty) (xs : List Stability) → first_known (map (stability_at es) ts) ≡ first_known xs → first_known (map (stability_at es) (cons_option o ts)) ≡ first_known (slot_stability es o ∷ xs)
option_slot es None ts xs h = h
option_slot es (Some t) ts xs h = first_more (stability_at es t) (map (stability_at es) ts) xs h

case_slots : (es : List TypeDef) (cs : List Case) → first_known (map (stability_at es) (filter_map (λ (c : Case). c.ty) cs)) ≡ first_known (map (slot_stability es) (map (λ (c : Case). c.ty) cs))
case_slots es [] = refl
case_slots es (c ∷ cs) = option_slot es c.ty (filter_map (λ (c : Case). c.ty) cs) (map (slot_stability es) (map (λ (x : Case). x.ty) cs)) (case_slots es cs)

option_parts : (es : List TypeDef) (o : Option Ty) → first_known (map (stability_at es) (option_to_list o)) ≡ first_known (slot_stability es o ∷ [])
option_parts es None = refl
option_parts es (Some t) = refl

result_parts : (es : List TypeDef) (ok err : Option Ty) → first_known (map (stability_at es) (option_to_list ok ++ option_to_list err)) ≡ first_known (slot_stability es ok ∷ slot_stability es err ∷ [])
result_parts es None err = option_parts es err
result_parts es (Some t) err = first_more (stability_at es t) (map (stability_at es) (option_to_list err)) (slot_stability es err ∷ []) (option_parts es err)

field_slots : (es : List TypeDef) (fs : List Field) → map (stability_at es) (map (λ (f : Field). f.ty) fs) ≡ map (slot_stability es) (map (λ (f : Field). Some f.ty) fs)
field_slots es fs = map_map (stability_at es) (λ (f : Field). f.ty) fs ∙ sym (map_map (slot_stability es) (λ (f : Field). Some f.ty) fs)

type_slots : (es : List TypeDef) (ts : List Ty) → map (stability_at es) ts ≡ map (slot_stability es) (map (λ (t : Ty). Some t) ts)
type_slots es ts = sym (map_map (slot_stability es) (λ (t : Ty). Some t) ts)

-- the parts of every kind but a handle are in its slots
parts_in_slots : (es : List TypeDef) (k : TypeDefKind) → ((h : Handle) → k ≡ kind.Handle h → ⊥) → first_known (map (stability_at es) (kind_of k).1) ≡ first_known (map (slot_stability es) (slots k))
parts_in_slots es (kind.Handle h) other = absurd (other h refl)
parts_in_slots es (kind.Record r) other = ap first_known (field_slots es r.fields)
parts_in_slots es kind.Resource other = refl
parts_in_slots es (kind.Flags f) other = refl
parts_in_slots es (kind.Tuple t) other = ap first_known (type_slots es t.types)
parts_in_slots es (kind.Variant v) other = case_slots es v.cases
parts_in_slots es (kind.Enum e) other = refl
parts_in_slots es (kind.Option t) other = refl
parts_in_slots es (kind.Result r) other = result_parts es r.ok r.err
parts_in_slots es (kind.List t) other = refl
parts_in_slots es (kind.Map key value) other = refl
parts_in_slots es (kind.FixedLengthList t size) other = refl
parts_in_slots es (kind.Future t) other = option_parts es t
parts_in_slots es (kind.Stream t) other = option_parts es t
parts_in_slots es (kind.Type_ t) other = refl
parts_in_slots es kind.Unknown other = refl

pub slots_determine : (es : List TypeDef) (k : TypeDefKind) → ((h : Handle) → k ≡ kind.Handle h → ⊥) → known (first_known (map (stability_at es) (kind_of k).1)) ≡ known (first_known (map (slot_stability es) (slots k)))
slots_determine es k other = ap known (parts_in_slots es k other)
