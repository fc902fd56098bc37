-- Written types without a fault in an arena that grows.
use Rattle.std.proofs.Common.{◌≡◌, ℕ, suc, List, [], ◌∷◌, ◌++◌, take, Option, Some, None, refl, sym, ap, ◌∙◌, Vec}
use Rattle.wit_arena.proofs.Common.{Env, Fault, Global, Id, IsOther, Span, TypeBody, TypeDef, body_types, entry_end, entry_end-same, found_end, option_or, slice_get, slice_get_within, «Type» as Written, option_map_or}
use Rattle.wit_type_tree.specs.declared.types.«Type».TheVariants as written
use Rattle.wit_walk.proofs.Common.{empty_fault, list_fault, none_both, or_none_both, tuple_fault, type_kept, first_in}
use Rattle.wit_entries.specs.EntryFaults.{end_in, name_fault, end_fault, handle_fault, written_fault, IsExtended}

-- a name in a handle ends at a resource, or at a type of another package: so it does in a grown arena
end_extended : (es more : List TypeDef) (id : Id) (place : ℕ) (o : Option TypeDef) → slice_get es place ≡ o → end_fault id (end_in es place) ≡ None → end_fault id (end_in (es ++ more) place) ≡ None
end_extended es more id place None none h = absurd (
    let other : end_in es place ≡ Some IsOther = ap (found_end (entry_end (suc place) (take place es)) place) none in
    let wrong : end_fault id (Some IsOther) ≡ None = ap (end_fault id) (sym other) ∙ h in
    let f : ⊥ = cc in f)
end_extended es more id place (Some x) at h = ap (end_fault id) (entry_end-same (suc (suc place)) es more place (slice_get_within es place x at)) ∙ h

handled_extended : (lost : Id → Fault) (es more : List TypeDef) (id : Id) (o : Option ℕ) → option_map_or (λ (place : ℕ). end_fault id (end_in es place)) o (Some (lost id)) ≡ None → option_map_or (λ (place : ℕ). end_fault id (end_in (es ++ more) place)) o (Some (lost id)) ≡ None
handled_extended lost es more id None h = h
handled_extended lost es more id (Some place) h = end_extended es more id place (slice_get es place) refl h

handle_extended : (lost : Id → Fault) (env : Env) (old new : List TypeDef) → IsExtended old new → (id : Id) → handle_fault lost env old id ≡ None → handle_fault lost env new id ≡ None
handle_extended lost env old new g id h = rw g.is (handled_extended lost old g.more id (env id.name.now) h)

pub written_extended : (lost : Id → Fault) (env : Env) (old new : List TypeDef) (t : Written) → IsExtended old new → written_fault lost env old t ≡ None → written_fault lost env new t ≡ None
written_extended lost env old new t g h = type_kept (name_fault lost env) (handle_fault lost env old) (name_fault lost env) (handle_fault lost env new) (λ id none. none) (handle_extended lost env old new g) t h

pub types_extended : (lost : Id → Fault) (env : Env) (old new : List TypeDef) (ts : List Written) → IsExtended old new → first_in (written_fault lost env old) ts ≡ None → first_in (written_fault lost env new) ts ≡ None
types_extended lost env old new [] g h = refl
types_extended lost env old new (t ∷ ts) g h =
    let all = or_none_both (written_fault lost env old t) (first_in (written_fault lost env old) ts) h in
    none_both (written_extended lost env old new t g all.0) (types_extended lost env old new ts g all.1)

pub body_extended : (lost : Id → Fault) (env : Env) (old new : List TypeDef) (b : TypeBody) → IsExtended old new → option_or (list_fault b) (first_in (written_fault lost env old) (body_types b)) ≡ None → option_or (list_fault b) (first_in (written_fault lost env new) (body_types b)) ≡ None
body_extended lost env old new b g h =
    let all = or_none_both (list_fault b) (first_in (written_fault lost env old) (body_types b)) h in
    none_both all.0 (types_extended lost env old new (body_types b) g all.1)

-- a tuple, by the list of its types
pub tuple_first : (lost : Id → Fault) (env : Env) (es : List TypeDef) (span : Span) (v : Vec Written Global) → written_fault lost env es (written.Tuple span v) ≡ option_or (empty_fault 22 v.items span) (first_in (written_fault lost env es) v.items)
tuple_first lost env es span v = tuple_fault (name_fault lost env) (handle_fault lost env es) span v
