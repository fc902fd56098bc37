-- Arenas that grow, and what handles require, one after another.
use Rattle.std.proofs.Common.{◌≡◌, ℕ, suc, List, [], ◌∷◌, ◌++◌, Some, inl, inr, refl, sym, ap, ◌∙◌, subst, append_assoc}
use Rattle.wit_arena.proofs.Common.{AreEnded, Env, Id, IsNoHandle, IsResource, IsUnknown, Required, TypeDef, all_handles, all_handles-append, append-nil, ended_append, ended_more, handles, handles-parts, part_types, «Type» as Written}
use Rattle.wit_entries.specs.EntryFaults.{end_in, IsExtended, Requires}

pub extended_then : (old mid new : List TypeDef) → IsExtended old mid → IsExtended mid new → IsExtended old new
extended_then old mid new p q = record { more = p.more ++ q.more; is = q.is ∙ ap (λ (l : List TypeDef). l ++ q.more) p.is ∙ append_assoc old p.more q.more }

-- nothing is required
pub requires_none : (env : Env) (es : List TypeDef) (rs : List Required) → Requires env es [] rs rs
requires_none env es rs = record { list = []; added = sym (append-nil rs); ended = refl }

-- by one name, which ends at a resource, or at an unknown type
pub requires_resource : (env : Env) (es : List TypeDef) (id : Id) (place : ℕ) (rs : List Required) → env id.name.now ≡ Some place → end_in es place ≡ Some IsResource → Requires env es (id ∷ []) rs rs
requires_resource env es id place rs present is = record { list = []; added = sym (append-nil rs); ended = (place, suc (suc place), present, inl (is, refl)) }

pub requires_unknown : (env : Env) (es : List TypeDef) (id : Id) (place unknown : ℕ) (a b : List Required) → env id.name.now ≡ Some place → end_in es place ≡ Some (IsUnknown unknown) → b ≡ a ++ (unknown, id.span) ∷ [] → Requires env es (id ∷ []) a b
requires_unknown env es id place unknown a b present is pushed = record { list = (unknown, id.span) ∷ []; added = pushed; ended = (place, suc (suc place), present, inr (unknown, [], is, refl, refl)) }

-- in a grown arena
pub requires_extended : (env : Env) (es new : List TypeDef) (ids : List Id) (a b : List Required) → IsExtended es new → Requires env es ids a b → Requires env new ids a b
requires_extended env es new ids a b g p = record {
  list = p.list;
  added = p.added;
  ended = subst (λ (l : List TypeDef). AreEnded env l ids p.list) (sym g.is) (ended_more env env es g.more ids p.list (λ name i present. present) p.ended);
}

-- by names, and then by further ones
pub requires_then : (env : Env) (mid new : List TypeDef) (ids more : List Id) (a b c : List Required) → IsExtended mid new → Requires env mid ids a b → Requires env new more b c → Requires env new (ids ++ more) a c
requires_then env mid new ids more a b c g p q =
    let first = requires_extended env mid new ids a b g p in
    record {
      list = first.list ++ q.list;
      added = q.added ∙ ap (λ (l : List Required). l ++ q.list) first.added ∙ append_assoc a first.list q.list;
      ended = ended_append env new ids more first.list q.list first.ended q.ended;
    }

-- by types, and then by further ones
pub requires_types : (env : Env) (mid new : List TypeDef) (ts us : List Written) (a b c : List Required) → IsExtended mid new → Requires env mid (all_handles ts) a b → Requires env new (all_handles us) b c → Requires env new (all_handles (ts ++ us)) a c
requires_types env mid new ts us a b c g p q = subst (λ (l : List Id). Requires env new l a c) (sym (all_handles-append ts us)) (requires_then env mid new (all_handles ts) (all_handles us) a b c g p q)

-- by one type
pub requires_one : (env : Env) (es : List TypeDef) (t : Written) (a b : List Required) → Requires env es (handles t) a b → Requires env es (all_handles (t ∷ [])) a b
requires_one env es t a b p = subst (λ (l : List Id). Requires env es l a b) (sym (append-nil (handles t))) p

-- by the parts of a type that is no handle
pub requires_parts : (env : Env) (es : List TypeDef) (whole : Written) (ts : List Written) (a b : List Required) → IsNoHandle whole → part_types whole ≡ ts → Requires env es (all_handles ts) a b → Requires env es (handles whole) a b
requires_parts env es whole ts a b other same p = subst (λ (l : List Id). Requires env es l a b) (sym (handles-parts whole other ∙ ap all_handles same)) p
