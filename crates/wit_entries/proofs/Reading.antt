-- Written types whose parts are resolved: as they are in a type, and under a name.
use Rattle.std.proofs.Common.{◌≡◌, ℕ, List, [], ◌∷◌, ◌++◌, Some, refl, sym, ap, subst}
use Rattle.wit_arena.proofs.Common.{AliasForm, Def, Env, Id as Name, IsAnonymousForm, IsInterned, Shape, Span, Stability, TypeDef, TypeDefKind, Word, head, shape_of, «Type» as Written, Plain, body_of, all_shapes}
use Rattle.wit_walk.proofs.Common.{Of, Prim, one}
use Rattle.wit_syntax.specs.Shape.{Body}
use Rattle.wit_types.specs.declared.types.«Type».{«Type» as Ty}
use Rattle.wit_types.specs.declared.types.«Type».TheVariants.{Id}
use Rattle.wit_type_tree.specs.declared.types.«Type».TheVariants as written
use Rattle.wit_arena.proofs.Occurrence.{only_anonymous}
use Rattle.wit_arena.proofs.Resolving.{all_shapes-append, resolved_more, resolved_whole}
use Rattle.wit_entries.specs.declared.types.Reading.{Reading}
use Rattle.wit_entries.specs.declared.types.Reading.TheVariants as reading
use Rattle.wit_entries.specs.ResolvedForms.{AreParts, IsKindOf, IsLeaf, IsRead, named_kind}

-- the type of a name
pub resolved_word : (es : List TypeDef) (env : Env) (given : Stability) (id : Name) (i : ℕ) → env id.name.now ≡ Some i → AreParts es es env given (one (Word id)) (Id i ∷ [])
resolved_word es env given id i found s = record { from = λ decls ms m names. record { now = ms; collects = refl; occurrence = m; holds = λ at gives. ap (λ (n : ℕ). Id n ∷ []) (sym (gives.at i (Def s id.name.now) (names.present id.name.now i found))) } }

-- the type of a form, once it is interned
pub whole_present : (old mid new : List TypeDef) (env : Env) (given : Stability) (x : Shape) (k : TypeDefKind) (span : Span) (i : ℕ) → IsRead old mid env given x (reading.Form k span) → IsInterned mid new k given span i → AreParts old new env given (one x) (Id i ∷ [])
whole_present old mid new env given (Prim p) k span i form interned s = absurd form
whole_present old mid new env given (Word id) k span i form interned s = absurd form
whole_present old mid new env given (Of at f parts) k span i form interned s =
    rw (form.0, ← form.1) (resolved_whole k given span i (only_anonymous k (subst IsAnonymousForm (sym form.1) form.2)) (form.3 s) interned)

pub types_then : {old mid new : List TypeDef} {env : Env} {tys uys : List Ty} (given : Stability) (ts us : List Written) → AreParts old mid env given (all_shapes ts) tys → AreParts mid new env given (all_shapes us) uys → AreParts old new env given (all_shapes (ts ++ us)) (tys ++ uys)
types_then given ts us p q s = rw (all_shapes-append ts us) (resolved_more (p s) (q s))

leaf_head : (x : Shape) → IsLeaf x → head x ≡ record { form = AliasForm; parts = one x }
leaf_head (Prim p) leaf = refl
leaf_head (Word id) leaf = refl
leaf_head (Of span form parts) leaf = absurd leaf

-- under a name it is the kind of the head
pub read_kind : (old new : List TypeDef) (env : Env) (given : Stability) (x : Shape) (r : Reading) → IsRead old new env given x r → IsKindOf old new env given (head x) (named_kind r)
read_kind old new env given x (reading.Leaf t) read = rw (leaf_head x read.0) (record { form = refl; parts = read.1 })
read_kind old new env given (Prim p) (reading.Form k span) read = absurd read
read_kind old new env given (Word id) (reading.Form k span) read = absurd read
read_kind old new env given (Of at form parts) (reading.Form k span) read = record { form = read.1; parts = read.3 }

-- a resource that is handed over
abbrev pub IsOwn : Written → Type 0
IsOwn (written.Own span id) = Unit {0}
IsOwn t = ⊥

-- every other type than one that is handed over is under a name as it does by itself
plain_body : (t : Written) → (IsOwn t → ⊥) → body_of (Plain t) ≡ head (shape_of t)
plain_body (written.Own span id) other = absurd (other tt)
plain_body t other = refl

pub plain_kind : (old new : List TypeDef) (env : Env) (given : Stability) (t : Written) (r : Reading) → (IsOwn t → ⊥) → IsRead old new env given (shape_of t) r → IsKindOf old new env given (body_of (Plain t)) (named_kind r)
plain_kind old new env given t r other read = subst (λ (b : Body). IsKindOf old new env given b (named_kind r)) (sym (plain_body t other)) (read_kind old new env given (shape_of t) r read)
