-- Written types that are resolved, one after another, and those that have them as parts.
use Rattle.std.proofs.Common.{◌≡◌, ℕ, List, [], ◌∷◌, ◌++◌, Option, Some, None, is_some, inl, refl, sym, ap, ◌∙◌, subst, Box}
use Rattle.wit_arena.proofs.Common.{Env, Fault, Form, FutureForm, Global, Id, IsAllocationFailure, IsAnonymousForm, IsInterned, IsNoHandle, ParseError, Required, Shape, Shapes, Span, Stability, StreamForm, TypeDef, TypeDefKind, all_handles, all_shapes, append-nil, boxed_types, env_of, handles, kind_of, part_types, resolved_none, shape_of, «Type» as Written}
use Rattle.wit_walk.proofs.Common.{Of, Reports, back_fault, fault_parts, in-append, none_both, or_none, prefix_fault, reports_back, reports_prefix, reports_same, first_in}
use Rattle.wit_type_tree.specs.declared.types.«Type».TheVariants as written
use Rattle.wit_types.specs.declared.types.«Type».{«Type» as Ty}
use Rattle.wit_types.specs.declared.types.«Type».TheVariants as type
use Rattle.wit_entries.specs.declared.types.Reading.{Reading}
use Rattle.wit_entries.specs.declared.types.Reading.TheVariants as reading
use Rattle.wit_entries.specs.EntryFaults.{handle_fault, lost_in, name_fault, written_fault, IsExtended, Resolved, Stopped}
use Rattle.wit_entries.specs.ResolvedForms.{AreParts, IsRead}
use Rattle.wit_entries.proofs.Faults.{types_extended, written_extended}
use Rattle.wit_entries.proofs.Reading.{types_then, whole_present}
use Rattle.wit_entries.proofs.Requiring.{extended_then, requires_extended, requires_none, requires_one, requires_parts, requires_types}
use Rattle.wit_entries.specs.declared.names.TypeScope.{TypeScope}

-- types were resolved, one after another, and one was read
abbrev pub ResolvedTypes : TypeScope → Stability → (old new : List TypeDef) → (before after : List Required) → List Written → List Ty → Type 0
ResolvedTypes scope given old new before after ts tys = Resolved (env_of scope.names.now) old new before after (all_handles ts) (first_in (written_fault (lost_in scope.functions) (env_of scope.names.now) new) ts) (AreParts old new (env_of scope.names.now) given (all_shapes ts) tys)

abbrev pub IsTypeRead : TypeScope → Stability → (old new : List TypeDef) → (before after : List Required) → Written → Reading → Type 0
IsTypeRead scope given old new before after t r = Resolved (env_of scope.names.now) old new before after (handles t) (written_fault (lost_in scope.functions) (env_of scope.names.now) new t) (IsRead old new (env_of scope.names.now) given (shape_of t) r)

-- nothing was added
pub extended_same : (es : List TypeDef) → IsExtended es es
extended_same es = record { more = []; is = sym (append-nil es) }

pub types_none : (scope : TypeScope) (given : Stability) (es : List TypeDef) (rs : List Required) → ResolvedTypes scope given es es rs rs [] []
types_none scope given es rs = record { made = λ s. resolved_none es s (env_of scope.names.now) given; handled = requires_none (env_of scope.names.now) es rs; extended = extended_same es; first = refl }

-- types, and then further ones
pub types_more : {old mid new : List TypeDef} {a b c : List Required} (scope : TypeScope) (given : Stability) (ts us : List Written) (tys uys : List Ty) → ResolvedTypes scope given old mid a b ts tys → ResolvedTypes scope given mid new b c us uys → ResolvedTypes scope given old new a c (ts ++ us) (tys ++ uys)
types_more {old} {mid} {new} {a} {b} {c} scope given ts us tys uys p q = record {
  made = types_then given ts us p.made q.made;
  handled = requires_types (env_of scope.names.now) mid new ts us a b c q.extended p.handled q.handled;
  extended = extended_then old mid new p.extended q.extended;
  first = in-append (written_fault (lost_in scope.functions) (env_of scope.names.now) new) ts us ∙ none_both (types_extended (lost_in scope.functions) (env_of scope.names.now) mid new ts q.extended p.first) q.first;
}

-- or the first fault of these, or of any after them
pub types_stop : {old mid new : List TypeDef} {a b : List Required} {e : ParseError} (scope : TypeScope) (given : Stability) (ts us more : List Written) (tys : List Ty) → ResolvedTypes scope given old mid a b ts tys → Stopped mid new (first_in (written_fault (lost_in scope.functions) (env_of scope.names.now) new) us) e → Stopped old new (first_in (written_fault (lost_in scope.functions) (env_of scope.names.now) new) (ts ++ (us ++ more))) e
types_stop {old} {mid} {new} scope given ts us more tys p q =
    let wrong = written_fault (lost_in scope.functions) (env_of scope.names.now) new in
    record {
      extended = extended_then old mid new p.extended q.extended;
      first = reports_same (sym (in-append wrong ts (us ++ more))) (reports_back (types_extended (lost_in scope.functions) (env_of scope.names.now) mid new ts q.extended p.first) (reports_same (sym (in-append wrong us more)) (reports_prefix (first_in (written_fault (lost_in scope.functions) (env_of scope.names.now) new) more) q.first)));
    }

-- or an allocation failed
pub memory_stopped : {old mid new : List TypeDef} {wrong : Option Fault} {e : ParseError} → IsExtended old mid → IsExtended mid new → IsAllocationFailure e → Stopped old new wrong e
memory_stopped {old} {mid} {new} p q memory = record { extended = extended_then old mid new p q; first = inl memory }

-- a type that was read, as one by itself
pub one_read : {old new : List TypeDef} {a b : List Required} (scope : TypeScope) (given : Stability) (t : Written) (ty : Ty) → IsTypeRead scope given old new a b t (reading.Leaf ty) → ResolvedTypes scope given old new a b (t ∷ []) (ty ∷ [])
one_read {old} {new} {a} {b} scope given t ty p = record {
  made = p.made.1;
  handled = requires_one (env_of scope.names.now) new t a b p.handled;
  extended = p.extended;
  first = or_none (written_fault (lost_in scope.functions) (env_of scope.names.now) new t) ∙ p.first;
}

pub one_interned : {old mid new : List TypeDef} {a b : List Required} (scope : TypeScope) (given : Stability) (t : Written) (k : TypeDefKind) (span : Span) (i : ℕ) → IsTypeRead scope given old mid a b t (reading.Form k span) → IsInterned mid new k given span i → IsExtended mid new → ResolvedTypes scope given old new a b (t ∷ []) (type.Id i ∷ [])
one_interned {old} {mid} {new} {a} {b} scope given t k span i p interned more = record {
  made = whole_present old mid new (env_of scope.names.now) given (shape_of t) k span i p.made interned;
  handled = requires_one (env_of scope.names.now) new t a b (requires_extended (env_of scope.names.now) mid new (handles t) a b more p.handled);
  extended = extended_then old mid new p.extended more;
  first = or_none (written_fault (lost_in scope.functions) (env_of scope.names.now) new t) ∙ written_extended (lost_in scope.functions) (env_of scope.names.now) mid new t more p.first;
}

pub one_stopped : {old new : List TypeDef} {e : ParseError} (lost : Id → Fault) (env : Env) (t : Written) → Stopped old new (written_fault lost env new t) e → Stopped old new (first_in (written_fault lost env new) (t ∷ [])) e
one_stopped {old} {new} lost env t p = record { extended = p.extended; first = reports_same (sym (or_none (written_fault lost env new t))) p.first }

-- the faults of a type before its parts
abbrev pub before_parts : (Id → Fault) → Env → List TypeDef → Written → Option Fault
before_parts lost env es t = prefix_fault (name_fault lost env) (handle_fault lost env es) t

-- a form is read once its parts are resolved, where these and what is before and after them are right
pub parts_read : {old new : List TypeDef} {a b : List Required} (scope : TypeScope) (given : Stability) (whole : Written) (k : TypeDefKind) (span : Span) (form : Form) (inner : Shapes) (ts : List Written) → IsNoHandle whole → shape_of whole ≡ Of span form inner → (kind_of k).0 ≡ form → IsAnonymousForm form → inner ≡ all_shapes ts → part_types whole ≡ ts → before_parts (lost_in scope.functions) (env_of scope.names.now) new whole ≡ None → back_fault whole ≡ None → ResolvedTypes scope given old new a b ts (kind_of k).1 → IsTypeRead scope given old new a b whole (reading.Form k span)
parts_read {old} {new} {a} {b} scope given whole k span form inner ts other shape named anonymous same parts before back p = record {
  made = subst (λ (x : Shape). IsRead old new (env_of scope.names.now) given x (reading.Form k span)) (sym shape) (refl, named, anonymous, subst (λ (xs : Shapes). AreParts old new (env_of scope.names.now) given xs (kind_of k).1) (sym same) p.made);
  handled = requires_parts (env_of scope.names.now) new whole ts a b other parts p.handled;
  extended = p.extended;
  first = fault_parts (name_fault (lost_in scope.functions) (env_of scope.names.now)) (handle_fault (lost_in scope.functions) (env_of scope.names.now) new) whole ∙ none_both before (none_both (ap (first_in (written_fault (lost_in scope.functions) (env_of scope.names.now) new)) parts ∙ p.first) back);
}

-- or one of them is wrong, or what is after them
pub part_stopped : {old mid new : List TypeDef} {a b : List Required} {e : ParseError} (scope : TypeScope) (given : Stability) (whole : Written) (ts us more : List Written) (tys : List Ty) → part_types whole ≡ ts ++ (us ++ more) → before_parts (lost_in scope.functions) (env_of scope.names.now) new whole ≡ None → ResolvedTypes scope given old mid a b ts tys → Stopped mid new (first_in (written_fault (lost_in scope.functions) (env_of scope.names.now) new) us) e → Stopped old new (written_fault (lost_in scope.functions) (env_of scope.names.now) new whole) e
part_stopped {old} {mid} {new} scope given whole ts us more tys parts before p q =
    let it = types_stop scope given ts us more tys p q in
    record {
      extended = it.extended;
      first = reports_same (sym (fault_parts (name_fault (lost_in scope.functions) (env_of scope.names.now)) (handle_fault (lost_in scope.functions) (env_of scope.names.now) new) whole)) (reports_back before (reports_prefix (back_fault whole) (reports_same (ap (first_in (written_fault (lost_in scope.functions) (env_of scope.names.now) new)) (sym parts)) it.first)));
    }

pub back_stopped : {old new : List TypeDef} {a b : List Required} {e : ParseError} (scope : TypeScope) (given : Stability) (whole : Written) (ts : List Written) (tys : List Ty) → part_types whole ≡ ts → before_parts (lost_in scope.functions) (env_of scope.names.now) new whole ≡ None → ResolvedTypes scope given old new a b ts tys → Reports (back_fault whole) e → Stopped old new (written_fault (lost_in scope.functions) (env_of scope.names.now) new whole) e
back_stopped {old} {new} scope given whole ts tys parts before p report = record {
  extended = p.extended;
  first = reports_same (sym (fault_parts (name_fault (lost_in scope.functions) (env_of scope.names.now)) (handle_fault (lost_in scope.functions) (env_of scope.names.now) new) whole)) (reports_back before (reports_back (ap (first_in (written_fault (lost_in scope.functions) (env_of scope.names.now) new)) parts ∙ p.first) report));
}

-- the shapes of those whose part may not be written
pub future_shape : (span : Span) (t : Option (Box Written Global)) → shape_of (written.Future span t) ≡ Of span (FutureForm (is_some t)) (all_shapes (boxed_types t))
future_shape span None = refl
future_shape span (Some t) = refl

pub stream_shape : (span : Span) (t : Option (Box Written Global)) → shape_of (written.Stream span t) ≡ Of span (StreamForm (is_some t)) (all_shapes (boxed_types t))
stream_shape span None = refl
stream_shape span (Some t) = refl
