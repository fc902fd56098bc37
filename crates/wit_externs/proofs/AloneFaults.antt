-- The first fault of functions where nothing else is on the sides of a scope: names again, and tests of names in handles in an arena that grows.
use Rattle.std.proofs.Common.{◌≡◌, ℕ, true, false, List, [], ◌∷◌, ◌++◌, map, take, Option, Some, None, Result, Ok, Err, inl, inr, refl, sym, ap, ◌∙◌, ◌+◌}
use Rattle.wit_arena.proofs.Common.{Env, Fault, Id, IfErr, OnOk, ParseError, Refused, ScopeName, SourceFunction, SourceParam, Span, TypeDef, any_found, bytes_eq, false_from_ne_true, find-only, folded_key, if◌then◌else◌, is_none, list_any, lower_case, missing_type_at, name_equal, name_itself, option_map, option_or, param_twice, result_ok, slice_get, take_next, written_param, «Type» as Written, option_map_or, clash, codes, fault_in}
use Rattle.wit_walk.proofs.Common.{Finds, Param, Reports, after_kept, find_none, first_after, function_fault, given_fault, lost_word, metadata_fault, none_both, or_none_both, param_fault, repeat_of, result_fault, return_fault, type_fault, type_kept}
use mathlib.Core.Path.{fun_ext}
use Rattle.wit_type_tree.specs.declared.types.«Type».TheVariants as written
use Rattle.wit_refusals.specs.NameScopes.{Name, AreUsed, IsDefinedAgain}
use Rattle.wit_entries.specs.EntryFaults.{handle_fault, name_fault, written_fault, IsExtended, end_fault, end_in}
use Rattle.wit_entries.proofs.Faults.{written_extended}
use Rattle.wit_signatures.specs.FunctionsOfScope.{name_key}
use Rattle.wit_externs.specs.Clash.{EndsIn, IsSafe, again_fault, signed_by}

-- of a name in a signature, by the functions up to that one: what it means in a scope
abbrev pub words_in : Env → List SourceFunction → Id → Option Fault
words_in env fns id = name_fault (lost_word fns) env id

-- one of these names has the key of a name
abbrev pub again : Name → Name → Fault
again earlier later = fault_in 17 later.1 (clash (codes "name") earlier.0 later.0)

-- a name that is defined again, and one that is not
pub again_report : (names : List Name) (name : List ℕ) (span : Span) (e : ParseError) → Refused (IsDefinedAgain names name span) e → Reports (again_fault names (name, span)) e
again_report names name span e h = elim h [
  | inl memory ↦ inl memory
  | inr twice ↦ (
      let old = twice.in_use in
      let test = λ (m : Name). bytes_eq (name_key m) (name_key (name, span)) in
      let same : test old.earlier ≡ true = ap (λ (k : List ℕ). bytes_eq k (folded_key name)) old.same ∙ name_itself (folded_key name) in
      let found = find-only test names old.place old.earlier old.at same (λ i n at passes. twice.only i n at (name_equal (name_key n) (name_key (name, span)) passes)) in
      inr (ap (option_map (λ (m : Name). again m (name, span))) found ∙ ap Some (sym twice.is)))
]

pub again_free : (names : List Name) (name : List ℕ) (span : Span) → (AreUsed names name → ⊥) → again_fault names (name, span) ≡ None
again_free names name span free =
    let test = λ (m : Name). bytes_eq (name_key m) (name_key (name, span)) in
    let miss : list_any test names ≡ false = false_from_ne_true (list_any test names) (λ hit. (
    let it = any_found test names hit in
    free (record { place = it.0; earlier = it.1; at = it.2; same = name_equal (name_key it.1) (name_key (name, span)) it.3 }))) in
    ap (option_map (λ (m : Name). again m (name, span))) (find_none test names miss)

pub again_by : {T : Type 0} (r : Result T ParseError) (names : List Name) (name : List ℕ) (span : Span) → OnOk r (AreUsed names name → ⊥) → IfErr r (Refused (IsDefinedAgain names name span)) → Finds (again_fault names (name, span)) r
again_by (Ok x) names name span free refused = again_free names name span free
again_by (Err e) names name span free refused = again_report names name span e refused

-- a test that is right of an arena finds nothing where the end of a name in it is right
pub safe_of : (env : Env) (es : List TypeDef) (handle : Id → Option Fault) → EndsIn env es handle → IsSafe env es handle
safe_of env es handle ends id place present none = ends id place present ∙ none

-- so it was before the arena grew, and with fewer names
pub safe_arena : (env : Env) (old new : List TypeDef) (handle : Id → Option Fault) → IsExtended old new → IsSafe env new handle → IsSafe env old handle
safe_arena env old new handle g safe id place present none = safe id place present (written_extended missing_type_at (λ name. Some place) old new (written.Own id.span id) g none)

pub safe_names : (env env' : Env) (es : List TypeDef) (handle : Id → Option Fault) → ((name : List ℕ) (i : ℕ) → env name ≡ Some i → env' name ≡ Some i) → IsSafe env' es handle → IsSafe env es handle
safe_names env env' es handle keep safe id place present none = safe id place (keep id.name.now place present) none

-- a function in which nothing is wrong by one test of types, and so by another
module _ (wrong wrong' : Written → Option Fault) (kept : (t : Written) → wrong t ≡ None → wrong' t ≡ None) (xs : List ScopeName) (fn : SourceFunction) where
  return_kept : (t : Option Written) → return_fault wrong xs fn t ≡ None → return_fault wrong' xs fn t ≡ None
  return_kept None h = h
  return_kept (Some t) h =
      let all = or_none_both (wrong t) (result_fault fn.func.form fn.role t (result_ok xs t)) h in
      none_both (kept t all.0) all.1

  abbrev given_repeat : List Param → Param → Option Fault
  given_repeat before p = repeat_of (λ (q : SourceParam). lower_case q.name) (λ (q : SourceParam). param_twice q.name q.span) (fn.given ++ map written_param before) (written_param p)

  param_kept : (before : List Param) (p : Param) → param_fault wrong fn before p ≡ None → param_fault wrong' fn before p ≡ None
  param_kept before p h =
      let all = or_none_both (given_repeat before p) (wrong p.ty) h in
      none_both all.0 (kept p.ty all.1)

  function_kept : function_fault wrong xs fn ≡ None → function_fault wrong' xs fn ≡ None
  function_kept h =
      let params = first_after (param_fault wrong fn) [] fn.func.params.items in
      let returns = return_fault wrong xs fn fn.func.result in
      let a = or_none_both (metadata_fault fn.attributes) (option_or (given_fault fn) (option_or params returns)) h in
      let b = or_none_both (given_fault fn) (option_or params returns) a.1 in
      let c = or_none_both params returns b.1 in
      none_both a.0 (none_both b.0 (none_both (after_kept (param_fault wrong fn) (param_fault wrong' fn) param_kept [] fn.func.params.items c.0) (return_kept fn.func.result c.1)))

module _ (env : Env) (es : List TypeDef) (handle : Id → Option Fault) (xs : List ScopeName) where
  -- a name in a handle, in a signature
  signed_handle : (lost : Id → Fault) → EndsIn env es handle → (id : Id) → handle_fault lost env es id ≡ option_or (name_fault lost env id) (handle id)
  signed_handle lost ends id = by (env id.name.now) refl
    where
      by : (o : Option ℕ) → env id.name.now ≡ o → option_map_or (λ (place : ℕ). end_fault id (end_in es place)) o (Some (lost id)) ≡ option_or (if is_none o then Some (lost id) else None) (handle id)
      by None free = refl
      by (Some place) present = sym (ends id place present)

  signed_safe : (lost : Id → Fault) → IsSafe env es handle → (id : Id) → handle_fault lost env es id ≡ None → option_or (name_fault lost env id) (handle id) ≡ None
  signed_safe lost safe id h = by (env id.name.now) refl h
    where
      by : (o : Option ℕ) → env id.name.now ≡ o → option_map_or (λ (place : ℕ). end_fault id (end_in es place)) o (Some (lost id)) ≡ None → option_or (if is_none o then Some (lost id) else None) (handle id) ≡ None
      by None free none = none
      by (Some place) present none = safe id place present none

  -- the fault of a function by an arena, and by a test that is right of it
  pub function_same : EndsIn env es handle → (fns : List SourceFunction) (k : ℕ) (fn : SourceFunction) → slice_get fns k ≡ Some fn → function_fault (written_fault (lost_word (take (k + 1) fns)) env es) xs fn ≡ function_fault (signed_by (words_in env) handle (take k fns ++ fn ∷ [])) xs fn
  function_same ends fns k fn at =
      let lost = lost_word (take (k + 1) fns) in
      let handles : handle_fault lost env es ≡ (λ (id : Id). option_or (name_fault lost env id) (handle id)) = fun_ext (signed_handle lost ends) in
      ap (λ (h : Id → Option Fault). function_fault (type_fault (name_fault lost env) h) xs fn) handles
      ∙ ap (λ (l : List SourceFunction). function_fault (signed_by (words_in env) handle l) xs fn) (take_next fns k fn at)

  pub function_safe : IsSafe env es handle → (fns : List SourceFunction) (k : ℕ) (fn : SourceFunction) → slice_get fns k ≡ Some fn → function_fault (written_fault (lost_word (take (k + 1) fns)) env es) xs fn ≡ None → function_fault (signed_by (words_in env) handle (take k fns ++ fn ∷ [])) xs fn ≡ None
  function_safe safe fns k fn at none =
      let lost = lost_word (take (k + 1) fns) in
      let wrong = type_fault (name_fault lost env) (handle_fault lost env es) in
      ap (λ (l : List SourceFunction). function_fault (signed_by (words_in env) handle l) xs fn) (sym (take_next fns k fn at))
      ∙ function_kept wrong (signed_by (words_in env) handle (take (k + 1) fns)) (type_kept (name_fault lost env) (handle_fault lost env es) (name_fault lost env) (λ (id : Id). option_or (name_fault lost env id) (handle id)) (λ id h. h) (signed_safe lost safe)) xs fn none
