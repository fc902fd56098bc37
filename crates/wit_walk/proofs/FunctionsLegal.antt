-- A function in which the walk finds nothing breaks no rule.
use Rattle.std.proofs.Common.{◌≡◌, ◌⊎◌, ◌≤◌, ◌<◌, ℕ, zero, suc, List, [], ◌∷◌, ◌++◌, length, take, Option, Some, None, inl, inr, refl, sym, ap, ◌∙◌, subst, Contains, arith}
use Rattle.wit_syntax.proofs.Common.{Attribute, BrokenMetadata, BrokenTypes, ConstructorOfOther, ConstructorWithoutResult, Defined, DefinitionPart, DuplicateParam, ExternPart, Fault, Func, FunctionPart, GetterGiven, GetterWithoutResult, Id, IncludePart, IsBrokenFunction, IsConstructorOfOther, IsConstructorWithoutResult, IsGetterWithoutResult, IsSecond, IsSetterWithResult, Item, MissingInSignature, NamedFunc, Param, Part, ResourceFunc, ScopeName, SetterGiven, SetterWithResult, Shape, SourceFunction, SourceParam, Span, TypeBody, UsePart, Word, WorldSide, all_params, at_contains, at_split, bytes_eq, contains_at, definition_functions, extern_at, find_some, flat_map, flat_map_at, flat_map_has, free_function, functions, if◌then◌else◌, is_none, local_name, lower_case, map, map_at, meaning, name_itself, none-some, option_map, option_map_or, option_or, option_to_list, param_twice, part_functions, part_names, part_of_function, parts, resource_function, result_ok, scope_names, self_param, shape_of, side_function, signature, slice_get, slice_get_within, words, written_param, written_types, «Type» as Written}
use Rattle.wit_type_tree.specs.declared.leaves.Docs.{Docs as Comments}
use Rattle.wit_type_tree.specs.declared.types.ResourceFunc.TheVariants as resource
use Rattle.wit_type_tree.specs.declared.types.TypeBody.TheVariants as body
use Rattle.wit_type_tree.specs.declared.types.TypeDef.{TypeDef}
use Rattle.wit_first.specs.AttributeFaults.{metadata_fault}
use Rattle.wit_first.specs.First.{first_after, repeat_of}
use Rattle.wit_first.specs.FunctionFaults.{given_fault, result_fault}
use Rattle.wit_first.proofs.Bridge.{after_only, metadata_agree, or_none_both}
use Rattle.wit_first.proofs.First.{any_used}
use Rattle.wit_first.proofs.FunctionFaults.{given_agrees, gives_agrees, no_result_agrees}
use Rattle.wit_walk.specs.Functions.{lost_word, word_fault, signed_fault, param_fault, return_fault, function_fault}
use Rattle.wit_walk.proofs.FunctionFaults.{at_option, made, params_before}
use Rattle.wit_walk.proofs.TypesLegal.{single_is, type_legal, words_free}

-- each name in a shape means something
abbrev AreMeant : List ScopeName → Shape → Type 0
AreMeant xs x = (id : Id) → Contains (words x) id → meaning xs id.name.now ≡ None → ⊥

-- what is not written in a signature: at most one parameter is given, its names mean something, and so do those of a result that is not written
record IsGiven (xs : List ScopeName) (fn : SourceFunction) : Type 0 where
  pub few : length fn.given ≤ 1
  pub meant : (j : ℕ) (q : SourceParam) → slice_get fn.given j ≡ Some q → AreMeant xs q.shape
  pub result : (x : Shape) → fn.result ≡ Some x → ((t : Written) × (fn.func.result ≡ Some t) × (shape_of t ≡ x)) ⊎ AreMeant xs x

result_written : (o : Option Written) (x : Shape) → option_map shape_of o ≡ Some x → (t : Written) × (o ≡ Some t) × (shape_of t ≡ x)
result_written None x is = absurd (let f : ⊥ = cc in f)
result_written (Some t) x is = (t, refl, cc)

given_free : (xs : List ScopeName) (g : NamedFunc) → IsGiven xs (free_function g)
given_free xs g = record { few = omega arith; meant = λ j q at. absurd (let f : ⊥ = cc in f); result = λ x is. inl (result_written g.func.result x is) }

given_side : (xs : List ScopeName) (side : WorldSide) (docs : Comments) (attributes : List Attribute) (name : Id) (g : Func) → IsGiven xs (side_function side docs attributes name g)
given_side xs side docs attributes name g = record { few = omega arith; meant = λ j q at. absurd (let f : ⊥ = cc in f); result = λ x is. inl (result_written g.result x is) }

-- of a resource whose name means something
module _ (xs : List ScopeName) (r : Id) (known : meaning xs r.name.now ≡ None → ⊥) where
  word_meant : AreMeant xs (Word r)
  word_meant id h none = known (ap (λ (w : Id). meaning xs w.name.now) (single_is r id h) ∙ none)

  result_made : (o : Option Written) (x : Shape) → Some (option_map_or shape_of o (Word r)) ≡ Some x → ((t : Written) × (o ≡ Some t) × (shape_of t ≡ x)) ⊎ AreMeant xs x
  result_made None x is = inr (subst (AreMeant xs) (let same : Word r ≡ x = cc in same) word_meant)
  result_made (Some t) x is = inl (t, refl, cc)

  self_meant : (span : Span) (j : ℕ) (q : SourceParam) → slice_get (self_param r span ∷ []) j ≡ Some q → AreMeant xs q.shape
  self_meant span zero q at = (let same : self_param r span ≡ q = cc in subst (λ (p : SourceParam). AreMeant xs p.shape) same word_meant)
  self_meant span (suc j) q at = absurd (let f : ⊥ = cc in f)

  given_resource : (g : ResourceFunc) → IsGiven xs (resource_function r g)
  given_resource (resource.Method g) = record { few = omega arith; meant = self_meant g.func.span; result = λ x is. inl (result_written g.func.result x is) }
  given_resource (resource.Static g) = record { few = omega arith; meant = λ j q at. absurd (let f : ⊥ = cc in f); result = λ x is. inl (result_written g.func.result x is) }
  given_resource (resource.Constructor docs attributes span params result) = record { few = omega arith; meant = λ j q at. absurd (let f : ⊥ = cc in f); result = λ x is. result_made result x is }

  given_body : (b : TypeBody) (k : ℕ) (fn : SourceFunction) → slice_get (definition_functions r b) k ≡ Some fn → IsGiven xs fn
  given_body (body.Resource funcs) k fn at = (let g = map_at (resource_function r) funcs.items k fn at in subst (IsGiven xs) g.2 (given_resource g.0))
  given_body (body.Record span fields) k fn at = absurd (let f : ⊥ = cc in f)
  given_body (body.Flags span flags) k fn at = absurd (let f : ⊥ = cc in f)
  given_body (body.Variant span cases) k fn at = absurd (let f : ⊥ = cc in f)
  given_body (body.Enum span cases) k fn at = absurd (let f : ⊥ = cc in f)
  given_body (body.Plain t) k fn at = absurd (let f : ⊥ = cc in f)

-- the name of a definition of an item means something
defined_meant : (i : Item) (p : ℕ) (d : TypeDef) → slice_get (parts i) p ≡ Some (DefinitionPart d) → meaning (scope_names i) d.name.name.now ≡ None → ⊥
defined_meant i p d at none =
    let k = flat_map_has (part_names i.top) (parts i) p 0 (DefinitionPart d) (Defined d) at refl in
    let it = find_some (λ (x : ScopeName). bytes_eq (local_name x) d.name.name.now) (scope_names i) k.0 (Defined d) k.1 (name_itself d.name.name.now) in
    none-some it.0 (sym none ∙ it.1)

given_part : (i : Item) (p : ℕ) (part : Part) → slice_get (parts i) p ≡ Some part → (k : ℕ) (fn : SourceFunction) → slice_get (part_functions part) k ≡ Some fn → IsGiven (scope_names i) fn
given_part i p (DefinitionPart d) here k fn at = given_body (scope_names i) d.name (defined_meant i p d here) d.body k fn at
given_part i p (FunctionPart g) here zero fn at = (let same : free_function g ≡ fn = cc in subst (IsGiven (scope_names i)) same (given_free (scope_names i) g))
given_part i p (FunctionPart g) here (suc k) fn at = absurd (let f : ⊥ = cc in f)
given_part i p (ExternPart x) here k fn at = (let g = extern_at x x.kind k fn at in subst (IsGiven (scope_names i)) g.2 (given_side (scope_names i) x.side x.docs x.attributes.items g.0 g.1))
given_part i p (UsePart u) here k fn at = absurd (let f : ⊥ = cc in f)
given_part i p (IncludePart n) here k fn at = absurd (let f : ⊥ = cc in f)

given : (i : Item) (k : ℕ) (fn : SourceFunction) → slice_get (functions i) k ≡ Some fn → IsGiven (scope_names i) fn
given i k fn at = (let it = part_of_function i k fn at in given_part i it.0 it.1 it.2 it.3.0 fn it.3.1)

-- a name that means nothing has a fault
pub meant_none : (m : Option ScopeName) (lost : Fault) → (if is_none m then Some lost else None) ≡ None → m ≡ None → ⊥
meant_none None lost none is = (let f : ⊥ = cc in f)
meant_none (Some x) lost none is = (let f : ⊥ = cc in f)

abbrev key : SourceParam → List ℕ
key q = lower_case q.name

abbrev as_stated : SourceParam → Fault
as_stated q = param_twice q.name q.span

-- a function of an item without a fault, where these are the functions up to it, and this the fault of a name in a handle
module _ (i : Item) (k : ℕ) (fn : SourceFunction) (at : slice_get (functions i) k ≡ Some fn) (upto : List SourceFunction) (handle : Id → Option Fault)
    (none : function_fault (signed_fault (scope_names i) upto handle) (scope_names i) fn ≡ None) where
  abbrev xs : List ScopeName
  xs = scope_names i

  abbrev word : Id → Option Fault
  word = word_fault xs upto

  abbrev wrong : Written → Option Fault
  wrong = signed_fault xs upto handle

  abbrev ps : List Param
  ps = fn.func.params.items

  abbrev of_params : Option Fault
  of_params = first_after (param_fault wrong fn) [] ps

  abbrev of_result : Option Fault
  of_result = return_fault wrong xs fn fn.func.result

  apart : (metadata_fault fn.attributes ≡ None) × (given_fault fn ≡ None) × (of_params ≡ None) × (of_result ≡ None)
  apart =
      let one = or_none_both (metadata_fault fn.attributes) (option_or (given_fault fn) (option_or of_params of_result)) none in
      let two = or_none_both (given_fault fn) (option_or of_params of_result) one.1 in
      let three = or_none_both of_params of_result two.1 in
      (one.0, two.0, three.0, three.1)

  -- nothing is wrong with a parameter: no earlier one has its name, and its type is right
  param_none : (j : ℕ) (p : Param) → slice_get ps j ≡ Some p → (repeat_of key as_stated (fn.given ++ map written_param (take j ps)) (written_param p) ≡ None) × (wrong p.ty ≡ None)
  param_none j p there = or_none_both (repeat_of key as_stated (fn.given ++ map written_param (take j ps)) (written_param p)) (wrong p.ty) (after_only (param_fault wrong fn) [] ps apart.2 j p there)

  result_none : (t : Written) → fn.func.result ≡ Some t → (wrong t ≡ None) × (result_fault fn.func.form fn.role t (result_ok xs t) ≡ None)
  result_none t is = or_none_both (wrong t) (result_fault fn.func.form fn.role t (result_ok xs t)) (subst (λ (o : Option Written). return_fault wrong xs fn o ≡ None) is apart.3)

  pub type_none : (t : Written) → Contains (written_types fn) t → wrong t ≡ None
  type_none t among =
      let j = at_contains (written_types fn) t among in
      let ty = λ (p : Param). p.ty in
      elim (at_split (map ty ps) (option_to_list fn.func.result) j.0 t j.1) [
        | inl prefix ↦ (let p = map_at ty ps j.0 t prefix in ap wrong (sym p.2) ∙ (param_none j.0 p.0 p.1).1)
        | inr back ↦ (result_none t (at_option fn.func.result back.0 t back.2)).0
      ]

  word_in : (t : Written) → wrong t ≡ None → (id : Id) → Contains (words (shape_of t)) id → meaning xs id.name.now ≡ None → ⊥
  word_in t right id h = meant_none (meaning xs id.name.now) (lost_word upto id) (words_free word (λ (w : Id). option_or (word w) (handle w)) (λ w both. (or_none_both (word w) (handle w) both).0) t right id h)

  -- each name in the signature means something
  signature_meant : (id : Id) → Contains (flat_map words (signature fn)) id → meaning xs id.name.now ≡ None → ⊥
  signature_meant id h =
      let m = at_contains (flat_map words (signature fn)) id h in
      let it = flat_map_at words (signature fn) m.0 id m.1 in
      let x = it.1 in
      let inside = contains_at (words x) it.3.0 id it.3.1 in
      let shape = λ (q : SourceParam). q.shape in
      let own = given i k fn at in
      elim (at_split (map shape (all_params fn)) (option_to_list fn.result) it.0 x it.2) [
        | inl prefix ↦ (
            let q = map_at shape (all_params fn) it.0 x prefix in
            let there = subst (λ (y : Shape). Contains (words y) id) (sym q.2) inside in
            elim (at_split fn.given (map written_param ps) it.0 q.0 q.1) [
              | inl first ↦ own.meant it.0 q.0 first id there
              | inr later ↦ (
                  let p = map_at written_param ps later.0 q.0 later.2 in
                  word_in p.0.ty (param_none later.0 p.0 p.1).1 id (subst (λ (y : SourceParam). Contains (words y.shape) id) (sym p.2) there))
            ])
        | inr back ↦ elim (own.result x (at_option fn.result back.0 x back.2)) [
          | inl given_as ↦ word_in given_as.0 (result_none given_as.0 given_as.1).0 id (subst (λ (y : Shape). Contains (words y) id) (sym given_as.2) inside)
          | inr meant ↦ meant id inside
        ]
      ]

  -- no parameter has the name of an earlier one
  params_differ : (f : Fault) → IsSecond key as_stated (all_params fn) f → ⊥
  params_differ f s =
      let later = s.0 in
      let r = s.1 in
      let before = r.2 in
      elim (at_split fn.given (map written_param ps) r.1 later r.5) [
        | inl prefix ↦ (
            let few : length fn.given ≤ 1 = (given i k fn at).few in
            let lt : r.1 < length fn.given = slice_get_within fn.given r.1 later prefix in
            let g : ⊥ = omega arith in g)
        | inr back ↦ (
            let p = map_at written_param ps back.0 later back.2 in
            let here = (param_none back.0 p.0 p.1).0 in
            let prefix : take r.1 (all_params fn) ≡ fn.given ++ map written_param (take back.0 ps) = ap (λ (n : ℕ). take n (all_params fn)) back.1 ∙ params_before fn.given ps back.0 in
            let there : repeat_of key as_stated (take r.1 (all_params fn)) later ≡ None = subst (λ (q : SourceParam). repeat_of key as_stated (take r.1 (all_params fn)) q ≡ None) p.2 (subst (λ (l : List SourceParam). repeat_of key as_stated l (written_param p.0) ≡ None) (sym prefix) here) in
            let found = any_used (λ (q : SourceParam). bytes_eq (key q) (key later)) (all_params fn) r.1 r.0 r.3 before r.4 (ap (λ (n : List ℕ). bytes_eq n (key later)) r.6 ∙ name_itself (key later)) in
            let nothing : Some (as_stated later) ≡ None = rw found at there in
            let g : ⊥ = cc in g)
      ]

  -- nor is anything wrong with the result
  abbrev IsBrokenReturn : Fault → Type 0
  IsBrokenReturn f = IsSetterWithResult xs fn f ⊎ (IsConstructorWithoutResult xs fn f ⊎ IsConstructorOfOther xs fn f)

  return_right : (t : Written) → fn.func.result ≡ Some t → (f : Fault) → IsBrokenReturn f → ⊥
  return_right t is = (gives_agrees xs fn t is (made i k fn at).no_setter).unbroken (result_none t is).1

  getter_right : (f : Fault) → IsGetterWithoutResult fn f → ⊥
  getter_right f h = (no_result_agrees fn h.1).unbroken (subst (λ (o : Option Written). return_fault wrong xs fn o ≡ None) h.1 apart.3) f h

  pub function_legal : (f : Fault) → IsBrokenFunction xs (functions i) k fn f → ⊥
  function_legal f broken = elim broken [
    | BrokenMetadata h ↦ (metadata_agree fn.attributes).unbroken apart.0 f h
    | BrokenTypes h ↦ type_legal word (λ (w : Id). option_or (word w) (handle w)) h.0 f h.2 (type_none h.0 h.1)
    | MissingInSignature id among missing says ↦ signature_meant id among missing
    | GetterGiven h ↦ (given_agrees fn).unbroken apart.1 f (inl h)
    | SetterGiven h ↦ (given_agrees fn).unbroken apart.1 f (inr h)
    | DuplicateParam h ↦ params_differ f h
    | GetterWithoutResult h ↦ getter_right f h
    | SetterWithResult h ↦ return_right h.1 h.2 f (inl h)
    | ConstructorWithoutResult h ↦ return_right h.2 h.3 f (inr (inl h))
    | ConstructorOfOther h ↦ return_right h.2 h.3 f (inr (inr h))
  ]
