-- What the first fault of a function of an item breaks.
use Rattle.std.proofs.Common.{◌≡◌, ◌⊎◌, ◌+◌, ℕ, zero, suc, true, false, List, [], ◌∷◌, ◌++◌, length, take, Option, Some, None, inl, inr, refl, sym, ap, ◌∙◌, subst, append_assoc, length-append, Contains, arith}
use Rattle.wit_syntax.proofs.Common.{Attribute, BrokenMetadata, BrokenTypes, Constructor, ConstructorOfOther, ConstructorWithoutResult, Contains-append_left, Contains-append_right, DefinitionPart, DuplicateParam, Extern, ExternKind, ExternPart, Fault, Freestanding, Func, FuncForm, Function, FunctionPart, GetterGiven, GetterWithoutResult, Id, IncludePart, IsBroken, IsBrokenFunction, IsConstructorOfOther, IsConstructorWithoutResult, IsEntered, IsGetterGiven, IsNoType, IsSetterGiven, IsSetterWithResult, Item, Method, MissingInSignature, NamedFunc, OfFunction, OfNothing, OnSide, PackageFile, Param, Part, ResourceFunc, Role, Scope, SetterGiven, SetterWithResult, SourceFunction, SourceParam, Static, TypeBody, UsePart, Word, WorldSide, address, all_params, all_scopes, any_found, at_back, at_contains, at_prefix, at_split, bytes_eq, cases_Bool, contains_at, definition_functions, extern_functions, flat_map, flat_map_has, free_function, function_as_type, functions, item_types, list_any, lower_case, map, map_at, meaning, missing_at, name_equal, name_itself, name_types, name_word, option_map, option_map_or, option_or, option_to_list, param_twice, part_functions, part_of_function, resource_function, result_ok, scope, scope_names, shape_of, side_function, signature, slice_get, slice_get-map, slice_get_within, take-append-add, take-map, words, written_param, written_types, «Type» as Written}
use Rattle.wit_type_tree.specs.declared.leaves.Docs.{Docs as Comments}
use Rattle.wit_type_tree.specs.declared.types.FuncForm.TheVariants as form
use Rattle.wit_type_tree.specs.declared.types.ResourceFunc.TheVariants as resource
use Rattle.wit_type_tree.specs.declared.types.TypeBody.TheVariants as body
use Rattle.wit_tree.specs.declared.tree.ExternKind.TheVariants as extern
use Rattle.wit_first.specs.AttributeFaults.{metadata_fault}
use Rattle.wit_first.specs.First.{first_after, repeat_of}
use Rattle.wit_first.specs.FunctionFaults.{given_fault, result_fault}
use Rattle.wit_first.proofs.Bridge.{after_some, metadata_agree, or_some}
use Rattle.wit_first.proofs.First.{any_some}
use Rattle.wit_first.proofs.FunctionFaults.{given_agrees, gives_agrees, no_result_agrees}
use Rattle.wit_first.proofs.Repeats.{repeat_second}
use Rattle.wit_walk.specs.Definitions.{handle_fault}
use Rattle.wit_walk.specs.Functions.{is_free, lost_word, word_fault, signed_fault, param_fault, return_fault, function_fault}
use Rattle.wit_walk.proofs.ScopeFaults.{handle_broken, if_false, if_true, unmeant}
use Rattle.wit_walk.proofs.TypeFaults.{type_wrong}

-- a function of an item: the type that is written as its result has the shape of that, and a constructor is no setter
pub record IsMade (fn : SourceFunction) : Type 0 where
  pub written : (t : Written) → fn.func.result ≡ Some t → fn.result ≡ Some (shape_of t)
  pub no_setter : (of : Id) → fn.role ≡ Constructor of → fn.func.form ≡ form.Setter → ⊥

made_free : (g : NamedFunc) → IsMade (free_function g)
made_free g = record { written = λ t is. ap (option_map shape_of) is; no_setter = λ of is. (let f : ⊥ = cc in absurd f) }

made_resource : (r : Id) (g : ResourceFunc) → IsMade (resource_function r g)
made_resource r (resource.Method g) = record { written = λ t is. ap (option_map shape_of) is; no_setter = λ of is. (let f : ⊥ = cc in absurd f) }
made_resource r (resource.Static g) = record { written = λ t is. ap (option_map shape_of) is; no_setter = λ of is. (let f : ⊥ = cc in absurd f) }
made_resource r (resource.Constructor docs attributes span params result) = record { written = λ t is. ap (λ (o : Option Written). Some (option_map_or shape_of o (Word r))) is; no_setter = λ of role setter. (let f : ⊥ = cc in f) }

made_side : (side : WorldSide) (docs : Comments) (attributes : List Attribute) (name : Id) (g : Func) → IsMade (side_function side docs attributes name g)
made_side side docs attributes name g = record { written = λ t is. ap (option_map shape_of) is; no_setter = λ of is. (let f : ⊥ = cc in absurd f) }

made_body : (r : Id) (b : TypeBody) (k : ℕ) (fn : SourceFunction) → slice_get (definition_functions r b) k ≡ Some fn → IsMade fn
made_body r (body.Resource funcs) k fn at = (let g = map_at (resource_function r) funcs.items k fn at in subst IsMade g.2 (made_resource r g.0))
made_body r (body.Record span fields) k fn at = absurd (let f : ⊥ = cc in f)
made_body r (body.Flags span flags) k fn at = absurd (let f : ⊥ = cc in f)
made_body r (body.Variant span cases) k fn at = absurd (let f : ⊥ = cc in f)
made_body r (body.Enum span cases) k fn at = absurd (let f : ⊥ = cc in f)
made_body r (body.Plain t) k fn at = absurd (let f : ⊥ = cc in f)

made_extern : (x : Extern) (kind : ExternKind) (k : ℕ) (fn : SourceFunction) → slice_get (extern_functions x kind) k ≡ Some fn → IsMade fn
made_extern x (extern.Func name g) zero fn at = (let same : side_function x.side x.docs x.attributes.items name g ≡ fn = cc in subst IsMade same (made_side x.side x.docs x.attributes.items name g))
made_extern x (extern.Func name g) (suc k) fn at = absurd (let f : ⊥ = cc in f)
made_extern x (extern.Interface name items) k fn at = absurd (let f : ⊥ = cc in f)
made_extern x (extern.Path path) k fn at = absurd (let f : ⊥ = cc in f)
made_extern x (extern.NamedPath name path) k fn at = absurd (let f : ⊥ = cc in f)

made_part : (p : Part) (k : ℕ) (fn : SourceFunction) → slice_get (part_functions p) k ≡ Some fn → IsMade fn
made_part (DefinitionPart d) k fn at = made_body d.name d.body k fn at
made_part (FunctionPart g) zero fn at = (let same : free_function g ≡ fn = cc in subst IsMade same (made_free g))
made_part (FunctionPart g) (suc k) fn at = absurd (let f : ⊥ = cc in f)
made_part (ExternPart x) k fn at = made_extern x x.kind k fn at
made_part (UsePart u) k fn at = absurd (let f : ⊥ = cc in f)
made_part (IncludePart n) k fn at = absurd (let f : ⊥ = cc in f)

pub made : (i : Item) (k : ℕ) (fn : SourceFunction) → slice_get (functions i) k ≡ Some fn → IsMade fn
made i k fn at = (let it = part_of_function i k fn at in made_part it.1 it.3.0 fn it.3.1)

-- a written type is in the signature
pub at_option : {X : Type 0} (o : Option X) (k : ℕ) (x : X) → slice_get (option_to_list o) k ≡ Some x → o ≡ Some x
at_option None k x at = absurd (let f : ⊥ = cc in f)
at_option (Some y) zero x at = at
at_option (Some y) (suc k) x at = absurd (let f : ⊥ = cc in f)

option_has : {X : Type 0} (o : Option X) (x : X) → o ≡ Some x → slice_get (option_to_list o) 0 ≡ Some x
option_has o x is = rw is refl

shape_at : (fn : SourceFunction) (k : ℕ) (t : Written) → IsMade fn → slice_get (written_types fn) k ≡ Some t → (j : ℕ) × (slice_get (signature fn) j ≡ Some (shape_of t))
shape_at fn k t m at =
    let ps = fn.func.params.items in
    let ty = λ (p : Param). p.ty in
    let shape = λ (p : SourceParam). p.shape in
    let shapes = map shape (all_params fn) in
    elim (at_split (map ty ps) (option_to_list fn.func.result) k t at) [
      | inl prefix ↦ (
          let p = map_at ty ps k t prefix in
          let own : slice_get (map written_param ps) k ≡ Some (written_param p.0) = slice_get-map written_param ps k ∙ ap (option_map written_param) p.1 in
          let all : slice_get shapes (length fn.given + k) ≡ Some (shape_of t) = slice_get-map shape (all_params fn) (length fn.given + k) ∙ ap (option_map shape) (at_back fn.given (map written_param ps) k (written_param p.0) own) ∙ ap (λ (u : Written). Some (shape_of u)) p.2 in
          (length fn.given + k, at_prefix shapes (option_to_list fn.result) (length fn.given + k) (shape_of t) all))
      | inr back ↦ (
          let there = option_has fn.result (shape_of t) (m.written t (at_option fn.func.result back.0 t back.2)) in
          (length shapes + 0, at_back shapes (option_to_list fn.result) 0 (shape_of t) there))
    ]

word_signed : (fn : SourceFunction) (t : Written) (id : Id) → IsMade fn → Contains (written_types fn) t → Contains (words (shape_of t)) id → Contains (flat_map words (signature fn)) id
word_signed fn t id m among word =
    let k = at_contains (written_types fn) t among in
    let j = shape_at fn k.0 t m k.1 in
    let i = at_contains (words (shape_of t)) id word in
    let found = flat_map_has words (signature fn) j.0 i.0 (shape_of t) id j.1 i.1 in
    contains_at (flat_map words (signature fn)) found.0 id found.1

-- the parameters before a written one
pub params_before : (given : List SourceParam) (ps : List Param) (i : ℕ) → take (length given + i) (given ++ map written_param ps) ≡ given ++ map written_param (take i ps)
params_before given ps i = take-append-add given (map written_param ps) i ∙ ap (λ (l : List SourceParam). given ++ l) (take-map written_param i ps)

pub param_at : (given : List SourceParam) (ps : List Param) (i : ℕ) (p : Param) → slice_get ps i ≡ Some p → slice_get (given ++ map written_param ps) (length given + i) ≡ Some (written_param p)
param_at given ps i p at = at_back given (map written_param ps) i (written_param p) (slice_get-map written_param ps i ∙ ap (option_map written_param) at)

-- a name is that of a function of an interface
free_is : (name : List ℕ) (r : Role) → is_free name r ≡ true → (id : Id) × (form : FuncForm) × (r ≡ Freestanding id form) × (id.name.now ≡ name)
free_is name (Freestanding id form) h = (id, form, refl, name_equal id.name.now name h)
free_is name (Method of form) h = absurd (let f : ⊥ = cc in f)
free_is name (Static of form) h = absurd (let f : ⊥ = cc in f)
free_is name (Constructor of) h = absurd (let f : ⊥ = cc in f)
free_is name (OnSide side id form) h = absurd (let f : ⊥ = cc in f)

-- the functions up to one, among all
module _ (prefix rest all : List SourceFunction) (fn : SourceFunction) (split : all ≡ prefix ++ fn ∷ rest) where
  abbrev upto : List SourceFunction
  upto = prefix ++ fn ∷ []

  whole : all ≡ upto ++ rest
  whole = split ∙ sym (append_assoc prefix (fn ∷ []) rest)

  pub fn_at : slice_get all (length prefix + 0) ≡ Some fn
  fn_at = ap (λ (l : List SourceFunction). slice_get l (length prefix + 0)) split ∙ at_back prefix (fn ∷ rest) 0 fn refl

  long : length upto ≡ length prefix + 1
  long = length-append prefix (fn ∷ [])

  entered : (name : List ℕ) → list_any (λ (g : SourceFunction). is_free name g.role) upto ≡ true → IsEntered all (length prefix + 0) name
  entered name h =
      let it = any_found (λ (g : SourceFunction). is_free name g.role) upto h in
      let lt = slice_get_within upto it.0 it.1 it.2 in
      let is = free_is name it.1.role it.3 in
      (it.0, omega (arith, lt, long), it.1, ap (λ (l : List SourceFunction). slice_get l it.0) whole ∙ at_prefix upto rest it.0 it.1 it.2, is.0, is.1, is.2, is.3)

  among_upto : (name : List ℕ) → IsEntered all (length prefix + 0) name → list_any (λ (g : SourceFunction). is_free name g.role) upto ≡ true
  among_upto name (place, le, g, at, id, form, role, called) =
      let passes : is_free name g.role ≡ true = ap (is_free name) role ∙ ap (λ n. bytes_eq n name) called ∙ name_itself name in
      elim (at_split upto rest place g (ap (λ (l : List SourceFunction). slice_get l place) (sym whole) ∙ at)) [
        | inl own ↦ any_some (λ (h : SourceFunction). is_free name h.role) upto place g own passes
        | inr far ↦ absurd (let there = far.1 in let f : ⊥ = omega (arith, le, long, there) in f)
      ]

  pub lost_is : (id : Id) (f : Fault) → f ≡ lost_word upto id → IsNoType (IsEntered all (length prefix + 0) id.name.now) (function_as_type id) (missing_at 29 name_word id) f
  lost_is id f is = elim (cases_Bool (list_any (λ (g : SourceFunction). is_free id.name.now g.role) upto)) [
    | inl hit ↦ OfFunction (entered id.name.now hit) (is ∙ if_true (list_any (λ (g : SourceFunction). is_free id.name.now g.role) upto) (function_as_type id) (missing_at 29 name_word id) hit)
    | inr miss ↦ OfNothing (λ e. (let wrong : false ≡ true = sym miss ∙ among_upto id.name.now e in let g : ⊥ = cc in g)) (is ∙ if_false (list_any (λ (g : SourceFunction). is_free id.name.now g.role) upto) (function_as_type id) (missing_at 29 name_word id) miss)
  ]

-- a function of a scope among all
module _ (files : List PackageFile) (i : Item) (among : Contains (all_scopes files) i) (meant : scope files (address i) ≡ scope_names i) (n : ℕ)
    (prefix rest : List SourceFunction) (fn : SourceFunction) (split : functions i ≡ prefix ++ fn ∷ rest) where
  abbrev fn_here : slice_get (functions i) (length prefix + 0) ≡ Some fn
  fn_here = fn_at prefix rest (functions i) fn split

  abbrev ps : List Param
  ps = fn.func.params.items

  abbrev types : List Written
  types = map (λ (p : Param). p.ty) ps

  abbrev handle : Id → Option Fault
  handle = handle_fault files n (address i)

  abbrev word : Id → Option Fault
  word = word_fault (scope_names i) (prefix ++ fn ∷ [])

  abbrev wrong : Written → Option Fault
  wrong = signed_fault (scope_names i) (prefix ++ fn ∷ []) handle

  broken : (f : Fault) → IsBrokenFunction (scope_names i) (functions i) (length prefix + 0) fn f → IsBroken files f
  broken f b = Scope i among (Function (length prefix + 0) fn fn_here b)

  word_broken : (t : Written) (id : Id) (f : Fault) → Contains (written_types fn) t → Contains (words (shape_of t)) id → word id ≡ Some f → IsBroken files f
  word_broken t id f has inside h =
      let it = unmeant (meaning (scope_names i) id.name.now) (lost_word (prefix ++ fn ∷ []) id) f h in
      broken f (MissingInSignature id (word_signed fn t id (made i (length prefix + 0) fn fn_here) has inside) it.0 (lost_is prefix rest (functions i) fn split id f it.1))

  type_among : (t : Written) → Contains (written_types fn) t → Contains (item_types i) t
  type_among t has =
      let j = at_contains (written_types fn) t has in
      let it = flat_map_has written_types (functions i) (length prefix + 0) j.0 fn t fn_here j.1 in
      Contains-append_right (flat_map name_types (scope_names i)) (flat_map written_types (functions i)) t (contains_at (flat_map written_types (functions i)) it.0 t it.1)

  type_broken : (t : Written) (f : Fault) → Contains (written_types fn) t → wrong t ≡ Some f → IsBroken files f
  type_broken t f has h = elim (type_wrong word (λ (id : Id). option_or (word id) (handle id)) t f h) [
    | inl own ↦ broken f (BrokenTypes (t, has, own))
    | inr name ↦ elim name [
      | inl lost ↦ word_broken t lost.id f has lost.among lost.is
      | inr it ↦ elim (or_some (word it.id) (handle it.id) f it.is) [
        | inl lost ↦ word_broken t it.id f has it.too lost
        | inr far ↦ handle_broken files i among meant n t f (type_among t has) (record { id = it.id; among = it.among; too = it.too; is = far.1 })
      ]
    ]
  ]

  abbrev as_stated : SourceParam → Fault
  as_stated q = param_twice q.name q.span

  abbrev key : SourceParam → List ℕ
  key q = lower_case q.name

  params_broken : (f : Fault) → first_after (param_fault wrong fn) [] ps ≡ Some f → IsBroken files f
  params_broken f h =
      let it = after_some (param_fault wrong fn) [] ps f h in
      let before = fn.given ++ map written_param (take it.0 ps) in
      elim (or_some (repeat_of key as_stated before (written_param it.1)) (wrong it.1.ty) f it.3) [
        | inl twice ↦ (
            let there = subst (λ (l : List SourceParam). repeat_of key as_stated l (written_param it.1) ≡ Some f) (sym (params_before fn.given ps it.0)) twice in
            broken f (DuplicateParam (repeat_second key as_stated (all_params fn) (length fn.given + it.0) (written_param it.1) f (param_at fn.given ps it.0 it.1 it.2) there)))
        | inr later ↦ (
            let own : slice_get types it.0 ≡ Some it.1.ty = slice_get-map (λ (p : Param). p.ty) ps it.0 ∙ ap (option_map (λ (p : Param). p.ty)) it.2 in
            let has = Contains-append_left types (option_to_list fn.func.result) it.1.ty (contains_at types it.0 it.1.ty own) in
            type_broken it.1.ty f has later.1)
      ]

  gives_broken : (f : Fault) → IsSetterWithResult (scope_names i) fn f ⊎ (IsConstructorWithoutResult (scope_names i) fn f ⊎ IsConstructorOfOther (scope_names i) fn f) → IsBroken files f
  gives_broken f (inl setter) = broken f (SetterWithResult setter)
  gives_broken f (inr (inl none)) = broken f (ConstructorWithoutResult none)
  gives_broken f (inr (inr other)) = broken f (ConstructorOfOther other)

  result_broken : (f : Fault) (o : Option Written) → fn.func.result ≡ o → return_fault wrong (scope_names i) fn o ≡ Some f → IsBroken files f
  result_broken f None is h = broken f (GetterWithoutResult ((no_result_agrees fn is).broken f h))
  result_broken f (Some t) is h = elim (or_some (wrong t) (result_fault fn.func.form fn.role t (result_ok (scope_names i) t)) f h) [
    | inl own ↦ (
        let has = Contains-append_right types (option_to_list fn.func.result) t (contains_at (option_to_list fn.func.result) 0 t (option_has fn.func.result t is)) in
        type_broken t f has own)
    | inr later ↦ gives_broken f ((gives_agrees (scope_names i) fn t is (made i (length prefix + 0) fn fn_here).no_setter).broken f later.1)
  ]

  given_broken : (f : Fault) → IsGetterGiven fn f ⊎ IsSetterGiven fn f → IsBroken files f
  given_broken f (inl getter) = broken f (GetterGiven getter)
  given_broken f (inr setter) = broken f (SetterGiven setter)

  pub function_broken : (f : Fault) → function_fault wrong (scope_names i) fn ≡ Some f → IsBroken files f
  function_broken f h =
      let params = first_after (param_fault wrong fn) [] ps in
      let result = return_fault wrong (scope_names i) fn fn.func.result in
      elim (or_some (metadata_fault fn.attributes) (option_or (given_fault fn) (option_or params result)) f h) [
        | inl metadata ↦ broken f (BrokenMetadata ((metadata_agree fn.attributes).broken f metadata))
        | inr later ↦ elim (or_some (given_fault fn) (option_or params result) f later.1) [
          | inl given ↦ given_broken f ((given_agrees fn).broken f given)
          | inr rest ↦ elim (or_some params result f rest.1) [
            | inl own ↦ params_broken f own
            | inr last ↦ result_broken f fn.func.result refl last.1
          ]
        ]
      ]
