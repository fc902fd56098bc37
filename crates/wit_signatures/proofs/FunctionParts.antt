-- Parameters and results over their types, one after the other.
use Rattle.std.proofs.Common.{◌≡◌, ◌≤◌, ℕ, List, [], ◌∷◌, ◌++◌, length, map, Option, Some, None, refl, sym, ap, ◌∙◌, subst, arith, append_assoc}
use Rattle.wit_arena.proofs.Common.{Address, AreShapes, Env, Id, IsInterned, Param, ResourceFunc, Shape, SourceParam, Span, TypeDef, Unknown, map-append, resource_function, self_param, shapes_append, resolved_none, written_param, «Type» as Written, length-map, all_shapes, Word, option_map, option_map_or, shape_of}
use Rattle.wit_arena.proofs.PlacingFunctions.{as_written, said}
use Rattle.wit_walk.proofs.Common.{Param as WrittenParam}
use Rattle.wit_type_tree.specs.declared.types.ResourceFunc.TheVariants as resource
use Rattle.wit_types.specs.declared.types.«Type».{«Type» as Ty}
use Rattle.wit_types.specs.declared.types.«Type».TheVariants as type
use Rattle.wit_types.specs.declared.types.TypeDefKind.TheVariants as kind
use Rattle.wit_types.specs.declared.types.Handle.TheVariants as handle
use Rattle.wit_rules.specs.declared.borrowed.BorrowedFunction.{BorrowedFunction}
use Rattle.wit_rules.specs.declared.borrowed.BorrowedFunction.TheVariants as borrowed
use Rattle.wit_rules.specs.Signatures.{function_view, given_of, made_of, AreParamsOver, IsResultOver}
use Rattle.wit_entries.specs.ResolvedForms.{AreParts}
use Rattle.wit_entries.proofs.Reading.{resolved_word, whole_present}
use Rattle.wit_signatures.proofs.SignatureTypes.{result_shape}

params_none : (es : List TypeDef) (env : Env) → AreParamsOver es es env [] []
params_none es env = record { says = refl; types = λ s. resolved_none es s env Unknown }

params_one : (old new : List TypeDef) (env : Env) (w : SourceParam) (p : Param) → p.name ≡ w.name → p.span ≡ w.span → ((s : Address) → AreShapes old new s env (w.shape ∷ []) (p.ty ∷ [])) → AreParamsOver old new env (w ∷ []) (p ∷ [])
params_one old new env w p name span is = record { says = cc (name, span); types = is }

-- there are as many parameters as written ones
pub params_count : (old new : List TypeDef) (env : Env) (ws : List SourceParam) (ps : List Param) → AreParamsOver old new env ws ps → length ps ≡ length ws
params_count old new env ws ps h = sym (length-map ps said) ∙ ap length h.says ∙ length-map ws as_written

params_append : (old mid new : List TypeDef) (env : Env) (ws vs : List SourceParam) (ps qs : List Param) → AreParamsOver old mid env ws ps → AreParamsOver mid new env vs qs → AreParamsOver old new env (ws ++ vs) (ps ++ qs)
params_append old mid new env ws vs ps qs p q = record {
  says = map-append said ps qs ∙ ap (λ (l : List (List ℕ × Span)). l ++ map said qs) p.says ∙ ap (λ (l : List (List ℕ × Span)). map as_written ws ++ l) q.says ∙ sym (map-append as_written ws vs);
  types = λ s. subst (λ (ts : List Ty). AreShapes old new s env (map (λ (w : SourceParam). w.shape) (ws ++ vs)) ts) (sym (map-append (λ (p : Param). p.ty) ps qs))
      (subst (λ (xs : List Shape). AreShapes old new s env xs (map (λ (p : Param). p.ty) ps ++ map (λ (p : Param). p.ty) qs)) (sym (map-append (λ (w : SourceParam). w.shape) ws vs))
      (shapes_append old mid new s env (map (λ (w : SourceParam). w.shape) ws) (map (λ (w : SourceParam). w.shape) vs) (map (λ (p : Param). p.ty) ps) (map (λ (p : Param). p.ty) qs) (p.types s) (q.types s)));
}

-- one more of the written ones
pub params_more : (first mid new : List TypeDef) (env : Env) (ws : List SourceParam) (done all : List WrittenParam) (item : WrittenParam) (ps qs : List Param) (p : Param) (ty : Ty) → all ≡ done ++ item ∷ [] → qs ≡ ps ++ p ∷ [] → (p.name ≡ item.name.name.now) × (p.span ≡ item.name.span) × (p.ty ≡ ty) → AreParts mid new env Unknown (all_shapes (item.ty ∷ [])) (ty ∷ []) → AreParamsOver first mid env (ws ++ map written_param done) ps → AreParamsOver first new env (ws ++ map written_param all) qs
params_more first mid new env ws done all item ps qs p ty in_use pushed says is h =
    let w = written_param item in
    let one = params_one mid new env w p says.0 says.1 (λ s. subst (λ (x : Ty). AreShapes mid new s env (w.shape ∷ []) (x ∷ [])) (sym says.2) (is s)) in
    let both = params_append first mid new env (ws ++ map written_param done) (w ∷ []) ps (p ∷ []) h one in
    let written : (ws ++ map written_param done) ++ w ∷ [] ≡ ws ++ map written_param all = append_assoc ws (map written_param done) (w ∷ []) ∙ ap (λ (l : List SourceParam). ws ++ l) (sym (map-append written_param done (item ∷ []))) ∙ ap (λ (l : List WrittenParam). ws ++ map written_param l) (sym in_use) in
    subst (AreParamsOver first new env (ws ++ map written_param all)) (sym pushed) (subst (λ (l : List SourceParam). AreParamsOver first new env l (ps ++ p ∷ [])) written both)

-- the type of a method's first parameter, once it is interned
pub self_over : (old new : List TypeDef) (env : Env) (r : Id) (word : Span) (place i : ℕ) (p : Param) → env r.name.now ≡ Some place → IsInterned old new (kind.Handle (handle.Borrow place)) Unknown word i → p.name ≡ (self_param r word).name → p.span ≡ (self_param r word).span → p.ty ≡ type.Id i → AreParamsOver old new env (self_param r word ∷ []) (p ∷ [])
self_over old new env r word place i p found interned name span same =
    let is = whole_present old old new env Unknown (self_param r word).shape (kind.Handle (handle.Borrow place)) word i (refl, refl, tt, resolved_word old env Unknown r place found) interned in
    params_one old new env (self_param r word) p name span (λ s. subst (λ (x : Ty). AreShapes old new s env ((self_param r word).shape ∷ []) (x ∷ [])) (sym same) (is s))

-- a written result means a type
pub result_view : (old new : List TypeDef) (env : Env) (h : BorrowedFunction) (t : Written) (ty : Ty) → (function_view h).func.result ≡ Some t → AreParts old new env Unknown (all_shapes (t ∷ [])) (ty ∷ []) → IsResultOver old new env (function_view h).result (Some ty)
result_view old new env h t ty written is = subst (λ (x : Option Shape). IsResultOver old new env x (Some ty)) (sym (result_shape h t written)) (record { types = is })

-- a constructor without a written result makes its resource
made_shape : (h : BorrowedFunction) (r : Id) → (function_view h).func.result ≡ None → made_of (function_view h).role ≡ Some r → (function_view h).result ≡ Some (Word r)
made_shape (borrowed.Free f) r none is = absurd (let x : ⊥ = cc in x)
made_shape (borrowed.Across side docs attributes name f) r none is = absurd (let x : ⊥ = cc in x)
made_shape (borrowed.Of of f) r none is = by f.now none is
  where
    by : (g : ResourceFunc) → (resource_function of g).func.result ≡ None → made_of (resource_function of g).role ≡ Some r → (resource_function of g).result ≡ Some (Word r)
    by (resource.Method m) none is = absurd (let x : ⊥ = cc in x)
    by (resource.Static m) none is = absurd (let x : ⊥ = cc in x)
    by (resource.Constructor docs attributes span params result) none is = ap (λ (o : Option Written). Some (option_map_or shape_of o (Word of))) none ∙ ap (option_map Word) is

pub made_view : (es : List TypeDef) (env : Env) (h : BorrowedFunction) (r : Id) (place : ℕ) → (function_view h).func.result ≡ None → made_of (function_view h).role ≡ Some r → env r.name.now ≡ Some place → IsResultOver es es env (function_view h).result (Some (type.Id place))
made_view es env h r place none is found = subst (λ (x : Option Shape). IsResultOver es es env x (Some (type.Id place))) (sym (made_shape h r none is)) (record { types = resolved_word es env Unknown r place found })

-- a method is given its resource, and no other function is given anything
given_resource : (h : BorrowedFunction) (r : Id) → given_of (function_view h).role ≡ Some r → (function_view h).given ≡ self_param r (function_view h).func.span ∷ []
given_resource (borrowed.Free f) r is = absurd (let x : ⊥ = cc in x)
given_resource (borrowed.Across side docs attributes name f) r is = absurd (let x : ⊥ = cc in x)
given_resource (borrowed.Of of f) r is = by f.now is
  where
    by : (g : ResourceFunc) → given_of (resource_function of g).role ≡ Some r → (resource_function of g).given ≡ self_param r (resource_function of g).func.span ∷ []
    by (resource.Method m) is = let same : of ≡ r = cc in ap (λ (x : Id). self_param x m.func.span ∷ []) same
    by (resource.Static m) is = absurd (let x : ⊥ = cc in x)
    by (resource.Constructor docs attributes span params result) is = absurd (let x : ⊥ = cc in x)

given_nothing : (h : BorrowedFunction) → given_of (function_view h).role ≡ None → (function_view h).given ≡ []
given_nothing (borrowed.Free f) is = refl
given_nothing (borrowed.Across side docs attributes name f) is = refl
given_nothing (borrowed.Of of f) is = by f.now is
  where
    by : (g : ResourceFunc) → given_of (resource_function of g).role ≡ None → (resource_function of g).given ≡ []
    by (resource.Method m) is = absurd (let x : ⊥ = cc in x)
    by (resource.Static m) is = refl
    by (resource.Constructor docs attributes span params result) is = refl

pub given_one : (old new : List TypeDef) (env : Env) (h : BorrowedFunction) (r : Id) (word : Span) (p : Param) (before ps : List Param) → given_of (function_view h).role ≡ Some r → word ≡ (function_view h).func.span → before ≡ [] → ps ≡ before ++ p ∷ [] → AreParamsOver old new env (self_param r word ∷ []) (p ∷ []) → AreParamsOver old new env (function_view h).given ps
given_one old new env h r word p before ps given there empty pushed one =
    let only : ps ≡ p ∷ [] = pushed ∙ ap (λ (l : List Param). l ++ p ∷ []) empty in
    let written : self_param r word ∷ [] ≡ (function_view h).given = ap (λ (at : Span). self_param r at ∷ []) there ∙ sym (given_resource h r given) in
    subst (AreParamsOver old new env (function_view h).given) (sym only) (subst (λ (l : List SourceParam). AreParamsOver old new env l (p ∷ [])) written one)

pub given_none : (es : List TypeDef) (env : Env) (h : BorrowedFunction) (ps : List Param) → given_of (function_view h).role ≡ None → ps ≡ [] → AreParamsOver es es env (function_view h).given ps
given_none es env h ps given empty = subst (AreParamsOver es es env (function_view h).given) (sym empty) (subst (λ (l : List SourceParam). AreParamsOver es es env l []) (sym (given_nothing h given)) (params_none es env))

-- a function is given one parameter at most
pub given_few : (h : BorrowedFunction) → length (function_view h).given ≤ 1
given_few (borrowed.Free f) = omega arith
given_few (borrowed.Across side docs attributes name f) = omega arith
given_few (borrowed.Of r f) = few f.now
  where
    few : (g : ResourceFunc) → length (resource_function r g).given ≤ 1
    few (resource.Method f) = omega arith
    few (resource.Static f) = omega arith
    few (resource.Constructor docs attributes span params result) = omega arith
