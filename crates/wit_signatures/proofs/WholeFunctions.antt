-- A function over its types, from its parameters and its result.
use Rattle.std.proofs.Common.{◌≡◌, ◌<◌, ℕ, List, [], ◌∷◌, length, map, Some, sym, ap, ◌∙◌, subst, Option, IsSome, refl}
use Rattle.wit_arena.proofs.Common.{Address, AddsFunctions, AreMetadata, Function, Names, Param, SourceFunction, SourceParam, TypeDef, all_params, docs_of, env_of, function_one, get_or, metadata, option_map, option_to_list, same_Some, shapes_append, slice_get, slice_get-get_or, slice_get-map, Constructor, Env, Id, Method, Role, Static, kinds_of, role_kind, some_of, unwrap_or}
use Rattle.wit_functions.specs.declared.function.FunctionKind.TheVariants as kind
use Rattle.wit_rules.specs.declared.borrowed.BorrowedFunction.{BorrowedFunction}
use Rattle.wit_rules.specs.Signatures.{function_view, AreParamsOver, IsResultOver, HasOwner, owner_of}

-- the function at a place is the one that is borrowed there
pub borrowed_here : (hs : List BorrowedFunction) (place : ℕ) (d : BorrowedFunction) → place < length hs → slice_get (map function_view hs) place ≡ Some (function_view (get_or hs place d))
borrowed_here hs place d lt = slice_get-map function_view hs place ∙ ap (option_map function_view) (slice_get-get_or hs place d lt)

pub borrowed_at : (hs : List BorrowedFunction) (place : ℕ) (d : BorrowedFunction) (fn : SourceFunction) → place < length hs → slice_get (map function_view hs) place ≡ Some fn → function_view (get_or hs place d) ≡ fn
borrowed_at hs place d fn lt at = same_Some (function_view (get_or hs place d)) fn (sym (borrowed_here hs place d lt) ∙ at)

-- the kind of a function, over whatever places the names of a scope mean
module _ (env : Env) (place : Id → ℕ) (gives : (of : Id) (r : ℕ) → env of.name.now ≡ Some r → place of ≡ r) where
  same_place : (of : Id) → IsSome (env of.name.now) → unwrap_or (env of.name.now) 0 ≡ place of
  same_place of some = (let r = some_of (env of.name.now) some in ap (λ (o : Option ℕ). unwrap_or o 0) r.1 ∙ sym (gives of r.0 r.1))

  kind_over : (role : Role) → HasOwner env (owner_of role) → role_kind (λ of. unwrap_or (env of.name.now) 0) role ≡ role_kind place role
  kind_over (Method of form) some = ap (kinds_of form).method (same_place of some)
  kind_over (Static of form) some = ap (kinds_of form).static (same_place of some)
  kind_over (Constructor of) some = ap kind.Constructor (same_place of some)
  kind_over _ some = refl

-- a function over its parameters and its result
function_adds : (old mid new : List TypeDef) (s : Address) (names : Names) (fn : SourceFunction) (f : Function) → AreParamsOver old mid (env_of names) (all_params fn) f.params → IsResultOver mid new (env_of names) fn.result f.result → f.name ≡ fn.name → HasOwner (env_of names) (owner_of fn.role) → f.kind ≡ role_kind (λ of. unwrap_or (env_of names of.name.now) 0) fn.role → f.span ≡ fn.span → AreMetadata (metadata (docs_of fn.docs) fn.attributes) f.docs f.stability f.external_id → AddsFunctions old new s names (fn ∷ []) (f ∷ [])
function_adds old mid new s names fn f params result name has kind span noted =
    function_one old new s names fn f (record { name = name; kind = λ place gives. kind ∙ kind_over (env_of names) place gives fn.role has; params = params.says; span = span; metadata = noted })
    (shapes_append old mid new s (env_of names) (map (λ (p : SourceParam). p.shape) (all_params fn)) (option_to_list fn.result) (map (λ (p : Param). p.ty) f.params) (option_to_list f.result) (params.types s) (result.types s))

-- the same of one that is borrowed
pub borrowed_adds : (old mid new : List TypeDef) (s : Address) (names : Names) (here fn : SourceFunction) (f : Function) → here ≡ fn → AreParamsOver old mid (env_of names) (all_params here) f.params → IsResultOver mid new (env_of names) here.result f.result → f.name ≡ here.name → HasOwner (env_of names) (owner_of here.role) → f.kind ≡ role_kind (λ of. unwrap_or (env_of names of.name.now) 0) here.role → f.span ≡ here.span → AreMetadata (metadata (docs_of here.docs) here.attributes) f.docs f.stability f.external_id → AddsFunctions old new s names (fn ∷ []) (f ∷ [])
borrowed_adds old mid new s names here fn f same params result name has kind span noted =
    subst (λ (g : SourceFunction). AddsFunctions old new s names (g ∷ []) (f ∷ [])) same (function_adds old mid new s names here f params result name has kind span noted)
