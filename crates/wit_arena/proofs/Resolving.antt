-- What occurs in types, one after another.
use Rattle.std.proofs.Common.{ℕ, List, [], ◌∷◌, ◌++◌, refl, sym, ap, ◌∙◌, ◌≡◌, map, Some, subst, arith, ◌+◌, append_assoc}
use Rattle.wit_arena.proofs.Names.{Address, AreResolved, End, Env, Exprs, IsInterned, Occurrence, Of, Span, Stability, TypeDef, TypeDefKind, Whole, all_seen, append-nil, keys, kind_of, one, Shape, Shapes, expr_of, exprs_of, seen, shape_occurrences, shapes_occurrences, AreFunctions, AreNames, Collects, Def, Form, Function, Key, OneByOne, SourceFunction, Unknown, all_function_occurrences, all_params, at_within, flat_map, flat_map-flat_map, function_types, gathered, signature, slice_get, slice_get_within, AddsFunctions, AreMetadata, AreShapes, Names, docs_of, env_of, flat_map-append, metadata, AllDiffer, AreDistinct, Decls, FunctionKey, IsOccurrence, PackageFile, Required, ResolvedScope, ScopeName, Turned, TypeOwner, functions_at, local_name, local_names, name_exprs, scope, GivesPlaces, Id, function_in, map-append, role_kind, types_of, IsKeyed, all_shapes, shape_of, «Type» as Written}
use Rattle.wit_types.specs.declared.types.«Type».{«Type» as Ty}
use Rattle.wit_arena.proofs.Occurrence.{keys-append, collects_extended, extends_then, names_kept, occur_whole, IsOnly, Has, no_defs, has_from, collects_append}
use Rattle.wit_arena.proofs.Placing.{gives_fewer, AreOver, keyed_by}
use Rattle.wit_arena.proofs.PlacingFunctions.{as_written, function_same, said, types_gathered}
use Rattle.wit_arena.proofs.FreeNames.{free_of, AreStated}
use Rattle.wit_types.specs.declared.types.«Type».TheVariants as type
use Rattle.wit_syntax.specs.Shape as shape
use Rattle.wit_arena.specs.Occurrences as exprs

-- What occurs in types, by its keys.
-- what occurs in types are the unnamed expressions in them
mutual
  pub keys-shape : (s : Address) (given : Stability) (x : Shape) → keys (shape_occurrences s given x) ≡ seen (expr_of s x)
  keys-shape s given (shape.Of span form parts) = keys-append (shapes_occurrences s given parts) (record { key = Whole form (exprs_of s parts); span = span; given = given } ∷ []) ∙ ap (λ ks. ks ++ Whole form (exprs_of s parts) ∷ []) (keys-shapes s given parts)
  keys-shape s given _ = refl

  pub keys-shapes : (s : Address) (given : Stability) (xs : Shapes) → keys (shapes_occurrences s given xs) ≡ all_seen (exprs_of s xs)
  keys-shapes s given shape.End = refl
  keys-shapes s given (shape.More x xs) = keys-append (shape_occurrences s given x) (shapes_occurrences s given xs) ∙ ap (λ ks. ks ++ keys (shapes_occurrences s given xs)) (keys-shape s given x) ∙ ap (λ ks. seen (expr_of s x) ++ ks) (keys-shapes s given xs)

-- shapes and then others
abbrev pub both_shapes : Shapes → Shapes → Shapes
both_shapes shape.End ys = ys
both_shapes (shape.More x xs) ys = shape.More x (both_shapes xs ys)

occurrences-both : (s : Address) (given : Stability) (xs ys : Shapes) → shapes_occurrences s given (both_shapes xs ys) ≡ shapes_occurrences s given xs ++ shapes_occurrences s given ys
occurrences-both s given shape.End ys = refl
occurrences-both s given (shape.More x xs) ys = ap (λ ms. shape_occurrences s given x ++ ms) (occurrences-both s given xs ys) ∙ sym (append_assoc (shape_occurrences s given x) (shapes_occurrences s given xs) (shapes_occurrences s given ys))

types-both : (id : Key → ℕ) (s : Address) (xs ys : Shapes) → types_of id (exprs_of s (both_shapes xs ys)) ≡ types_of id (exprs_of s xs) ++ types_of id (exprs_of s ys)
types-both id s shape.End ys = refl
types-both id s (shape.More x xs) ys = ap (λ (l : List Ty). exprs.type_of id (expr_of s x) ∷ l) (types-both id s xs ys)

pub all_shapes-append : (ts us : List Written) → all_shapes (ts ++ us) ≡ both_shapes (all_shapes ts) (all_shapes us)
all_shapes-append [] us = refl
all_shapes-append (t ∷ ts) us = ap (shape.More (shape_of t)) (all_shapes-append ts us)

-- nothing occurs
pub resolved_none : (es : List TypeDef) (s : Address) (env : Env) (given : Stability) → AreResolved es es s env given shape.End []
resolved_none es s env given = record { from = λ decls ms m names. record { now = ms; collects = refl; occurrence = m; holds = λ id gives. refl } }

-- some types, and then others
pub resolved_more : {old mid new : List TypeDef} {s : Address} {env : Env} {given : Stability} {xs ys : Shapes} {ts us : List Ty} → AreResolved old mid s env given xs ts → AreResolved mid new s env given ys us → AreResolved old new s env given (both_shapes xs ys) (ts ++ us)
resolved_more {old} {mid} {new} {s} {env} {given} {xs} {ys} {ts} {us} p q = record {
  from = λ decls ms m names. (
      let x = p.from decls ms m names in
      let y = q.from decls x.now x.occurrence (names_kept ms x.now (shapes_occurrences s given xs) s env (exprs_of s xs) (keys-shapes s given xs) x.collects names) in
      rw (occurrences-both s given xs ys) (extends_then (λ ks. AreOver ks (exprs_of s (both_shapes xs ys)) (ts ++ us)) x y (λ id gives. ap (λ (l : List Ty). l ++ us) (x.holds id (gives_fewer (collects_extended (shapes_occurrences s given ys) x.now y.now y.collects) id gives)) ∙ ap (λ (l : List Ty). types_of id (exprs_of s xs) ++ l) (y.holds id gives) ∙ sym (types-both id s xs ys))));
}

-- the whole after its parts
pub resolved_whole : {old mid new : List TypeDef} {s : Address} {env : Env} {xs : Shapes} (kind : TypeDefKind) (given : Stability) (span : Span) (i : ℕ) → IsOnly kind → AreResolved old mid s env given xs (kind_of kind).1 → IsInterned mid new kind given span i → AreResolved old new s env given (shape.More (shape.Of span (kind_of kind).0 xs) shape.End) (type.Id i ∷ [])
resolved_whole {old} {mid} {new} {s} {env} {xs} kind given span i only p interned = record {
  from = λ decls ms m names. (
      let x = p.from decls ms m names in
      let whole = Whole (kind_of kind).0 (exprs_of s xs) in
      let y = occur_whole decls x.now mid new kind given span (exprs_of s xs) i only x.occurrence x.holds interned in
      rw (append-nil (shapes_occurrences s given xs ++ record { key = whole; span = span; given = given } ∷ [])) (extends_then (λ ks. AreOver ks (one (Of (kind_of kind).0 (exprs_of s xs))) (type.Id i ∷ [])) x y (λ id gives. ap (λ (n : ℕ). type.Id n ∷ []) (sym (gives.at i whole y.holds)))));
}

-- What occurs in functions, and the types of functions of the package.
-- the expressions in functions
abbrev pub function_exprs : Address → List SourceFunction → Exprs
function_exprs s fns = exprs_of s (gathered (flat_map signature fns))

gathered_occurrences : (s : Address) (xs : List Shape) → flat_map (shape_occurrences s Unknown) xs ≡ shapes_occurrences s Unknown (gathered xs)
gathered_occurrences s [] = refl
gathered_occurrences s (x ∷ xs) = ap (λ ms. shape_occurrences s Unknown x ++ ms) (gathered_occurrences s xs)

-- what occurs in functions are the unnamed expressions in them
pub function_keys : (s : Address) (fns : List SourceFunction) → keys (all_function_occurrences s fns) ≡ all_seen (function_exprs s fns)
function_keys s fns = ap keys (sym (flat_map-flat_map (shape_occurrences s Unknown) signature fns) ∙ gathered_occurrences s (flat_map signature fns)) ∙ keys-shapes s Unknown (gathered (flat_map signature fns))

-- no name occurs in functions
pub no_name_in_functions : (s : Address) (fns : List SourceFunction) (t : Address) (name : List ℕ) → Has (keys (all_function_occurrences s fns)) (Def t name) → ⊥
no_name_in_functions s fns t name h = no_defs (function_exprs s fns) t name (subst (λ (ks : List Key). Has ks (Def t name)) (function_keys s fns) h)

-- so names mean their places once functions occurred
pub names_beside : (s : Address) (fns : List SourceFunction) (a b : List Occurrence) (t : Address) (env : Env) → Collects a (all_function_occurrences s fns) b → AreNames (keys a) t env → AreNames (keys b) t env
names_beside s fns a b t env h names = names_kept a b (all_function_occurrences s fns) t env (function_exprs s fns) (function_keys s fns) h names

-- an unnamed type that occurs in functions is written in the signature of one
pub record IsInFunctions (s : Address) (fns : List SourceFunction) (form : Form) (parts : Exprs) : Type 0 where
  pub index : ℕ
  pub fn : SourceFunction
  pub among : slice_get fns index ≡ Some fn
  pub position : ℕ
  pub shape : Shape
  pub written : slice_get (signature fn) position ≡ Some shape
  pub has : Has (seen (expr_of s shape)) (Whole form parts)

pub whole_in_functions : (s : Address) (fns : List SourceFunction) (form : Form) (parts : Exprs) → Has (keys (all_function_occurrences s fns)) (Whole form parts) → IsInFunctions s fns form parts
whole_in_functions s fns form parts h =
    let f = has_from (λ (fn : SourceFunction). flat_map (shape_occurrences s Unknown) (signature fn)) fns (Whole form parts) h in
    let x = has_from (shape_occurrences s Unknown) (signature f.1) (Whole form parts) f.3 in
    record { index = f.0; fn = f.1; among = f.2; position = x.0; shape = x.1; written = x.2; has = subst (λ (ks : List Key). Has ks (Whole form parts)) (keys-shape s Unknown x.1) x.3 }

-- each has one beside it
pub type_of : {X Y : Type 0} {Holds : X → Y → Type 0} {xs : List X} {ys : List Y} → OneByOne Holds xs ys → (k : ℕ) (x : X) → slice_get xs k ≡ Some x → (y : Y) × (slice_get ys k ≡ Some y)
type_of {X} {Y} {Holds} {xs} {ys} h k x at = let lt = slice_get_within xs k x at in let count = h.count in at_within ys k (omega arith)

-- Functions added to the arena one after another, each from the types in its signature.
pub functions_append : (old mid new : List TypeDef) (s : Address) (names : Names) (fns gns : List SourceFunction) (fs gs : List Function) → AddsFunctions old mid s names fns fs → AddsFunctions mid new s names gns gs → AddsFunctions old new s names (fns ++ gns) (fs ++ gs)
functions_append old mid new s names fns gns fs gs p q = record {
  from = λ decls ms m are_present. (
      let x = p.from decls ms m are_present in
      let y = q.from decls x.now x.occurrence (names_beside s fns ms x.now s (env_of names) x.collects are_present) in
      let prefix = all_function_occurrences s fns in
      let back = all_function_occurrences s gns in
      let whole : all_function_occurrences s (fns ++ gns) ≡ prefix ++ back = flat_map-append (λ (fn : SourceFunction). flat_map (shape_occurrences s Unknown) (signature fn)) fns gns in
      record {
        now = y.now;
        collects = subst (λ (l : List Occurrence). Collects ms l y.now) (sym whole) (collects_append prefix back ms x.now y.now x.collects y.collects);
        occurrence = y.occurrence;
        holds = λ id gives. ap (λ (l : List Function). l ++ gs) (x.holds id (gives_fewer (collects_extended back x.now y.now y.collects) id gives)) ∙ ap (λ (l : List Function). map (function_in id s) fns ++ l) (y.holds id gives) ∙ sym (map-append (function_in id s) fns gns);
      });
}

gathered-append : (xs ys : List Shape) → gathered (xs ++ ys) ≡ both_shapes (gathered xs) (gathered ys)
gathered-append [] ys = refl
gathered-append (x ∷ xs) ys = ap (shape.More x) (gathered-append xs ys)

pub shapes_append : (old mid new : List TypeDef) (s : Address) (env : Env) (xs ys : List Shape) (ts us : List Ty) → AreShapes old mid s env xs ts → AreShapes mid new s env ys us → AreShapes old new s env (xs ++ ys) (ts ++ us)
shapes_append old mid new s env xs ys ts us p q = rw (gathered-append xs ys) (resolved_more p q)

-- a function of the package is the written one apart from its types
pub record SaysFunction (env : Env) (fn : SourceFunction) (f : Function) : Type 0 where
  pub name : f.name ≡ fn.name
  pub kind : (place : Id → ℕ) → ((of : Id) (r : ℕ) → env of.name.now ≡ Some r → place of ≡ r) → f.kind ≡ role_kind place fn.role
  pub params : map said f.params ≡ map as_written (all_params fn)
  pub span : f.span ≡ fn.span
  pub metadata : AreMetadata (metadata (docs_of fn.docs) fn.attributes) f.docs f.stability f.external_id

-- a function whose types are at their places is the written one
function_is : (ks : List Key) (s : Address) (env : Env) (fn : SourceFunction) (f : Function) → AreNames ks s env → SaysFunction env fn f → AreOver ks (exprs_of s (gathered (signature fn))) (function_types f) → (id : Key → ℕ) → GivesPlaces id ks → f ≡ function_in id s fn
function_is ks s env fn f names says at id gives =
    let kind = says.kind (λ (of : Id). id (Def s of.name.now)) (λ of r meant. gives.at r (Def s of.name.now) (names.present of.name.now r meant)) in
    let types = at id gives ∙ types_gathered id s (signature fn) in
    function_same id s fn f says.name kind says.params types says.span says.metadata

-- one function
pub function_one : (old new : List TypeDef) (s : Address) (names : Names) (fn : SourceFunction) (f : Function) → SaysFunction (env_of names) fn f → AreShapes old new s (env_of names) (signature fn) (function_types f) → AddsFunctions old new s names (fn ∷ []) (f ∷ [])
function_one old new s names fn f says h = record {
  from = λ decls ms m are_present. (
      let x = h.from decls ms m are_present in
      let xs = gathered (signature fn) in
      let kept = names_kept ms x.now (shapes_occurrences s Unknown xs) s (env_of names) (exprs_of s xs) (keys-shapes s Unknown xs) x.collects are_present in
      record {
        now = x.now;
        collects = subst (λ (l : List Occurrence). Collects ms l x.now) (sym (append-nil (flat_map (shape_occurrences s Unknown) (signature fn)) ∙ gathered_occurrences s (signature fn))) x.collects;
        occurrence = x.occurrence;
        holds = λ id gives. ap (λ (g : Function). g ∷ []) (function_is (keys x.now) s (env_of names) fn f kept says x.holds id gives);
      });
}

-- What is once some scopes are done.
-- A scope that is done: whose it is, its names as they were resolved, what they mean, its functions, those of the package, as they
-- were made and as they are stated, and what its handles require.
pub record DoneScope : Type 0 where
  pub address : Address
  pub owner : TypeOwner
  pub names : List ScopeName
  pub types : Names
  pub functions : List SourceFunction
  pub made : List Function
  pub stated : List (FunctionKey × Function)
  pub required : List Required

abbrev pub done_address : DoneScope → Address
done_address c = c.address

abbrev pub turn_of : DoneScope → Turned
turn_of c = record { address = c.address; names = c.names; functions = c.functions }

abbrev pub resolved_scope_of : DoneScope → ResolvedScope
resolved_scope_of c = record { address = c.address; types = c.types; functions = free_of c.stated }

-- each name of a scope once, in another order
pub record IsTurn (xs ys : List ScopeName) : Type 0 where
  pub distinct : AreDistinct xs
  pub differ : AreDistinct ys
  pub among : (i : ℕ) (x : ScopeName) → slice_get ys i ≡ Some x → (p : ℕ) × (slice_get xs p ≡ Some x)
  pub has : (p : ℕ) (x : ScopeName) → slice_get xs p ≡ Some x → (i : ℕ) × (slice_get ys i ≡ Some x)

-- a scope of files is done
pub record IsDoneScope (files : List PackageFile) (c : DoneScope) : Type 0 where
  pub turn : IsTurn (scope files c.address) c.names
  pub listed : map (λ p. p.0) c.types ≡ local_names c.names
  pub functions : c.functions ≡ functions_at files c.address
  pub stated : AreStated c.functions c.made c.stated

-- a name of one of these scopes
pub record IsNameOf (cs : List DoneScope) (s : Address) (name : List ℕ) : Type 0 where
  pub place : ℕ
  pub resolved_scope : DoneScope
  pub at : slice_get cs place ≡ Some resolved_scope
  pub scope : resolved_scope.address ≡ s
  pub index : ℕ
  pub x : ScopeName
  pub among : slice_get resolved_scope.names index ≡ Some x
  pub called : local_name x ≡ name

-- an unnamed type that is written in a function of one of these scopes
pub record IsInSignatureOf (cs : List DoneScope) (form : Form) (parts : Exprs) : Type 0 where
  pub place : ℕ
  pub resolved_scope : DoneScope
  pub at : slice_get cs place ≡ Some resolved_scope
  pub inside : IsInFunctions resolved_scope.address resolved_scope.functions form parts

-- an unnamed type that is written in a name of one of these scopes
pub record IsWholeOf (cs : List DoneScope) (form : Form) (parts : Exprs) : Type 0 where
  pub place : ℕ
  pub resolved_scope : DoneScope
  pub at : slice_get cs place ≡ Some resolved_scope
  pub index : ℕ
  pub x : ScopeName
  pub among : slice_get resolved_scope.names index ≡ Some x
  pub has : Has (all_seen (name_exprs resolved_scope.address x)) (Whole form parts)

-- the names of a scope are done
pub record AreDoneNames (files : List PackageFile) (c : DoneScope) : Type 0 where
  pub turn : IsTurn (scope files c.address) c.names
  pub listed : map (λ p. p.0) c.types ≡ local_names c.names

-- These scopes are done: the arena is the list of first occurrences of what is written, and their names mean their places.
pub record IsDone (files : List PackageFile) (decls : Decls) (written : List Occurrence) (cs : List DoneScope) (es : List TypeDef) : Type 0 where
  pub seen : List Occurrence
  pub collects : Collects [] written seen
  pub occurrence : IsOccurrence decls seen es
  pub each : (t : ℕ) (c : DoneScope) → slice_get cs t ≡ Some c → AreDoneNames files c
  pub own : (t : ℕ) (c : DoneScope) → slice_get cs t ≡ Some c → decls c.address ≡ (scope files c.address, c.owner)
  pub are_present : (t : ℕ) (c : DoneScope) → slice_get cs t ≡ Some c → AreNames (keys seen) c.address (env_of c.types)
  pub before : (j : ℕ) (s : Address) (name : List ℕ) → slice_get (keys seen) j ≡ Some (Def s name) → IsNameOf cs s name
  pub unique : AllDiffer (map done_address cs)

-- so they are, where what is written and the scopes are given otherwise
abbrev pub done_as : {files : List PackageFile} {decls : Decls} {written written' : List Occurrence} {cs cs' : List DoneScope} {es : List TypeDef} → written ≡ written' → cs ≡ cs' → IsDone files decls written cs es → IsDone files decls written' cs' es
done_as all same d = record {
  seen = d.seen;
  collects = subst (λ (l : List Occurrence). Collects [] l d.seen) all d.collects;
  occurrence = d.occurrence;
  each = λ t c at. d.each t c (ap (λ (l : List DoneScope). slice_get l t) same ∙ at);
  own = λ t c at. d.own t c (ap (λ (l : List DoneScope). slice_get l t) same ∙ at);
  are_present = λ t c at. d.are_present t c (ap (λ (l : List DoneScope). slice_get l t) same ∙ at);
  before = λ j s name at. subst (λ (l : List DoneScope). IsNameOf l s name) same (d.before j s name at);
  unique = subst (λ (l : List DoneScope). AllDiffer (map done_address l)) same d.unique;
}

-- These scopes are done with their functions, whose types are at their places.
pub record IsPresent (files : List PackageFile) (decls : Decls) (written : List Occurrence) (cs : List DoneScope) (es : List TypeDef) : Type 0 where
  pub seen : List Occurrence
  pub collects : Collects [] written seen
  pub occurrence : IsOccurrence decls seen es
  pub each : (t : ℕ) (c : DoneScope) → slice_get cs t ≡ Some c → IsDoneScope files c
  pub own : (t : ℕ) (c : DoneScope) → slice_get cs t ≡ Some c → decls c.address ≡ (scope files c.address, c.owner)
  pub are_present : (t : ℕ) (c : DoneScope) → slice_get cs t ≡ Some c → AreNames (keys seen) c.address (env_of c.types)
  pub before : (j : ℕ) (s : Address) (name : List ℕ) → slice_get (keys seen) j ≡ Some (Def s name) → IsNameOf cs s name
  pub made : (t : ℕ) (c : DoneScope) → slice_get cs t ≡ Some c → AreFunctions (keys seen) c.address c.functions c.made

-- each entry is that of its key, whose parts are at their places
pub keyed_in : {files : List PackageFile} {decls : Decls} {written : List Occurrence} {cs : List DoneScope} {es : List TypeDef} → (d : IsPresent files decls written cs es) → IsKeyed decls (keys d.seen) es
keyed_in {files} {decls} d = keyed_by d.occurrence (λ j s name at. (
    let it = d.before j s name at in
    subst (λ (z : Address). AreDistinct (decls z).0) it.scope (subst (λ (x : List ScopeName × TypeOwner). AreDistinct x.0) (sym (d.own it.place it.resolved_scope it.at)) (d.each it.place it.resolved_scope it.at).turn.distinct)))
