-- Where a function gives the place of each key, what it says of a key that occurs is there.
use Rattle.std.proofs.Common.{◌≡◌, ℕ, List, [], ◌∷◌, ◌+◌, length, Option, Some, None, refl, sym, ap, ◌∙◌, subst, ◌≤◌, zero, suc, ◌++◌, take, ◌⊎◌, inl, inr, arith, append_assoc, append-nil, length-append, ◌<◌, Bool, true}
use Rattle.wit_items.proofs.Common.{Address, AreAt, Constructor, Def, End, Expr, Exprs, GivesPlaces, HasTypes, Id, IsAt, IsSeen, Key, Method, More, Of, Param, Prim, Role, ScopeName, Shape, SourceFunction, SourceParam, Static, Turned, Use, Whole, all_params, at_back, at_prefix, expr_of, function_in, length-map, local_name, map, map_at, map_map, name_places, option_map, role_kind, same_some, signature, slice_get, slice_get-map, type_of, types_of, Collects, Contains, Has, Occurrence, Shapes, Span, Stability, Unknown, Word, about_name, all_function_occurrences, all_words, at_seam, exprs_of, flat_map, keys, keys-append, name_exprs, name_occurrences, parts_occurrences, shape_occurrences, shapes_occurrences, slice_get_within, take_seam, three_ways, unwrap_or, words, Attribute, Defined, ForeignName, IsEntered, IsItem, IsLegal, IsOrder, MissingInSignature, OfNothing, Ordered, PackageFile, Row, Scope, UseName, Used, address, all_scopes, append-nil, at_contains, at_within, bytes_eq, cases_Bool, contains_at, defined, differ_at, filter, find_at, find_passes, flat_map-append, flat_map_has, function_as_type, functions, in_order, in_turn_has, is_defined, kept_early, kept_next, kept_past, meaning, missing_at, name_equal, name_word, names_differ, names_within, needed_ids, ordered_names, own_names, place_of-Some, row_before, row_of, rows_of, scope, scope_among, scope_is, scope_names, take_all, target, turn_occurrences, turned, used, used_has, used_is, AreFunctions, at-type_of, function_types, Freestanding, OnSide}
use Rattle.wit_arena.proofs.Common.{kinds_of}
use Rattle.wit_arena.proofs.PlacingFunctions.{function_same, functions_by, one_mapped, said, type_in, types_in}
use Rattle.wit_types.specs.declared.types.«Type».{«Type» as Ty}
use Rattle.wit_functions.specs.declared.function.FunctionKind.TheVariants as kind
use Rattle.wit_walk.proofs.Common.{More, Of, Prim, Function, OfFunction, used_at}
use Rattle.wit_syntax.specs.Shape.{End}
use Rattle.wit_arena.specs.Occurrences as expr

-- what an expression means is among some keys, and so is each of these
abbrev pub IsPresent : (Key → Type 0) → Expr → Type 0
IsPresent among (Prim p) = Unit {0}
IsPresent among (Use s name) = among (Def s name)
IsPresent among (Of form parts) = among (Whole form parts)

abbrev pub AllPresent : (Key → Type 0) → Exprs → Type 0
AllPresent among End = Unit {0}
AllPresent among (More e es) = IsPresent among e × AllPresent among es

-- the resource of a role is among them
abbrev pub RolePresent : (Key → Type 0) → Address → Role → Type 0
RolePresent among s (Freestanding of form) = Unit {0}
RolePresent among s (Method of form) = among (Def s of.name.now)
RolePresent among s (Static of form) = among (Def s of.name.now)
RolePresent among s (Constructor of) = among (Def s of.name.now)
RolePresent among s (OnSide side of form) = Unit {0}

-- and so is all that a function names
pub record FunctionPresent (among : Key → Type 0) (s : Address) (fn : SourceFunction) : Type 0 where
  pub role : RolePresent among s fn.role
  pub types : (k : ℕ) (x : Shape) → slice_get (signature fn) k ≡ Some x → IsPresent among (expr_of s x)

module _ (id : Key → ℕ) (ks : List Key) (gives : GivesPlaces id ks) where
  -- what occurs is at its place
  pub seen_at : (k : Key) → IsSeen ks k → slice_get ks (id k) ≡ Some k
  seen_at k h = ap (slice_get ks) (gives.at h.0 k h.1) ∙ h.1

  pub type_of-at : (e : Expr) → IsPresent (IsSeen ks) e → IsAt ks e (type_of id e)
  type_of-at (Prim p) h = refl
  type_of-at (Use s name) h = (id (Def s name), refl, seen_at (Def s name) h)
  type_of-at (Of form parts) h = (id (Whole form parts), refl, seen_at (Whole form parts) h)

  pub types_of-at : (es : Exprs) → AllPresent (IsSeen ks) es → AreAt ks es (types_of id es)
  types_of-at End h = tt
  types_of-at (More e es) h = (type_of-at e h.0, types_of-at es h.1)

  abbrev param_in : Address → SourceParam → Param
  param_in s x = record { name = x.name; ty = type_of id (expr_of s x.shape); span = x.span }

  -- so do the types of a function
  pub signature_at : (s : Address) (fn : SourceFunction) → FunctionPresent (IsSeen ks) s fn → (k : ℕ) (ty : Ty) → slice_get (function_types (function_in id s fn)) k ≡ Some ty → (x : Shape) × IsAt ks (expr_of s x) ty
  signature_at s fn h k ty at =
      let x = map_at (type_in id s) (signature fn) k ty (ap (λ (l : List Ty). slice_get l k) (sym (types_in id s fn)) ∙ at) in
      (x.0, subst (IsAt ks (expr_of s x.0)) x.2 (type_of-at (expr_of s x.0) (h.types k x.0 x.1)))

  -- wherever else that is the place of each key, the functions are the same
  module _ (id' : Key → ℕ) (gives' : GivesPlaces id' ks) (s : Address) where
    same_place : (k : Key) → IsSeen ks k → id k ≡ id' k
    same_place k h = gives.at h.0 k h.1 ∙ sym (gives'.at h.0 k h.1)

    role_kept : (role : Role) → RolePresent (IsSeen ks) s role → role_kind (λ (of : Id). id (Def s of.name.now)) role ≡ role_kind (λ (of : Id). id' (Def s of.name.now)) role
    role_kept (Method of form) h = ap (kinds_of form).method (same_place (Def s of.name.now) h)
    role_kept (Static of form) h = ap (kinds_of form).static (same_place (Def s of.name.now) h)
    role_kept (Constructor of) h = ap kind.Constructor (same_place (Def s of.name.now) h)
    role_kept _ h = refl

    shapes_kept : (xs : List Shape) → ((k : ℕ) (x : Shape) → slice_get xs k ≡ Some x → IsPresent (IsSeen ks) (expr_of s x)) → map (type_in id s) xs ≡ map (type_in id' s) xs
    shapes_kept [] h = refl
    shapes_kept (x ∷ xs) h =
        let first = at-type_of id' ks gives' (expr_of s x) (type_of id (expr_of s x)) (type_of-at (expr_of s x) (h 0 x refl)) in
        ap (λ (t : Ty). t ∷ map (type_in id s) xs) first ∙ ap (λ (l : List Ty). type_in id' s x ∷ l) (shapes_kept xs (λ k. h (suc k)))

    function_kept : (fn : SourceFunction) → FunctionPresent (IsSeen ks) s fn → function_in id s fn ≡ function_in id' s fn
    function_kept fn h = function_same id' s fn (function_in id s fn) refl (role_kept fn.role h.role) (map_map said (param_in s) (all_params fn)) (types_in id s fn ∙ shapes_kept (signature fn) h.types) refl (record { docs = refl; stability = refl; external_id = refl })

  -- functions that are stated are the written ones
  pub functions_in-are : (s : Address) (fns : List SourceFunction) → ((k : ℕ) (fn : SourceFunction) → slice_get fns k ≡ Some fn → FunctionPresent (IsSeen ks) s fn) → AreFunctions ks s fns (map (function_in id s) fns)
  functions_in-are s fns h = functions_by ks s fns (map (function_in id s) fns) (length-map fns (function_in id s)) (λ k fn f at there id' gives'. one_mapped (function_in id s) fns (map (function_in id s) fns) refl k fn f at there ∙ function_kept id' gives' s fn (h k fn at))

  -- names that are stated mean their places
  pub name_places-are : (t : Turned) → ((k : ℕ) (x : ScopeName) → slice_get t.names k ≡ Some x → IsSeen ks (Def t.address (local_name x))) → HasTypes ks t (name_places id t.address t.names)
  name_places-are t h = record {
    names = map_map (λ (n : List ℕ × ℕ). n.0) (λ (x : ScopeName). (local_name x, id (Def t.address (local_name x)))) t.names;
    places = λ k name i at. (
        let x = map_at (λ (x : ScopeName). (local_name x, id (Def t.address (local_name x)))) t.names k (name, i) at in
        let called : local_name x.0 ≡ name = ap (λ n. n.0) x.2 in
        let place : id (Def t.address (local_name x.0)) ≡ i = ap (λ n. n.1) x.2 in
        let there = seen_at (Def t.address (local_name x.0)) (h k x.0 x.1) in
        ap (slice_get ks) (sym place) ∙ there ∙ ap (λ (n : List ℕ). Some (Def t.address n)) called);
  }

-- Occurrences in an order in which the parts of each occur before it.
pub present_wider : (a b : Key → Type 0) → ((k : Key) → a k → b k) → (e : Expr) → IsPresent a e → IsPresent b e
present_wider a b wider (expr.Prim p) h = tt
present_wider a b wider (expr.Use s name) h = wider (Def s name) h
present_wider a b wider (expr.Of form parts) h = wider (Whole form parts) h

pub all_present_wider : (a b : Key → Type 0) → ((k : Key) → a k → b k) → (es : Exprs) → AllPresent a es → AllPresent b es
all_present_wider a b wider expr.End h = tt
all_present_wider a b wider (expr.More e es) h = (present_wider a b wider e h.0, all_present_wider a b wider es h.1)

-- what was known before, or occurs in these
abbrev pub After : (Key → Type 0) → List Occurrence → Key → Type 0
After among ms k = among k ⊎ Has (keys ms) k

pub has_prefix : (ms ls : List Occurrence) (k : Key) → Has (keys ms) k → Has (keys (ms ++ ls)) k
has_prefix [] ls k h = absurd h
has_prefix (m ∷ ms) ls k h = elim h [ inl here ↦ inl here | inr rest ↦ inr (has_prefix ms ls k rest) ]

pub has_back : (ms ls : List Occurrence) (k : Key) → Has (keys ls) k → Has (keys (ms ++ ls)) k
has_back [] ls k h = h
has_back (m ∷ ms) ls k h = inr (has_back ms ls k h)

pub has_last : (ms : List Occurrence) (m : Occurrence) → Has (keys (ms ++ m ∷ [])) m.key
has_last ms m = has_back ms (m ∷ []) m.key (inl refl)

pub has_of : {X : Type 0} (f : X → List Occurrence) (xs : List X) (i : ℕ) (x : X) (k : Key) → slice_get xs i ≡ Some x → Has (keys (f x)) k → Has (keys (flat_map f xs)) k
has_of f [] i x k at h = absurd (let g : ⊥ = cc in g)
has_of f (y ∷ xs) zero x k at h = (let same : y ≡ x = cc in has_prefix (f y) (flat_map f xs) k (subst (λ z. Has (keys (f z)) k) (sym same) h))
has_of f (y ∷ xs) (suc i) x k at h = has_back (f y) (flat_map f xs) k (has_of f xs i x k at h)

pub after_prefix : (a : Key → Type 0) (ms ls : List Occurrence) (k : Key) → After a ms k → After a (ms ++ ls) k
after_prefix a ms ls k h = elim h [ inl before ↦ inl before | inr has ↦ inr (has_prefix ms ls k has) ]

module _ (names : Address → List ScopeName) where
  -- the parts of a key that occurs at a span are among some; a name occurs where it is
  abbrev pub PartsPresent : (Key → Type 0) → Span → Key → Type 0
  PartsPresent among span (Def s name) = (x : ScopeName) → Contains (names s) x → local_name x ≡ name → (span ≡ (about_name x).span) × AllPresent among (name_exprs s x)
  PartsPresent among span (Whole form parts) = AllPresent among parts

  parts_wider : (a b : Key → Type 0) → ((k : Key) → a k → b k) → (span : Span) (k : Key) → PartsPresent a span k → PartsPresent b span k
  parts_wider a b wider span (Def s name) h = λ x among same. (let it = h x among same in (it.0, all_present_wider a b wider (name_exprs s x) it.1))
  parts_wider a b wider span (Whole form parts) h = all_present_wider a b wider parts h

  -- the parts of each are known, or seen before it
  abbrev pub Ready : (Key → Type 0) → List Occurrence → Type 0
  Ready among [] = Unit {0}
  Ready among (m ∷ ms) = PartsPresent among m.span m.key × Ready (λ k. among k ⊎ (m.key ≡ k)) ms

  pub ready_wider : (ms : List Occurrence) (a b : Key → Type 0) → ((k : Key) → a k → b k) → Ready a ms → Ready b ms
  ready_wider [] a b wider h = tt
  ready_wider (m ∷ ms) a b wider h = (parts_wider a b wider m.span m.key h.0, ready_wider ms (λ k. a k ⊎ (m.key ≡ k)) (λ k. b k ⊎ (m.key ≡ k)) (λ k both. elim both [ inl before ↦ inl (wider k before) | inr here ↦ inr here ]) h.1)

  pub ready_append : (ms ls : List Occurrence) (a : Key → Type 0) → Ready a ms → Ready (After a ms) ls → Ready a (ms ++ ls)
  ready_append [] ls a h k = ready_wider ls (After a []) a (λ x both. elim both [ inl before ↦ before | inr none ↦ absurd none ]) k
  ready_append (m ∷ ms) ls a h k = (
    h.0,
    ready_append ms ls (λ x. a x ⊎ (m.key ≡ x)) h.1 (ready_wider ls (After a (m ∷ ms)) (After (λ x. a x ⊎ (m.key ≡ x)) ms) (λ x both. elim both [
      | inl before ↦ inl (inl before)
      | inr has ↦ elim has [ inl here ↦ inl (inr here) | inr rest ↦ inr rest ]
    ]) k),
  )

  pub ready_all : {X : Type 0} (f : X → List Occurrence) (xs : List X) (a : Key → Type 0) → ((k : ℕ) (x : X) → slice_get xs k ≡ Some x → (b : Key → Type 0) → ((q : Key) → a q → b q) → Ready b (f x)) → Ready a (flat_map f xs)
  ready_all f [] a each = tt
  ready_all f (x ∷ xs) a each = ready_append (f x) (flat_map f xs) a (each 0 x refl a (λ q p. p)) (ready_all f xs (After a (f x)) (λ k y at b wider. each (suc k) y at b (λ q p. wider q (inl p))))

  -- so it is of what is written, where each word is known
  abbrev WordsPresent : (Key → Type 0) → Address → List Id → Type 0
  WordsPresent among s ids = (k : ℕ) (id : Id) → slice_get ids k ≡ Some id → among (Def s id.name.now)

  mutual
    pub shape_ready : (s : Address) (given : Stability) (x : Shape) (a : Key → Type 0) → WordsPresent a s (words x) → Ready a (shape_occurrences s given x)
    shape_ready s given (Of span form parts) a known = ready_append (shapes_occurrences s given parts) (record { key = Whole form (exprs_of s parts); span = span; given = given } ∷ []) a (shapes_ready s given parts a known) (shapes_present s given parts a known, tt)
    shape_ready s given _ a known = tt

    pub shapes_ready : (s : Address) (given : Stability) (xs : Shapes) (a : Key → Type 0) → WordsPresent a s (all_words xs) → Ready a (shapes_occurrences s given xs)
    shapes_ready s given End a known = tt
    shapes_ready s given (More x xs) a known = ready_append (shape_occurrences s given x) (shapes_occurrences s given xs) a (shape_ready s given x a (λ k id at. known k id (at_prefix (words x) (all_words xs) k id at)))
        (shapes_ready s given xs (After a (shape_occurrences s given x)) (λ k id at. inl (known (length (words x) + k) id (at_back (words x) (all_words xs) k id at))))

    pub shape_present : (s : Address) (given : Stability) (x : Shape) (a : Key → Type 0) → WordsPresent a s (words x) → IsPresent (After a (shape_occurrences s given x)) (expr_of s x)
    shape_present s given (Prim p) a known = tt
    shape_present s given (Word id) a known = inl (known 0 id refl)
    shape_present s given (Of span form parts) a known = inr (has_last (shapes_occurrences s given parts) (record { key = Whole form (exprs_of s parts); span = span; given = given }))

    pub shapes_present : (s : Address) (given : Stability) (xs : Shapes) (a : Key → Type 0) → WordsPresent a s (all_words xs) → AllPresent (After a (shapes_occurrences s given xs)) (exprs_of s xs)
    shapes_present s given End a known = tt
    shapes_present s given (More x xs) a known = (
      present_wider (After a (shape_occurrences s given x)) (After a (shape_occurrences s given x ++ shapes_occurrences s given xs)) (after_prefix a (shape_occurrences s given x) (shapes_occurrences s given xs)) (expr_of s x) (shape_present s given x a (λ k id at. known k id (at_prefix (words x) (all_words xs) k id at))),
      all_present_wider (After a (shapes_occurrences s given xs)) (After a (shape_occurrences s given x ++ shapes_occurrences s given xs)) (λ k both. elim both [ inl before ↦ inl before | inr has ↦ inr (has_back (shape_occurrences s given x) (shapes_occurrences s given xs) k has) ]) (exprs_of s xs) (shapes_present s given xs a (λ k id at. known (length (words x) + k) id (at_back (words x) (all_words xs) k id at))),
    )

  -- the scope that the words of a name are read in
  abbrev pub word_scope : Address → ScopeName → Address
  word_scope s x = unwrap_or (about_name x).from s

  -- a name of a scope, the only one there that goes by it
  pub name_ready : (s : Address) (x : ScopeName) (a : Key → Type 0) → ((y : ScopeName) → Contains (names s) y → local_name y ≡ local_name x → y ≡ x) → WordsPresent a (word_scope s x) (all_words (about_name x).body.parts) → Ready a (name_occurrences s x)
  name_ready s x a only known =
      let given = (about_name x).metadata.stability in
      let parts = (about_name x).body.parts in
      ready_append (parts_occurrences s x) (record { key = Def s (local_name x); span = (about_name x).span; given = given } ∷ []) a (shapes_ready (word_scope s x) given parts a known) (
        (λ y among same. subst (λ z. ((about_name x).span ≡ (about_name z).span) × AllPresent (After a (parts_occurrences s x)) (name_exprs s z)) (sym (only y among same)) (refl, shapes_present (word_scope s x) given parts a known)),
        tt,
      )

  -- functions, where each word of their signatures is known
  pub functions_ready : (s : Address) (fns : List SourceFunction) (a : Key → Type 0) → ((k : ℕ) (fn : SourceFunction) → slice_get fns k ≡ Some fn → (j : ℕ) (x : Shape) → slice_get (signature fn) j ≡ Some x → WordsPresent a s (words x)) → Ready a (all_function_occurrences s fns)
  functions_ready s fns a known = ready_all (λ (fn : SourceFunction). flat_map (shape_occurrences s Unknown) (signature fn)) fns a (λ k fn at b wider.
      ready_all (shape_occurrences s Unknown) (signature fn) b (λ j x there c more. shape_ready s Unknown x c (λ i id is. more (Def s id.name.now) (wider (Def s id.name.now) (known k fn at j x there i id is)))))

  -- what occurs first comes before all that occurs later
  pub collects_prefix : (ls ms all : List Occurrence) → Collects ms ls all → (rest : List Occurrence) × (all ≡ ms ++ rest)
  collects_prefix [] ms all h = ([], h ∙ sym (append-nil ms))
  collects_prefix (x ∷ ls) ms all h = elim h [
    | inl old ↦ collects_prefix ls ms all old.1
    | inr fresh ↦ (let it = collects_prefix ls (ms ++ x ∷ []) all fresh.1 in (x ∷ it.0, it.1 ∙ append_assoc ms (x ∷ []) it.0))
  ]

  -- so the parts of what occurs first come before it
  pub seen_ready : (ls ms all : List Occurrence) → Collects ms ls all → Ready (IsSeen (keys ms)) ls → (n : ℕ) (m : Occurrence) → slice_get all n ≡ Some m → length ms ≤ n → PartsPresent (IsSeen (take n (keys all))) m.span m.key
  seen_ready [] ms all h ready n m at le = absurd (let lt = slice_get_within ms n m (ap (λ l. slice_get l n) (sym h) ∙ at) in let f : ⊥ = omega (arith, lt, le) in f)
  seen_ready (x ∷ ls) ms all h ready n m at le = elim h [
    | inl old ↦ seen_ready ls ms all old.1 (ready_wider ls (λ k. IsSeen (keys ms) k ⊎ (x.key ≡ k)) (IsSeen (keys ms)) (λ k both. elim both [ inl before ↦ before | inr here ↦ subst (IsSeen (keys ms)) here old.0 ]) ready.1) n m at le
    | inr fresh ↦ elim (three_ways (length ms) n) [
      | inl lt ↦ seen_ready ls (ms ++ x ∷ []) all fresh.1 (ready_wider ls (λ k. IsSeen (keys ms) k ⊎ (x.key ≡ k)) (IsSeen (keys (ms ++ x ∷ []))) (now_seen ms x) ready.1) n m at (let long = length-append ms (x ∷ []) in omega (arith, lt, long))
      | inr other ↦ elim other [
        | inl same ↦ (
            let it = collects_prefix ls (ms ++ x ∷ []) all fresh.1 in
            let whole : all ≡ ms ++ (x ∷ it.0) = it.1 ∙ append_assoc ms (x ∷ []) it.0 in
            let one = same_some (sym (at_prefix (ms ++ x ∷ []) it.0 (length ms) x (at_seam ms x)) ∙ ap (λ l. slice_get l (length ms)) (sym it.1) ∙ ap (slice_get all) same ∙ at) in
            let early : take n (keys all) ≡ keys ms = ap (λ i. take i (keys all)) (sym same ∙ sym (length-map ms (λ (y : Occurrence). y.key))) ∙ ap (λ l. take (length (keys ms)) (keys l)) whole ∙ ap (take (length (keys ms))) (keys-append ms (x ∷ it.0)) ∙ take_seam (keys ms) (keys (x ∷ it.0)) in
            subst (λ l. PartsPresent (IsSeen l) m.span m.key) (sym early) (subst (λ (y : Occurrence). PartsPresent (IsSeen (keys ms)) y.span y.key) one ready.0))
        | inr gt ↦ absurd (let f : ⊥ = omega (arith, gt, le) in f)
      ]
    ]
  ]
    where
      now_seen : (ms : List Occurrence) (x : Occurrence) (k : Key) → IsSeen (keys ms) k ⊎ (x.key ≡ k) → IsSeen (keys (ms ++ x ∷ [])) k
      now_seen ms x k both = elim both [
        | inl before ↦ (before.0, ap (λ l. slice_get l before.0) (keys-append ms (x ∷ [])) ∙ at_prefix (keys ms) (x.key ∷ []) before.0 k before.1)
        | inr here ↦ (length (keys ms), ap (λ l. slice_get l (length (keys ms))) (keys-append ms (x ∷ [])) ∙ at_seam (keys ms) x.key ∙ ap Some here)
      ]

-- What occurs in a scope occurs in an order in which the parts of each come before it.
pub one_at : {X : Type 0} (x y : X) (k : ℕ) → slice_get (x ∷ []) k ≡ Some y → x ≡ y
one_at x y zero at = cc
one_at x y (suc k) at = cc

-- a name occurs where it is resolved
pub name_has : (s : Address) (xs : List ScopeName) (p : ℕ) (x : ScopeName) → slice_get xs p ≡ Some x → Has (keys (flat_map (name_occurrences s) xs)) (Def s (local_name x))
name_has s xs p x at = has_of (name_occurrences s) xs p x (Def s (local_name x)) at (has_last (parts_occurrences s x) (record { key = Def s (local_name x); span = (about_name x).span; given = (about_name x).metadata.stability }))

-- the row at the place of a name is that of a name that goes by it
row_named : (xs : List ScopeName) (id : Id) (b : ℕ) → target (rows_of xs) id ≡ Some b → (y : ScopeName) × (slice_get xs b ≡ Some y) × (local_name y ≡ id.name.now)
row_named xs id b found =
    let r = place_of-Some (rows_of xs) id.name.now b found in
    let lt = slice_get_within (rows_of xs) b r.0 r.1 in
    let y = at_within xs b (subst (λ (n : ℕ). b < n) (length-map xs row_of) lt) in
    (y.0, y.1, sym (r.2 ∙ ap (λ (x : Row). x.name) (same_some (sym r.1 ∙ slice_get-map row_of xs b ∙ ap (option_map row_of) y.1))))

-- what a name needs comes before it in the order
need_before : (xs : List ScopeName) (order : List ℕ) → IsOrder (rows_of xs) order → (n p j : ℕ) (x : ScopeName) (id : Id) → slice_get order n ≡ Some p → slice_get xs p ≡ Some x → slice_get (needed_ids x) j ≡ Some id → (t : ℕ) × (q : ℕ) × (y : ScopeName) × (t < n) × (slice_get order t ≡ Some q) × (slice_get xs q ≡ Some y) × (local_name y ≡ id.name.now)
need_before xs order least n p j x id next at need =
    let b = row_before (rows_of xs) order least n p j id next (row_of x, slice_get-map row_of xs p ∙ ap (option_map row_of) at, need) in
    let y = row_named xs id b.1 b.4 in
    (b.0, b.1, y.0, b.2, b.3, y.1, y.2)

-- what a test keeps of an order is ready, where each is after those before it
pub ready_kept : {X : Type 0} (names : Address → List ScopeName) (f : X → List Occurrence) (test : X → Bool) (xs : List X) (places : List ℕ) (a : Key → Type 0) → ((n p : ℕ) → slice_get places n ≡ Some p → p < length xs) → ((n p : ℕ) (x : X) → test x ≡ true → slice_get places n ≡ Some p → slice_get xs p ≡ Some x → Ready names (After a (flat_map f (filter test (in_order xs (take n places))))) (f x)) → (n : ℕ) → n ≤ length places → Ready names a (flat_map f (filter test (in_order xs (take n places))))
ready_kept names f test xs places a within each zero le = tt
ready_kept names f test xs places a within each (suc n) le =
    let p = at_within places n (omega (arith, le)) in
    let x = at_within xs p.0 (within n p.0 p.1) in
    let early = filter test (in_order xs (take n places)) in
    let ready = ready_kept names f test xs places a within each n (omega (arith, le)) in
    let next : suc n ≡ n + 1 = omega arith in
    subst (λ (m : ℕ). Ready names a (flat_map f (filter test (in_order xs (take m places))))) (sym next) (elim (cases_Bool (test x.0)) [
      | inl passes ↦ (
          let last = subst (λ (l : List Occurrence). Ready names (After a (flat_map f early)) l) (sym (append-nil (f x.0))) (each n p.0 x.0 passes p.1 x.1) in
          subst (λ l. Ready names a (flat_map f l)) (sym (kept_next test xs places n p.0 x.0 p.1 x.1 passes)) (subst (λ (l : List Occurrence). Ready names a l) (sym (flat_map-append f early (x.0 ∷ []))) (ready_append names (flat_map f early) (f x.0 ++ []) a ready last)))
      | inr fails ↦ subst (λ l. Ready names a (flat_map f l)) (sym (kept_past test xs places n p.0 x.0 p.1 x.1 fails)) ready
    ])

module _ (files : List PackageFile) (legal : IsLegal files) (o : Ordered) (it : IsItem files o) where
  abbrev s : Address
  s = address o.item

  abbrev xs : List ScopeName
  xs = scope_names o.item

  abbrev names : Address → List ScopeName
  names = scope files

  abbrev of_name : ScopeName → List Occurrence
  of_name = name_occurrences s

  among : Contains (all_scopes files) o.item
  among = scope_among files legal s o.item it.found

  only : (p : ℕ) (x : ScopeName) → slice_get xs p ≡ Some x → (y : ScopeName) → Contains (names s) y → local_name y ≡ local_name x → y ≡ x
  only p x at y there same =
      let j = at_contains xs y (subst (λ (l : List ScopeName). Contains l y) (scope_is files legal o it) there) in
      let place = differ_at local_name xs (names_differ files legal o.item among) j.0 p y x j.1 at same in
      same_some (sym j.1 ∙ ap (slice_get xs) place ∙ at)

  -- the originals of used names are among some, or all its names are
  abbrev pub UsesPresent : (Key → Type 0) → Type 0
  UsesPresent a = (from : Address) (attributes : List Attribute) (n : UseName) → Contains xs (Used from attributes n) → a (Def from n.name.name.now)

  abbrev pub NamesPresent : (Key → Type 0) → Type 0
  NamesPresent a = (p : ℕ) (x : ScopeName) → slice_get xs p ≡ Some x → a (Def s (local_name x))

  used_ready : (a : Key → Type 0) → UsesPresent a → Ready names a (flat_map of_name (used xs))
  used_ready a known = ready_all names of_name (used xs) a (λ k x at b wider. (
      let u = used_is xs (own_names o.item) k x at in
      let x' = Used u.0 u.1 u.2 in
      let p = used_at xs k x at in
      let there : slice_get xs p.0 ≡ Some x' = p.1 ∙ ap Some u.3 in
      subst (λ (z : ScopeName). Ready names b (of_name z)) (sym u.3) (name_ready names s x' b (only p.0 x' there) (λ j id is. (
      subst (λ (w : Id). b (Def u.0 w.name.now)) (one_at u.2.name id j is) (wider (Def u.0 u.2.name.name.now) (known u.0 u.1 u.2 (contains_at xs p.0 x' there))))))))

  module _ (a : Key → Type 0) (known : (p : ℕ) (x : ScopeName) → slice_get (used xs) p ≡ Some x → a (Def s (local_name x))) where
    abbrev early : ℕ → List ScopeName
    early n = defined (in_order xs (take n o.order))

    -- what a definition needs is used, or is defined before it
    needs_known : (n p : ℕ) (x : ScopeName) → slice_get o.order n ≡ Some p → slice_get xs p ≡ Some x → (j : ℕ) (id : Id) → slice_get (needed_ids x) j ≡ Some id → After a (flat_map of_name (early n)) (Def s id.name.now)
    needs_known n p x next at j id need =
        let b = need_before xs o.order it.least n p j x id next at need in
        subst (λ (name : List ℕ). After a (flat_map of_name (early n)) (Def s name)) b.6 (by_sort b.0 b.1 b.2 b.3 b.4 b.5)
      where
        by_sort : (t q : ℕ) (y : ScopeName) → t < n → slice_get o.order t ≡ Some q → slice_get xs q ≡ Some y → After a (flat_map of_name (early n)) (Def s (local_name y))
        by_sort t q (Used from attributes m) lt is there = (let u = used_has xs q from attributes m there in inl (known u.0 (Used from attributes m) u.1))
        by_sort t q (Defined d) lt is there = (let k = kept_early is_defined xs o.order n t q (Defined d) lt is there refl in inr (name_has s (early n) k.0 (Defined d) k.1))
        by_sort t q (ForeignName attributes id') lt is there = absurd (own_names o.item q attributes id' there)

    defined_one : (n p : ℕ) (x : ScopeName) → is_defined x ≡ true → slice_get o.order n ≡ Some p → slice_get xs p ≡ Some x → Ready names (After a (flat_map of_name (early n))) (of_name x)
    defined_one n p (Defined d) passes next at = name_ready names s (Defined d) (After a (flat_map of_name (early n))) (only p (Defined d) at) (λ j id is. needs_known n p (Defined d) next at j id is)
    defined_one n p _ passes next at = cc

    defined_ready : (n : ℕ) → n ≤ length o.order → Ready names a (flat_map of_name (early n))
    defined_ready = ready_kept names of_name is_defined xs o.order a (names_within xs o.order it.least) defined_one

  -- its names, where the originals of the used ones occurred before
  pub names_ready : (a : Key → Type 0) → UsesPresent a → Ready names a (flat_map of_name (ordered_names o))
  names_ready a known =
      let first = flat_map of_name (used xs) in
      let rest = defined_ready (After a first) (λ p x at. inr (name_has s (used xs) p x at)) (length o.order) (omega arith) in
      let all = subst (λ (l : List ℕ). Ready names (After a first) (flat_map of_name (defined (in_order xs l)))) (take_all (length o.order) o.order (omega arith)) rest in
      subst (λ l. Ready names a l) (sym (flat_map-append of_name (used xs) (defined (in_order xs o.order)))) (ready_append names first (flat_map of_name (defined (in_order xs o.order))) a (used_ready a known) all)

  pub names_seen : NamesPresent (Has (keys (flat_map of_name (ordered_names o))))
  names_seen p x at = let k = in_turn_has xs o.order it.least p x at in name_has s (ordered_names o) k.0 x k.1

  -- each word of a signature is a name of the scope
  word_meant : (id : Id) (m : Option ScopeName) → meaning xs id.name.now ≡ m → (m ≡ None → ⊥) → (p : ℕ) × (x : ScopeName) × (slice_get xs p ≡ Some x) × (local_name x ≡ id.name.now)
  word_meant id None is none = absurd (none refl)
  word_meant id (Some x) is none =
      let test = λ (y : ScopeName). bytes_eq (local_name y) id.name.now in
      let p = find_at test xs x is in
      (p.0, x, p.1, name_equal (local_name x) id.name.now (find_passes test xs x is))

  pub signature_known : (a : Key → Type 0) → NamesPresent a → (k : ℕ) (fn : SourceFunction) → slice_get (functions o.item) k ≡ Some fn → (j : ℕ) (x : Shape) → slice_get (signature fn) j ≡ Some x → (i : ℕ) (id : Id) → slice_get (words x) i ≡ Some id → a (Def s id.name.now)
  signature_known a known k fn at j x there i id is =
      let w = flat_map_has words (signature fn) j i x id there is in
      let written = contains_at (flat_map words (signature fn)) w.0 id w.1 in
      let m = word_meant id (meaning xs id.name.now) refl (λ none. (
      let free : IsEntered (functions o.item) k id.name.now → ⊥ = λ h. legal (function_as_type id) (Scope o.item among (Function k fn at (MissingInSignature id written none (OfFunction h refl)))) in
      legal (missing_at 29 name_word id) (Scope o.item among (Function k fn at (MissingInSignature id written none (OfNothing free refl)))))) in
      subst (λ (name : List ℕ). a (Def s name)) m.3 (known m.0 m.1 m.2)

  -- so is the whole scope, with its functions
  pub turn_ready : (a : Key → Type 0) → UsesPresent a → Ready names a (turn_occurrences (turned o))
  turn_ready a known =
      let own = flat_map of_name (ordered_names o) in
      ready_append names own (all_function_occurrences s (functions o.item)) a (names_ready a known) (functions_ready names s (functions o.item) (After a own) (signature_known (After a own) (λ p x at. inr (names_seen p x at))))

  pub turn_names : NamesPresent (Has (keys (turn_occurrences (turned o))))
  turn_names p x at = has_prefix (flat_map of_name (ordered_names o)) (all_function_occurrences s (functions o.item)) (Def s (local_name x)) (names_seen p x at)
