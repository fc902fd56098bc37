-- One scope more after those that are done, and functions of one of them.
use Rattle.std.proofs.Common.{◌≡◌, ℕ, List, [], ◌∷◌, ◌++◌, length, map, Some, inl, inr, sym, ap, ◌∙◌, subst}
use Rattle.wit_arena.proofs.Names.{Address, AllDiffer, AreEnded, AreKnown, AreNames, AreNew, AreOwned, AreRequired, Decls, Def, Extends, Id, Key, Occurrence, PackageFile, Required, ResolvedScope, ScopeName, SourceFunction, TypeDef, TypeOwner, all_function_occurrences, at_either, at_prefix, at_seam, differ_more, env_of, keys, local_name, local_names, map-append, map_at, scope, slice_get}
use Rattle.wit_arena.proofs.DefinitionPart.{name_seen_in}
use Rattle.wit_arena.proofs.OneKind.{key_extended}
use Rattle.wit_arena.proofs.Occurrence.{Has, collects_append, collects_from, collects_extended, has_either, keys-append}
use Rattle.wit_arena.proofs.Resolving.{names_beside, no_name_in_functions, AreDoneNames, DoneScope, done_address, resolved_scope_of, IsTurn, IsNameOf, IsDone}
use Rattle.wit_arena.proofs.Turns.{all_name_occurrences}
use Rattle.wit_arena.proofs.Required.{in_scope, ended_required}
use Rattle.wit_arena.proofs.Ends.{IsDeclared}

-- the scope of a name that occurred is declared by files
pub done_declared : (files : List PackageFile) (decls : Decls) (written : List Occurrence) (cs : List DoneScope) (es : List TypeDef) (s : Address) (name : List ℕ) → IsDone files decls written cs es → IsNameOf cs s name → IsDeclared files decls s
done_declared files decls written cs es s name d it = subst (λ (z : Address). IsDeclared files decls z) it.scope (record {
  distinct = (d.each it.place it.resolved_scope it.at).turn.distinct;
  whose = it.resolved_scope.owner;
  own = d.own it.place it.resolved_scope it.at;
})

-- the names in turn are declared where those of the scope are
turned_owned : (decls : Decls) (o : TypeOwner) (s : Address) (xs ys : List ScopeName) → decls s ≡ (xs, o) → IsTurn xs ys → AreOwned decls o s ys
turned_owned decls o s xs ys own turn i x at = let p = turn.among i x at in (p.0, ap (λ (d : List ScopeName × TypeOwner). slice_get d.0 p.0) own ∙ p.1, ap (λ (d : List ScopeName × TypeOwner). d.1) own)

-- a name that occurs in a scope is one of its names
pub seen_in_turn : (s : Address) (xs : List ScopeName) (fns : List SourceFunction) (t : Address) (name : List ℕ) → Has (keys (all_name_occurrences s xs ++ all_function_occurrences s fns)) (Def t name) → (t ≡ s) × ((i : ℕ) × (x : ScopeName) × (slice_get xs i ≡ Some x) × (local_name x ≡ name))
seen_in_turn s xs fns t name h = elim (has_either (keys (all_name_occurrences s xs)) (keys (all_function_occurrences s fns)) (Def t name) (subst (λ (l : List Key). Has l (Def t name)) (keys-append (all_name_occurrences s xs) (all_function_occurrences s fns)) h)) [
  | inl named ↦ name_seen_in s xs t name named
  | inr other ↦ absurd (no_name_in_functions s fns t name other)
]

-- a scope at an address that none of those that are done has, with these names in turn
module _ (files : List PackageFile) (decls : Decls) (written : List Occurrence) (cs : List DoneScope) (es : List TypeDef) (d : IsDone files decls written cs es) (s : Address) (o : TypeOwner) (xs : List ScopeName) (fresh : (t : ℕ) (b : DoneScope) → slice_get cs t ≡ Some b → b.address ≡ s → ⊥) (own : decls s ≡ (scope files s, o)) (turn : IsTurn (scope files s) xs) where
  pub are_owned : AreOwned decls o s xs
  are_owned = turned_owned decls o s (scope files s) xs own turn

  unmet : (j : ℕ) (name : List ℕ) → slice_get (keys d.seen) j ≡ Some (Def s name) → ⊥
  unmet j name at = let it = d.before j s name at in fresh it.place it.resolved_scope it.at it.scope

  pub are_new : AreNew (keys d.seen) s xs
  are_new = record { new = λ i x at was. unmet was.0 (local_name x) was.1 }

  pub none_named : AreNames (keys d.seen) s (env_of [])
  none_named = record {
    present = λ name i h. absurd (let f : ⊥ = cc in f);
    has = λ j name at. absurd (unmet j name at);
  }

  -- the names of scopes that are done mean their places
  pub are_known : (known : List ResolvedScope) → ((t : ℕ) (c : ResolvedScope) → slice_get known t ≡ Some c → (j : ℕ) × (slice_get (map resolved_scope_of cs) j ≡ Some c)) → AreKnown (keys d.seen) s known
  are_known known among = record {
    names = λ t k at. (let j = among t k at in let b = map_at resolved_scope_of cs j.0 k j.1 in subst (λ (x : ResolvedScope). AreNames (keys d.seen) x.address (env_of x.types)) b.2 (d.are_present j.0 b.0 b.1));
    others = λ t k at same. (let j = among t k at in let b = map_at resolved_scope_of cs j.0 k j.1 in fresh j.0 b.0 b.1 (ap (λ (x : ResolvedScope). x.address) b.2 ∙ same));
  }

  -- so it is done, once it occurred
  module _ {Holds : List Key → Type 0} (es' : List TypeDef) (c : DoneScope) (here : c.address ≡ s) (whose : c.owner ≡ o) (are : c.names ≡ xs) (more : List Occurrence) (seen_in : (t : Address) (name : List ℕ) → Has (keys more) (Def t name) → (t ≡ s) × ((i : ℕ) × (x : ScopeName) × (slice_get xs i ≡ Some x) × (local_name x ≡ name))) (x : Extends decls d.seen more es' Holds) (named : AreNames (keys x.now) s (env_of c.types)) (listed : map (λ p. p.0) c.types ≡ local_names xs) where
    abbrev all : List DoneScope
    all = cs ++ c ∷ []

    pub named_among : (j : ℕ) (t : Address) (name : List ℕ) → slice_get (keys x.now) j ≡ Some (Def t name) → IsNameOf all t name
    named_among j t name at = elim (collects_from more d.seen x.now x.collects j (Def t name) at) [
      | inl was ↦ (
          let it = d.before was.0 t name was.1 in
          record { place = it.place; resolved_scope = it.resolved_scope; at = at_prefix cs (c ∷ []) it.place it.resolved_scope it.at; scope = it.scope; index = it.index; x = it.x; among = it.among; called = it.called })
      | inr new ↦ (
          let it = seen_in t name new in
          record { place = length cs; resolved_scope = c; at = at_seam cs c; scope = here ∙ sym it.0; index = it.1.0; x = it.1.1; among = ap (λ (l : List ScopeName). slice_get l it.1.0) are ∙ it.1.2; called = it.1.3 })
    ]

    pub kept : (t : ℕ) (b : DoneScope) → slice_get cs t ≡ Some b → AreNames (keys x.now) b.address (env_of b.types)
    kept t b at = record {
      present = λ name i found. key_extended (collects_extended more d.seen x.now x.collects) i (Def b.address name) ((d.are_present t b at).present name i found);
      has = λ j name jat. elim (collects_from more d.seen x.now x.collects j (Def b.address name) jat) [
        | inl before ↦ (d.are_present t b at).has before.0 name before.1
        | inr new ↦ absurd (fresh t b at (seen_in b.address name new).0)
      ];
    }

    pub done_names : AreDoneNames files c
    done_names = record {
      turn = subst (λ (a : Address). IsTurn (scope files a) c.names) (sym here) (subst (IsTurn (scope files s)) (sym are) turn);
      listed = listed ∙ ap local_names (sym are);
    }

    abbrev pub scope_done : IsDone files decls (written ++ more) all es'
    scope_done = record {
      seen = x.now;
      collects = collects_append written more [] d.seen x.now d.collects x.collects;
      occurrence = x.occurrence;
      each = λ t b at. elim (at_either cs c t b at) [
        | inl old ↦ d.each t b old
        | inr new ↦ subst (λ (z : DoneScope). AreDoneNames files z) (sym new.1) done_names
      ];
      own = λ t b at. elim (at_either cs c t b at) [
        | inl old ↦ d.own t b old
        | inr new ↦ rw (new.1, here, whose) own
      ];
      are_present = λ t b at. elim (at_either cs c t b at) [
        | inl old ↦ kept t b old
        | inr new ↦ rw (new.1, here) named
      ];
      before = named_among;
      unique = subst AllDiffer (sym (map-append done_address cs (c ∷ []))) (differ_more (map done_address cs) c.address d.unique (λ i at. (let b = map_at done_address cs i c.address at in fresh i b.0 b.1 (b.2 ∙ here))));
    }

-- functions of a scope that is done
abbrev pub functions_done : (files : List PackageFile) (decls : Decls) (written : List Occurrence) (cs : List DoneScope) (es es' : List TypeDef) (d : IsDone files decls written cs es) (s : Address) (fns : List SourceFunction) {Holds : List Key → Type 0} → Extends decls d.seen (all_function_occurrences s fns) es' Holds → IsDone files decls (written ++ all_function_occurrences s fns) cs es'
functions_done files decls written cs es es' d s fns x = record {
  seen = x.now;
  collects = collects_append written (all_function_occurrences s fns) [] d.seen x.now d.collects x.collects;
  occurrence = x.occurrence;
  each = d.each;
  own = d.own;
  are_present = λ k b at. names_beside s fns d.seen x.now b.address (env_of b.types) x.collects (d.are_present k b at);
  before = λ j t name at. elim (collects_from (all_function_occurrences s fns) d.seen x.now x.collects j (Def t name) at) [
    | inl was ↦ d.before was.0 t name was.1
    | inr new ↦ absurd (no_name_in_functions s fns t name new)
  ];
  unique = d.unique;
}

-- what handles require, where it is in the arena by now
pub required_there : (files : List PackageFile) (decls : Decls) (written : List Occurrence) (cs : List DoneScope) (es : List TypeDef) (d : IsDone files decls written cs es) (t : ℕ) (c : DoneScope) → slice_get cs t ≡ Some c → (ids : List Id) (rs : List Required) → AreEnded (env_of c.types) es ids rs → AreRequired files (keys d.seen) (map (in_scope c.address) ids) rs
required_there files decls written cs es d t c at ids rs ended = ended_required files decls d.seen es d.occurrence (λ j x name there. done_declared files decls written cs es x name d (d.before j x name there)) c.address (env_of c.types) (d.are_present t c at) ids rs ended
