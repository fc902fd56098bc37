-- The functions among what is on the sides of a scope, one after the other, over their types.
use Rattle.std.proofs.Common.{◌≡◌, ◌<◌, ◌≤◌, ◌+◌, ℕ, List, [], ◌∷◌, ◌++◌, length, map, take, Some, All, IsTrue, sym, ap, ◌∙◌, subst, arith}
use Rattle.wit_arena.proofs.Common.{Address, AddsFunctions, All-push, All-same, Function, Required, SideFunction, SourceFunction, Span, TypeDef, all_handles, append-nil, env_of, flat_map, flat_map-append, functions_append, is_mangled, length-map, length-take-le, map-append, option_map, slice_get, slice_get-map, slice_get_within, take_all, written_types, «Type» as Written}
use Rattle.wit_refusals.specs.NameScopes.{Name}
use Rattle.wit_rules.specs.declared.function_scope.FunctionScope.{FunctionScope}
use Rattle.wit_rules.specs.declared.borrowed.BorrowedFunction.{BorrowedFunction}
use Rattle.wit_rules.specs.Signatures.{function_view, functions_view}
use Rattle.wit_entries.specs.EntryFaults.{IsExtended, Requires}
use Rattle.wit_signatures.specs.FunctionsOfScope.{name_of_function, name_of_made}
use Rattle.wit_entries.proofs.Requiring.{extended_then, requires_types}

-- the first functions of a scope are resolved
pub record AreDone (first now : List TypeDef) (scope : FunctionScope) (fns : List SourceFunction) (fs : List Function) (before after : List Required) : Type 0 where
  pub adds : (s : Address) → AddsFunctions first now s scope.names.now fns fs
  pub named : map name_of_made fs ≡ map name_of_function fns
  pub mangled : All (λ f. IsTrue (is_mangled f.name)) fs
  pub handled : Requires (env_of scope.names.now) now (all_handles (flat_map written_types fns)) before after
  pub extended : IsExtended first now

pub same_name : (f : Function) (fn : SourceFunction) → (f.name ≡ fn.name) × (f.span ≡ fn.span) → name_of_made f ≡ name_of_function fn
same_name f fn h = ap (λ (n : List ℕ). (n, f.span)) h.0 ∙ ap (λ (s : Span). (fn.name, s)) h.1

types_more : (fns gns : List SourceFunction) (fn : SourceFunction) → gns ≡ fns ++ fn ∷ [] → flat_map written_types gns ≡ flat_map written_types fns ++ written_types fn
types_more fns gns fn in_use = ap (flat_map written_types) in_use ∙ flat_map-append written_types fns (fn ∷ []) ∙ ap (λ (ts : List Written). flat_map written_types fns ++ ts) (append-nil (written_types fn))

-- as many are made as are resolved
made_count : (fns : List SourceFunction) (fs : List Function) → map name_of_made fs ≡ map name_of_function fns → length fs ≡ length fns
made_count fns fs named = sym (length-map fs name_of_made) ∙ ap length named ∙ length-map fns name_of_function

-- and one more
pub done_more : (first mid new : List TypeDef) (scope : FunctionScope) (fns gns : List SourceFunction) (fn : SourceFunction) (fs gs : List Function) (f : Function) (a b c : List Required) → gns ≡ fns ++ fn ∷ [] → gs ≡ fs ++ f ∷ [] → ((s : Address) → AddsFunctions mid new s scope.names.now (fn ∷ []) (f ∷ [])) → (f.name ≡ fn.name) × (f.span ≡ fn.span) → IsTrue (is_mangled f.name) → Requires (env_of scope.names.now) new (all_handles (written_types fn)) b c → IsExtended mid new → AreDone first mid scope fns fs a b → AreDone first new scope gns gs a c
done_more first mid new scope fns gns fn fs gs f a b c in_use pushed adds named mangled handled extended h = record {
  adds = λ s. subst (λ (l : List SourceFunction). AddsFunctions first new s scope.names.now l gs) (sym in_use) (subst (AddsFunctions first new s scope.names.now (fns ++ fn ∷ [])) (sym pushed) (functions_append first mid new s scope.names.now fns (fn ∷ []) fs (f ∷ []) (h.adds s) (adds s)));
  named = ap (map name_of_made) pushed ∙ map-append name_of_made fs (f ∷ []) ∙ ap (λ (l : List Name). l ++ name_of_made f ∷ []) h.named ∙ ap (λ (n : Name). map name_of_function fns ++ n ∷ []) (same_name f fn named) ∙ sym (map-append name_of_function fns (fn ∷ [])) ∙ ap (map name_of_function) (sym in_use);
  mangled = All-same (λ (g : Function). IsTrue (is_mangled g.name)) gs (fs ++ f ∷ []) pushed (All-push (λ (g : Function). IsTrue (is_mangled g.name)) fs f h.mangled mangled);
  handled = subst (λ (ts : List Written). Requires (env_of scope.names.now) new (all_handles ts) a c) (sym (types_more fns gns fn in_use)) (requires_types (env_of scope.names.now) mid new (flat_map written_types fns) (written_types fn) a b c extended h.handled handled);
  extended = extended_then first mid new h.extended extended;
}

-- a function at a place is one of the scope
pub place_within : (scope : FunctionScope) (k : ℕ) (fn : SourceFunction) → slice_get (functions_view scope) k ≡ Some fn → k < length scope.functions.now
place_within scope k fn at =
    let within = slice_get_within (functions_view scope) k fn at in
    let same = length-map scope.functions.now function_view in
    omega (arith, within, same)

-- where the functions of a scope are read one after the other, this one is the next of them
scope_next : (scope : FunctionScope) (i : ℕ) (h : BorrowedFunction) → slice_get scope.functions.now i ≡ Some h → slice_get (functions_view scope) i ≡ Some (function_view h)
scope_next scope i h at = slice_get-map function_view scope.functions.now i ∙ ap (option_map function_view) at

-- and is at that place on the sides
pub item_next : (fns : List SourceFunction) (i : ℕ) (fn : SourceFunction) → slice_get fns i ≡ Some fn → slice_get (map SideFunction fns) i ≡ Some (SideFunction fn)
item_next fns i fn at = slice_get-map SideFunction fns i ∙ ap (option_map SideFunction) at

-- as many as are read are made
made_to : (fns : List SourceFunction) (i : ℕ) (fn : SourceFunction) (fs : List Function) → slice_get fns i ≡ Some fn → map name_of_made fs ≡ map name_of_function (take i fns) → length fs ≡ i
made_to fns i fn fs at named =
    let within = slice_get_within fns i fn at in
    made_count (take i fns) fs named ∙ length-take-le i fns (omega (arith, within))

-- so the next one is at the place that comes after those that are made
pub next_place : (scope : FunctionScope) (i : ℕ) (h : BorrowedFunction) (fs : List Function) (n : ℕ) → slice_get scope.functions.now i ≡ Some h → map name_of_made fs ≡ map name_of_function (take i (functions_view scope)) → n ≡ length fs → (n ≡ i) × (slice_get (functions_view scope) i ≡ Some (function_view h)) × (slice_get (functions_view scope) n ≡ Some (function_view h))
next_place scope i h fs n at named long =
    let here = scope_next scope i h at in
    let same : n ≡ i = long ∙ made_to (functions_view scope) i (function_view h) fs here named in
    (same, here, ap (slice_get (functions_view scope)) same ∙ here)

-- all of them
pub done_all : (first now : List TypeDef) (scope : FunctionScope) (i : ℕ) (fs : List Function) (a b : List Required) → length scope.functions.now ≤ i → AreDone first now scope (take i (functions_view scope)) fs a b → AreDone first now scope (functions_view scope) fs a b
done_all first now scope i fs a b le h =
    let same = length-map scope.functions.now function_view in
    subst (λ (fns : List SourceFunction). AreDone first now scope fns fs a b) (take_all i (functions_view scope) (omega (arith, le, same))) h
