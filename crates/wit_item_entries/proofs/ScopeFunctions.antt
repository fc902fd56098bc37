-- The functions of an item and the resources that they are of, added after its names.
use Rattle.std.proofs.Common.{ℕ, List, ◌∙◌, ◌≡◌, zero, suc, map, Some, IsSome, refl, ap, subst, arith, true, false, cond, [], ◌∷◌, ◌++◌, Option, None, inl, inr, nat_eq, take, sym}
use Rattle.std.specs.List.{find}
use denote.Ref.{Bor}
use Rattle.wit_items.proofs.Common.{Defined, DefinitionPart, Env, ExternPart, FunctionPart, Id, IncludePart, Names, Part, ResourceFunc, ScopeName, SourceFunction, TypeBody, UsePart, definition_functions, env_of, extern_at, flat_map_has, free_function, functions, in_turn, in_turn_has, local_name, local_names, lookup-listed, map_at, names_in, option_map, part_functions, part_names, parts, resource_function, scope_names, slice_get, slice_get-map, AreDistinct, body_ok, bytes_eq, differ_at, differ_by, find-append, insert_entry, lookup, meaning, meant_ok, name_cases, name_itself, option_or, or_none, pointwise, «Type» as Written, Address, AddsFunctions, AllDiffer, AreEnded, Function, Imported, Name, Required, ResolvedScope, SideFunction, SideItem, TypeDef, TypeOwner, address, all_handles, all_handles-append, ended_append, ended_more, flat_map, function_name, is_ascii_uppercase, is_world, list_any, made_name, map_map, name_types, on_side, side_items, side_items_functions, written_types, part_of_function, option_and_then, WorldSide, names_on, items_on}
use Rattle.wit_arena.proofs.Common.{Item}
use Rattle.wit_rules.specs.Signatures.{owner_of, HasOwner, HaveOwners, AreResults}
use Rattle.wit_item_entries.specs.AddedNames.{IsTurn, AddsTurn}
use Rattle.wit_item_entries.proofs.ReachedFaults.{turn_texts}
use Rattle.wit_type_tree.specs.declared.types.TypeDef.{TypeDef as Definition}
use Rattle.wit_setters.proofs.Results.{lookup-inserted}
use Rattle.wit_arena.proofs.FunctionNames.{names_differ}
use Rattle.wit_entries.specs.EntryFaults.{IsExtended, Requires}
use Rattle.wit_signatures.specs.FunctionsOfScope.{name_of_function, name_of_made, name_key, name_of_id}
use Rattle.wit_externs.specs.Clash.{item_names}
use Rattle.wit_item_entries.specs.Body.{AddsBody}
use Rattle.wit_item_entries.proofs.NameOrder.{differ_called, alone}
use Rattle.wit_entries.proofs.Requiring.{requires_none}
use Rattle.wit_entries.proofs.Resolves.{extended_same}
use Rattle.wit_type_tree.specs.declared.types.TypeBody.TheVariants as body
use Rattle.wit_type_tree.specs.declared.types.ResourceFunc.TheVariants as resource
use Rattle.wit_syntax.specs.SignatureRules.{ok_of}

-- The resource of a function of an item is a name of its scope.
resource_owner : (env : Env) (r : Id) (f : ResourceFunc) → IsSome (env r.name.now) → HasOwner env (owner_of (resource_function r f).role)
resource_owner env r (resource.Method f) has = has
resource_owner env r (resource.Static f) has = has
resource_owner env r (resource.Constructor docs attributes span params result) has = has

-- a function of a definition is one of that resource
definition_owner : (env : Env) (r : Id) (b : TypeBody) (k : ℕ) (fn : SourceFunction) → slice_get (definition_functions r b) k ≡ Some fn → IsSome (env r.name.now) → HasOwner env (owner_of fn.role)
definition_owner env r (body.Resource funcs) k fn at has =
    let f = map_at (resource_function r) funcs.items k fn at in
    subst (λ (g : SourceFunction). HasOwner env (owner_of g.role)) f.2 (resource_owner env r f.0 has)
definition_owner env r (body.Record span fields) k fn at has = absurd (let f : ⊥ = cc in f)
definition_owner env r (body.Flags span flags) k fn at has = absurd (let f : ⊥ = cc in f)
definition_owner env r (body.Variant span cases) k fn at has = absurd (let f : ⊥ = cc in f)
definition_owner env r (body.Enum span cases) k fn at has = absurd (let f : ⊥ = cc in f)
definition_owner env r (body.Plain t) k fn at has = absurd (let f : ⊥ = cc in f)

module _ (item : Item) (env : Env) (has : (i : ℕ) (x : ScopeName) → slice_get (scope_names item) i ≡ Some x → IsSome (env (local_name x))) where
  part_owner : (i : ℕ) (p : Part) (j : ℕ) (fn : SourceFunction) → slice_get (parts item) i ≡ Some p → slice_get (part_functions p) j ≡ Some fn → HasOwner env (owner_of fn.role)
  part_owner i (DefinitionPart d) j fn at there =
      let place = flat_map_has (part_names item.top) (parts item) i 0 (DefinitionPart d) (Defined d) at refl in
      definition_owner env d.name d.body j fn there (has place.0 (Defined d) place.1)
  part_owner i (UsePart u) j fn at there = absurd (let f : ⊥ = cc in f)
  part_owner i (IncludePart x) j fn at there = absurd (let f : ⊥ = cc in f)
  part_owner i (ExternPart x) j fn at there =
      let it = extern_at x x.kind j fn there in
      subst (λ (h : SourceFunction). HasOwner env (owner_of h.role)) it.2 tt
  part_owner i (FunctionPart g) zero fn at there =
      let same : free_function g ≡ fn = cc in
      subst (λ (h : SourceFunction). HasOwner env (owner_of h.role)) same tt
  part_owner i (FunctionPart g) (suc j) fn at there = absurd (let f : ⊥ = cc in f)

  pub owners : HaveOwners env (functions item)
  owners = record {
    each = λ k fn at. (
        let p = part_of_function item k fn at in
        part_owner p.0 p.1 p.3.0 fn p.2 p.3.1);
  }

-- each name of a scope is in a table that has them in turn
pub turn_has : (xs : List ScopeName) (ids : List Id) (types : Names) → IsTurn xs ids → names_in types ≡ map (λ (id : Id). id.name.now) ids → (i : ℕ) (x : ScopeName) → slice_get xs i ≡ Some x → IsSome (env_of types (local_name x))
turn_has xs ids types t listed i x at =
    let k = in_turn_has xs t.order t.least i x at in
    let same : names_in types ≡ local_names (in_turn xs t.order) = listed ∙ turn_texts xs t.order ids t.are in
    lookup-listed types k.0 (local_name x) (ap (λ (l : List (List ℕ)). slice_get l k.0) same ∙ slice_get-map local_name (in_turn xs t.order) k.0 ∙ ap (option_map local_name) k.1)

-- Definitions of a scope that are written as results, given by their names.
-- the last name of a scope is found by its name where none before it is
meaning_last : (xs : List ScopeName) (x : ScopeName) → meaning xs (local_name x) ≡ None → meaning (xs ++ x ∷ []) (local_name x) ≡ Some x
meaning_last xs x free =
    let test = λ (y : ScopeName). bytes_eq (local_name y) (local_name x) in
    let hit : find test (x ∷ []) ≡ Some x = rw (name_itself (local_name x)) refl in
    find-append test xs (x ∷ []) ∙ ap (λ o. option_or o (find test (x ∷ []))) free ∙ hit

-- by another name it is not
meaning_past : (xs : List ScopeName) (x : ScopeName) (name : List ℕ) → bytes_eq (local_name x) name ≡ false → meaning (xs ++ x ∷ []) name ≡ meaning xs name
meaning_past xs x name other =
    let test = λ (y : ScopeName). bytes_eq (local_name y) name in
    let miss : find test (x ∷ []) ≡ None = rw other refl in
    find-append test xs (x ∷ []) ∙ ap (option_or (find test xs)) miss ∙ or_none (find test xs)

-- where names differ, none before one goes by its name
pub unmeant_before : (xs : List ScopeName) (k : ℕ) (x : ScopeName) → AreDistinct xs → slice_get xs k ≡ Some x → meaning (take k xs) (local_name x) ≡ None
unmeant_before [] k x distinct at = absurd (let f : ⊥ = cc in f)
unmeant_before (y ∷ xs) zero x distinct at = refl
unmeant_before (y ∷ xs) (suc k) x distinct at = elim (name_cases (local_name y) (local_name x)) [
  | inl same ↦ absurd (let both = differ_at local_name (y ∷ xs) distinct 0 (suc k) y x refl at same in let f : ⊥ = omega arith in f)
  | inr other ↦ rw other (unmeant_before xs k x (differ_by local_name xs (λ i j e f ati atj names. (let both = differ_at local_name (y ∷ xs) distinct (suc i) (suc j) e f ati atj names in omega arith))) at)
]

-- one name more that is not written as a result
pub results_same : (results : List (List ℕ × Bor Written)) (xs : List ScopeName) (x : ScopeName) → meant_ok (Some x) ≡ None → AreResults results xs → AreResults results (xs ++ x ∷ [])
results_same results xs x none are = record {
  as_stated = λ name. (
      let test = λ (y : ScopeName). bytes_eq (local_name y) name in
      are.as_stated name ∙ kept (meaning xs name) (find test (x ∷ [])) (alone name) ∙ sym (ap meant_ok (find-append test xs (x ∷ []))));
}
  where
    kept : (o r : Option ScopeName) → meant_ok r ≡ None → meant_ok o ≡ meant_ok (option_or o r)
    kept None r nothing = sym nothing
    kept (Some y) r nothing = refl

    alone : (name : List ℕ) → meant_ok (meaning (x ∷ []) name) ≡ None
    alone name = elim (name_cases (local_name x) name) [
      | inl same ↦ rw (same, name_itself name) none
      | inr other ↦ rw other refl
    ]

-- one definition more that is
pub results_more : (results : List (List ℕ × Bor Written)) (xs : List ScopeName) (d : Definition) (t : Bor Written) → ok_of t.now ≡ body_ok d.body → meaning xs (local_name (Defined d)) ≡ None → AreResults results xs → AreResults (insert_entry (pointwise nat_eq) results (local_name (Defined d)) t) (xs ++ Defined d ∷ [])
results_more results xs d t gives free are = record {
  as_stated = λ name. (
      let own = local_name (Defined d) in
      let found = lookup-inserted results own name t in
      elim (name_cases own name) [
        | inl same ↦ (
            let hit : pointwise nat_eq name own ≡ true = ap (pointwise nat_eq name) same ∙ name_itself name in
            let there : meaning (xs ++ Defined d ∷ []) name ≡ Some (Defined d) = ap (meaning (xs ++ Defined d ∷ [])) (sym same) ∙ meaning_last xs (Defined d) free in
            ap (option_and_then (λ (t : Bor Written). ok_of t.now)) (found ∙ ap (λ b. cond b (Some t) (lookup (pointwise nat_eq name) results)) hit) ∙ gives ∙ sym (ap meant_ok there))
        | inr other ↦ (
            let miss : pointwise nat_eq name own ≡ false = flip own name other in
            ap (option_and_then (λ (t : Bor Written). ok_of t.now)) (found ∙ ap (λ b. cond b (Some t) (lookup (pointwise nat_eq name) results)) miss) ∙ are.as_stated name ∙ sym (ap meant_ok (meaning_past xs (Defined d) name other)))
      ]);
}
  where
    flip : (own name : List ℕ) → pointwise nat_eq own name ≡ false → pointwise nat_eq name own ≡ false
    flip own name other = elim (name_cases name own) [
      | inl same ↦ (let wrong : pointwise nat_eq own name ≡ true = ap (pointwise nat_eq own) same ∙ name_itself own in cc)
      | inr far ↦ far
    ]

-- The functions of an item, added after its names.
-- the names of a scope that was added, in turn
pub turn_added : (old mid : List TypeDef) (cs : List ResolvedScope) (o : TypeOwner) (xs : List ScopeName) (types : Names) (ids : List Id) (rs : List Required) → AddsTurn old mid cs o xs types ids rs → IsTurn xs ids
turn_added old mid cs o xs types ids rs n = record { order = n.adds.order; least = n.adds.least; distinct = n.adds.distinct; are = n.turn }

-- what is required comes after what was
required_after : (env : Env) (mid new : List TypeDef) (ids more : List Id) (own all : List Required) → IsExtended mid new → Requires env mid ids [] own → Requires env new more own all → AreEnded env new (ids ++ more) all
required_after env mid new ids more own all g p q =
    let first : AreEnded env new ids p.list = subst (λ (es : List TypeDef). AreEnded env es ids p.list) (sym g.is) (ended_more env env mid g.more ids p.list (λ name i present. present) p.ended) in
    subst (AreEnded env new (ids ++ more)) (sym (q.added ∙ ap (λ (l : List Required). l ++ q.list) p.added)) (ended_append env new ids more p.list q.list first q.ended)

-- so its names and its functions were added
pub body_added : (old mid new : List TypeDef) (cs : List ResolvedScope) (o : TypeOwner) (item : Item) (types : Names) (ids : List Id) (own all : List Required) (fs : List Function) → AddsTurn old mid cs o (scope_names item) types ids own → ((s : Address) → AddsFunctions mid new s types (functions item) fs) → IsExtended mid new → Requires (env_of types) new (all_handles (flat_map written_types (functions item))) own all → map name_of_made fs ≡ map name_of_function (functions item) → ((side : WorldSide) → AllDiffer (map name_key (names_on side (map name_of_id ids) ++ flat_map item_names (items_on side (side_items item))))) → AddsBody old new cs o item types ids fs all
body_added old mid new cs o item types ids own all fs n adds g q named differ =
    let names = flat_map name_types (in_turn (scope_names item) n.adds.order) in
    let others = flat_map written_types (functions item) in
    record {
      middle = mid;
      adds = n.adds;
      turn = n.turn;
      makes = adds (address item);
      ended = subst (λ (l : List Id). AreEnded (env_of types) new l all) (sym (all_handles-append names others)) (required_after (env_of types) mid new (all_handles names) (all_handles others) own all g n.handled q);
      named = named;
      differ = differ;
    }

-- an interface without functions adds none
functions_none : (es : List TypeDef) (s : Address) (names : Names) → AddsFunctions es es s names [] []
functions_none es s names = record { from = λ decls ms occurrence known. record { now = ms; collects = refl; occurrence = occurrence; holds = λ id gives. refl } }

pub none_added : (old mid : List TypeDef) (cs : List ResolvedScope) (o : TypeOwner) (item : Item) (types : Names) (ids : List Id) (own : List Required) → is_world item ≡ false → functions item ≡ [] → list_any (λ (id : Id). list_any is_ascii_uppercase id.name.now) ids ≡ false → AddsTurn old mid cs o (scope_names item) types ids own → AddsBody old mid cs o item types ids [] own
none_added old mid cs o item types ids own sort none lower n = body_added old mid mid cs o item types ids own own [] n
    (λ s. subst (λ (fns : List SourceFunction). AddsFunctions mid mid s types fns []) (sym none) (functions_none mid s types))
    (extended_same mid)
    (subst (λ (fns : List SourceFunction). Requires (env_of types) mid (all_handles (flat_map written_types fns)) own own) (sym none) (requires_none (env_of types) mid own))
    (ap (map name_of_function) (sym none))
    (λ side. subst (λ (items : List SideItem). AllDiffer (map name_key (names_on side (map name_of_id ids) ++ flat_map item_names (items_on side items)))) (sym (side_items_functions item sort ∙ ap (map SideFunction) none)) (alone side (scope_names item) ids (turn_added old mid cs o (scope_names item) types ids own n) lower))

-- where functions alone are on the sides, and all of them are where imports are, their names differ if their keys do
pub made_differ : (old new : List TypeDef) (cs : List ResolvedScope) (o : TypeOwner) (item : Item) (types : Names) (ids : List Id) (fs : List Function) (rs : List Required) → on_side Imported (functions item) ≡ functions item → side_items item ≡ map SideFunction (functions item) → AddsBody old new cs o item types ids fs rs → AllDiffer (map made_name fs)
made_differ old new cs o item types ids fs rs imported alone b =
    let xs = scope_names item in
    let fns = functions item in
    let own : map made_name fs ≡ map function_name fns = sym (map_map (λ (n : Name). n.0) name_of_made fs) ∙ ap (map (λ (n : Name). n.0)) b.named ∙ map_map (λ (n : Name). n.0) name_of_function fns in
    let differ : AllDiffer (map name_key (names_on Imported (map name_of_id ids) ++ flat_map item_names (items_on Imported (map SideFunction fns)))) = subst (λ (items : List SideItem). AllDiffer (map name_key (names_on Imported (map name_of_id ids) ++ flat_map item_names (items_on Imported items)))) alone (b.differ Imported) in
    subst AllDiffer (ap (map function_name) imported ∙ sym own) (names_differ Imported xs fns b.adds.order (differ_called Imported xs (map SideFunction fns) b.adds.order ids b.turn differ))
