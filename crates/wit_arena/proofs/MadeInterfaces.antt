-- An interface, by what it says and over places.
use Rattle.std.proofs.Common.{◌≡◌, ℕ, List, Option, Some, None, ap, ◌∙◌}
use Rattle.wit_arena.proofs.Names.{Function, Interface, Metadata, Names, Span, interface, Docs, Stability, AddsFunctions, AddsInterface, AddsScope, AreEnded, Item, Required, ResolvedScope, TypeDef, about, address, all_function_occurrences, all_handles, all_types, by_name, declared_metadata, env_of, function_in, in_turn, in_turn_distinct, functions as item_functions, keys, map_map, name_places, placed, placed_functions, scope_names}
use Rattle.wit_arena.proofs.Turns.{all_name_occurrences}
use Rattle.wit_arena.proofs.Occurrence.{collects_append, collects_extended}
use Rattle.wit_arena.proofs.Placing.{gives_fewer}
use Rattle.wit_arena.proofs.Resolving.{names_beside}
use Rattle.wit_arena.proofs.PlacingFunctions.{names_placed}
use Rattle.wit_types.specs.declared.types.TypeOwner.TheVariants as owner

abbrev fields : Option (List ℕ) → List (List ℕ × ℕ) → List (List ℕ × Function) → Docs → Stability → Option ℕ → Span → Option ℕ → Interface
fields name types functions docs stability of span source = record { name = name; types = types; functions = functions; docs = docs; stability = stability; «package» = of; span = span; clone_of = source }

-- an interface says this, field by field
pub interface_from : (name : Option (List ℕ)) (span : Span) (n : Metadata) (i : Interface) → i.name ≡ name → i.span ≡ span → i.docs ≡ n.docs → i.stability ≡ n.stability → i.package ≡ None → i.clone_of ≡ None → i ≡ interface name i.types i.functions n span
interface_from name span n i called present docs stability of source = (let same : fields i.name i.types i.functions i.docs i.stability i.package i.span i.clone_of ≡ interface name i.types i.functions n span = cc in same)

-- what the names and then the functions of an interface add, with what it says, is what it adds
pub interface_added : (cs : List ResolvedScope) (place : ℕ) (old middle new : List TypeDef) (added : Interface) (rs : List Required) (item : Item) (n : AddsScope old middle cs (owner.Interface place) (scope_names item) added.types) (fs : List Function) → AddsFunctions middle new (address item) added.types (item_functions item) fs → added ≡ interface (about item.declared).called added.types (placed_functions fs) (declared_metadata item.declared) (about item.declared).id.span → AreEnded (env_of added.types) new (all_handles (all_types (in_turn (scope_names item) n.order) (item_functions item))) rs → AddsInterface cs place old new added rs item
interface_added cs place old middle new added rs item n fs adds says ended =
    let s = address item in
    let fns = item_functions item in
    let names = in_turn (scope_names item) n.order in
    let distinct = in_turn_distinct (scope_names item) n.order n.least n.distinct in
    let called = (about item.declared).called in
    let stated = declared_metadata item.declared in
    let span = (about item.declared).id.span in
    record {
      order = n.order;
      least = n.least;
      distinct = n.distinct;
      called = ap (λ (i : Interface). i.name) says;
      from = λ decls ms owned anew known m nothing. (
          let x = (n.defines s).from decls ms owned distinct anew known m nothing in
          let y = adds.from decls x.now x.occurrence x.holds.0 in
          record {
            now = y.now;
            collects = collects_append (all_name_occurrences s names) (all_function_occurrences s fns) ms x.now y.now x.collects y.collects;
            occurrence = y.occurrence;
            holds = (
              names_beside s fns x.now y.now s (env_of added.types) y.collects x.holds.0,
              λ id gives.
                  says
                  ∙ ap (λ (l : Names). interface called l (placed_functions fs) stated span) (names_placed id (keys x.now) (gives_fewer (collects_extended (all_function_occurrences s fns) x.now y.now y.collects) id gives) s names added.types distinct x.holds.1 x.holds.0)
                  ∙ ap (λ (l : List Function). interface called (name_places id s names) (placed_functions l) stated span) (y.holds id gives)
                  ∙ ap (λ (l : List (List ℕ × Function)). interface called (name_places id s names) (placed Some l) stated span) (map_map by_name (function_in id s) fns),
            );
          });
      ended = ended;
    }
