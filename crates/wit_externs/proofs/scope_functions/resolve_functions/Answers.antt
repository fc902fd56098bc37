use Rattle.std.proofs.Common.{◌≡◌, ◌∷◌, ◌++◌, ◌+◌, [], List, ℕ, Option, inl, inr, refl, sym, ap, ◌∙◌, map, take, arith}
use Rattle.wit_arena.proofs.Common.{Fault, SideFunction, SideItem, SourceFunction, WorldSide, env_of, err_from_is_err_and, items_on, length-map, option_or, role_side, slice_get_read, take-map, take_all, take_next, flat_map}
use Rattle.wit_refusals.specs.NameScopes.{Name}
use Rattle.wit_sides.specs.SideNames.{defined_on}
use Rattle.wit_rules.specs.Signatures.{function_view, functions_view}
use Rattle.wit_walk.proofs.Common.{after-at, after-more, function_fault, none_both}
use Rattle.wit_signatures.specs.FunctionsOfScope.{name_of_function}
use Rattle.wit_entries.proofs.Requiring.{extended_then}
use Rattle.wit_externs.specs.Clash.{again_fault, alone_faults, signed_by, item_names}
use Rattle.wit_externs.proofs.AloneFaults.{function_safe, function_same, safe_arena, safe_of, words_in}
use Rattle.wit_externs.proofs.Clashing.{sides_more}
use Rattle.wit_externs.proofs.DoneFunctions.{next_place, item_next, place_within, done_more, done_all, same_name}
use Rattle.wit_externs.proofs.scope_functions.resolve_functions.Goals as goal

pub resolve_function-requires-clause-place : goal.resolve_function-requires-clause-place
resolve_function-requires-clause-place c =
    let i = c.loop-borrowed.borrowed-index in
    let h = c.borrowed-item.result in
    let fn = function_view h in
    let next = next_place c.args.scope i h c.loop-borrowed.functions.items c.len.result (slice_get_read c.args.scope.functions.now _ i h refl c.loop-borrowed-test.true c.borrowed-item.is) c.loop-borrowed.invariant.done.named (omega (arith, c.len.ensures, c.loop-borrowed.functions.ok)) in
    place_within c.args.scope c.len.result fn next.2

pub returns-in_err-function-clause-extended : goal.returns-in_err-function-clause-extended
returns-in_err-function-clause-extended c = extended_then c.args.types.now c.loop-borrowed.types c.resolve_function.new.types c.loop-borrowed.invariant.done.extended c.in_err-function.ensures.finds.extended

pub returns-in_err-function-clause-first : goal.returns-in_err-function-clause-first
returns-in_err-function-clause-first c =
    let p = err_from_is_err_and c.from_residual-in_err-function.result c.from_residual-in_err-function.ensures.1 in
    let i = c.loop-borrowed.borrowed-index in
    let h = c.borrowed-item.result in
    let fn = function_view h in
    let fns = functions_view c.args.scope in
    let next = next_place c.args.scope i h c.loop-borrowed.functions.items c.len.result (slice_get_read c.args.scope.functions.now _ i h refl c.loop-borrowed-test.true c.borrowed-item.is) c.loop-borrowed.invariant.done.named (omega (arith, c.len.ensures, c.loop-borrowed.functions.ok)) in
    let env = env_of c.args.scope.names.now in
    let new = c.resolve_function.new.types in
    let old : WorldSide → List Name = λ s. defined_on s c.args.in_use.now in
    rw (p.1, p.2) (λ xs scope. elim (c.in_err-function.ensures.finds.first xs scope fn next.2) [
      | inl memory ↦ inl memory
      | inr wrong ↦ inr (λ handle ends. (
          let none = c.loop-borrowed.invariant.first xs scope handle (safe_arena env c.loop-borrowed.types new handle c.in_err-function.ensures.finds.extended (safe_of env new handle ends)) in
          let own = function_same env new handle xs ends fns c.len.result fn next.2 ∙ ap (λ (n : ℕ). function_fault (signed_by (words_in env) handle (take n fns ++ fn ∷ [])) xs fn) next.0 in
          let again = again_fault (old (role_side fn.role) ++ flat_map item_names (items_on (role_side fn.role) (map SideFunction (take i fns)))) (name_of_function fn) in
          after-at (λ (before : List SourceFunction) (fn : SourceFunction). option_or (function_fault (signed_by (words_in env) handle (before ++ fn ∷ [])) xs fn) (again_fault (old (role_side fn.role) ++ flat_map item_names (items_on (role_side fn.role) (map SideFunction before))) (name_of_function fn))) fns i fn _ next.1 none (ap (λ (o : Option Fault). option_or o again) (sym own ∙ wrong))))
    ])

pub define_alone-requires-clause-mangled : goal.define_alone-requires-clause-mangled
define_alone-requires-clause-mangled c = c.in_ok-function.ensures.adds.mangled

pub define_alone-requires-clause-borrowed : goal.define_alone-requires-clause-borrowed
define_alone-requires-clause-borrowed c =
    let i = c.loop-borrowed.borrowed-index in
    let h = c.borrowed-item.result in
    let fn = function_view h in
    let next = next_place c.args.scope i h c.loop-borrowed.functions.items c.len.result (slice_get_read c.args.scope.functions.now _ i h refl c.loop-borrowed-test.true c.borrowed-item.is) c.loop-borrowed.invariant.done.named (omega (arith, c.len.ensures, c.loop-borrowed.functions.ok)) in
    same_name c.in_ok-function.function fn (c.in_ok-function.ensures.adds.named fn next.2)

pub returns-in_err-define_alone-clause-extended : goal.returns-in_err-define_alone-clause-extended
returns-in_err-define_alone-clause-extended c = extended_then c.args.types.now c.loop-borrowed.types c.resolve_function.new.types c.loop-borrowed.invariant.done.extended c.in_ok-function.ensures.finds.extended

-- the names on the side of a function, once those before it are defined
names_before : (old mid : WorldSide → List Name) (fns : List SourceFunction) (i : ℕ) → ((s : WorldSide) → mid s ≡ old s ++ flat_map item_names (items_on s (take i (map SideFunction fns)))) → (s : WorldSide) → mid s ≡ old s ++ flat_map item_names (items_on s (map SideFunction (take i fns)))
names_before old mid fns i defined s = defined s ∙ ap (λ (l : List SideItem). old s ++ flat_map item_names (items_on s l)) (take-map SideFunction i fns)

pub returns-in_err-define_alone-clause-first : goal.returns-in_err-define_alone-clause-first
returns-in_err-define_alone-clause-first c =
    let p = err_from_is_err_and c.from_residual-in_err-define_alone.result c.from_residual-in_err-define_alone.ensures.1 in
    let i = c.loop-borrowed.borrowed-index in
    let h = c.borrowed-item.result in
    let fn = function_view h in
    let fns = functions_view c.args.scope in
    let next = next_place c.args.scope i h c.loop-borrowed.functions.items c.len.result (slice_get_read c.args.scope.functions.now _ i h refl c.loop-borrowed-test.true c.borrowed-item.is) c.loop-borrowed.invariant.done.named (omega (arith, c.len.ensures, c.loop-borrowed.functions.ok)) in
    let env = env_of c.args.scope.names.now in
    let new = c.resolve_function.new.types in
    let old : WorldSide → List Name = λ s. defined_on s c.args.in_use.now in
    let mid : WorldSide → List Name = λ s. defined_on s c.loop-borrowed.in_use in
    let side = role_side fn.role in
    let named = ap (λ (l : List Name). again_fault l (name_of_function fn)) (names_before old mid fns i c.loop-borrowed.invariant.defined side) in
    rw (p.1, p.2) (λ xs scope. elim c.in_err-define_alone.ensures.first [
      | inl memory ↦ inl memory
      | inr wrong ↦ inr (λ handle ends. (
          let safe = safe_of env new handle ends in
          let none = c.loop-borrowed.invariant.first xs scope handle (safe_arena env c.loop-borrowed.types new handle c.in_ok-function.ensures.finds.extended safe) in
          let own = ap (λ (n : ℕ). function_fault (signed_by (words_in env) handle (take n fns ++ fn ∷ [])) xs fn) (sym next.0) ∙ function_safe env new handle xs safe fns c.len.result fn next.2 (c.in_ok-function.ensures.finds.first xs scope fn next.2) in
          let again = again_fault (old side ++ flat_map item_names (items_on side (map SideFunction (take i fns)))) (name_of_function fn) in
          after-at (λ (before : List SourceFunction) (fn : SourceFunction). option_or (function_fault (signed_by (words_in env) handle (before ++ fn ∷ [])) xs fn) (again_fault (old (role_side fn.role) ++ flat_map item_names (items_on (role_side fn.role) (map SideFunction before))) (name_of_function fn))) fns i fn _ next.1 none (ap (λ (o : Option Fault). option_or o again) own ∙ sym named ∙ wrong)))
    ])

pub returns-in_err-reserve-clause-extended : goal.returns-in_err-reserve-clause-extended
returns-in_err-reserve-clause-extended c = extended_then c.args.types.now c.loop-borrowed.types c.resolve_function.new.types c.loop-borrowed.invariant.done.extended c.in_ok-function.ensures.finds.extended

pub returns-in_err-reserve-clause-first : goal.returns-in_err-reserve-clause-first
returns-in_err-reserve-clause-first c =
    let p = err_from_is_err_and c.from_residual-in_err-reserve.result c.from_residual-in_err-reserve.ensures.1 in
    rw p.1 (λ xs scope. inl p.2)

pub loop-borrowed-preserved : goal.loop-borrowed-preserved
loop-borrowed-preserved c =
    let i = c.loop-borrowed.borrowed-index in
    let h = c.borrowed-item.result in
    let fn = function_view h in
    let fns = functions_view c.args.scope in
    let next = next_place c.args.scope i h c.loop-borrowed.functions.items c.len.result (slice_get_read c.args.scope.functions.now _ i h refl c.loop-borrowed-test.true c.borrowed-item.is) c.loop-borrowed.invariant.done.named (omega (arith, c.len.ensures, c.loop-borrowed.functions.ok)) in
    let item = item_next fns i fn next.1 in
    let xs = map SideFunction fns in
    let was = c.loop-borrowed.invariant in
    let says = c.in_ok-function.ensures in
    let made_one = c.in_ok-function.function in
    record {
      done = done_more c.args.types.now c.loop-borrowed.types c.resolve_function.new.types c.args.scope (take i fns) (take (i + 1) fns) fn c.loop-borrowed.functions.items c.push_reserved.new.self.items made_one c.args.required.now.items c.loop-borrowed.required.items c.resolve_function.new.required.items (take_next fns i fn next.1) (rw c.reserve.ensures.items at c.push_reserved.ensures.items) (says.adds.adds fn next.2) (says.adds.named fn next.2) says.adds.mangled (says.adds.handled fn next.2) says.finds.extended was.done;
      defined = λ s. sides_more s (defined_on s c.args.in_use.now) (defined_on s c.loop-borrowed.in_use) (defined_on s c.define_alone.new.in_use) xs i (SideFunction fn) item (was.defined s) (c.in_ok-define_alone.ensures.defined s);
      differ = λ s before. c.in_ok-define_alone.ensures.differ s (was.differ s before);
      first = λ zs scope_is handle safe. (
          let env = env_of c.args.scope.names.now in
          let new = c.resolve_function.new.types in
          let old : WorldSide → List Name = λ s. defined_on s c.args.in_use.now in
          let side = role_side fn.role in
          let none = was.first zs scope_is handle (safe_arena env c.loop-borrowed.types new handle says.finds.extended safe) in
          let own = ap (λ (n : ℕ). function_fault (signed_by (words_in env) handle (take n fns ++ fn ∷ [])) zs fn) (sym next.0) ∙ function_safe env new handle zs safe fns c.len.result fn next.2 (says.finds.first zs scope_is fn next.2) in
          let named = ap (λ (l : List Name). again_fault l (name_of_function fn)) (names_before old (λ s. defined_on s c.loop-borrowed.in_use) fns i was.defined side) in
          ap (alone_faults (words_in env) handle zs old) (take_next fns i fn next.1) ∙ after-more (λ (before : List SourceFunction) (fn : SourceFunction). option_or (function_fault (signed_by (words_in env) handle (before ++ fn ∷ [])) zs fn) (again_fault (old (role_side fn.role) ++ flat_map item_names (items_on (role_side fn.role) (map SideFunction before))) (name_of_function fn))) (take i fns) fn none ∙ none_both own (sym named ∙ c.in_ok-define_alone.ensures.first));
    }

pub returns-clause-adds : goal.returns-clause-adds
returns-clause-adds c = (done_all c.args.types.now c.loop-borrowed.types c.args.scope c.loop-borrowed.borrowed-index c.loop-borrowed.functions.items c.args.required.now.items c.loop-borrowed.required.items (omega arith) c.loop-borrowed.invariant.done).adds

pub returns-clause-named : goal.returns-clause-named
returns-clause-named c = (done_all c.args.types.now c.loop-borrowed.types c.args.scope c.loop-borrowed.borrowed-index c.loop-borrowed.functions.items c.args.required.now.items c.loop-borrowed.required.items (omega arith) c.loop-borrowed.invariant.done).named

pub returns-clause-handled : goal.returns-clause-handled
returns-clause-handled c = (done_all c.args.types.now c.loop-borrowed.types c.args.scope c.loop-borrowed.borrowed-index c.loop-borrowed.functions.items c.args.required.now.items c.loop-borrowed.required.items (omega arith) c.loop-borrowed.invariant.done).handled

pub returns-clause-defined : goal.returns-clause-defined
returns-clause-defined c = λ s.
    let fns = functions_view c.args.scope in
    let count = length-map c.args.scope.functions.now function_view in
    let items = length-map fns SideFunction in
    c.loop-borrowed.invariant.defined s ∙ ap (λ (l : List SideItem). defined_on s c.args.in_use.now ++ flat_map item_names (items_on s l)) (take_all c.loop-borrowed.borrowed-index (map SideFunction fns) (omega (arith, count, items)))

pub returns-clause-first : goal.returns-clause-first
returns-clause-first c = λ xs scope handle safe.
    let env = env_of c.args.scope.names.now in
    let fns = functions_view c.args.scope in
    ap (alone_faults (words_in env) handle xs (λ s. defined_on s c.args.in_use.now)) (sym (take_all c.loop-borrowed.borrowed-index fns (omega (arith, length-map c.args.scope.functions.now function_view)))) ∙ c.loop-borrowed.invariant.first xs scope handle safe
