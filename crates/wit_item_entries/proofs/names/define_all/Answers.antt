use Rattle.std.proofs.Common.{◌≡◌, ◌+◌, ◌++◌, ◌∷◌, List, [], take, Some, None, inl, inr, refl, sym, ◌∙◌, subst, arith}
use Rattle.wit_items.proofs.Common.{Defined, Defines, TypeDef, TypeOwner, append-nil, defines_more, defines_none, definition_fault, definition_view, env_of, err_from_is_err_and, in-all, in-at, in-following, length-map, map, names_in, names_kept, names_more, names_none, read_map, slice_get, take_next}
use Rattle.wit_entries.proofs.Requiring.{extended_then, requires_none}
use Rattle.wit_externs.specs.Clash.{EndsIn}
use Rattle.wit_externs.proofs.AloneFaults.{safe_arena, safe_names, safe_of}
use Rattle.wit_item_entries.proofs.ReachedFaults.{next_free, listed_next, requires_next, stored_kept, definition_safe, definition_same, meant_in}
use Rattle.wit_item_entries.proofs.names.define_all.Goals as goal

pub loop-definition-init : goal.loop-definition-init
loop-definition-init c = record {
  defines = λ cs s. defines_none c.args.types.now cs c.args.scope.now.owner s c.args.scope.now.names;
  owner = refl;
  listed = sym (append-nil (names_in c.args.scope.now.names));
  handled = requires_none (env_of c.args.scope.now.names) c.args.types.now c.args.scope.now.required.items;
  first = λ handle safe. refl;
  kept = λ xs h. h;
  has = names_none (env_of c.args.scope.now.names);
  extended = record { more = []; is = sym (append-nil c.args.types.now) };
}

pub returns-in_err-define-clause-first : goal.returns-in_err-define-clause-first
returns-in_err-define-clause-first c =
    let q = err_from_is_err_and c.from_residual.result c.from_residual.ensures.1 in
    let ds = map definition_view c.args.definitions.now in
    let i = c.loop-definition.definition-index in
    let d = c.definition-item.result.definition.now in
    let mid = c.loop-definition.types in
    let new = c.define.new.types in
    let old = env_of c.args.scope.now.names in
    let now = c.loop-definition.scope.names in
    let before = c.loop-definition.invariant in
    let g = c.in_err-define.ensures.extended in
    let at : slice_get ds i ≡ Some (Defined d) = read_map definition_view c.args.definitions.now i c.definition-item.result c.loop-definition-test.true c.definition-item.is in
    rw (q.1, q.2) (λ cs handle along. (
    let ends : EndsIn (env_of now) new handle = subst (λ (es : List TypeDef). EndsIn (env_of now) es handle) (sym g.is) (along i mid g.more now (before.defines cs)) in
    let none = before.first handle (safe_arena (env_of now) mid new handle g (safe_of (env_of now) new handle ends)) in
    let own = definition_same (env_of now) new handle ends d (meant_in old (env_of now) new handle ds i d c.requires.turn at before.kept before.has) in
    elim c.in_err-define.ensures.first [ inl memory ↦ inl memory | inr wrong ↦ inr (in-at (definition_fault handle) ds i (Defined d) _ at none (sym own ∙ wrong)) ]))

pub loop-definition-preserved : goal.loop-definition-preserved
loop-definition-preserved c =
    let ds = map definition_view c.args.definitions.now in
    let i = c.loop-definition.definition-index in
    let d = c.definition-item.result.definition.now in
    let o = c.args.scope.now.owner in
    let at : slice_get ds i ≡ Some (Defined d) = read_map definition_view c.args.definitions.now i c.definition-item.result c.loop-definition-test.true c.definition-item.is in
    let more : take (i + 1) ds ≡ take i ds ++ Defined d ∷ [] = take_next ds i (Defined d) at in
    let old = c.loop-definition.scope.names in
    let new = c.define.new.scope.names in
    let before = c.loop-definition.invariant in
    let e = c.in_ok-define.ensures in
    let prefix = names_in c.args.scope.now.names in
    let free : env_of old d.name.name.now ≡ None = next_free old prefix ds i (Defined d) before.listed c.requires.differ at in
    record {
      defines = λ cs s. rw more (defines_more c.args.types.now c.loop-definition.types c.define.new.types cs o s c.args.scope.now.names old new (take i ds) (Defined d ∷ []) (before.defines cs s) (subst (λ (m : TypeOwner). Defines c.loop-definition.types c.define.new.types cs m s old new (Defined d ∷ [])) before.owner (e.made.0 cs s)));
      owner = e.made.1 ∙ before.owner;
      listed = rw more (listed_next old new prefix (take i ds) (Defined d) before.listed e.made.2 free);
      handled = rw more (requires_next old new c.loop-definition.types c.define.new.types (take i ds) d _ _ _ e.made.2 free e.extended before.handled e.handled);
      first = λ handle safe. (
          let before_names = safe_names (env_of old) (env_of new) c.define.new.types handle (stored_kept old new d.name.name.now e.made.2 free) safe in
          in-following (definition_fault handle) ds i (Defined d) at (before.first handle (safe_arena (env_of old) c.loop-definition.types c.define.new.types handle e.extended before_names)) (definition_safe (env_of old) c.define.new.types handle before_names d e.first));
      kept = λ xs h. names_kept old new xs d.name.name.now (before.kept xs h) e.made.2;
      has = rw more (names_more old new (take i ds) (Defined d) before.has e.made.2);
      extended = extended_then c.args.types.now c.loop-definition.types c.define.new.types before.extended e.extended;
    }

pub returns-clause-first : goal.returns-clause-first
returns-clause-first c = λ cs handle along.
    let ds = map definition_view c.args.definitions.now in
    let i = c.loop-definition.definition-index in
    let new = c.loop-definition.types in
    let names = c.loop-definition.scope.names in
    let was = c.loop-definition.invariant in
    let ends : EndsIn (env_of names) new handle = subst (λ (es : List TypeDef). EndsIn (env_of names) es handle) (append-nil new) (along i new [] names (was.defines cs)) in
    in-all (definition_fault handle) ds i (omega (arith, length-map c.args.definitions.now definition_view)) (was.first handle (safe_of (env_of names) new handle ends))
