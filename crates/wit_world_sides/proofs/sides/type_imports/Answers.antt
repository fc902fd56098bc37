use Rattle.std.proofs.Common.{◌≡◌, ◌+◌, take, Some, None, sym, ap, ◌∙◌, subst}
use Rattle.wit_arena.proofs.Common.{Id, Type_, eq-value as key_test, insert_entry, local_id, map_at, option_map, slice_get, slice_get-get_or, type_imports}
use Rattle.wit_model.specs.declared.world.WorldKey.TheVariants as key
use Rattle.wit_world_sides.proofs.Putting.{import_next, imports_past}
use Rattle.wit_world_sides.proofs.sides.type_imports.Goals.{in-Some+in_ok-add_import, in_default}
use Rattle.wit_world_sides.proofs.sides.type_imports.Goals as goal

pub loop-place-preserved : goal.loop-place-preserved
loop-place-preserved c = λ xs are.
    let turn = c.args.turn.now in
    let types = c.args.types.now in
    let k = c.loop-place.place in
    let id : Id = c.index-turn-place.result in
    let at : slice_get turn k ≡ Some id = slice_get-get_or turn k id c.loop-place-test.true ∙ ap Some (sym c.index-turn-place.is) in
    let x = map_at local_id xs k id (ap (λ l. slice_get l k) (sym are) ∙ at) in
    elim c.match-get_index.branch [
      | in-Some+in_ok-add_import b ↦ (
          let there = sym c.get_index.ensures ∙ ap (option_map (λ p. (p.0.now, p.1.now))) b.in-Some.is in
          let next = subst (λ (j : Id). insert_entry key_test.it (type_imports (take k xs) types) (key.Name j.name.now) (Type_ b.in-Some.ty.now j.span) ≡ type_imports (take (k + 1) xs) types) x.2 (import_next xs turn types k x.0 _ are c.requires.distinct x.1 there) in
          rw (b.imports-is, b.in_ok-add_import.ensures, c.loop-place.invariant xs are) next)
      | in_default b ↦ (
          let none : slice_get types k ≡ None = sym c.get_index.ensures ∙ ap (option_map (λ p. (p.0.now, p.1.now))) b.in_default.is in
          rw b.imports-is (c.loop-place.invariant xs are ∙ sym (imports_past xs types k none)))
    ]
