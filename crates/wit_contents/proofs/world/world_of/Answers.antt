use Rattle.std.proofs.Common.{◌++◌, List, length, refl, sym, ap, ◌∙◌, subst}
use Rattle.wit_contents.proofs.Names.{Declared, HasItem, Required, World, about, err_from_is_err_and, filed_item, finds_memory, includes, item_view}
use Rattle.wit_arena.proofs.Common.{IfOk-weaker}
use Rattle.wit_item_entries.proofs.ScopeFunctions.{turn_added}
use Rattle.wit_item_entries.proofs.ReachedFaults.{done, failed}
use Rattle.wit_contents.proofs.FileFaults.{memory_found}
use Rattle.wit_contents.proofs.WorldFaults.{included_here, includes_first, names_first, says_here, unstable_first, world_found}
use Rattle.wit_contents.proofs.world.world_of.Goals as goal

pub world_names-requires : goal.world_names-requires
world_names-requires c = c.requires.item

pub resolve_includes-requires : goal.resolve_includes-requires
resolve_includes-requires c =
    let files = c.args.resolved.now.interfaces.files in
    record { item = subst (HasItem files c.args.item.now.place) c.declared_world-world.ensures (filed_item files c.args.item.now c.requires.item) }

pub sides_of-requires-clause-item : goal.sides_of-requires-clause-item
sides_of-requires-clause-item c = c.requires

pub sides_of-requires-clause-turn : goal.sides_of-requires-clause-turn
sides_of-requires-clause-turn c = turn_added _ _ _ _ _ _ _ _ c.in_ok-names.ensures.adds

pub sides_of-requires-clause-closed : goal.sides_of-requires-clause-closed
sides_of-requires-clause-closed c =
    let i = c.args.item.now in
    let are = included_here c.args.resolved.now i c.declared_world-world.result.now c.in_ok-includes.includes c.requires.item c.declared_world-world.ensures c.in_ok-includes.ensures.are in
    c.is_closed-closed.ensures (includes (item_view i)) (ap length c.as_slice.ensures ∙ are.0)

pub world_with-requires : goal.world_with-requires
world_with-requires c = rw c.deref.ensures.value at c.in_ok-stability.ensures.as_stated

-- it has the name of the item
pub returns-clause-named : goal.returns-clause-named
returns-clause-named c = IfOk-weaker c.world_with.result _ _ (λ w has. ap (λ (v : World). v.name) has ∙ ap (λ (d : Declared). (about d).id.name.now) (sym c.declared_world-world.ensures)) c.world_with.ensures.is

pub returns-clause-adds : goal.returns-clause-adds
returns-clause-adds c =
    let i = c.args.item.now in
    let world = c.declared_world-world.result.now in
    let is = c.declared_world-world.ensures in
    let found = c.in_ok-includes.includes in
    let required = c.in_ok-add_required.ensures ∙ ap (λ (l : List Required). c.args.growing.now.required.items ++ l) c.deref-2.ensures.value in
    let adds = c.in_ok-sides.ensures.adds c.args.growing.now c.in_ok-names.ensures.adds required refl found (included_here c.args.resolved.now i world found c.requires.item is c.in_ok-includes.ensures.are) in
    IfOk-weaker c.world_with.result _ _ (λ w has. adds w (says_here i world is c.in_ok-sides.sides found w has)) c.world_with.ensures.is

-- the first fault: of its attributes, of its names, of its includes, or of what is on its sides
pub returns-in_err-stability-clause-first : goal.returns-in_err-stability-clause-first
returns-in_err-stability-clause-first c =
    let p = err_from_is_err_and c.from_residual.result c.from_residual.ensures.1 in
    rw (p.1, p.2) (λ wrong right. unstable_first c.args.resolved.now c.args.item.now c.args.growing.now wrong right c.declared_world-world.result.now c.requires.item c.declared_world-world.ensures _ (rw c.deref.ensures.value at c.in_err-stability.ensures.first))

pub returns-in_err-names-clause-first : goal.returns-in_err-names-clause-first
returns-in_err-names-clause-first c =
    let p = err_from_is_err_and c.from_residual-in_err-names.result c.from_residual-in_err-names.ensures.1 in
    rw (p.1, p.2) (λ wrong right. names_first c.args.resolved.now c.args.item.now c.args.growing.now wrong right c.declared_world-world.result.now c.requires.item c.declared_world-world.ensures (rw c.deref.ensures.value at c.in_ok-stability.ensures.first) _ c.in_err-names.ensures.first)

pub returns-in_err-includes-clause-first : goal.returns-in_err-includes-clause-first
returns-in_err-includes-clause-first c =
    let p = err_from_is_err_and c.from_residual-in_err-includes.result c.from_residual-in_err-includes.ensures.1 in
    rw (p.1, p.2) (λ wrong right. includes_first c.args.resolved.now c.args.item.now c.args.growing.now wrong right c.declared_world-world.result.now c.requires.item c.declared_world-world.ensures (rw c.deref.ensures.value at c.in_ok-stability.ensures.first) c.in_ok-names.names c.world_names.new.types c.in_ok-names.ensures.adds c.in_ok-names.ensures.first _ c.in_err-includes.ensures.first)

pub returns-in_err-sides-clause-first : goal.returns-in_err-sides-clause-first
returns-in_err-sides-clause-first c =
    let p = err_from_is_err_and c.from_residual-in_err-sides.result c.from_residual-in_err-sides.ensures.1 in
    let e = c.in_ok-names.ensures in
    rw (p.1, p.2) (λ wrong right. world_found c.args.resolved.now c.args.item.now c.args.growing.now wrong right c.declared_world-world.result.now c.requires.item c.declared_world-world.ensures (rw c.deref.ensures.value at c.in_ok-stability.ensures.first) (failed _) c.in_ok-names.names _ refl e.adds e.first c.in_ok-includes.ensures.first c.in_err-sides.ensures.first)

pub returns-clause-first : goal.returns-clause-first
returns-clause-first c = λ wrong right.
    let i = c.args.item.now in
    let e = c.in_ok-names.ensures in
    finds_memory (wrong (item_view i)) c.world_with.result (world_found c.args.resolved.now i c.args.growing.now wrong right c.declared_world-world.result.now c.requires.item c.declared_world-world.ensures (rw c.deref.ensures.value at c.in_ok-stability.ensures.first) (done c.in_ok-sides.sides) c.in_ok-names.names _ refl e.adds e.first c.in_ok-includes.ensures.first c.in_ok-sides.ensures.first) c.world_with.ensures.refused

-- or memory failed
pub returns-in_err-add_required-clause-first : goal.returns-in_err-add_required-clause-first
returns-in_err-add_required-clause-first c = λ wrong right. memory_found _ c.from_residual-in_err-add_required.result c.from_residual-in_err-add_required.ensures.1
