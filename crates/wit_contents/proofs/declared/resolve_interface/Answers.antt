use Rattle.std.proofs.Common.{Some, ap, ◌∙◌, sym, subst, length}
use Rattle.wit_contents.proofs.Names.{Id, IsLent, about, err_from_is_err_and, finds_memory, item_view, on_ok_weaker}
use Rattle.wit_arena.proofs.Common.{Item}
use Rattle.wit_item_entries.proofs.ReachedFaults.{done, failed}
use Rattle.wit_contents.proofs.Files.{item_lent}
use Rattle.wit_contents.proofs.MemberFaults.{finds_right}
use Rattle.wit_contents.proofs.WorldFaults.{item_called}
use Rattle.wit_contents.proofs.declared.resolve_interface.Goals as goal

pub interface_of-requires : goal.interface_of-requires
interface_of-requires c =
    let is = c.args.making.now.resolved.interfaces in
    let s = c.scope-scope.result in
    subst (IsLent s is.files) (sym c.scope-scope.ensures.item) (item_lent is c.args.item.now s c.requires c.scope-scope.ensures.item c.scope-scope.ensures.borrowed)

pub add_interface-requires : goal.add_interface-requires
add_interface-requires c =
    c.in_ok-interface.ensures.adds.appends.holds.called
    ∙ ap (λ (i : Item). (about i.declared).called) c.scope-scope.ensures.item
    ∙ item_called c.args.making.now.resolved.interfaces.files c.args.item.now c.requires.item
    ∙ ap (λ (id : Id). Some id.name.now) (sym c.declared_name-id.ensures)

pub returns-clause-adds : goal.returns-clause-adds
returns-clause-adds c = on_ok_weaker c.add_interface.result (λ puts. record {
  added = c.in_ok-interface.interface;
  puts = puts;
  adds = rw (c.next_id-place.ensures, c.scope-scope.ensures.item) at c.in_ok-interface.ensures.adds;
  inside = c.in_ok-interface.ensures.inside;
}) c.add_interface.ensures.puts

pub returns-in_err-interface-clause-first : goal.returns-in_err-interface-clause-first
returns-in_err-interface-clause-first c =
    let p = err_from_is_err_and c.from_residual.result c.from_residual.ensures.1 in
    let m = c.args.making.now in
    let lent = item_lent m.resolved.interfaces c.args.item.now c.scope-scope.result c.requires c.scope-scope.ensures.item c.scope-scope.ensures.borrowed in
    let found = rw c.next_id-place.ensures at c.in_err-interface.ensures.first in
    rw (p.1, p.2) (λ test right. finds_right (failed _) test m.resolved.interfaces m.growing.types _ (item_view c.args.item.now) c.scope-scope.result lent right found)

pub returns-clause-first : goal.returns-clause-first
returns-clause-first c = λ test right.
    let m = c.args.making.now in
    let is = m.resolved.interfaces in
    let item = item_view c.args.item.now in
    let lent = item_lent is c.args.item.now c.scope-scope.result c.requires c.scope-scope.ensures.item c.scope-scope.ensures.borrowed in
    let found = rw c.next_id-place.ensures at c.in_ok-interface.ensures.first in
    finds_memory (test item) c.add_interface.result (finds_right (done c.in_ok-interface.interface) test is m.growing.types (length is.arena) item c.scope-scope.result lent right found) c.add_interface.ensures.refused
