use Rattle.std.proofs.Common.{◌++◌, List, ◌∙◌, subst, append_assoc}
use Rattle.wit_items.proofs.Common.{Exported, ForeignUse, Imported, on_ok_weaker}
use Rattle.wit_front.specs.ForeignPrefix.{AreAdded, inside_uses, names_foreign_uses}
use Rattle.wit_front.proofs.foreign.ForeignArenas.add_used_by_item.Goals as goal

pub add_used_by_names-requires : goal.add_used_by_names-requires
add_used_by_names-requires c =
    let had = c.requires in
    record { vs = had.vs; ts = had.ts; apart = had.apart; in_use = had.in_use; placed = rw c.deref.ensures.value had.placed.own }

pub add_used_inside-requires : goal.add_used_inside-requires
add_used_inside-requires c =
    let had = c.requires in
    let x = c.args.item.now in
    let first = (rw c.deref.ensures.value at c.in_ok-add_used_by_names.ensures) had.vs had.ts had.apart had.placed.own had.in_use in
    record { vs = had.vs; ts = had.ts ++ names_foreign_uses x.names.items; apart = had.apart; in_use = first; placed = rw c.deref-2.ensures.value (had.placed.inside Imported) }

pub add_used_inside-requires-2 : goal.add_used_inside-requires-2
add_used_inside-requires-2 c =
    let had = c.requires in
    let x = c.args.item.now in
    let own = had.ts ++ names_foreign_uses x.names.items in
    let first = (rw c.deref.ensures.value at c.in_ok-add_used_by_names.ensures) had.vs had.ts had.apart had.placed.own had.in_use in
    let second = (rw c.deref-2.ensures.value at c.in_ok-add_used_inside.ensures) had.vs own had.apart (had.placed.inside Imported) first in
    record { vs = had.vs; ts = own ++ inside_uses x.imported.items; apart = had.apart; in_use = second; placed = rw c.deref-3.ensures.value (had.placed.inside Exported) }

pub returns : goal.returns
returns c =
    let x = c.args.item.now in
    let own = names_foreign_uses x.names.items in
    let imported = inside_uses x.imported.items in
    let exported = inside_uses x.exported.items in
    let last = rw c.deref-3.ensures.value at c.add_used_inside-2.ensures in
    on_ok_weaker c.add_used_inside-2.result (λ in_use vs ts apart placed before. (
    let first = (rw c.deref.ensures.value at c.in_ok-add_used_by_names.ensures) vs ts apart placed.own before in
    let second = (rw c.deref-2.ensures.value at c.in_ok-add_used_inside.ensures) vs (ts ++ own) apart (placed.inside Imported) first in
    let third = in_use vs ((ts ++ own) ++ imported) apart (placed.inside Exported) second in
    subst (λ (l : List ForeignUse). AreAdded vs l c.add_used_inside-2.new.types c.add_used_inside-2.new.arenas) (append_assoc (ts ++ own) imported exported ∙ append_assoc ts own (imported ++ exported)) third)) last
