use Rattle.std.proofs.Common.{List, subst, sym}
use Rattle.wit_entries.specs.declared.ends.End.{End}
use Rattle.wit_entries.specs.EntryFaults.{AreAsStated}
use Rattle.wit_entries.proofs.EndsOfEntries.{ends_last, stated_more}
use Rattle.wit_entries.proofs.ends.add_entry.Goals as goal

pub returns-in-Ok-clause-as_stated : goal.returns-in-Ok-clause-as_stated
returns-in-Ok-clause-as_stated c = λ as_stated.
    let es = c.args.types.now in
    let old = c.args.ends.now.items in
    let x = c.end_of-end.result in
    let next = c.end_of-end.ensures es (subst (λ (l : List End). AreAsStated l es) (sym c.deref.ensures.value) as_stated) c.next_id.ensures in
    rw (c.in_ok-push.ensures.items, c.in-Ok.ensures.ok) (stated_more old es c.args.entry x as_stated (ends_last es c.args.entry x next))
