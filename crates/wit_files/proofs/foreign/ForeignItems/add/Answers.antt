use Rattle.std.proofs.Common.{not, sym, ap, ◌∙◌}
use Rattle.wit_syntax.proofs.Common.{is_some, is_some-lookup, keys-insert_entry, keys_of}
use Rattle.wit_files.specs.ForeignPaths.{foreign_view}
use Rattle.wit_files.specs.contracts.foreign.ForeignKeyPartialEq.TheImpl.{eq-value as key_test}
use Rattle.wit_files.proofs.Others.{items_kept, items_more}
use Rattle.wit_files.proofs.foreign.ForeignItems.add.Goals as goal

pub returns-in_ok-push : goal.returns-in_ok-push
returns-in_ok-push c = λ visits are. (
    let old = c.args.self.now.keys in
    let k = c.foreign_key-key.result in
    let extended = ap keys_of c.in_ok-insert.ensures.ok ∙ keys-insert_entry key_test.it old k _ in
    let it = items_more visits c.args.self.now c.args.visit k (keys_of c.insert.new.self) c.push.new.self.items are c.foreign_key-key.ensures (sym (is_some-lookup (key_test.it k) old) ∙ ap is_some (sym c.in_ok-insert.ensures.was) ∙ c.is_none.ensures ∙ ap not c.if-is_none.true) extended c.in_ok-push.ensures.items in
    record { items = it.1; keys = it.0 })

pub returns-else-is_none : goal.returns-else-is_none
returns-else-is_none c = λ visits are. (
    let old = c.args.self.now.keys in
    let k = c.foreign_key-key.result in
    let extended = ap keys_of c.in_ok-insert.ensures.ok ∙ keys-insert_entry key_test.it old k _ in
    let it = items_kept visits c.args.self.now (foreign_view c.args.visit) k (keys_of c.insert.new.self) are c.foreign_key-key.ensures (sym (is_some-lookup (key_test.it k) old) ∙ ap is_some (sym c.in_ok-insert.ensures.was) ∙ c.is_none.ensures ∙ ap not c.if-is_none.false) extended in
    record { items = it.1; keys = it.0 })
