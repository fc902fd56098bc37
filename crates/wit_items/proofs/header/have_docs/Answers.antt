use Rattle.std.proofs.Common.{◌∙◌}
use Rattle.wit_arena.proofs.Common.{option_to_list}
use Rattle.wit_items.proofs.Documented.{docs_kept, docs_own, docs_none}
use Rattle.wit_items.proofs.header.have_docs.Goals as goal

pub returns-then-documented : goal.returns-then-documented
returns-then-documented c = λ hs same. docs_kept hs (option_to_list c.args.current.now) c.args.documented same c.if-documented.true

pub returns-in-Some : goal.returns-in-Some
returns-in-Some c = λ hs same. rw c.in-Some.is (c.is_documented.ensures ∙ docs_own hs c.in-Some.own c.args.documented same c.if-documented.false)

pub returns-in-None : goal.returns-in-None
returns-in-None c = λ hs same. rw c.in-None.is (docs_none hs c.args.documented same c.if-documented.false)
