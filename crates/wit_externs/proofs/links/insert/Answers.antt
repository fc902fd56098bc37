use Rattle.wit_arena.proofs.Common.{eq-eqb, eqb-true, is_some, is_some-lookup, keys-insert_entry, keys_of}
use Rattle.std.proofs.Common.{◌==◌, not, refl, ap, ◌∙◌}
use Rattle.wit_externs.proofs.Linked.{inserted, turned}
use Rattle.wit_externs.proofs.links.insert.Goals as goal

pub returns-clause-as_stated : goal.returns-clause-as_stated
returns-clause-as_stated c =
    let old = c.args.links.now in
    let k = c.args.interface in
    inserted (λ a b. a == b) eqb-true (λ a. eq-eqb a a refl) (keys_of old) (keys_of c.insert.new.self) k c.is_none.result
    (turned _ c.is_none.result c.is_none.ensures ∙ ap not (ap is_some c.in_ok-insert.ensures.was ∙ is_some-lookup (λ b. k == b) old))
    (ap keys_of c.in_ok-insert.ensures.ok ∙ keys-insert_entry (λ a b. a == b) old k _)
