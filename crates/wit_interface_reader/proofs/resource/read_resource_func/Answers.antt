use Rattle.std.proofs.Common.{refl, rules}
use Rattle.std.proofs.lemmas.Result.{err_from_is_err_and}
use Rattle.wit_grammar.specs.Rules.{prefix}
use Rattle.wit_grammar.specs.ItemRules.{constructed, maker_of, member, member_of, resource_function}
use Rattle.wit_interface_reader.proofs.Items.{any_func, at_constructor, at_member, made_item, member_item}
use Rattle.wit_interface_reader.proofs.Prefixed.{read_after, stops_after}
use Rattle.wit_interface_reader.proofs.resource.read_resource_func.Goals as goal

pub returns-then-at_word-clause-reads : goal.returns-then-at_word-clause-reads
unfolding resource_function
returns-then-at_word-clause-reads c =
    read_after prefix any_func constructed (maker_of _) (λ y. y) made_item (at_constructor c.in_ok-prefix.ensures.reads (search rules)) (λ x. refl) c.in_ok-prefix.ensures.reads c.in_ok-constructor.ensures.reads

pub returns-clause-reads : goal.returns-clause-reads
unfolding resource_function
returns-clause-reads c = read_after prefix any_func member (member_of _) (λ y. y) member_item (at_member c.in_ok-prefix.ensures.reads (search rules)) (λ x. refl) c.in_ok-prefix.ensures.reads c.in_ok-member.ensures.reads

pub returns-in_err-constructor-clause-stops : goal.returns-in_err-constructor-clause-stops
unfolding resource_function
returns-in_err-constructor-clause-stops c =
    let p = err_from_is_err_and c.from_residual-in_err-constructor.result c.from_residual-in_err-constructor.ensures.1 in
    rw (p.1, p.2) (stops_after prefix any_func constructed made_item _ (at_constructor c.in_ok-prefix.ensures.reads (search rules)) c.in_ok-prefix.ensures.reads c.in_err-constructor.ensures.stops)

pub returns-in_err-member-clause-stops : goal.returns-in_err-member-clause-stops
unfolding resource_function
returns-in_err-member-clause-stops c =
    let p = err_from_is_err_and c.from_residual-in_err-member.result c.from_residual-in_err-member.ensures.1 in
    rw (p.1, p.2) (stops_after prefix any_func member member_item _ (at_member c.in_ok-prefix.ensures.reads (search rules)) c.in_ok-prefix.ensures.reads c.in_err-member.ensures.stops)
