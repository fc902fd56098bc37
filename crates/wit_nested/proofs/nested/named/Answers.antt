use Rattle.std.proofs.Common.{rules, ◌≡◌, ◌++◌, ◌∷◌, [], ap, ◌∙◌, sym, append_assoc}
use Rattle.wit_items.proofs.Common.{append-nil, into_iter_items, nil_from_length}
use Rattle.wit_nested.proofs.Making.{name_more}
use Rattle.wit_nested.proofs.nested.named.Goals as goal

pub loop-name-preserved : goal.loop-name-preserved
loop-name-preserved c =
    let n = c.in-Some.name in
    let prefix = c.loop-name.yielded in
    let rest = into_iter_items c.next.new.self in
    let was = c.loop-name.invariant in
    let all : prefix ++ n ∷ rest ≡ c.args.names.items = ap (λ l. prefix ++ l) (sym c.in-Some.ensures.steps.0) ∙ was.all in
    record { all = append_assoc prefix (n ∷ []) rest ∙ all; named = rw c.in_ok-push.ensures.items (name_more c.loop-name.nested.items _ prefix was.named) }

pub returns : goal.returns
returns c =
    let prefix = c.loop-name.yielded in
    let left = into_iter_items c.loop-name.name-iterator in
    let was = c.loop-name.invariant in
    let over = c.in-None.ensures.steps in
    let none : left ≡ [] = nil_from_length left (search rules) in
    was.named ∙ (sym (append-nil prefix) ∙ ap (λ l. prefix ++ l) (sym none) ∙ was.all)
