use Rattle.std.proofs.Common.{◌≡◌, ◌++◌, Some, ◌∙◌, sym, ap}
use Rattle.wit_syntax.proofs.Common.{name_equal, rest_after}
use Rattle.wit_refusals.proofs.Scoping.{rest_after-some}
use Rattle.wit_refusals.proofs.getters.is_joined.Goals as goal

pub returns-in-Some : goal.returns-in-Some
returns-in-Some c = λ same.
    let found : rest_after c.args.prefix.now c.args.text.now ≡ Some c.in-Some.found.now = sym (rw c.in-Some.is at c.rest_after.ensures) in
    rest_after-some c.args.prefix.now c.args.text.now c.in-Some.found.now found ∙ ap (λ r. c.args.prefix.now ++ r) (name_equal c.in-Some.found.now c.args.rest.now (sym c.eq.ensures ∙ same))
