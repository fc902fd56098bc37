use Rattle.std.proofs.Common.{◌≡◌, Some, sym, ap, subst}
use Rattle.wit_functions.specs.declared.function.Function.{Function}
use Rattle.wit_setters.specs.Paired.{ArePaired}
use Rattle.wit_setters.proofs.OwnNames.{own_names}
use Rattle.wit_setters.proofs.Pairing.{paired_stay}
use Rattle.wit_setters.proofs.interface_setters.setters_after_getters.Goals as goal

pub returns-then-are_paired : goal.returns-then-are_paired
returns-then-are_paired c = sym (paired_stay c.args.functions.items c.requires (subst ArePaired c.deref.ensures.value (c.are_paired.ensures c.if-are_paired.true)))

pub returns : goal.returns
returns c = c.in_ok-placed.ensures (own_names Some (λ f. f.name) (λ n. n) c.args.functions.items c.requires (λ k e f at is. (let same : e ≡ f = cc in ap (λ (g : Function). g.name) same)))
