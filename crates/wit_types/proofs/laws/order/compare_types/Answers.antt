use Rattle.std.proofs.Common.{◌≡◌, ◌∙◌, ℕ, ◌+◌, nat_cmp, refl, arith}
use Rattle.std.proofs.lemmas.Bool.Decides.{nat_tests}
use Rattle.wit_types.specs.TypeOrders.{type_cmp}
use Rattle.wit_types.specs.contracts.types.TypeOrd.TheImpl.{cmp-value as order}
use Rattle.wit_types.specs.declared.types.«Type».{«Type» as Ty}
use Rattle.wit_types.specs.declared.types.«Type».TheVariants as ty
use Rattle.wit_types.proofs.laws.order.compare_types.Goals as goal

nat_cmp-add : (n i j : ℕ) → nat_cmp i j ≡ nat_cmp (n + i) (n + j)
nat_cmp-add n i j = grind (arith, nat_tests)

type_cmp-listed : (a b : Ty) → order.it a b ≡ type_cmp a b
type_cmp-listed (ty.Id i) (ty.Id j) = nat_cmp-add 14 i j
type_cmp-listed (ty.Id i) b = grind (arith, nat_tests)
type_cmp-listed a (ty.Id j) = grind (arith, nat_tests)
type_cmp-listed a b = refl

pub returns : goal.returns
returns c = c.cmp.ensures ∙ type_cmp-listed c.args.ty c.args.other
