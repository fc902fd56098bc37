-- The value that a look at a place of a map gives.
use Rattle.std.proofs.Common.{◌≡◌, Option, Some, sym, ap, ◌∙◌, option_map}
use Rattle.std.proofs.lemmas.Option.{same_Some}

pub value_there : {A K V : Type 0} (shown : A → K × V) (r : Option A) (p : A) (o : Option (K × V)) (e : K × V) → option_map shown r ≡ o → r ≡ Some p → o ≡ Some e → (shown p).1 ≡ e.1
value_there {A} {K} {V} shown r p o e entry some at = ap (λ (x : K × V). x.1) (same_Some (shown p) e (sym (ap (option_map shown) some) ∙ entry ∙ at))
