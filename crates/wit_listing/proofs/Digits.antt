-- A number's digits, the last one apart.
use Rattle.std.proofs.Common.{◌≡◌, ℕ, List, ◌+◌, ◌/◌, ◌%◌, ◌<◌, ◌≤◌, ◌^◌, ◌++◌, ap, ◌∙◌, sym, arith, append_assoc}
use Rattle.std.specs.Prelude.{Result, OnOk}
use Rattle.std.specs.Fmt.{decimal}
use Rattle.std.proofs.lemmas.Fmt.{decimal_digit, decimal_step}
use Rattle.std.proofs.lemmas.Result.{on_ok_weaker}

pub decimal_parts : (n : ℕ) → 10 ≤ n → n < 2 ^ 64 → decimal n ≡ decimal (n / 10) ++ decimal (n % 10)
decimal_parts n large small =
    let last : n % 10 < 10 = omega arith in
    decimal_step n large small ∙ ap (λ digit. decimal (n / 10) ++ digit) (sym (decimal_digit (n % 10) last))

-- the prefix of a number, and then its last digit
pub last_digit : {T E : Type 0} (r : Result T E) (n : ℕ) (first before after : List ℕ) → 10 ≤ n → n < 2 ^ 64 →
    before ≡ first ++ decimal (n / 10) → OnOk r (after ≡ before ++ decimal (n % 10)) → OnOk r (after ≡ first ++ decimal n)
last_digit r n first before after large small was extended =
    on_ok_weaker r
    (λ new. new ∙ ap (λ text. text ++ decimal (n % 10)) was ∙ append_assoc first (decimal (n / 10)) (decimal (n % 10)) ∙ ap (λ more. first ++ more) (sym (decimal_parts n large small)))
    extended
