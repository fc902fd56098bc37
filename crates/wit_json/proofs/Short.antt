-- The numbers among tokens are short.
use Rattle.std.proofs.Common.{◌≡◌, ℕ, ◌<◌, ◌≤◌, ◌^◌, List, [], ◌∷◌, ◌++◌, length, sym, subst, arith}
use Rattle.std.specs.Prelude.{Result, Ok, Err}
use Rattle.std.specs.Fmt.{decimal}
use Rattle.std.proofs.lemmas.Fmt.{length-decimal-le}
use Rattle.json.specs.Token.{Token}
use Rattle.json.specs.Written.{Writes, Written}
use Rattle.wit_json.specs.Numbers.{AreShort, HaveShortNumbers, IsShort}

one_more : (ts : List Token) (t : Token) → AreShort ts → IsShort t → AreShort (ts ++ t ∷ [])
one_more [] t short is = (is, tt)
one_more (x ∷ ts) t short is = (short.0, one_more ts t short.1 is)

-- one token more, or the same where it was not written
pub short_written : {E : Type 0} (r : Result (Unit {0}) E) (old new : Written) (t : Token) → Writes r old new t → IsShort t → HaveShortNumbers old.tokens → HaveShortNumbers new.tokens
short_written (Ok x) old new t h is all = record { short = subst AreShort (sym h.ok) (one_more old.tokens t all.short is) }
short_written (Err e) old new t h is all = record { short = subst AreShort (sym h.err) all.short }

pub decimal_short : (n : ℕ) → n < 2 ^ 64 → length (decimal n) ≤ 20
decimal_short n small = length-decimal-le 20 n (omega arith) (omega (arith, small)) small
