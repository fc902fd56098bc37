use Rattle.std.proofs.Common.{arith}
use Rattle.wit_listing.proofs.Digits.{last_digit}
use Rattle.wit_listing.proofs.small_texts.push_tens.Goals as goal

pub returns : goal.returns
returns c = last_digit c.push_digit-3.result c.args.number _ _ _ (omega (c.if-number-lt10.false, arith)) (omega (c.ranges.number.fits, arith)) c.in_ok-push_digit.ensures c.push_digit-3.ensures
