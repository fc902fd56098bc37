use Rattle.std.proofs.Common.{arith}
use Rattle.wit_listing.proofs.Digits.{last_digit}
use Rattle.wit_listing.proofs.small_texts.push_hundreds.Goals as goal

pub returns : goal.returns
returns c = last_digit c.push_digit.result c.args.number _ _ _ (omega (c.if-number-lt100.false, arith)) (omega (c.ranges.number.fits, arith)) c.in_ok-push_tens.ensures c.push_digit.ensures
