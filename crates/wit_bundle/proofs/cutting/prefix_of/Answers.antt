use Rattle.std.proofs.Common.{◌≡◌, arith, is_none, true, rules}
use Rattle.memchr.specs.Find.{FindsNeedle}
use Rattle.wit_bundle.proofs.Searching.{found_nowhere}
use Rattle.wit_bundle.proofs.Splitting.{next, found_is, found_prefix, found_none}
use Rattle.wit_bundle.proofs.cutting.prefix_of.Goals as goal

pub returns-then-is_none-clause-parts : goal.returns-then-is_none-clause-parts
returns-then-is_none-clause-parts c =
    let found : FindsNeedle c.args.text.now next 0 c.find.result = rw (c.as_bytes.ensures.value, c.as_bytes-2.ensures.value) at c.find.ensures in
    let none : is_none c.find.result ≡ true = search rules in
    found_none c.args.text.now (found_nowhere next c.args.text.now c.find.result (omega arith) found none) c.in_default.ensures.cases

pub returns-in-Some-split_once-clause-parts : goal.returns-in-Some-split_once-clause-parts
returns-in-Some-split_once-clause-parts c =
    let cut = c.in-Some-split_once.ensures.cases in
    found_prefix c.args.text.now c.in-Some-split_once.prefix.now c.in-Some-split_once.rest_after.now c.through.result.now
    (found_is c.args.text.now c.in-Some-split_once.prefix.now c.in-Some-split_once.rest_after.now cut.0 cut.1 cut.2.1 cut.3 cut.4)
    (λ i lt. cut.2.0 i (omega (arith, cut.6)))
    c.in_default.ensures.cases
    c.through.ensures

pub returns-in-None-clause-parts : goal.returns-in-None-clause-parts
returns-in-None-clause-parts c = found_none c.args.text.now c.in-None.ensures.cases c.in_default.ensures.cases
