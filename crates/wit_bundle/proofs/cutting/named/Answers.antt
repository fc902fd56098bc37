use Rattle.std.proofs.Common.{ap, ◌∙◌, ◌++◌, arith}
use Rattle.std.proofs.lemmas.Str.Pattern.{split_parts}
use Rattle.wit_bundle.specs.Bundle.{mark}
use Rattle.wit_bundle.specs.SplitText.{parts}
use Rattle.wit_bundle.proofs.Splitting.{named_then, named_last}
use Rattle.wit_bundle.proofs.cutting.named.Goals as goal

pub returns-in-Some-clause-parts : goal.returns-in-Some-clause-parts
returns-in-Some-clause-parts c =
    let cut = rw c.in-Some.is at (split_parts 10 c.args.text.now c.split_once.result c.split_once.ensures.cases (omega arith)) in
    ap (λ t. parts (mark ++ t)) cut.0 ∙ named_then c.in-Some.line.now c.in-Some.rest_after.now c.without_return.result.now cut.1 c.without_return.ensures

pub returns-in-None-clause-parts : goal.returns-in-None-clause-parts
returns-in-None-clause-parts c =
    named_last c.args.text.now c.without_return-in-None.result.now (rw c.in-None.is at (split_parts 10 c.args.text.now c.split_once.result c.split_once.ensures.cases (omega arith))) c.without_return-in-None.ensures
