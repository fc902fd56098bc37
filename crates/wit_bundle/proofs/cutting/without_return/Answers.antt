use Rattle.std.proofs.Common.{sym, ap, ◌∙◌, arith}
use Rattle.wit_bundle.specs.Bundle.{without_end}
use Rattle.std.proofs.lemmas.Str.Pattern.{strip_suffix_char}
use Rattle.wit_bundle.proofs.Lines.{without_end-there, without_end-not}
use Rattle.wit_bundle.proofs.cutting.without_return.Goals as goal

pub returns-in-Some : goal.returns-in-Some
returns-in-Some c =
    let is = rw c.in-Some.is at (strip_suffix_char 13 c.args.line.now c.strip_suffix.result c.strip_suffix.ensures.cases (omega arith)) in
    sym (ap (without_end 13) is ∙ without_end-there 13 c.in-Some.prefix.now)

pub returns-in-None : goal.returns-in-None
returns-in-None c = sym (without_end-not 13 c.args.line.now (rw c.in-None.is at (strip_suffix_char 13 c.args.line.now c.strip_suffix.result c.strip_suffix.ensures.cases (omega arith))))
