use Rattle.std.proofs.Common.{◌∙◌}
use Rattle.wit_outcome.specs.Plain.IsPlaced.{Within}
use Rattle.wit_outcome.proofs.Placing.{placed_in}
use Rattle.wit_outcome.proofs.plain.plain_of.Goals as goal

pub returns-in_ok-path-in-Some : goal.returns-in_ok-path-in-Some
returns-in_ok-path-in-Some c =
    let source = c.in-Some.source.now in
    let holding = c.in-Some.ensures.found in
    let path = c.in_ok-path-in-Some.ensures ∙ c.as_str.ensures.value in
    record {
      rule = c.rule-rule.ensures;
      place = Within source holding (placed_in source c.args.fault.now c.span-span.result c.span-span.ensures holding.lies _ _ _ path);
      message = c.from-message.ensures ∙ c.in_ok-to_string.ensures.ok;
    }
