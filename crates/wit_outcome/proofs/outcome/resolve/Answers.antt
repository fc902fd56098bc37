use Rattle.std.proofs.Common.{◌≡◌}
use Rattle.wit_outcome.proofs.Finding.{result_of, too_much}
use Rattle.wit_outcome.proofs.outcome.resolve.Goals as goal

pub returns-in-Ok : goal.returns-in-Ok
returns-in-Ok c parts are = result_of parts c.in-Ok.map.sources.items c.resolve_map.result (rw c.in-Ok.is at are) c.resolve_map.ensures

pub returns-in_ok-plain_of-in-Err : goal.returns-in_ok-plain_of-in-Err
returns-in_ok-plain_of-in-Err c parts large =
    let is : c.in-Err.fault.rule ≡ 52 = cc (c.rule.ensures, c.if-rule-ne52.false) in
    too_much parts c.in-Err.fault (rw c.in-Err.is at large) is c.in_ok-plain_of-in-Err.field-0 c.in_ok-plain_of-in-Err.ensures
