use Rattle.std.proofs.Common.{ap, subst}
use Rattle.wit_lex.specs.declared.source_map.SourceMap.{SourceMap}
use Rattle.wit_outcome.specs.Plain.{IsPlain}
use Rattle.wit_outcome.proofs.outcome.resolve_map.Goals as goal

pub returns-in-Ok : goal.returns-in-Ok
returns-in-Ok c = (ap (λ (map : SourceMap). map.sources.items) c.in-Ok.ensures.kept, c.in-Ok.ensures.group)

pub returns-in_ok-plain_of-in-Err : goal.returns-in_ok-plain_of-in-Err
returns-in_ok-plain_of-in-Err c =
    let same = rw c.in-Err.ensures.returned at c.sources.ensures in
    let found = c.in_ok-plain_of-in-Err in
    (c.in-Err.fault, c.in-Err.ensures.refused, c.in-Err.ensures.first, subst (λ sources. IsPlain sources c.in-Err.fault found.field-0) same found.ensures)
