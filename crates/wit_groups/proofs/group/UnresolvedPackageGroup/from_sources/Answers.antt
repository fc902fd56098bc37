use Rattle.std.proofs.Common.{subst}
use Rattle.wit_groups.specs.Groups.{IsRefused}
use Rattle.wit_groups.proofs.FirstFaults.{beside, faultless_of}
use Rattle.wit_groups.proofs.group.UnresolvedPackageGroup.from_sources.Goals as goal

pub returns-in-Err-clause-refused : goal.returns-in-Err-clause-refused
returns-in-Err-clause-refused c = subst (λ sources. IsRefused sources c.in-Err.e) c.sources.ensures c.in-Err.ensures.refused

pub returns-in-Ok-clause-first : goal.returns-in-Ok-clause-first
returns-in-Ok-clause-first c = faultless_of _ _ c.sources.ensures c.in-Ok.ensures.first

pub returns-in-Err-clause-first : goal.returns-in-Err-clause-first
returns-in-Err-clause-first c = beside _ _ c.in-Err.e c.sources.ensures c.in-Err.ensures.first
