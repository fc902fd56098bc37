use Rattle.wit_groups.proofs.FirstFaults.{text_faultless, text_finds, text_too_large}
use Rattle.wit_groups.proofs.Outcome.{only_source, parsed, unparsed}
use Rattle.wit_groups.proofs.group.UnresolvedPackageGroup.parse.Goals as goal

pub returns-in-Ok-clause-source : goal.returns-in-Ok-clause-source
returns-in-Ok-clause-source c =
    let alone = only_source c.args.path.now c.args.contents.now c.new-map.result.sources.items c.push.new.self.sources.items c.new-map.ensures.sources c.in-Ok.ensures.sources in
    parsed c.args.path.now c.args.contents.now c.push.new.self c.from_sources.result alone c.from_sources.ensures.kept

pub returns-in-Ok-clause-refused : goal.returns-in-Ok-clause-refused
returns-in-Ok-clause-refused c =
    let alone = only_source c.args.path.now c.args.contents.now c.new-map.result.sources.items c.push.new.self.sources.items c.new-map.ensures.sources c.in-Ok.ensures.sources in
    unparsed c.args.path.now c.args.contents.now c.push.new.self c.from_sources.result alone c.from_sources.ensures.refused c.from_sources.ensures.returned

pub returns-in-Ok-clause-faultless : goal.returns-in-Ok-clause-faultless
returns-in-Ok-clause-faultless c = text_faultless c.push.new.self c.from_sources.result c.from_sources.ensures.first c.from_sources.ensures.kept

pub returns-in-Ok-clause-first : goal.returns-in-Ok-clause-first
returns-in-Ok-clause-first c =
    let own = c.new-map.result.sources.items in
    let alone = only_source c.args.path.now c.args.contents.now own c.push.new.self.sources.items c.new-map.ensures.sources c.in-Ok.ensures.sources in
    text_finds c.args.path.now c.args.contents.now own c.push.new.self c.from_sources.result c.new-map.ensures.sources c.in-Ok.ensures.fits alone c.from_sources.ensures.first

pub returns-in-Err-clause-first : goal.returns-in-Err-clause-first
returns-in-Err-clause-first c = text_too_large c.args.path.now c.args.contents.now c.new-map.result.sources.items c.in-Err.e c.new-map.ensures.sources c.in-Err.ensures.too_large
