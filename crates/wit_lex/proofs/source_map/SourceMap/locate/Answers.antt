use Rattle.std.proofs.lemmas.Option.{IfSome_then}
use Rattle.wit_lex.proofs.source_map.SourceMap.locate.Goals as goal

pub returns-clause-found : goal.returns-clause-found
returns-clause-found c =
    let at = rw c.as_slice.ensures.value at c.in-Some.ensures.found in
    IfSome_then c.locate.result c.locate.ensures.found (λ found is. (at.0, c.in-Some.source.now, at.1, is))
