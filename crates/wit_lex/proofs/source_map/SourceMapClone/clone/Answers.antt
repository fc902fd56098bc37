use Rattle.std.proofs.Common.{◌∙◌, sym}
use Rattle.wit_lex.proofs.Maps.{same_space, same_stated}
use Rattle.wit_lex.proofs.source_map.SourceMapClone.clone.Goals as goal

pub invariant_of-result : goal.invariant_of-result
invariant_of-result c =
    let sources = c.args.self.now.sources.items in
    let copies = c.in_ok-clone.field-0.items in
    record { laid = c.args.self.now.laid ∙ sym (same_space sources copies (same_stated sources copies c.in_ok-clone.ensures.cases.0)) }

pub returns : goal.returns
returns c = record { cases = same_stated _ _ c.in_ok-clone.ensures.cases.0 }
