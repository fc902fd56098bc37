use Rattle.std.proofs.Common.{rules, ℕ, List, ◌∙◌, ap, sym, min}
use Rattle.std.specs.Prelude.{unwrap_or}
use Rattle.wit_syntax.proofs.Common.{reduce}
use Rattle.std.proofs.lemmas.Iterator.{YieldsList-from_slice}
use Rattle.std.proofs.lemmas.Iterator.Consumers.{YieldsList-from_filter_map, min_from_yields_List}
use Rattle.std.proofs.lemmas.Iterator.Adapters.{option_map_id}
use denote.Ref.{Bor}
use Rattle.wit_notes.specs.Indents.{written_indent}
use Rattle.wit_notes.proofs.Texts.{indents-found}
use Rattle.wit_notes.proofs.comments.common_indent.Goals as goal
use Rattle.wit_notes.specs.Texts.{said}

pub returns : goal.returns
returns c = c.unwrap_or.ensures ∙ ap (λ o. unwrap_or o 0) (sym (option_map_id _) ∙ min_from_yields_List _ c.min.result c.min.ensures.ran (YieldsList-from_filter_map _ (λ (m : Bor (List ℕ)). written_indent (said m.now)) (YieldsList-from_slice c.args.comments.now cc) c.filter_map.ensures.closure (λ x r q k. search rules)) ∙ ap (reduce min) (indents-found c.args.comments.now))
