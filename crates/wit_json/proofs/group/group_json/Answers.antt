use Rattle.std.proofs.Common.{◌++◌, ◌∙◌, ap, subst}
use Rattle.json.specs.Tree.{json_tokens}
use Rattle.wit_json.specs.Group.{group_json}
use Rattle.wit_json.specs.Numbers.{AreShort}
use Rattle.wit_json.proofs.Reading.{read_back}
use Rattle.wit_json.proofs.Depths.{group_depth}
use Rattle.wit_json.proofs.group.group_json.Goals as goal

pub returns-clause-reads_back : goal.returns-clause-reads_back
returns-clause-reads_back c =
    let json = group_json c.args.sources.now c.args.main.now c.args.nested.now in
    read_back json _ (c.into_bytes.ensures.read ∙ (c.in_ok-write_group.ensures ∙ ap (λ ts. ts ++ json_tokens json) c.new-out.ensures))
    (group_depth c.args.sources.now c.args.main.now c.args.nested.now)

pub returns-clause-numbers : goal.returns-clause-numbers
returns-clause-numbers c =
    let json = group_json c.args.sources.now c.args.main.now c.args.nested.now in
    subst AreShort (c.in_ok-write_group.ensures ∙ ap (λ ts. ts ++ json_tokens json) c.new-out.ensures) c.into_bytes.ensures.short.short
