use Rattle.std.proofs.Common.{◌++◌, ◌∙◌, ap}
use Rattle.json.specs.Tree.{json_tokens}
use Rattle.wit_json.specs.Refusal.{optional_range, refusal_json}
use Rattle.wit_json.proofs.Reading.{read_back}
use Rattle.wit_json.proofs.Depths.{refusal_depth}
use Rattle.wit_json.proofs.refusal.refusal_json.Goals as goal

pub returns-clause-reads_back : goal.returns-clause-reads_back
returns-clause-reads_back c =
    let json = refusal_json c.args.rule (optional_range c.args.place) c.args.message.now in
    read_back json _ (c.into_bytes.ensures.read ∙ (c.in_ok-write_refusal.ensures ∙ ap (λ ts. ts ++ json_tokens json) c.new-out.ensures))
    (refusal_depth c.args.rule (optional_range c.args.place) c.args.message.now)
