use Rattle.wit_refusals.proofs.refusal.refuse.Goals as goal

pub returns : goal.returns
returns c = c.refuse_in.ensures c.args.message.now c.from_str.ensures.ok
