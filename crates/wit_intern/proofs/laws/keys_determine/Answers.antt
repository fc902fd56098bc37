use Rattle.wit_intern.proofs.TypeKeys.{keys_determine}
use Rattle.wit_intern.proofs.laws.keys_determine.Goals as goal

pub returns : goal.returns
returns c = keys_determine c.args.a.now c.args.b.now
