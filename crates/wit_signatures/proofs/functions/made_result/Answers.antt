use Rattle.std.proofs.Common.{◌≡◌, sym, ◌∙◌}
use Rattle.wit_arena.proofs.Common.{env_of}
use Rattle.wit_signatures.proofs.FunctionParts.{made_view}
use Rattle.wit_signatures.proofs.functions.made_result.Goals as goal

pub returns-in-Some-clause-result : goal.returns-in-Some-clause-result
returns-in-Some-clause-result c es = made_view es (env_of c.args.names.now) c.args.function c.in-Some.resource c.place_of.result c.requires.none (sym c.made.ensures ∙ c.in-Some.is) c.place_of.ensures
