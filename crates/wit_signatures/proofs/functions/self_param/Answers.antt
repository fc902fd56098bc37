use Rattle.std.proofs.Common.{refl}
use Rattle.wit_arena.proofs.Common.{env_of}
use Rattle.wit_signatures.proofs.FunctionParts.{self_over}
use Rattle.wit_signatures.proofs.functions.self_param.Goals as goal

pub returns-clause-param : goal.returns-clause-param
returns-clause-param c = self_over c.args.types.now c.intern.new.self (env_of c.args.names.now) c.args.resource c.args.word c.place_of.result c.in_ok-id.id _ c.place_of.ensures c.in_ok-id.ensures.interned c.in_ok-from_str.ensures refl refl
