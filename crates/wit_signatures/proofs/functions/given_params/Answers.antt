use Rattle.std.proofs.Common.{[], sym, ◌∙◌}
use Rattle.wit_arena.proofs.Common.{append-nil, env_of}
use Rattle.wit_signatures.proofs.FunctionParts.{given_one, given_none}
use Rattle.wit_signatures.proofs.functions.given_params.Goals.{in-Some+in_ok-self_param+in_ok-push, in_default}
use Rattle.wit_signatures.proofs.functions.given_params.Goals as goal

pub returns-clause-params : goal.returns-clause-params
returns-clause-params c = elim c.match-given.branch [
  | in-Some+in_ok-self_param+in_ok-push w ↦ (
      let p = w.in_ok-self_param.field-0 in
      rw (w.types-is, w.params-is) (given_one c.args.types.now w.self_param.new.types (env_of c.args.names.now) c.args.function w.in-Some.resource w.word.result p c.in_ok-params.params.items w.push.new.self.items (sym c.given.ensures ∙ w.in-Some.is) w.word.ensures c.in_ok-params.ensures.items w.in_ok-push.ensures.items w.in_ok-self_param.ensures.param))
  | in_default w ↦ rw (w.types-is, w.params-is) (given_none c.args.types.now (env_of c.args.names.now) c.args.function c.in_ok-params.params.items (sym c.given.ensures ∙ w.in_default.is) c.in_ok-params.ensures.items)
]

pub returns-clause-extended : goal.returns-clause-extended
returns-clause-extended c = elim c.match-given.branch [
  | in-Some+in_ok-self_param+in_ok-push w ↦ rw w.types-is w.self_param.ensures.extended
  | in_default w ↦ rw w.types-is (record { more = []; is = sym (append-nil c.args.types.now) })
]
