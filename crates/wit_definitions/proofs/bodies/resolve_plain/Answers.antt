use Rattle.std.proofs.Common.{refl, ◌∙◌, rules}
use Rattle.wit_arena.proofs.Common.{env_of, err_from_is_err_and}
use Rattle.wit_first.proofs.First.{or_none}
use Rattle.wit_entries.proofs.Reading.{plain_kind, resolved_word}
use Rattle.wit_entries.proofs.Requiring.{requires_one}
use Rattle.wit_entries.proofs.Resolves.{one_stopped}
use Rattle.wit_entries.specs.EntryFaults.{lost_in}
use Rattle.wit_definitions.proofs.bodies.resolve_plain.Goals as goal

pub returns-in-Own : goal.returns-in-Own
returns-in-Own c =
    let es = c.args.types.now in
    let given = c.args.given.now in
    let id = c.in-Own.id in
    let it = c.in_ok-resource.ensures in
    rw c.in-Own.is (record {
      made = record { form = refl; parts = resolved_word es (env_of c.args.scope.now.names.now) given id c.in_ok-resource.resource it.made };
      handled = it.handled;
      extended = it.extended;
      first = or_none _ ∙ it.first;
    })

pub returns-in_err-reading : goal.returns-in_err-reading
returns-in_err-reading c =
    let p = err_from_is_err_and c.from_residual-in_err-reading.result c.from_residual-in_err-reading.ensures.1 in
    rw (p.1, p.2) (one_stopped (lost_in c.args.scope.now.functions) (env_of c.args.scope.now.names.now) c.args.ty.now c.in_err-reading.ensures)

pub returns : goal.returns
returns c =
    let env = env_of c.args.scope.now.names.now in
    let new = c.read.new.types in
    let t = c.args.ty.now in
    let it = c.in_ok-reading.ensures in
    rw c.named_kind.ensures (record {
      made = plain_kind c.args.types.now new env c.args.given.now t c.in_ok-reading.reading (search rules) it.made;
      handled = requires_one env new t _ _ it.handled;
      extended = it.extended;
      first = or_none _ ∙ it.first;
    })
