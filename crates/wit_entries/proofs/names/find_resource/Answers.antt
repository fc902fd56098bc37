use Rattle.std.proofs.Common.{ap, ◌∙◌, Option, Some, ℕ}
use Rattle.wit_arena.proofs.Common.{env_of, option_map_or}
use Rattle.wit_entries.specs.EntryFaults.{end_fault, lost_in, end_in}
use Rattle.wit_entries.proofs.Requiring.{requires_resource, requires_unknown}
use Rattle.wit_entries.proofs.Resolves.{extended_same}
use Rattle.wit_entries.proofs.names.find_resource.Goals as goal

pub returns-in-Resource : goal.returns-in-Resource
returns-in-Resource c =
    let env = env_of c.args.scope.now.names.now in
    let es = c.args.types.now in
    let id = c.args.id in
    let place = c.in_ok-place.place in
    let is = rw c.in-Resource.is at c.end.ensures in
    record { made = c.in_ok-place.ensures.found; handled = requires_resource env es id place c.args.required.now.items c.in_ok-place.ensures.found is; extended = extended_same es; first = ap (λ (o : Option ℕ). option_map_or (λ (place : ℕ). end_fault id (end_in es place)) o (Some (lost_in c.args.scope.now.functions id))) c.in_ok-place.ensures.found ∙ ap (end_fault id) is }

pub returns-in_ok-push-in-Unknown : goal.returns-in_ok-push-in-Unknown
returns-in_ok-push-in-Unknown c =
    let env = env_of c.args.scope.now.names.now in
    let es = c.args.types.now in
    let id = c.args.id in
    let place = c.in_ok-place.place in
    let is = rw c.in-Unknown.is at c.end.ensures in
    record { made = c.in_ok-place.ensures.found; handled = requires_unknown env es id place c.in-Unknown.unknown _ _ c.in_ok-place.ensures.found is c.in_ok-push-in-Unknown.ensures.items; extended = extended_same es; first = ap (λ (o : Option ℕ). option_map_or (λ (place : ℕ). end_fault id (end_in es place)) o (Some (lost_in c.args.scope.now.functions id))) c.in_ok-place.ensures.found ∙ ap (end_fault id) is }
