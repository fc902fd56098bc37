use Rattle.std.proofs.Common.{[], ◌∷◌, length, Some, refl, ap}
use Rattle.wit_contents.proofs.Names.{found_put, found_wider, index_world, others_of, prefix_wider, World}
use Rattle.wit_contents.proofs.world.add_world.Goals as goal

pub invariant_of-resolved : goal.invariant_of-resolved
invariant_of-resolved c =
    let r = c.args.resolved.now in
    rw c.in_err-place.ensures.err (record { prefix = r.prefix; found = r.found })

pub invariant_of-resolved-in-Break-branch-2 : goal.invariant_of-resolved-in-Break-branch-2
invariant_of-resolved-in-Break-branch-2 c =
    let r = c.args.resolved.now in
    rw c.in_ok-place.ensures.ok (record {
      prefix = prefix_wider (length (others_of r.interfaces.files)) r.worlds (c.args.world ∷ []) r.prefix;
      found = found_wider (λ (w : World). Some w.name) (length (others_of r.interfaces.files)) r.worlds (c.args.world ∷ []) r.world_names r.found;
    })

pub invariant_of-resolved-2 : goal.invariant_of-resolved-2
invariant_of-resolved-2 c =
    let r = c.args.resolved.now in
    let put = rw (c.in_ok-name.ensures.ok, c.in_ok-place.ensures.id) at c.put.ensures.ok in
    rw c.in_ok-place.ensures.ok (record {
      prefix = prefix_wider (length (others_of r.interfaces.files)) r.worlds (c.args.world ∷ []) r.prefix;
      found = found_put (λ (w : World). Some w.name) c.put.result (length (others_of r.interfaces.files)) r.worlds r.world_names _ c.args.world c.args.name.now r.prefix r.found (ap Some c.requires) put c.put.ensures.err;
    })

pub returns-clause-puts : goal.returns-clause-puts
returns-clause-puts c =
    let r = c.args.resolved.now in
    record {
      interfaces = refl;
      arena = c.in_ok-place.ensures.ok;
      index = λ index. rw (c.in_ok-place.ensures.ok, c.in_ok-put.ensures.ok, c.in_ok-name.ensures.ok, c.in_ok-place.ensures.id) (index_world (others_of r.interfaces.files) r.worlds r.world_names c.args.world c.args.name.now r.prefix index c.requires);
    }
