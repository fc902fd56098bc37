use Rattle.std.proofs.Common.{[], ◌∷◌, length, refl}
use Rattle.wit_contents.proofs.Names.{found_put, found_wider, index_interface, prefix_of, prefix_wider, Interface}
use Rattle.wit_contents.proofs.declared.add_interface.Goals as goal

pub invariant_of-interfaces : goal.invariant_of-interfaces
invariant_of-interfaces c =
    let is = c.args.resolved.now.interfaces in
    rw c.in_err-place.ensures.err (record { prefix = is.prefix; found = is.found })

pub invariant_of-interfaces-in-Break-branch-2 : goal.invariant_of-interfaces-in-Break-branch-2
invariant_of-interfaces-in-Break-branch-2 c =
    let is = c.args.resolved.now.interfaces in
    rw c.in_ok-place.ensures.ok (record {
      prefix = prefix_wider (length (prefix_of is.files)) is.arena (c.args.interface ∷ []) is.prefix;
      found = found_wider (λ (i : Interface). i.name) (length (prefix_of is.files)) is.arena (c.args.interface ∷ []) is.by_name is.found;
    })

pub invariant_of-interfaces-2 : goal.invariant_of-interfaces-2
invariant_of-interfaces-2 c =
    let is = c.args.resolved.now.interfaces in
    let put = rw (c.in_ok-name.ensures.ok, c.in_ok-place.ensures.id) at c.put.ensures.ok in
    rw c.in_ok-place.ensures.ok (record {
      prefix = prefix_wider (length (prefix_of is.files)) is.arena (c.args.interface ∷ []) is.prefix;
      found = found_put (λ (i : Interface). i.name) c.put.result (length (prefix_of is.files)) is.arena is.by_name _ c.args.interface c.args.name.now is.prefix is.found c.requires put c.put.ensures.err;
    })

pub returns-clause-puts : goal.returns-clause-puts
returns-clause-puts c =
    let is = c.args.resolved.now.interfaces in
    record {
      files = refl;
      arena = c.in_ok-place.ensures.ok;
      worlds = refl;
      world_names = refl;
      index = λ indexed. rw (c.in_ok-place.ensures.ok, c.in_ok-put.ensures.ok, c.in_ok-name.ensures.ok, c.in_ok-place.ensures.id) (index_interface (prefix_of is.files) is.arena is.by_name c.args.interface c.args.name.now is.prefix indexed c.requires);
    }
