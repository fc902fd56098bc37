use Rattle.std.proofs.Common.{◌≡◌, ◌∷◌}
use Rattle.wit_arena.proofs.Common.{∥∥₁_map}
use Rattle.wit_resolved.proofs.Making.{first_made, others_made}
use Rattle.wit_resolved.proofs.package_ref.PackageRefsIterator.next.Goals as goal

pub invariant_of-self : goal.invariant_of-self
invariant_of-self c =
    let is : c.args.self.now.left.now ≡ c.in-Some.first.now ∷ c.in-Some.others.now = c.in-Some.ensures.cases.0 in
    record { made = ∥∥₁_map (rw is at c.args.self.now.made) (others_made c.in-Some.first.now c.in-Some.others.now) }

pub of-requires : goal.of-requires
of-requires c =
    let is : c.args.self.now.left.now ≡ c.in-Some.first.now ∷ c.in-Some.others.now = c.in-Some.ensures.cases.0 in
    ∥∥₁_map (rw is at c.args.self.now.made) (first_made c.in-Some.first.now c.in-Some.others.now)
