use Rattle.std.proofs.Common.{◌≡◌, ◌++◌, ◌∷◌, [], rules, subst}
use Rattle.wit_arena.proofs.Common.{unnamed}
use Rattle.wit_entries.specs.Known.{IsMissing}
use Rattle.wit_entries.proofs.Known.{known_kept, known_set, known_unnamed}
use Rattle.wit_entries.proofs.entries.Entries.add_unnamed.Goals as goal

pub invariant_of-self : goal.invariant_of-self
invariant_of-self c = (known_kept _ _ _ _ c.self.inside.arena c.in_err-set.ensures.key_hashes_stay c.in_err-set.ensures.keys_stay c.self.invariant.0, c.self.invariant.1)

pub invariant_of-self-in_err-id : goal.invariant_of-self-in_err-id
invariant_of-self-in_err-id c =
    let es = c.self.inside.arena in
    let same : c.args.self.now ≡ es = (let view = c.self.view_is in cc) in
    let missing : IsMissing c.args.kind es = subst (IsMissing c.args.kind) same c.requires.missing in
    let known = known_set _ _ _ _ es c.args.kind c.args.key c.next_id.result c.requires.keyed missing c.in_ok-set.ensures.set c.self.invariant.0 in
    (rw c.in_err-id.ensures.kept known, c.in_err-id.ensures.as_stated c.self.invariant.1)

pub invariant_of-self-2 : goal.invariant_of-self-2
invariant_of-self-2 c =
    let es = c.self.inside.arena in
    let same : c.args.self.now ≡ es = (let view = c.self.view_is in cc) in
    let missing : IsMissing c.args.kind es = subst (IsMissing c.args.kind) same c.requires.missing in
    let last : c.add_entry.new.types ≡ es ++ unnamed c.args.kind c.in_ok-stability.stability c.args.span ∷ [] = search rules in
    let known = known_unnamed _ _ _ _ es c.args.kind c.in_ok-stability.stability c.args.span c.args.key c.requires.keyed missing (rw c.next_id.ensures at c.in_ok-set.ensures.set) c.self.invariant.0 in
    (rw last known, c.in_ok-id.ensures.as_stated c.self.invariant.1)
