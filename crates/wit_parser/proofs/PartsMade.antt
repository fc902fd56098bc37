-- What else holds of a package, from its being the one that legal files make.
use Rattle.std.proofs.Common.{◌≡◌, ℕ, List, length, Option, Some, None, refl, sym, ap, ◌∙◌, arith}
use Rattle.wit_items.proofs.Common.{Address, AllDiffer, DoneScope, HasArena, Interface, IsFaithful, IsLegal, Makes, PackageFile, TypeOwner, UnresolvedPackage, World, at-type_of, at_within, expr_of, first_foreign_uses, function_key, interface_scopes, item_turns, keys, length-map, map, named_interface, named_world, occurrences, option_and_then, owner_of, same_some, slice_get, slice_get_within, world_scopes}
use Rattle.wit_types.specs.declared.types.TypeOwner.TheVariants as owner
use Rattle.wit_arena.proofs.Faithful.{IsOwnerOf, AreOwners, name_at, type_at, faithful}
use Rattle.wit_arena.proofs.Unknowns.{foreign_uses_prefix}
use Rattle.wit_parser.proofs.Ids.{as_many_interfaces, as_many_types, as_many_worlds, type_within}
use Rattle.wit_parser.proofs.KnownMembers.{decls, present, wholes, written}
use Rattle.wit_parser.proofs.KnownOwners.{scopes, known_at, interface_resolved_scope, world_resolved_scope}
use Rattle.wit_parser.proofs.PartsSeen.{collects, made_places}

module _ (files : List PackageFile) (p : UnresolvedPackage) (legal : IsLegal files) (m : Makes files p) where
  abbrev cs : List DoneScope
  cs = scopes files p legal m

  -- an owner at an address is that of the scope there
  owned : (o : TypeOwner) (s a : Address) → owner_of p o ≡ Some s → IsOwnerOf cs o a → IsOwnerOf cs o s
  owned o s a called c = record { place = c.place; resolved_scope = c.resolved_scope; at = c.at; whose = c.whose; scope = same_some (sym (known_at files p legal m c.place c.resolved_scope c.at).called ∙ ap (owner_of p) c.whose ∙ called) }

  interface_owned : (t : ℕ) (s : Address) (o : Option Interface) → slice_get p.interfaces t ≡ o → option_and_then (λ (x : Interface). named_interface p t x.name) o ≡ Some s → IsOwnerOf cs (owner.Interface t) s
  interface_owned t s None there called = absurd (let f : ⊥ = cc in f)
  interface_owned t s (Some i) there called =
      let lt = slice_get_within p.interfaces t i there in
      let count = as_many_interfaces files p legal m in
      let a = at_within (interface_scopes files m.items) t (omega (arith, lt, count)) in
      owned (owner.Interface t) s a.0 (ap (λ (o : Option Interface). option_and_then (λ (x : Interface). named_interface p t x.name) o) there ∙ called) (interface_resolved_scope files p legal m t a.0 a.1)

  world_owned : (t : ℕ) (s : Address) (o : Option World) → slice_get p.worlds t ≡ o → option_and_then (λ (x : World). named_world p t x.name) o ≡ Some s → IsOwnerOf cs (owner.World t) s
  world_owned t s None there called = absurd (let f : ⊥ = cc in f)
  world_owned t s (Some w) there called =
      let lt = slice_get_within p.worlds t w there in
      let count = as_many_worlds files p legal m in
      let a = at_within (world_scopes files m.items) t (omega (arith, lt, count)) in
      owned (owner.World t) s a.0 (ap (λ (o : Option World). option_and_then (λ (x : World). named_world p t x.name) o) there ∙ called) (world_resolved_scope files p legal m t a.0 a.1)

  all_owners : (o : TypeOwner) (s : Address) → owner_of p o ≡ Some s → IsOwnerOf cs o s
  all_owners (owner.Interface t) s called = interface_owned t s (slice_get p.interfaces t) refl called
  all_owners (owner.World t) s called = world_owned t s (slice_get p.worlds t) refl called
  all_owners owner.None s called = absurd (let f : ⊥ = cc in f)

  owners : AreOwners p cs
  owners = record {
    called = λ t c at. (known_at files p legal m t c at).called;
    names = λ t c at. (known_at files p legal m t c at).names;
    functions = λ t c at. (known_at files p legal m t c at).stated;
    all = all_owners;
  }

  apart : (t : ℕ) (c : DoneScope) → slice_get cs t ≡ Some c → AllDiffer (map function_key c.functions)
  apart t c at = (known_at files p legal m t c at).apart

  -- its arena is what is first seen in the files
  pub arena_of_made : HasArena files p
  arena_of_made = record {
    made = m;
    names = name_at files (decls files p legal m) (written files p legal m) cs p (present files p legal m) owners (wholes files p legal m);
    positions = λ x ty has. (
        let at = (type_at files (decls files p legal m) (written files p legal m) cs p (present files p legal m) owners (wholes files p legal m) apart) x ty has in
        (at-type_of m.id (keys m.seen) (made_places files p legal m) (expr_of x.0 x.1) ty at, type_within p (keys m.seen) (as_many_types files p legal m) (expr_of x.0 x.1) ty at));
  }

  -- and it is faithful to them
  pub faithful_of_made : IsFaithful files p
  faithful_of_made = faithful files (decls files p legal m) (written files p legal m) cs p (present files p legal m) owners (wholes files p legal m) apart (foreign_uses_prefix files (occurrences (item_turns m.order m.items)) m.seen (collects files p legal m)) (ap length m.unknown ∙ length-map (first_foreign_uses files) (λ t. t.id.span))
