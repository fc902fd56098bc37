-- No map of a package that legal files make has a key twice.
use Rattle.std.proofs.Common.{List, sym, subst}
use Rattle.wit_arena.proofs.Common.{All, IsLegal, Makes, PackageFile, UnresolvedPackage, world_scopes}
use Rattle.wit_lex.specs.declared.source.Source.{Source}
use Rattle.wit_groups.specs.Groups.{IsGroup}
use Rattle.wit_json.specs.DistinctKeys.{HasOwnEntries, HasOwnKeys, HasOwnMembers, HasOwnSides}
use Rattle.wit_json.specs.Laws.{HasOwnMaps}
use Rattle.wit_json_laws.proofs.Deps.{Dep, dep_items, dep_keys}
use Rattle.wit_json_laws.proofs.Lists.{all_at}
use Rattle.wit_json_laws.proofs.Members.{all_members}
use Rattle.wit_json_laws.proofs.PlainGroups.{IsPlainMade, main_made, nested_made}
use Rattle.wit_json_laws.proofs.Worlds.{all_sides}

pub own_entries : (files : List PackageFile) (p : UnresolvedPackage) → IsLegal files → Makes files p → HasOwnEntries p
own_entries files p legal m = record {
  interfaces = subst (All HasOwnMembers) (sym m.interfaces) (all_members files legal m.items m.in_order m.id m.order m.names_in_order);
  worlds = subst (All HasOwnSides) (sym m.worlds) (all_sides files legal m.items m.in_order m.order m.names_in_order m.id (world_scopes files m.items));
  deps = subst (λ (l : List Dep). HasOwnKeys l) (sym m.deps) (dep_keys files);
  items = subst (All (λ (d : Dep). HasOwnKeys d.1)) (sym m.deps) (dep_items files);
}

made_entries : (p : UnresolvedPackage) → IsPlainMade p → HasOwnEntries p
made_entries p made = own_entries made.0 p made.2.legal made.2.whole

pub own_maps : (sources : List Source) (main : UnresolvedPackage) (nested : List UnresolvedPackage) → IsGroup sources main nested → HasOwnMaps (sources, main, nested)
own_maps sources main nested group = record {
  main = made_entries main (main_made sources main nested group);
  nested = all_at HasOwnEntries nested (λ k p at. made_entries p (nested_made sources main nested group k p at));
}
