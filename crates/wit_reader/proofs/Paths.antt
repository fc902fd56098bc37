-- Paths by the rules of the grammar.
use Rattle.std.proofs.Common.{◌≡◌, Option, Some, None, refl}
use Rattle.std.specs.Prelude.{Ok, Err}
use Rattle.std.specs.Option.{option_map}
use Rattle.semver.specs.declared.Version.{Version}
use Rattle.semver.specs.Identifiers.{parts_of}
use Rattle.wit_values.specs.declared.span.Span.{Span}
use Rattle.wit_type_tree.specs.declared.leaves.Docs.{Docs}
use Rattle.wit_type_tree.specs.declared.leaves.Id.{Id}
use Rattle.wit_type_tree.specs.Comments.{IsNoDocs}
use Rattle.wit_tree.specs.declared.tree.PackageName.{PackageName}
use Rattle.wit_grammar.specs.Trees.{Name, Release}
use Rattle.wit_grammar.specs.Seen.{see_docs, see_name, see_package_id}
use Rattle.wit_grammar.specs.Leaves.{Read, ◌>>=◌}
use Rattle.wit_grammar.specs.Rules.{joined, no_docs, package_path, path_of, release_of}
use Rattle.wit_reader.specs.FoundVersions.{found_version, see_found}
use Rattle.wit_reader.proofs.Courses.{made}

no_docs_seen : (docs : Docs) → IsNoDocs docs → see_docs docs ≡ no_docs
no_docs_seen docs none = rw (none.comments, none.span) refl

version_seen : (found : Option (Span × Version)) → option_map parts_of (found_version found) ≡ release_of (option_map see_found found)
version_seen None = refl
version_seen (Some (place, version)) = refl

-- the package of a path, with the version that was found after the item's name
pub package_seen : (docs : Docs) (first second : Id) (found : Option (Span × Version)) (p : PackageName) → IsNoDocs docs → p.docs ≡ docs → p.namespace ≡ first → p.name ≡ second →
    p.span ≡ joined first.span second.span → p.version ≡ found_version found →
    see_package_id p ≡ record { docs = no_docs; span = joined first.span second.span; namespace = see_name first; name = see_name second; version = release_of (option_map see_found found) }
package_seen docs first second found p none same one two span version = rw (same, one, two, span, version, no_docs_seen docs none, version_seen found) refl

abbrev after_second : Name → Name × Option (Span × Release) → Name × Name × Option (Span × Release)
after_second second x = (second, x.0, x.1)

abbrev itself : {A : Type 0} → A → A
itself x = x

abbrev found : {A : Type 0} → A → Option A
found x = Some x

-- what follows a second name is made into a path in one step, or in four
pub rest_made : (first second : Name) (r : Read (Name × Option (Span × Release))) →
    ((((r >>= made (after_second second)) >>= made itself) >>= made found) >>= made (path_of first)) ≡ (r >>= made (package_path first second))
rest_made first second (Ok x) = refl
rest_made first second (Err e) = refl
