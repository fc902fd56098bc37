use Rattle.std.proofs.Common.{◌≡◌, List, None, subst}
use Rattle.wit_arena.proofs.Common.{Attribute, all_handles, body_types, env_of, missing_type_at}
use Rattle.wit_first.specs.AttributeFaults.{metadata_fault}
use Rattle.wit_first.proofs.First.{none_both}
use Rattle.wit_entries.proofs.Faults.{body_extended}
use Rattle.wit_entries.proofs.Noted.{defines_noted}
use Rattle.wit_entries.proofs.Requiring.{extended_then, requires_extended}
use Rattle.wit_definitions.proofs.definitions.define.Goals as goal

pub returns : goal.returns
returns c =
    let old = c.args.scope.now in
    let env = env_of old.names in
    let d = c.args.definition.now in
    let mid = c.resolve_body.new.types in
    let new = c.declare.new.types in
    let kind = c.in_ok-kind.ensures in
    let added = c.in_ok-declare.ensures in
    record {
      made = (
        λ cs s. defines_noted c.args.types.now mid new cs old.owner s old.names c.declare.new.self.names d c.in_ok-kind.kind c.in_ok-metadata.metadata c.deref.result.now c.in_ok-metadata.ensures.as_stated c.deref.ensures.value kind.made added.added,
        added.owner,
        record { place = _; is = added.added.inserted },
      );
      handled = rw added.required (requires_extended env mid new (all_handles (body_types d.body)) old.required.items c.resolve_body.new.required.items added.extended kind.handled);
      extended = extended_then c.args.types.now mid new kind.extended added.extended;
      first = none_both (subst (λ (l : List Attribute). metadata_fault l ≡ None) c.deref.ensures.value c.in_ok-metadata.ensures.first) (body_extended missing_type_at env mid new d.body added.extended kind.first);
    }
