-- What is stated of a thing, as it is borrowed.
use Rattle.wit_syntax.specs.Metadata.{Metadata}
use Rattle.wit_notes.specs.declared.metadata.Metadata.{Metadata as Borrowed}

abbrev pub metadata_view : Borrowed → Metadata
metadata_view n = record { docs = n.docs; stability = n.stability; external_id = n.external_id }
