use Rattle.std.proofs.Common.{rules}
use Rattle.wit_interface_reader.proofs.Definitions.{stops_as, at_alias, at_record, at_flags, at_variant, at_enum, at_resource}
use Rattle.wit_interface_reader.proofs.definition.read_body.Goals as goal

pub returns-then-at_word-clause-reads : goal.returns-then-at_word-clause-reads
returns-then-at_word-clause-reads c = rw (at_alias c.args.reader.now (search rules)) c.read_alias.ensures.reads

pub returns-then-at_word-clause-stops : goal.returns-then-at_word-clause-stops
returns-then-at_word-clause-stops c = stops_as c.read_alias.result (at_alias c.args.reader.now (search rules)) c.read_alias.ensures.stops

pub returns-then-at_word-2-clause-reads : goal.returns-then-at_word-2-clause-reads
returns-then-at_word-2-clause-reads c = rw (at_record c.args.reader.now (search rules) (search rules)) c.read_record.ensures.reads

pub returns-then-at_word-2-clause-stops : goal.returns-then-at_word-2-clause-stops
returns-then-at_word-2-clause-stops c = stops_as c.read_record.result (at_record c.args.reader.now (search rules) (search rules)) c.read_record.ensures.stops

pub returns-then-at_word-3-clause-reads : goal.returns-then-at_word-3-clause-reads
returns-then-at_word-3-clause-reads c = rw (at_flags c.args.reader.now (search rules) (search rules) (search rules)) c.read_flags_definition.ensures.reads

pub returns-then-at_word-3-clause-stops : goal.returns-then-at_word-3-clause-stops
returns-then-at_word-3-clause-stops c = stops_as c.read_flags_definition.result (at_flags c.args.reader.now (search rules) (search rules) (search rules)) c.read_flags_definition.ensures.stops

pub returns-then-at_word-4-clause-reads : goal.returns-then-at_word-4-clause-reads
returns-then-at_word-4-clause-reads c = rw (at_variant c.args.reader.now (search rules) (search rules) (search rules) (search rules)) c.read_variant.ensures.reads

pub returns-then-at_word-4-clause-stops : goal.returns-then-at_word-4-clause-stops
returns-then-at_word-4-clause-stops c = stops_as c.read_variant.result (at_variant c.args.reader.now (search rules) (search rules) (search rules) (search rules)) c.read_variant.ensures.stops

pub returns-then-at_word-5-clause-reads : goal.returns-then-at_word-5-clause-reads
returns-then-at_word-5-clause-reads c = rw (at_enum c.args.reader.now (search rules) (search rules) (search rules) (search rules) (search rules)) c.read_enum.ensures.reads

pub returns-then-at_word-5-clause-stops : goal.returns-then-at_word-5-clause-stops
returns-then-at_word-5-clause-stops c = stops_as c.read_enum.result (at_enum c.args.reader.now (search rules) (search rules) (search rules) (search rules) (search rules)) c.read_enum.ensures.stops

pub returns-clause-reads : goal.returns-clause-reads
returns-clause-reads c = rw (at_resource c.args.reader.now (search rules) (search rules) (search rules) (search rules) (search rules)) c.read_resource.ensures.reads

pub returns-clause-stops : goal.returns-clause-stops
returns-clause-stops c = stops_as c.read_resource.result (at_resource c.args.reader.now (search rules) (search rules) (search rules) (search rules) (search rules)) c.read_resource.ensures.stops
