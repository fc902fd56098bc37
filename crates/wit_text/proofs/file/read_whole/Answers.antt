use Rattle.std.proofs.Common.{◌∙◌, rules}
use Rattle.std.proofs.lemmas.Result.{err_from_is_err_and}
use Rattle.wit_text.proofs.Ends.{begins_stop_file, empty_file, file_made, file_parsed, items_stop_file}
use Rattle.wit_text.proofs.file.read_whole.Goals as goal

pub returns-then-at-clause-reads : goal.returns-then-at-clause-reads
returns-then-at-clause-reads c = rw (c.source_file.ensures, c.new-declarations.ensures.items, c.new-nested.ensures.items) (empty_file c.args.reader.now (search rules))

pub returns-clause-reads : goal.returns-clause-reads
returns-clause-reads c =
    let first = c.in_ok-header.ensures.adds in
    let rest = c.in_ok-add_items.ensures.adds in
    rw (c.source_file-2.ensures ∙ file_made c.in_ok-header.header first.begins rest.items c.new-declarations.ensures.items c.new-nested.ensures.items first.header first.added rest.added) (file_parsed first.reads rest.reads)

pub returns-in_err-header-clause-stops : goal.returns-in_err-header-clause-stops
returns-in_err-header-clause-stops c =
    let p = err_from_is_err_and c.from_residual.result c.from_residual.ensures.1 in
    rw (p.1, p.2) (begins_stop_file c.args.reader.now c.in_err-header.field-0.0 (search rules) c.in_err-header.ensures.stops)

pub returns-in_err-add_items-clause-stops : goal.returns-in_err-add_items-clause-stops
returns-in_err-add_items-clause-stops c =
    let p = err_from_is_err_and c.from_residual-in_err-add_items.result c.from_residual-in_err-add_items.ensures.1 in
    rw (p.1, p.2) (items_stop_file c.in_err-add_items.field-0.0 c.in_ok-header.ensures.adds.reads c.in_err-add_items.ensures.stops)
