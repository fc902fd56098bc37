use Rattle.std.proofs.Common.{◌++◌, map, sym, ◌∙◌}
use Rattle.wit_rules.specs.Signatures.{function_view}
use Rattle.wit_signatures.specs.FunctionsOfScope.{name_of_function, name_of_id}
use Rattle.wit_externs.proofs.FirstSetters.{borrowed_named, lone_found, merged_after, merged_functions, none_borrowed}
use Rattle.wit_externs.proofs.in_use.check_setters.Goals as goal

pub returns-then-not-have_setter : goal.returns-then-not-have_setter
returns-then-not-have_setter c = record { first = none_borrowed c.args.functions.now (sym c.have_setter.ensures ∙ c.if-not-have_setter.true) }

pub returns : goal.returns
returns c =
    let ids = c.args.names.now in
    let hs = c.args.functions.now in
    let fns = map function_view hs in
    let paired = rw c.requires at c.check_setters.ensures.paired in
    let refused = rw c.requires at c.check_setters.ensures.refused in
    record { first = lone_found c.check_setters.result (map name_of_id ids ++ map name_of_function fns) fns (merged_after ids (map name_of_function fns) fns (merged_functions fns)) (borrowed_named hs) paired refused }
