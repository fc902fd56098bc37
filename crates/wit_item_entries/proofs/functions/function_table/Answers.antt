use Rattle.std.proofs.Common.{rules, ◌≡◌, ◌++◌, ◌∷◌, [], ap, ◌∙◌, sym, append_assoc}
use Rattle.wit_items.proofs.Common.{AllDiffer, append-nil, by_name, into_iter_items, is_getter_of, made_name, map, nil_from_length, setters_placed}
use Rattle.wit_item_entries.proofs.FunctionTables.{function_next, placed_differ, table_placed}
use Rattle.wit_item_entries.proofs.functions.function_table.Goals as goal

pub loop-function-preserved : goal.loop-function-preserved
loop-function-preserved c =
    let f = c.in-Some.function in
    let prefix = c.loop-function.yielded in
    let rest = into_iter_items c.next.new.self in
    let was = c.loop-function.invariant in
    let all : prefix ++ f ∷ rest ≡ setters_placed is_getter_of c.args.functions.items = ap (λ l. prefix ++ l) (sym c.in-Some.ensures.steps.0) ∙ was.all in
    let differ : AllDiffer (map made_name (prefix ++ f ∷ rest)) = rw all (placed_differ c.args.functions.items c.requires) in
    record {
      all = append_assoc prefix (f ∷ []) rest ∙ all;
      entries = rw (c.in_ok-add_function.ensures, was.entries) (function_next prefix rest f differ);
    }

pub returns : goal.returns
returns c =
    let prefix = c.loop-function.yielded in
    let left = into_iter_items c.loop-function.function-iterator in
    let was = c.loop-function.invariant in
    let over = c.in-None.ensures.steps in
    let none : left ≡ [] = nil_from_length left (search rules) in
    let all : prefix ≡ setters_placed is_getter_of c.args.functions.items = sym (append-nil prefix) ∙ ap (λ l. prefix ++ l) (sym none) ∙ was.all in
    c.shrunk.ensures ∙ was.entries ∙ ap (map by_name) all ∙ table_placed c.args.functions.items
