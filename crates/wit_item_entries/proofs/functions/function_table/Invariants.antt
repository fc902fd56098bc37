use Rattle.std.proofs.Common.{◌≡◌, ◌++◌, map}
use Rattle.wit_items.proofs.Common.{by_name, into_iter_items, is_getter_of, setters_placed}
use Rattle.wit_item_entries.proofs.functions.function_table.Given as goal

abbrev pub invariant-loop-function : goal.invariant-loop-function
invariant-loop-function l = record {
  all : l.yielded ++ into_iter_items l.function-iterator ≡ setters_placed is_getter_of l.fn.functions.items;
  entries : l.table ≡ map by_name l.yielded;
}
