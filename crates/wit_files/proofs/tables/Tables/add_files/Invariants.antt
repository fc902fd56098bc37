use Rattle.std.proofs.Common.{◌≡◌, None, map, take}
use Rattle.wit_syntax.proofs.Common.{all_items, is_world, item_rows, rows}
use Rattle.wit_first.specs.FileFaults.{file_fault}
use Rattle.wit_first.specs.First.{first_in}
use Rattle.wit_files.specs.FileNames.{AreTopsOf}
use Rattle.wit_files.proofs.tables.Tables.add_files.Given as goal

abbrev pub invariant-loop-file : goal.invariant-loop-file
invariant-loop-file l = record {
  items : rows l.names.items ≡ item_rows (take l.file-index l.files);
  kinds : l.names.kinds.items ≡ map is_world (all_items (take l.file-index l.files));
  tops : AreTopsOf (take l.file-index l.files) l.names.tops.items;
  none : first_in (file_fault (all_items l.files)) (take l.file-index l.files) ≡ None;
  visits : l.names.visits ≡ l.fn.names.visits;
  foreign : l.names.foreign ≡ l.fn.names.foreign;
}
