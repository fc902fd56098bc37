use Rattle.std.proofs.Common.{map, take}
use Rattle.wit_syntax.proofs.Common.{AllDiffer, top_text}
use Rattle.wit_top_names.specs.Tops.{top_view, AreNamed}
use Rattle.wit_top_names.proofs.top_name.unique_names.Given as goal

abbrev pub invariant-loop-name : goal.invariant-loop-name
invariant-loop-name l = record {
  named : AreNamed (map top_view (take l.name-index l.names)) l.found;
  distinct : AllDiffer (map top_text (map top_view (take l.name-index l.names)));
}
