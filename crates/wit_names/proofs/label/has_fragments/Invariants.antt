use Rattle.std.proofs.Common.{◌≡◌, drop}
use Rattle.std.specs.List.{list_all}
use Rattle.wit_names.specs.Label.{fragments, is_fragment}
use Rattle.wit_names.proofs.Fragments.{ends_well}
use Rattle.wit_names.proofs.label.has_fragments.Given as goal

abbrev pub invariant-loop-at : goal.invariant-loop-at
invariant-loop-at l = ends_well l.empty l.lower l.upper (drop l.at l.text) ≡ list_all is_fragment (fragments l.text)
