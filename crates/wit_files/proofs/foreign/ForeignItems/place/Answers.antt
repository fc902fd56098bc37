use Rattle.std.proofs.Common.{◌∙◌}
use Rattle.wit_syntax.proofs.Common.{ForeignNamed, package_of}
use Rattle.wit_files.proofs.Others.{key_place}
use Rattle.wit_files.proofs.foreign.ForeignItems.place.Goals as goal

pub returns : goal.returns
returns c = λ visits are. c.get_index_of.ensures ∙ key_place visits c.args.self.now c.foreign_key.result (ForeignNamed (package_of c.args.id.now) c.args.name.name.now) are c.foreign_key.ensures
