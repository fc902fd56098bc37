use Rattle.std.proofs.Common.{length}
use Rattle.wit_contents.proofs.Names.{Interface, found_none, prefix_of}
use Rattle.wit_contents.proofs.Files.{interfaces_enough}
use Rattle.wit_contents.proofs.making.begun.Goals as goal

pub invariant_of-interfaces : goal.invariant_of-interfaces
invariant_of-interfaces c = record {
  prefix = interfaces_enough c.args.files _ _ _ c.requires.foreign;
  found = found_none (λ (i : Interface). i.name) (length (prefix_of c.args.files)) c.args.interfaces c.new.result c.new.ensures;
}
