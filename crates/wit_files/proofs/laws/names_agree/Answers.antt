use Rattle.wit_files.proofs.Gathering.{names_agree as law}
use Rattle.wit_files.proofs.laws.names_agree.Goals as goal

pub returns : goal.returns
returns c = law
