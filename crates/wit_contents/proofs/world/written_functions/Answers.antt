use Rattle.wit_contents.proofs.world.written_functions.Goals as goal

pub returns-clause-functions : goal.returns-clause-functions
returns-clause-functions c = c.in_ok-functions.ensures

pub returns-clause-results : goal.returns-clause-results
returns-clause-results c = c.in_ok-results.ensures
