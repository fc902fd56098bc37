use Rattle.wit_contents.proofs.contents.resolve_contents.Goals as goal

pub returns-clause-made : goal.returns-clause-made
returns-clause-made c = rw (c.shrunk.ensures, c.shrunk-2.ensures, c.shrunk-3.ensures) c.in_ok-arenas.ensures.made
