use Rattle.std.proofs.Common.{refl, arith}
use Rattle.wit_reader.proofs.Documented.{docs_parsed, token_stays}
use Rattle.wit_reader.proofs.reader.Reader.read_docs.Goals as goal

pub returns-clause-reads : goal.returns-clause-reads
returns-clause-reads c = docs_parsed _ _ refl refl refl c.in_ok-docs.ensures.lexed

pub invariant_of-self : goal.invariant_of-self
invariant_of-self c =
    let self = c.args.self.now in
    record {
      prefix = omega arith;
      fits = self.fits;
      within = self.within;
      found = self.found;
      next = token_stays self;
    }
