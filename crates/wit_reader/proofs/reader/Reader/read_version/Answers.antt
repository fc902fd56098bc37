use Rattle.wit_reader.proofs.reader.Reader.read_version.Goals as goal

pub invariant_of-self : goal.invariant_of-self
invariant_of-self c =
    let self = c.args.self.now in
    let same = c.in_err-advance-in-Some.ensures.kept in
    record {
      prefix = rw same self.prefix;
      fits = self.fits;
      within = rw same self.within;
      found = rw same self.found;
      next = rw same self.next;
    }
