use Rattle.std.proofs.Common.{refl, arith}
use Rattle.std.proofs.lemmas.Result.{err_from_is_err_and}
use Rattle.wit_lex.specs.Lexis.{lexeme}
use Rattle.wit_reader.specs.Reading.{spot}
use Rattle.wit_reader.proofs.Steps.{past_end, past_next, past_stops}
use Rattle.wit_reader.proofs.reader.Reader.bump.Goals as goal

pub returns-clause-reads : goal.returns-clause-reads
returns-clause-reads c =
    let order = c.args.self.now.within.order in
    let prefix = c.args.self.now.prefix in
    record {
      source = refl;
      offset = refl;
      onward = omega arith;
      passes = past_next (spot c.args.self.now) (lexeme c.args.self.now.token) _ c.if-self.false c.in_ok-advance.ensures.lexed;
    }

pub returns-then-self-clause-stops : goal.returns-then-self-clause-stops
returns-then-self-clause-stops c = rw c.refuse.ensures (past_end (spot c.args.self.now) (lexeme c.args.self.now.token) c.if-self.true)

pub returns-in_err-advance-clause-stops : goal.returns-in_err-advance-clause-stops
returns-in_err-advance-clause-stops c =
    let p = err_from_is_err_and c.from_residual.result c.from_residual.ensures.1 in
    rw (p.1, p.2) (past_stops (spot c.args.self.now) (lexeme c.args.self.now.token) _ c.if-self.false c.in_err-advance.ensures.unlexed)

pub invariant_of-self : goal.invariant_of-self
invariant_of-self c =
    let self = c.args.self.now in
    let kept = c.in_err-advance.ensures.kept in
    record {
      prefix = rw kept self.prefix;
      fits = self.fits;
      within = rw kept self.within;
      found = rw kept self.found;
      next = rw kept self.next;
    }
