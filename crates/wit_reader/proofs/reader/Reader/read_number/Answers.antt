use Rattle.std.proofs.Common.{rules}
use Rattle.std.proofs.lemmas.Result.{err_from_is_err_and}
use Rattle.wit_reader.proofs.Numbers.{number_parsed, number_read_at, number_stops_after, number_stops_large}
use Rattle.wit_reader.proofs.reader.Reader.read_number.Goals as goal

pub returns-in_ok-bump-in-Ok-clause-reads : goal.returns-in_ok-bump-in-Ok-clause-reads
returns-in_ok-bump-in-Ok-clause-reads c =
    number_read_at c.in-Ok.number (search rules) (rw c.in-Ok.is at (number_parsed c.args.self.now c.parse.result (search rules) c.parse.ensures.value.0)) c.in_ok-bump-in-Ok.ensures.reads

pub returns-in_err-bump-in-Ok-clause-stops : goal.returns-in_err-bump-in-Ok-clause-stops
returns-in_err-bump-in-Ok-clause-stops c =
    let p = err_from_is_err_and c.from_residual.result c.from_residual.ensures.1 in
    let fits = rw c.in-Ok.is at (number_parsed c.args.self.now c.parse.result (search rules) c.parse.ensures.value.0) in
    rw (p.1, p.2) (number_stops_after c.args.self.now _ (search rules) fits.0 c.in_err-bump-in-Ok.ensures.stops)

pub returns-in-Err-clause-stops : goal.returns-in-Err-clause-stops
returns-in-Err-clause-stops c =
    rw c.refuse-in-Err.ensures (number_stops_large c.args.self.now (search rules) (rw c.in-Err.is at (number_parsed c.args.self.now c.parse.result (search rules) c.parse.ensures.value.0)))
