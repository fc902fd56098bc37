use Rattle.wit_links.proofs.Counted.{seen_function}
use Rattle.wit_links.proofs.inside.Seen.with_function.Goals as goal

pub returns : goal.returns
returns c = λ xs fn seen. seen_function xs fn c.args.self _ c.in_ok-functions.ensures seen
