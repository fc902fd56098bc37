use Rattle.wit_bundle.specs.Bundle.{sources_of}
use Rattle.wit_outcome.proofs.Finding.{mapped}
use Rattle.wit_outcome.proofs.outcome.resolve_text.Goals as goal

pub returns : goal.returns
returns c = c.resolve.ensures (sources_of c.args.text.now) (mapped (sources_of c.args.text.now) c.bundle.result c.bundle.ensures.laid c.bundle.ensures.fits c.bundle.ensures.too_large)
