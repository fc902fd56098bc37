use Rattle.semver.specs.Identifiers.{parts_of}
use Rattle.wit_names.proofs.Tracks.{track_text-suffix_text}
use Rattle.wit_model.proofs.laws.track_then_suffix.Goals as goal

pub returns : goal.returns
returns c = track_text-suffix_text (parts_of c.args.version.now)
