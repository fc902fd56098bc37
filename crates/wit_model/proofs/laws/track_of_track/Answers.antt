use Rattle.semver.specs.Identifiers.{parts_of}
use Rattle.wit_names.proofs.Tracks.{track_parts-track_parts}
use Rattle.wit_model.proofs.laws.track_of_track.Goals as goal

pub returns : goal.returns
returns c = track_parts-track_parts (parts_of c.args.version.now)
