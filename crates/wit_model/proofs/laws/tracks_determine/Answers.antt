use Rattle.std.proofs.Common.{arith}
use Rattle.semver.specs.Identifiers.{parts_of}
use Rattle.wit_names.proofs.Tracks.{same_track}
use Rattle.wit_model.proofs.laws.tracks_determine.Goals as goal

pub returns : goal.returns
returns c =
    same_track (parts_of c.args.first.now) (parts_of c.args.second.now)
    (record { major = omega arith; minor = omega arith; patch = omega arith })
    (record { major = omega arith; minor = omega arith; patch = omega arith })
