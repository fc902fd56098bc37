-- The laws of tracks, of every version.
use Rattle.std.specs.Prelude.{◌≡◌, ◌++◌, ◌↔◌}
use Rattle.semver.specs.Identifiers.{parts_of, version_text}
use Rattle.semver.specs.declared.Version.{Version}
use Rattle.wit_names.specs.Track.{suffix_text, track_parts, track_text}

-- the track followed by the rest of the text is the version's text
abbrev pub TrackThenSuffix : Version → Type 0
TrackThenSuffix v = track_text (parts_of v) ++ suffix_text (parts_of v) ≡ version_text v

-- the track version of the track version is the track version
abbrev pub TrackOfTrack : Version → Type 0
TrackOfTrack v = track_parts (track_parts (parts_of v)) ≡ track_parts (parts_of v)

-- the track versions of two versions are equal exactly if their tracks are
abbrev pub TracksDetermine : Version → Version → Type 0
TracksDetermine v w = (track_parts (parts_of v) ≡ track_parts (parts_of w)) ↔ (track_text (parts_of v) ≡ track_text (parts_of w))
