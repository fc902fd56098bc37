-- The rare parts of a version, which are apart: none is the empty text.
use Rattle.std.specs.Prelude.{ℕ, List, [], Option, Some, None, Box}
use Rattle.std.specs.declared.alloc.Global.{Global}
use Rattle.semver.specs.declared.Prerelease.{Prerelease}
use Rattle.semver.specs.declared.BuildMetadata.{BuildMetadata}
use Rattle.semver.specs.Identifiers.{pre_text, build_text}

-- the text of a pre-release
abbrev pub pre_of : Option (Box Prerelease Global) → List ℕ
pre_of None = []
pre_of (Some part) = pre_text part.value

-- the text of build metadata
abbrev pub build_of : Option (Box BuildMetadata Global) → List ℕ
build_of None = []
build_of (Some part) = build_text part.value
