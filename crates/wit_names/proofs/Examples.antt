-- Worked rows, computed by the definitions.
use Rattle.std.proofs.Common.{◌≡◌, true, false, List, [], ◌∷◌, map, refl}
use Rattle.std.specs.Prelude.{codes}
use Rattle.wit_names.specs.Label.{is_label}
use Rattle.wit_names.specs.Mangled.{is_mangled}
use Rattle.wit_names.specs.Folded.{folded_key}
use Rattle.wit_names.specs.Setter.{getter_of}
use Rattle.wit_names.specs.Track.{Parts, track_parts}

labels : map is_label (codes "a" ∷ codes "a1" ∷ codes "a-1b" ∷ codes "A-b" ∷ codes "FOO-bar" ∷ []) ≡ (true ∷ true ∷ true ∷ true ∷ true ∷ [])
labels = refl

other_texts : map is_label ([] ∷ codes "1a" ∷ codes "a-" ∷ codes "a--b" ∷ codes "aB" ∷ []) ≡ (false ∷ false ∷ false ∷ false ∷ false ∷ [])
other_texts = refl

mangled_names : map is_mangled (codes "f" ∷ codes "[get]f" ∷ codes "[method][set]r.f" ∷ codes "[static]r.f" ∷ codes "[constructor]r" ∷ []) ≡ (true ∷ true ∷ true ∷ true ∷ true ∷ [])
mangled_names = refl

other_names : map is_mangled (codes "r.f" ∷ codes "[get]r.f" ∷ codes "[method]f" ∷ codes "[constructor]r.f" ∷ []) ≡ (false ∷ false ∷ false ∷ false ∷ [])
other_names = refl

keys : map folded_key (codes "[method]r.f" ∷ codes "[static]r.f" ∷ codes "[method]r.r" ∷ codes "F-oo" ∷ codes "[method][get]r.r" ∷ codes "[constructor]r" ∷ []) ≡ (codes "r.f" ∷ codes "r.f" ∷ codes "r" ∷ codes "f-oo" ∷ codes "[get]r.r" ∷ codes "[constructor]r" ∷ [])
keys = refl

getters : map getter_of (codes "[set]x" ∷ codes "[method][set]r.x" ∷ codes "[static][set]r.x" ∷ []) ≡ (codes "[get]x" ∷ codes "[method][get]r.x" ∷ codes "[static][get]r.x" ∷ [])
getters = refl

-- 1.2.3, 0.10.0+build.1, 0.0.0 and 0.0.1-alpha+build.1
versions : List Parts
versions = (1, 2, 3, [], []) ∷ (0, 10, 0, [], codes "build.1") ∷ (0, 0, 0, [], []) ∷ (0, 0, 1, codes "alpha", codes "build.1") ∷ []

track_versions : map track_parts versions ≡ ((1, 0, 0, [], []) ∷ (0, 10, 0, [], []) ∷ (0, 0, 0, [], []) ∷ (0, 0, 1, codes "alpha", []) ∷ [])
unfolding versions
track_versions = refl
