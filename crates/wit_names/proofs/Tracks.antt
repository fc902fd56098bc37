-- The laws of tracks.
use Rattle.std.proofs.Common.{◌↔◌, ap, sym, ◌∙◌, arith, ◌≡◌, ℕ, ◌==◌, ◌++◌, Bool, true, false, List, [], ◌∷◌, length, refl, append_assoc}
use Rattle.std.proofs.lemmas.Bool.{ne_eqb}
use Rattle.semver.specs.Identifiers.{parts_text}
use Rattle.wit_names.proofs.Reading.{FitsFields, reading, reading-track_text}
use Rattle.wit_names.specs.Track.{Parts, is_release, suffix_text, track_parts, track_text}

-- a track followed by its suffix is the version's text
pub track_text-suffix_text : (p : Parts) → track_text p ++ suffix_text p ≡ parts_text p
track_text-suffix_text p = by (p.0 == 0) (p.1 == 0) p.3 refl refl refl where
  by : (a b : Bool) (pre : List ℕ) → (p.0 == 0) ≡ a → (p.1 == 0) ≡ b → p.3 ≡ pre → track_text p ++ suffix_text p ≡ parts_text p
  by true true [] e f g = simp (e, f, g, append_assoc)
  by true false [] e f g = simp (e, f, g, append_assoc)
  by false b [] e f g = simp (e, f, g, append_assoc)
  by a b (c ∷ pre) e f g =
      let some : (length (c ∷ pre) == 0) ≡ false = ne_eqb (length (c ∷ pre)) 0 (λ none. absurd (omega (arith, none))) in
      simp (g, some, append_assoc)

-- the track version of a track version is itself
pub track_parts-track_parts : (p : Parts) → track_parts (track_parts p) ≡ track_parts p
track_parts-track_parts p = by (is_release p) (p.0 == 0) (p.1 == 0) refl refl refl where
  by : (r a b : Bool) → is_release p ≡ r → (p.0 == 0) ≡ a → (p.1 == 0) ≡ b → track_parts (track_parts p) ≡ track_parts p
  by true true true e f g = simp (e, f, g)
  by true true false e f g = simp (e, f, g)
  by true false b e f g = simp (e, f, g)
  by false a b e f g = simp (e, f, g)

-- a track's text is that of the track version
track_text-track_parts : (p : Parts) → track_text (track_parts p) ≡ track_text p
track_text-track_parts p = by (is_release p) (p.0 == 0) (p.1 == 0) refl refl refl where
  by : (r a b : Bool) → is_release p ≡ r → (p.0 == 0) ≡ a → (p.1 == 0) ≡ b → track_text (track_parts p) ≡ track_text p
  by true true true e f g = simp (e, f, g)
  by true true false e f g = simp (e, f, g)
  by true false b e f g = simp (e, f, g)
  by false a b e f g = simp (e, f, g)

-- two versions have one track version exactly if they have one track
pub same_track : (p q : Parts) → FitsFields p → FitsFields q → (track_parts p ≡ track_parts q) ↔ (track_text p ≡ track_text q)
same_track p q hp hq = (
  λ e. sym (track_text-track_parts p) ∙ ap track_text e ∙ track_text-track_parts q,
  λ e. sym (reading-track_text p hp) ∙ ap reading e ∙ reading-track_text q hq,
)
