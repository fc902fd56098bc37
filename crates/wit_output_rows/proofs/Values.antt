-- Strings and sources with given bytes, wherever they lie.
use Rattle.std.proofs.Common.{◌≡◌, ℕ, ◌+◌, ◌<◌, ◌^◌, Bool, true, List, [], ◌∷◌, length, nat_lt, ltb-true}
use Rattle.wit_arena.proofs.Common.{Global, IsAscii, IsUtf8-from_ascii, String, and_parts, list_all}
use Rattle.std.specs.Prelude.{IsUtf8}
use denote.RawPtr.{Ptr}
use Rattle.std.proofs.lemmas.Str.Ascii.{IsAscii-nil, IsAscii-cons}
use Rattle.wit_lex.specs.declared.source.Source.{Source}
use Rattle.wit_meaning_examples.proofs.Examples.{vec}

-- whether each of these is the code of an ASCII character
abbrev pub is_plain : List ℕ → Bool
is_plain bs = list_all (λ b. nat_lt b 128) bs

pub plain_ascii : (bs : List ℕ) → is_plain bs ≡ true → IsAscii bs
plain_ascii [] h = IsAscii-nil
plain_ascii (b ∷ bs) h =
    let both = and_parts (nat_lt b 128) (is_plain bs) h in
    let below = ltb-true b 128 both.0 in
    IsAscii-cons b bs below (plain_ascii bs both.1)

pub plain_utf8 : (bs : List ℕ) → is_plain bs ≡ true → IsUtf8 bs
plain_utf8 bs h = IsUtf8-from_ascii bs (plain_ascii bs h)

module _ (ptr : Ptr) (alloc : Global) where
  abbrev pub string : (bs : List ℕ) → is_plain bs ≡ true → length bs < 2 ^ 63 → String Global
  string bs plain small = record { bytes = vec ptr alloc bs small; ok = ∣ plain_utf8 bs plain ∣₁ }

  -- a source of ASCII characters
  abbrev pub source : (path text : List ℕ) (place : ℕ) → is_plain path ≡ true → is_plain text ≡ true → length path < 2 ^ 63 → length text < 2 ^ 63 → place + length text < 2 ^ 32 → Source
  source path text place named plain few small fits = record { path = string path named few; contents = string text plain small; offset = place; fits = fits }
