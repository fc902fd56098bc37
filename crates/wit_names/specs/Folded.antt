-- The folded key of a mangled name: two names with one key must not be side by side.
use Rattle.std.specs.Prelude.{ℕ, List, codes, map, nat_eq, if◌then◌else◌, unwrap_or, is_some}
use Rattle.std.specs.Char.{to_ascii_lowercase}
use Rattle.std.specs.Cmp.Lexicographic.{pointwise}
use Rattle.wit_names.specs.Prefix.{rest_after}
use Rattle.wit_names.specs.Mangled.{owner_of, member_of}

-- the text in ASCII lower case
abbrev pub lower_case : List ℕ → List ℕ
lower_case text = map to_ascii_lowercase text

-- the name without `[method]` or `[static]` in front
abbrev pub without_kind : List ℕ → List ℕ
without_kind text = unwrap_or (rest_after (codes "[method]") text) (unwrap_or (rest_after (codes "[static]") text) text)

-- `l.l` as `l`, any other text as it is
abbrev pub single : List ℕ → List ℕ
single text = if pointwise nat_eq (owner_of text) (member_of text) then owner_of text else text

-- the same, but as it is where an accessor or `[constructor]` comes first
abbrev pub single_if_bare : List ℕ → List ℕ
single_if_bare text = if is_some (rest_after (codes "[") text) then text else single text

-- the folded key: case folded, `[method]` and `[static]` dropped, and then a bare `l.l` as `l`
abbrev pub folded_key : List ℕ → List ℕ
folded_key name = single_if_bare (without_kind (lower_case name))
