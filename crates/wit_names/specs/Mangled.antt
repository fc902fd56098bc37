-- Mangled names: a function's written name, distinguished by what sort of function it is.
use Rattle.std.specs.Prelude.{ℕ, ◌==◌, ◌&&◌, ◌||◌, Bool, List, codes}
use Rattle.std.specs.List.{before_first, after_first}
use Rattle.wit_names.specs.Prefix.{is_after}
use Rattle.wit_names.specs.Label.{is_label}

-- the text before the first dot, and the text after it
abbrev pub owner_of : List ℕ → List ℕ
owner_of text = before_first (λ b. b == 46) text

abbrev pub member_of : List ℕ → List ℕ
member_of text = after_first (λ b. b == 46) text

-- two labels with a dot between them: a resource, and a function of it
abbrev pub is_dotted : List ℕ → Bool
is_dotted text = is_label (owner_of text) && is_label (member_of text)

-- what passes the test, alone or after `[get]` or `[set]`
abbrev pub is_accessed : (List ℕ → Bool) → List ℕ → Bool
is_accessed test text = test text || is_after test (codes "[get]") text || is_after test (codes "[set]") text

-- a mangled name: `f`, `[get]f`, `[set]f`, `[constructor]r`, or after `[method]` or `[static]` one of `r.f`, `[get]r.f`, `[set]r.f`
abbrev pub is_mangled : List ℕ → Bool
is_mangled text =
    is_accessed is_label text
    || is_after is_label (codes "[constructor]") text
    || is_after (is_accessed is_dotted) (codes "[method]") text
    || is_after (is_accessed is_dotted) (codes "[static]") text
