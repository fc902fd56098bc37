-- Setters, and the getter that goes with each.
use Rattle.std.specs.Prelude.{ℕ, ◌||◌, Bool, List, ◌++◌, codes}
use Rattle.std.specs.Option.{option_map_or}
use Rattle.wit_names.specs.Prefix.{rest_after, is_after}
use Rattle.wit_names.specs.Label.{is_label}
use Rattle.wit_names.specs.Mangled.{is_dotted}

-- a setter's name: `[set]f`, `[method][set]r.f` or `[static][set]r.f`
abbrev pub is_setter : List ℕ → Bool
is_setter name =
    is_after is_label (codes "[set]") name
    || is_after is_dotted (codes "[method][set]") name
    || is_after is_dotted (codes "[static][set]") name

-- the getter's name: `[set]` becomes `[get]`, and all else stays
abbrev pub getter_of : List ℕ → List ℕ
getter_of name =
    option_map_or (λ rest. codes "[method][get]" ++ rest) (rest_after (codes "[method][set]") name)
    (option_map_or (λ rest. codes "[static][get]" ++ rest) (rest_after (codes "[static][set]") name)
    (option_map_or (λ rest. codes "[get]" ++ rest) (rest_after (codes "[set]") name) name))
