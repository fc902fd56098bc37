-- The words of refusals.
use Rattle.std.specs.Prelude.{ℕ, ◌==◌, List, [], ◌∷◌, ◌++◌, codes, cond, find}
use Rattle.std.specs.Option.{option_map_or}
use Rattle.std.specs.Str.{bytes_eq}
use Rattle.wit_package_names.specs.PackageName.{name_text}
use Rattle.wit_package_names.specs.declared.package_name.PackageName.{PackageName}
use Rattle.wit_tree.specs.declared.tree.WorldSide.{WorldSide}
use Rattle.wit_tree.specs.declared.tree.WorldSide.TheVariants.{Imported, Exported}

-- a name of something is an earlier one
abbrev pub defined_twice : List ℕ → List ℕ → List ℕ
defined_twice desc name = desc ++ (codes " `" ++ (name ++ codes "` is defined more than once"))

-- a name of something is an earlier one once case is folded
abbrev pub clash : List ℕ → List ℕ → List ℕ → List ℕ
clash desc earlier later = cond (bytes_eq earlier later)
    (codes "duplicate " ++ (desc ++ (codes " `" ++ (earlier ++ codes "`"))))
    (desc ++ (codes " `" ++ (later ++ (codes "` conflicts with previous " ++ (desc ++ (codes " `" ++ (earlier ++ codes "`")))))))

-- the word that means a side
abbrev pub side_word : WorldSide → List ℕ
side_word Imported = codes "import"
side_word Exported = codes "export"

-- a header names another package than the one before it
abbrev pub mismatch : PackageName → PackageName → List ℕ
mismatch current previous = codes "package identifier `" ++ (name_text current ++ (codes "` does not match previous package name of `" ++ (name_text previous ++ codes "`")))

-- two packages of a group have one name
abbrev pub package_words : PackageName → List ℕ
package_words name = codes "package `" ++ (name_text name ++ codes "` is defined more than once in this group")

-- the words of rules of packages that are always the same
abbrev pub constant_words : List (ℕ × List ℕ)
constant_words =
    (2, codes "found doc comments on multiple 'package' items")
    ∷ (3, codes "nested packages must be placed at the top-level")
    ∷ (4, codes "no `package` header was found in any WIT file for this package")
    ∷ (9, codes "attributes not allowed on top-level use")
    ∷ (19, codes "empty record")
    ∷ (20, codes "empty flags")
    ∷ (21, codes "cannot have more than 32 flags")
    ∷ (22, codes "empty tuple")
    ∷ (23, codes "empty variant")
    ∷ (24, codes "empty enum")
    ∷ (26, codes "invalid map key type: map keys must be bool, u8, u16, u32, u64, s8, s16, s32, s64, char, or string")
    ∷ (30, codes "cannot specify @since twice")
    ∷ (31, codes "cannot specify @deprecated twice")
    ∷ (32, codes "cannot specify @unstable twice")
    ∷ (33, codes "cannot specify both @since and @unstable")
    ∷ (34, codes "cannot specify both @deprecated without @since or @unstable")
    ∷ (35, codes "cannot specify @external-id twice")
    ∷ (36, codes "getters cannot have parameters")
    ∷ (37, codes "setters must have exactly one parameter")
    ∷ (39, codes "getters must return a value")
    ∷ (40, codes "if a setter return type is declared it must be a `result` with no `ok` type")
    ∷ (41, codes "if a constructor return type is declared it must be a `result`")
    ∷ (42, codes "the `ok` type must be the resource being constructed")
    ∷ []

-- those of the rule of a number
abbrev pub words_of : ℕ → List ℕ
words_of number = option_map_or (λ (w : ℕ × List ℕ). w.1) (find (λ (w : ℕ × List ℕ). number == w.0) constant_words) []
