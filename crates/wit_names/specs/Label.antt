-- Labels: fragments joined by `-`, the first of which starts with a letter.
use Rattle.std.specs.Prelude.{ℕ, ◌==◌, ◌&&◌, ◌||◌, not, Bool, false, List, [], ◌∷◌, length}
use Rattle.std.specs.Char.{is_ascii_alphabetic, is_ascii_alphanumeric, is_ascii_lowercase, is_ascii_uppercase}
use Rattle.std.specs.List.{list_all, slice_split}

-- what is between the dashes
abbrev pub fragments : List ℕ → List (List ℕ)
fragments text = slice_split (λ b. b == 45) text

-- all letters have one case
abbrev pub is_of_one_case : List ℕ → Bool
is_of_one_case part = list_all (λ b. not (is_ascii_uppercase b)) part || list_all (λ b. not (is_ascii_lowercase b)) part

-- one or more letters and digits, whose letters have one case
abbrev pub is_fragment : List ℕ → Bool
is_fragment part = not (length part == 0) && list_all is_ascii_alphanumeric part && is_of_one_case part

-- the first byte is a letter
abbrev pub starts_with_letter : List ℕ → Bool
starts_with_letter [] = false
starts_with_letter (b ∷ rest) = is_ascii_alphabetic b

-- a text is a label
abbrev pub is_label : List ℕ → Bool
is_label text = starts_with_letter text && list_all is_fragment (fragments text)
