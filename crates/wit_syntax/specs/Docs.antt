-- The text of docs: the comments without their marks, without the blanks that they have in common, line by line.
use Rattle.std.specs.Prelude.{ℕ, ◌==◌, ◌-◌, ◌&&◌, not, List, [], ◌∷◌, ◌++◌, Option, Some, None, codes, take, drop, replicate, filter, length, map, min, nat_eq, unwrap_or, if◌then◌else◌}
use Rattle.std.specs.Char.{is_ascii_whitespace}
use Rattle.std.specs.Option.{option_map_or}
use Rattle.std.specs.Cmp.Lexicographic.{pointwise}
use Rattle.std.specs.List.{ends_with, flat_map, prefix_len, reduce}
use Rattle.std.specs.Str.{trim_end}
use Rattle.std.specs.Str.Lines.{lines}
use Rattle.wit_names.specs.Prefix.{rest_after}

-- the text without the end, where it has that end
abbrev pub without_end : List ℕ → List ℕ → List ℕ
without_end end text = if ends_with nat_eq text end then take (length text - length end) text else text

-- a comment without its marks: after a prefix `/**` the text without a `*/` at its end, without that prefix after all slashes; `/**/` is
-- empty
abbrev pub unmarked : List ℕ → List ℕ
unmarked text = if pointwise nat_eq text (codes "/**/") then [] else option_map_or (without_end (codes "*/")) (rest_after (codes "/**") text) (drop (prefix_len (λ b. b == 47) text) text)

-- the fewest bytes of ASCII white space that a text begins with, of those that are not empty; 0 where all are
abbrev pub common_indent : List (List ℕ) → ℕ
common_indent texts = unwrap_or (reduce min (map (prefix_len is_ascii_whitespace) (filter (λ text. not (length text == 0)) texts))) 0

-- the text without n spaces in front, where it begins with them
abbrev pub without_spaces : ℕ → List ℕ → List ℕ
without_spaces n text = unwrap_or (rest_after (replicate n 32) text) text

-- the lines of a text, each with an LF, where a CR before an LF belongs to the end of the line; an empty text is one empty line
abbrev pub ended_lines : List ℕ → List ℕ
ended_lines text = flat_map (λ (line : List ℕ). line ++ 10 ∷ []) (if length text == 0 then [] ∷ [] else lines text)

-- the text without the LFs at its end
abbrev pub without_last_lines : List ℕ → List ℕ
without_last_lines [] = []
without_last_lines (b ∷ text) = if b == 10 && length (without_last_lines text) == 0 then [] else b ∷ without_last_lines text

-- texts, joined
abbrev pub joined : List (List ℕ) → List ℕ
joined texts = without_last_lines (flat_map (λ text. ended_lines (without_spaces (common_indent texts) text)) texts)

-- the text of comments, each without its marks and the white space at its end; none of no comment
abbrev pub docs_text : List (List ℕ) → Option (List ℕ)
docs_text comments = if length comments == 0 then None else Some (joined (map (λ comment. trim_end (unmarked comment)) comments))
