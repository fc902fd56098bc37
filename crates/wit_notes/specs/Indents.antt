-- The indent of a text that is not empty.
use Rattle.std.specs.Prelude.{ℕ, List, Option, Some, None, if◌then◌else◌}
use Rattle.wit_notes.specs.Texts.{indent, is_written}

abbrev pub written_indent : List ℕ → Option ℕ
written_indent text = if is_written text then Some (indent text) else None
