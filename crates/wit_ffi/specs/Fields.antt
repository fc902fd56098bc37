-- The fields of a refusal as a caller in C reads them.
use Rattle.std.specs.Prelude.{◌≡◌, ℕ, List, length}
use Rattle.wit_outcome.specs.declared.plain.Plain.{Plain}
use Rattle.wit_ffi.specs.Room.{laid_over}
use Rattle.wit_ffi.specs.declared.refusal.Refusal.{Refusal}

-- the plain fields, with the lengths of path and message
abbrev pub fields_of : Plain → Refusal
fields_of p = record {
  rule = p.rule;
  placed = p.placed;
  start = p.start;
  end = p.end;
  path_len = length p.path;
  message_len = length p.message;
}

-- path and words of a refusal are laid over two rooms, with its plain fields beside
abbrev pub ArePlainFields : Plain → (old_path path old_message message : List ℕ) → Refusal → Type 0
ArePlainFields p old_path path old_message message refusal = (path ≡ laid_over old_path p.path) × (message ≡ laid_over old_message p.message) × (refusal ≡ fields_of p)
