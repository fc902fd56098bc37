-- Rules of the lists in bodies: what a last call finds of the names in one that is not empty.
use Rattle.std.proofs.Common.{◌≡◌, ℕ, ◌==◌, false, List, [], ◌∷◌, None, length, sym, subst}
use Rattle.wit_arena.proofs.Common.{Flag, Id, ParseError, Result, Span, codes, false≢true, fault, map, option_map, slice_get}
use Rattle.wit_first.specs.First.{Finds}
use Rattle.wit_first.specs.ListFaults.{flags_fault, members_fault, names_fault}
use Rattle.wit_first.proofs.First.{finds_back}

pub members_found : {X T : Type 0} (number : ℕ) (desc : List ℕ) (name : X → Id) (span : Span) (xs : List X) (names : List Id) (r : Result T ParseError) → (length xs == 0) ≡ false → names ≡ map name xs → Finds (names_fault desc names) r → Finds (members_fault number desc name span xs) r
members_found number desc name span [] names r some are found = absurd (false≢true (sym some))
members_found number desc name span (x ∷ xs) names r some are found = subst (λ (l : List Id). Finds (names_fault desc l) r) are found

pub flags_found : {T : Type 0} (span : Span) (flags : List Flag) (names : List Id) (r : Result T ParseError) → (length flags == 0) ≡ false → option_map (λ (flag : Flag). fault 21 flag.name.span) (slice_get flags 32) ≡ None → names ≡ map (λ (x : Flag). x.name) flags → Finds (names_fault (codes "flag") names) r → Finds (flags_fault span flags) r
flags_found span [] names r some few are found = absurd (false≢true (sym some))
flags_found span (x ∷ xs) names r some few are found = finds_back _ r few (subst (λ (l : List Id). Finds (names_fault (codes "flag") l) r) are found)
