-- A text in which a search finds no line that starts a source.
use Rattle.std.proofs.Common.{◌≡◌, ℕ, ◌+◌, ◌-◌, ◌<◌, ◌≤◌, true, List, ◌++◌, Option, Some, None, length, drop, sym, ap, ◌∙◌, arith, is_none, length-drop, length-append, get_or-drop, slice_index}
use Rattle.std.proofs.lemmas.List.{get_or_append_left}
use Rattle.std.specs.Str.Pattern.{LacksTextAt}
use Rattle.memchr.specs.Find.{FindsNeedle, OccursAt}

-- where a text goes on with a needle, that occurs
occurs : (needle text rest : List ℕ) (i : ℕ) → 0 < length needle → drop i text ≡ needle ++ rest → OccursAt text needle i
occurs needle text rest i some e =
    let lengths : length text - i ≡ length needle + length rest = sym (length-drop i text) ∙ (ap length e ∙ length-append needle rest) in
    record {
      fits = omega (arith, lengths);
      reads = λ j lt. sym (get_or-drop i text j 0) ∙ (ap (λ t. slice_index t j) e ∙ get_or_append_left needle rest 0 j lt);
    }

pub found_nowhere : (needle text : List ℕ) (r : Option ℕ) → 0 < length needle → FindsNeedle text needle 0 r → is_none r ≡ true → (i : ℕ) → i ≤ length text → LacksTextAt needle text i
found_nowhere needle text None some none is i within = λ rest e. none i (omega arith) (omega arith) (occurs needle text rest i some e)
found_nowhere needle text (Some k) some found is i within = absurd (let f : ⊥ = cc in f)
