use Rattle.std.proofs.Common.{◌≡◌, ℕ, List, drop, true, false, Option, Some, None, MatchOption, ap, ◌∙◌, refl}
use Rattle.std.specs.Option.{option_copied}
use Rattle.std.specs.Str.{IsCharBoundary}
use Rattle.std.specs.Str.Pattern.{FindsTextPrefix, StripsPrefix}
use Rattle.std.proofs.lemmas.Str.Pattern.{starts_text}
use denote.Ref.{Bor}
use Rattle.wit_names.specs.Prefix.{rest_after}
use Rattle.wit_names.proofs.prefix.rest_after.Goals as goal

rest_after-stripped : (n s : List ℕ) (r : Option (Bor (List ℕ))) → MatchOption r (FindsTextPrefix n s None) (λ x. StripsPrefix (FindsTextPrefix n) s x.now) → option_copied r ≡ rest_after n s
rest_after-stripped n s None h = let e = starts_text false n s h in rw (← e) refl
rest_after-stripped n s (Some x) h =
    let boundary : IsCharBoundary s h.0 = rw h.1.0 h.1.2 in
    let e = starts_text true n s (h.0, h.1, boundary) in
    rw (← e) (ap (λ (t : List ℕ). Some t) (h.2 ∙ ap (λ (k : ℕ). drop k s) h.1.0))

pub returns : goal.returns
returns c = rest_after-stripped _ _ _ c.strip_prefix.ensures.cases
