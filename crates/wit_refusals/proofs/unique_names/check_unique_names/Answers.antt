use Rattle.std.proofs.Common.{◌≡◌, ℕ, List, Some, inl, inr, ap, sym, subst, ◌∙◌, ◌<◌, length, take}
use Rattle.wit_syntax.proofs.Common.{AllDiffer, Id, IsRepeatAt, clash, err_from_is_err_and, lower_case, map, map_at, slice_get, slice_get-get_or, slice_get_within, fault_in}
use Rattle.std.specs.Borrow.{Bor}
use Rattle.wit_first.proofs.Clashes.{no_clashes, clash_first}
use Rattle.wit_refusals.proofs.Cases.{names-folded}
use Rattle.wit_refusals.proofs.unique_names.check_unique_names.Goals as goal

-- a place whose name is folded is within the names
folded_within : (names : List Id) (i : ℕ) (k : List ℕ) → slice_get (map (λ (id : Id). lower_case id.name.now) names) i ≡ Some k → i < length names
folded_within names i k at = (let x = map_at (λ (id : Id). lower_case id.name.now) names i k at in slice_get_within names i x.0 x.1)

pub bounds-names-first : goal.bounds-names-first
bounds-names-first c =
    let names = c.args.names.now in
    let keys = ap (map (λ (t : Bor (List ℕ)). lower_case t.now)) c.deref.ensures.value ∙ names-folded c.in_ok-texts.texts.items names c.in_ok-texts.ensures in
    let r : IsRepeatAt (map (λ (id : Id). lower_case id.name.now) names) c.in-Some.first c.in-Some.second = subst (λ ks. IsRepeatAt ks c.in-Some.first c.in-Some.second) keys (rw c.in-Some.is at c.in_ok-first.ensures.some) in
    folded_within names c.in-Some.first r.x r.at_first

pub bounds-names-second : goal.bounds-names-second
bounds-names-second c =
    let names = c.args.names.now in
    let keys = ap (map (λ (t : Bor (List ℕ)). lower_case t.now)) c.deref.ensures.value ∙ names-folded c.in_ok-texts.texts.items names c.in_ok-texts.ensures in
    let r : IsRepeatAt (map (λ (id : Id). lower_case id.name.now) names) c.in-Some.first c.in-Some.second = subst (λ ks. IsRepeatAt ks c.in-Some.first c.in-Some.second) keys (rw c.in-Some.is at c.in_ok-first.ensures.some) in
    folded_within names c.in-Some.second r.x r.at_second

pub returns-in-Some : goal.returns-in-Some
returns-in-Some c =
    let names = c.args.names.now in
    let first : ℕ = c.in-Some.first in
    let second : ℕ = c.in-Some.second in
    let later = c.index-names-second.result in
    let keys = ap (map (λ (t : Bor (List ℕ)). lower_case t.now)) c.deref.ensures.value ∙ names-folded c.in_ok-texts.texts.items names c.in_ok-texts.ensures in
    let r : IsRepeatAt (map (λ (id : Id). lower_case id.name.now) names) first second = subst (λ ks. IsRepeatAt ks first second) keys (rw c.in-Some.is at c.in_ok-first.ensures.some) in
    let d : AllDiffer (take second (map (λ (id : Id). lower_case id.name.now) names)) = subst (λ ks. AllDiffer (take second ks)) keys (rw c.in-Some.is at c.in_ok-first.ensures.first) in
    let x = map_at (λ (id : Id). lower_case id.name.now) names second r.x r.at_second in
    let at : slice_get names second ≡ Some later = slice_get-get_or names second later (slice_get_within names second x.0 x.1) ∙ ap Some (sym c.index-names-second.is) in
    let e = map_at (λ (id : Id). lower_case id.name.now) names first r.x r.at_first in
    let earlier = c.index-names-first.result in
    let before : slice_get names first ≡ Some earlier = slice_get-get_or names first earlier (slice_get_within names first e.0 e.1) ∙ ap Some (sym c.index-names-first.is) in
    elim (c.refuse_in.ensures (clash c.args.desc.now earlier.name.now later.name.now) c.clash-words.ensures) [
      | inl memory ↦ inl memory
      | inr says ↦ inr (clash_first (λ (id : Id). lower_case id.name.now) (λ (earlier : Id) (later : Id). fault_in 25 later.span (clash c.args.desc.now earlier.name.now later.name.now)) names first second earlier later r d before at ∙ ap Some (sym says))
    ]

pub returns : goal.returns
returns c =
    let names = c.args.names.now in
    let keys = ap (map (λ (t : Bor (List ℕ)). lower_case t.now)) c.deref.ensures.value ∙ names-folded c.in_ok-texts.texts.items names c.in_ok-texts.ensures in
    no_clashes (λ (id : Id). lower_case id.name.now) (λ (earlier : Id) (later : Id). fault_in 25 later.span (clash c.args.desc.now earlier.name.now later.name.now)) names (subst AllDiffer keys (rw c.in-None.is at c.in_ok-first.ensures.none))

pub returns-in_err-texts : goal.returns-in_err-texts
returns-in_err-texts c = (let p = err_from_is_err_and c.from_residual.result c.from_residual.ensures.1 in rw p.1 (inl p.2))

pub returns-in_err-first : goal.returns-in_err-first
returns-in_err-first c = (let p = err_from_is_err_and c.from_residual-in_err-first.result c.from_residual-in_err-first.ensures.1 in rw p.1 (inl p.2))
