use Rattle.std.proofs.Common.{◌≡◌, ℕ, List, Some, inl, inr, map, take, ap, sym, ◌∙◌, subst}
use Rattle.std.specs.Borrow.{Bor}
use Rattle.wit_arena.proofs.Common.{AllDiffer, Id, IsRepeatAt, codes, defined_twice, map_at, map_map, name_twice, slice_get, slice_get-get_or, slice_get_within}
use Rattle.wit_first.proofs.First.{no_repeats, repeat_first}
use Rattle.wit_scopes.proofs.Placed.{few_differ}
use Rattle.wit_scopes.proofs.distinct.check_unique_names.Goals as goal

abbrev text : Id → List ℕ
text id = id.name.now

-- the texts that are lent are the names
names_of : (lent texts : List (Bor (List ℕ))) (ids : List Id) → lent ≡ texts → texts ≡ map (λ id. id.name) ids → map (λ t. t.now) lent ≡ map text ids
names_of lent texts ids same are = ap (map (λ t. t.now)) (same ∙ are) ∙ map_map (λ t. t.now) (λ (id : Id). id.name) ids

pub bounds-ids-second : goal.bounds-ids-second
bounds-ids-second c =
    let r : IsRepeatAt (map text c.args.ids.now) c.in-Some.field-0-0 c.in-Some.second = subst (λ ks. IsRepeatAt ks c.in-Some.field-0-0 c.in-Some.second) (names_of _ _ c.args.ids.now c.deref.ensures.value c.in_ok-texts.ensures) (rw c.in-Some.is at c.in_ok-second.ensures.some) in
    let x = map_at text c.args.ids.now c.in-Some.second r.x r.at_second in
    slice_get_within c.args.ids.now c.in-Some.second x.0 x.1

pub returns-in-Some : goal.returns-in-Some
returns-in-Some c =
    let ids = c.args.ids.now in
    let first : ℕ = c.in-Some.field-0-0 in
    let second : ℕ = c.in-Some.second in
    let later = c.index-ids-second.result in
    let keyed = names_of _ _ ids c.deref.ensures.value c.in_ok-texts.ensures in
    let r : IsRepeatAt (map text ids) first second = subst (λ ks. IsRepeatAt ks first second) keyed (rw c.in-Some.is at c.in_ok-second.ensures.some) in
    let d : AllDiffer (take second (map text ids)) = subst (λ ks. AllDiffer (take second ks)) keyed (rw c.in-Some.is at c.in_ok-second.ensures.first) in
    let x = map_at text ids second r.x r.at_second in
    let at : slice_get ids second ≡ Some later = slice_get-get_or ids second later (slice_get_within ids second x.0 x.1) ∙ ap Some (sym c.index-ids-second.is) in
    elim (c.refuse_in.ensures (defined_twice (codes "name") later.name.now) c.defined_twice.ensures) [
      | inl memory ↦ inl memory
      | inr says ↦ inr (repeat_first text name_twice ids first second later r d at ∙ ap Some (sym says))
    ]

pub returns : goal.returns
returns c = no_repeats text name_twice c.args.ids.now (subst AllDiffer (names_of _ _ c.args.ids.now c.deref.ensures.value c.in_ok-texts.ensures) (rw c.in-None.is at c.in_ok-second.ensures.none))

pub returns-then-ids-lt2 : goal.returns-then-ids-lt2
returns-then-ids-lt2 c = no_repeats text name_twice c.args.ids.now (few_differ text c.args.ids.now c.if-ids-lt2.true)
