use Rattle.std.proofs.Common.{◌≡◌, ℕ, ◌+◌, ◌≤◌, List, length, ◌++◌, ◌∷◌, [], Option, Some, take, refl, sym, ap, ◌∙◌, subst}
use Rattle.wit_arena.proofs.Common.{Fault, PackageFile, all_items, err_from_is_err_and, file_items, slice_get, slice_get_read, take_all, take_next}
use Rattle.wit_first.specs.First.{first_in}
use Rattle.wit_first.specs.UseFaults.{item_uses_fault}
use Rattle.wit_first.proofs.First.{in-flat, in-following, reports-in, reports_same}
use Rattle.wit_top_names.proofs.Lost.{flat_more}
use Rattle.wit_items.proofs.PlacedNames.{items_none}
use Rattle.wit_items.proofs.items.declared_items.Goals as goal

-- of the uses of the items of a file
abbrev wrong : List PackageFile → PackageFile → Option Fault
wrong files file = first_in (item_uses_fault files) (file_items file)

pub loop-place-init : goal.loop-place-init
loop-place-init c = rw c.in_ok-items.ensures.items (record {
  items = refl;
  each = items_none c.args.names.now;
  none = refl;
})

pub add_items-requires : goal.add_items-requires
add_items-requires c =
    record { file = rw c.requires.files (slice_get_read c.args.files.now _ c.loop-place.place c.index-files-place.result refl c.loop-place-test.true c.index-files-place.is) }

pub loop-place-preserved : goal.loop-place-preserved
loop-place-preserved c =
    let files = c.args.names.now in
    let i = c.loop-place.place in
    let file = c.index-files-place.result in
    let at : slice_get files i ≡ Some file = rw c.requires.files (slice_get_read c.args.files.now _ i file refl c.loop-place-test.true c.index-files-place.is) in
    let before = all_items (take i files) in
    let own = file_items file in
    let was = c.loop-place.invariant in
    let e = c.in_ok-add_items.ensures in
    let more : take (i + 1) files ≡ take i files ++ file ∷ [] = take_next files i file at in
    let extended : all_items (take (i + 1) files) ≡ before ++ own = flat_more file_items (take i files) (take (i + 1) files) file more in
    record {
      items = e.items ∙ ap (λ l. l ++ own) was.items ∙ sym extended;
      each = e.each was.each;
      none = in-following (wrong files) files i file at was.none e.first;
    }

pub returns-in_err-add_items-clause-first : goal.returns-in_err-add_items-clause-first
returns-in_err-add_items-clause-first c =
    let p = err_from_is_err_and c.from_residual-in_err-add_items.result c.from_residual-in_err-add_items.ensures.1 in
    let files = c.args.names.now in
    let file = c.index-files-place.result in
    let at : slice_get files c.loop-place.place ≡ Some file = rw c.requires.files (slice_get_read c.args.files.now _ c.loop-place.place file refl c.loop-place-test.true c.index-files-place.is) in
    rw (p.1, p.2) (reports_same (sym (in-flat (item_uses_fault files) file_items files)) (reports-in (wrong files) files c.loop-place.place file _ at c.loop-place.invariant.none c.in_err-add_items.ensures.first))

-- the files up to the place at which the loop ends
all_used : (files lent : List PackageFile) (place : ℕ) → lent ≡ files → length lent ≤ place → take place files ≡ files
all_used files lent place same past = take_all place files (subst (λ (l : List PackageFile). length l ≤ place) same past)

pub returns-clause-items : goal.returns-clause-items
returns-clause-items c = c.loop-place.invariant.items ∙ ap all_items (all_used c.args.names.now c.args.files.now c.loop-place.place (sym c.requires.files) c.loop-place-test.false)

pub returns-clause-first : goal.returns-clause-first
returns-clause-first c =
    let files = c.args.names.now in
    in-flat (item_uses_fault files) file_items files ∙ ap (first_in (wrong files)) (sym (all_used files c.args.files.now c.loop-place.place (sym c.requires.files) c.loop-place-test.false)) ∙ c.loop-place.invariant.none
