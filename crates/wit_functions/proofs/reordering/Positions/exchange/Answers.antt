use Rattle.std.proofs.Common.{refl, sym, arith}
use Rattle.std.proofs.lemmas.List.Edits.{length-swap}
use Rattle.std.proofs.lemmas.Option.{slice_get_read}
use Rattle.wit_functions.proofs.Swaps.{from_within, other_within, still_present}
use Rattle.wit_functions.proofs.reordering.Positions.exchange.Goals as goal

pub swap-requires-clause-j_in_bounds : goal.swap-requires-clause-j_in_bounds
swap-requires-clause-j_in_bounds c =
    let from = slice_get_read _ _ _ _ (sym c.requires.inverse.all_places) c.requires.entry_within c.index-from.ensures in
    let other = slice_get_read _ _ _ _ refl c.requires.place_within c.index-other.ensures in
    let lt = from_within _ _ _ c.requires.inverse _ _ _ _ from other in
    omega (arith, lt, c.requires.inverse.all_entries)

pub swap-requires-2-clause-j_in_bounds : goal.swap-requires-2-clause-j_in_bounds
swap-requires-2-clause-j_in_bounds c =
    let from = slice_get_read _ _ _ _ (sym c.requires.inverse.all_places) c.requires.entry_within c.index-from.ensures in
    let other = slice_get_read _ _ _ _ refl c.requires.place_within c.index-other.ensures in
    let lt = other_within _ _ _ c.requires.inverse _ _ _ _ from other in
    omega (arith, lt, c.requires.inverse.all_places)

pub returns-clause-inverse : goal.returns-clause-inverse
returns-clause-inverse c =
    let from = slice_get_read _ _ _ _ (sym c.requires.inverse.all_places) c.requires.entry_within c.index-from.ensures in
    let other = slice_get_read _ _ _ _ refl c.requires.place_within c.index-other.ensures in
    let entries = c.args.self.now.entries.items in
    let long = length-swap entries c.args.place c.index-from.result.now in
    rw (c.swap.ensures.items, long, c.swap-2.ensures.items) (still_present _ _ _ c.requires.inverse _ _ _ _ from other)

pub returns-clause-exchanged : goal.returns-clause-exchanged
returns-clause-exchanged c =
    let from = slice_get_read _ _ _ _ (sym c.requires.inverse.all_places) c.requires.entry_within c.index-from.ensures in
    let other = slice_get_read _ _ _ _ refl c.requires.place_within c.index-other.ensures in
    record {
      place_within = c.requires.place_within;
      from_within = from_within _ _ _ c.requires.inverse _ _ _ _ from other;
      was_there = c.requires.inverse.kept _ _ from;
      exchanged = c.swap.ensures.items;
    }
