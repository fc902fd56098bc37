use Rattle.std.proofs.Common.{◌≡◌, ◌<◌, ℕ, false, Some, length, arith, refl, subst, sym}
use Rattle.std.specs.BTreeMap.{get}
use Rattle.std.proofs.lemmas.Option.{slice_get_read}
use Rattle.std.specs.Map.{keys_of}
use Rattle.wit_maps.specs.Indexed.{IsKnown}
use Rattle.wit_maps.proofs.Indexed.{known_next, slice_get-keys_of}
use Rattle.wit_maps.proofs.index.index_of.Goals as goal

pub loop-place-preserved : goal.loop-place-preserved
loop-place-preserved g c =
    let es = c.args.entries.now in
    let place = c.loop-place.place in
    let e = c.index-entries-place.result in
    let within : place < length es = omega (arith, c.loop-place-test.true, c.loop-place.auto.place-end) in
    let here = slice_get-keys_of es place e (slice_get_read es _ place e refl within c.index-entries-place.is) in
    let others : (k : g.row.K.Denot) (j : ℕ) → g.K.PartialEq.eq e.0 k ≡ false → get g.K.Ord.cmp c.loop-place.keys k ≡ Some j → get g.K.Ord.cmp c.note.new.keys k ≡ Some j = subst (λ x. (k : g.row.K.Denot) (j : ℕ) → g.K.PartialEq.eq x.0 k ≡ false → get g.K.Ord.cmp c.loop-place.keys k ≡ Some j → get g.K.Ord.cmp c.note.new.keys k ≡ Some j) (sym c.index-entries-place.is) c.note.ensures.keys in
    let noted : IsKnown g.K.Ord.cmp g.K.Hash.hash_input c.note.new.slots.items c.note.new.keys e.0 place = subst (λ x. IsKnown g.K.Ord.cmp g.K.Hash.hash_input c.note.new.slots.items c.note.new.keys x.0 place) (sym c.index-entries-place.is) c.in_ok-note.ensures.noted in
    known_next g.K.PartialEq.eq g.K.Ord.cmp g.K.Hash.hash_input g.met.K.Eq.laws.symm c.loop-place.slots.items c.note.new.slots.items c.loop-place.keys c.note.new.keys (keys_of es) e.0 place
    c.requires here c.note.ensures.len c.note.ensures.filled others noted c.loop-place.invariant
