use Rattle.std.proofs.Common.{refl}
use Rattle.std.proofs.lemmas.Option.{slice_get_read}
use Rattle.std.specs.Map.{keys_of}
use Rattle.wit_maps.proofs.Indexed.{slice_get-keys_of, stated_at}
use Rattle.wit_maps.proofs.slots.is_at.Goals as goal

pub returns-in-Some : goal.returns-in-Some
returns-in-Some g c =
    let es = c.args.entries.now in
    let e = c.in-Some.entry.now in
    let looked = c.in-Some.ensures.lookup in
    stated_at (g.Q.Equivalent.equivalent c.args.key) (keys_of es) c.args.place e.0 (slice_get-keys_of es c.args.place e (slice_get_read es _ c.args.place e refl looked.3.0 looked.1)) c.equivalent.result c.equivalent.ensures
