use Rattle.std.proofs.Common.{◌≤◌, Option, length, rules, ap}
use Rattle.std.specs.Option.{option_copied}
use Rattle.wit_types.proofs.Moving.{some_at}
use Rattle.wit_functions.specs.declared.function.Function.{Function}
use Rattle.wit_functions.proofs.Reordered.{stated_all, stated_more}
use Rattle.wit_functions.proofs.setters.stated_places.Goals as goal

pub loop-place-preserved : goal.loop-place-preserved
loop-place-preserved g c = λ function_at h.
    let es = g.M.FunctionMap.entries c.args.map.now in
    let place = c.loop-place.place in
    let e = some_at es place (search rules) in
    stated_more (λ e. function_at e.1) (λ t. (t.0, option_copied t.1)) es place e.0 c.loop-place.places.items c.push.new.self.items _ e.1 (ap (λ (o : Option Function). (place, o)) (c.stated_at.ensures function_at h e.0 e.1)) c.in_ok-push.ensures.items (c.loop-place.invariant function_at h)

pub returns : goal.returns
returns g c = λ function_at h.
    let end : length (g.M.FunctionMap.entries c.args.map.now) ≤ c.loop-place.place = search rules in
    stated_all (λ e. function_at e.1) (g.M.FunctionMap.entries c.args.map.now) c.loop-place.place _ end (c.loop-place.invariant function_at h)
