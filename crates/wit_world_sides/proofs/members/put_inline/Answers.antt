use Rattle.std.proofs.Common.{refl, ap, subst, inl, Option, sym, true}
use Rattle.wit_arena.proofs.Common.{Fault, SideInline, WorldItem, err_from_is_err_and, on_ok_weaker}
use Rattle.wit_model.specs.declared.world.WorldKey.TheVariants as key
use Rattle.wit_world_sides.specs.Members.{Puts, item_word}
use Rattle.wit_walk.proofs.Common.{Finds}
use Rattle.wit_signatures.specs.FunctionsOfScope.{name_of_id}
use Rattle.wit_world_sides.proofs.PutFaults.{clash_one}
use Rattle.wit_world_sides.proofs.members.put_inline.Goals as goal

pub put_named-requires : goal.put_named-requires
put_named-requires c = ap item_word c.in_ok-item.ensures

pub returns-clause-puts : goal.returns-clause-puts
returns-clause-puts c =
    let w = c.args.written.now in
    let own = c.args.name in
    on_ok_weaker c.put_named.result (λ done items keyed. subst (λ (i : WorldItem). Puts c.args.members.now c.put_named.new.members (SideInline w own items) (key.Name own.name.now, i)) c.in_ok-item.ensures (done (SideInline w own items) (refl, refl, refl) keyed)) c.put_named.ensures.puts

pub returns-in_err-item-clause-first : goal.returns-in_err-item-clause-first
returns-in_err-item-clause-first c =
    let p = err_from_is_err_and c.from_residual.result c.from_residual.ensures.1 in
    rw p.1 (λ items. inl p.2)

pub returns-clause-first : goal.returns-clause-first
returns-clause-first c = λ items.
    let w = c.args.written.now in
    let own = c.args.name in
    subst (λ (o : Option Fault). Finds o c.put_named.result) (sym (clash_one c.args.members.now.in_use c.args.members.now.sides (SideInline w own items) w.side true (name_of_id own) refl refl refl)) c.put_named.ensures.first
