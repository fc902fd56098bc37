use Rattle.std.proofs.Common.{refl, ap, Option, subst, sym}
use Rattle.wit_arena.proofs.Common.{Fault, SideLink, on_ok_weaker}
use Rattle.wit_world_sides.specs.Members.{item_word, path_link}
use Rattle.wit_world_sides.proofs.Putting.{names_under, put_under, sorted_under}
use Rattle.wit_walk.proofs.Common.{Finds}
use Rattle.wit_world_sides.proofs.PutFaults.{put_link_named}
use Rattle.wit_world_sides.proofs.members.put_link.Goals as goal

pub put_named-requires : goal.put_named-requires
put_named-requires c = ap item_word c.in_ok-item.ensures

pub returns-in-Some-clause-puts : goal.returns-in-Some-clause-puts
returns-in-Some-clause-puts c =
    let link = path_link c.args.link in
    let own = c.in-Some.name in
    on_ok_weaker c.put_named.result (λ done keyed. put_under c.args.members.now c.put_named.new.members link own c.args.id c.in_ok-item.item c.in-Some.is c.in_ok-item.ensures (done (SideLink link) (refl, names_under link own c.in-Some.is, sorted_under link own c.in-Some.is) keyed)) c.put_named.ensures.puts

pub returns-in-Some-clause-first : goal.returns-in-Some-clause-first
returns-in-Some-clause-first c = subst (λ (o : Option Fault). Finds o c.put_named.result) (sym (put_link_named c.args.members.now (path_link c.args.link) c.args.id c.in-Some.name c.in-Some.is)) c.put_named.ensures.first
