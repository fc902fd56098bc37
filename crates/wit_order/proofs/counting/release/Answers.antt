use Rattle.wit_order.proofs.Released.{released_none, released_more, user_within, user_some, user_fresh, user_room}
use Rattle.wit_order.proofs.counting.release.Goals as goal

pub loop-user-init : goal.loop-user-init
loop-user-init c = released_none c.args.users.now c.args.ready.now c.requires

pub close-requires-clause-within : goal.close-requires-clause-within
close-requires-clause-within c = user_within c.args.users.now c.loop-user.user-index c.args.ready.now c.loop-user.ready c.loop-user-test.true c.requires c.loop-user.invariant

pub close-requires-clause-some : goal.close-requires-clause-some
close-requires-clause-some c = user_some c.args.users.now c.loop-user.user-index c.args.ready.now c.loop-user.ready c.loop-user-test.true c.requires c.loop-user.invariant

pub close-requires-clause-fresh : goal.close-requires-clause-fresh
close-requires-clause-fresh c = user_fresh c.args.users.now c.loop-user.user-index c.args.ready.now c.loop-user.ready c.loop-user-test.true c.requires c.loop-user.invariant

pub close-requires-clause-room : goal.close-requires-clause-room
close-requires-clause-room c = user_room c.args.users.now c.loop-user.user-index c.args.ready.now c.loop-user.ready c.loop-user-test.true c.requires c.loop-user.invariant

pub loop-user-preserved : goal.loop-user-preserved
loop-user-preserved c = released_more c.args.users.now c.loop-user.user-index c.args.ready.now c.loop-user.ready c.loop-user-test.true c.requires c.loop-user.invariant
    c.close.new.self c.in_ok-close.ensures.counts c.in_ok-close.ensures.places c.in_ok-close.ensures.entered c.in_ok-close.ensures.closed
