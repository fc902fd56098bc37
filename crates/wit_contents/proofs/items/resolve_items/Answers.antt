use Rattle.std.proofs.Common.{◌≡◌, List, ℕ, Bool, true, false, not, None, Some, inl, inr, ap, sym, ◌∙◌, subst}
use Rattle.wit_contents.proofs.Names.{about, all_items, contents_fault, declared_view, err_from_is_err_and, first_in, is_world, item_view, kept_past, take_all}
use Rattle.wit_items.specs.declared.items.Declared.{Declared as BorrowedDeclared}
use Rattle.wit_contents.proofs.FileFaults.{interfaces_reported, none_after, worlds_reported}
use Rattle.wit_contents.proofs.ResolvedItems.{HasOnlyInterfaces, HasWorlds, arenas_made, interface_resolved, interfaces_in, item_at, no_world_resolved, none_resolved, world_resolved, worlds_in}
use Rattle.wit_contents.proofs.RightInterfaces.{right_next}
use Rattle.wit_contents.proofs.RightWorlds.{right_next_world}
use Rattle.wit_contents.proofs.WorldFaults.{among_kept, item_called}
use Rattle.wit_contents.proofs.items.resolve_items.Goals.{in-Interface+in_ok-resolve_interface-in-Interface, in-World, in-World-declared+in_ok-resolve_world-in-World-declared, in-Interface-declared}
use Rattle.wit_contents.proofs.items.resolve_items.Goals as goal

abbrev declares_world : BorrowedDeclared → Bool
declares_world d = (about (declared_view d)).is_world

-- the interfaces
pub loop-place-init : goal.loop-place-init
loop-place-init c = record { resolved = none_resolved c.args.making.now c.requires.begun c.args.items.now c.args.places.now c.requires.ready }

pub resolve_interface-requires : goal.resolve_interface-requires
resolve_interface-requires c =
    let x = item_at c.args.making.now c.requires.begun c.args.items.now c.args.places.now c.requires.ready c.loop-place.place-index c.index-items-place.result c.loop-place-test.true c.index-items-place.is in
    record {
      sort = ap declares_world c.in-Interface.is;
      item = rw c.loop-place.invariant.resolved.interfaces.same x.own;
    }

pub loop-place-preserved : goal.loop-place-preserved
loop-place-preserved c =
    let start = c.args.making.now in
    let files = start.resolved.interfaces.files in
    let items = c.args.items.now in
    let places = c.args.places.now in
    let r = c.requires.ready in
    let count = c.loop-place.place-index in
    let i = c.index-items-place.result in
    let was = c.loop-place.invariant.resolved in
    let x = item_at start c.requires.begun items places r count i c.loop-place-test.true c.index-items-place.is in
    elim c.match-item.branch [
      | in-Interface+in_ok-resolve_interface-in-Interface b ↦ (
          let sort : is_world (item_view i) ≡ false = ap declares_world b.in-Interface.is in
          let e = b.in_ok-resolve_interface-in-Interface.ensures in
          rw b.making-is (record { resolved = interface_resolved start c.requires.begun items places r count i x c.loop-place.making b.resolve_interface.new.making sort was e.adds (λ known right. e.first (contents_fault files known) (right_next start c.requires.begun items places r count i x sort c.loop-place.making was.interfaces known right)) }))
      | in-World b ↦ (
          let other : not (is_world (item_view i)) ≡ false = elim b.in-World.is [
            | inl world ↦ ap (λ (d : BorrowedDeclared). not (declares_world d)) world.1
            | inr inline ↦ absurd (let wrong : None ≡ Some (about (item_view i).declared).id.name.now = ap (λ (d : BorrowedDeclared). (about (declared_view d)).called) (sym inline.1) ∙ item_called files i x.own in let f : ⊥ = cc in f)
          ] in
          let past = kept_past (λ v. not (is_world v)) (all_items files) places count x.place (item_view i) x.next x.at other in
          rw b.making-is (record { resolved = rw past was }))
    ]

pub returns-in_err-resolve_interface-in-Interface-clause-first : goal.returns-in_err-resolve_interface-in-Interface-clause-first
returns-in_err-resolve_interface-in-Interface-clause-first c =
    let q = err_from_is_err_and c.from_residual.result c.from_residual.ensures.1 in
    let start = c.args.making.now in
    let files = start.resolved.interfaces.files in
    let items = c.args.items.now in
    let places = c.args.places.now in
    let r = c.requires.ready in
    let count = c.loop-place.place-index in
    let i = c.index-items-place.result in
    let was = c.loop-place.invariant.resolved in
    let x = item_at start c.requires.begun items places r count i c.loop-place-test.true c.index-items-place.is in
    let sort : is_world (item_view i) ≡ false = ap declares_world c.in-Interface.is in
    rw (q.1, q.2) (λ known right. interfaces_reported files known right places r.order _ r.uses (among_kept (λ v. not (is_world v)) (contents_fault files known) (all_items files) places count x.place (item_view i) _ x.next x.at (ap not sort) (was.interfaces.first known right)
    (c.in_err-resolve_interface-in-Interface.ensures.first (contents_fault files known) (right_next start c.requires.begun items places r count i x sort c.loop-place.making was.interfaces known right))))

-- the worlds
pub loop-next-init : goal.loop-next-init
loop-next-init c =
    let start = c.args.making.now in
    let places = c.args.places.now in
    let files = start.resolved.interfaces.files in
    record { resolved = no_world_resolved start c.requires.begun c.args.items.now places c.requires.ready c.loop-place.making (subst (λ (l : List ℕ). HasOnlyInterfaces files places start (interfaces_in files l) c.loop-place.making) (take_all c.loop-place.place-index places c.loop-place-test.false) c.loop-place.invariant.resolved) }

pub resolve_world-requires : goal.resolve_world-requires
resolve_world-requires c =
    let x = item_at c.args.making.now c.requires.begun c.args.items.now c.args.places.now c.requires.ready c.loop-next.next-index c.index-items-next.result c.loop-next-test.true c.index-items-next.is in
    record {
      sort = ap declares_world c.in-World-declared.is;
      item = rw c.loop-next.invariant.resolved.interfaces.same x.own;
    }

pub loop-next-preserved : goal.loop-next-preserved
loop-next-preserved c =
    let start = c.args.making.now in
    let files = start.resolved.interfaces.files in
    let items = c.args.items.now in
    let places = c.args.places.now in
    let r = c.requires.ready in
    let count = c.loop-next.next-index in
    let i = c.index-items-next.result in
    let was = c.loop-next.invariant.resolved in
    let x = item_at start c.requires.begun items places r count i c.loop-next-test.true c.index-items-next.is in
    elim c.match-world.branch [
      | in-World-declared+in_ok-resolve_world-in-World-declared b ↦ (
          let sort : is_world (item_view i) ≡ true = ap declares_world b.in-World-declared.is in
          let e = b.in_ok-resolve_world-in-World-declared.ensures in
          rw b.making-is (record { resolved = world_resolved start c.requires.begun items places r count i x c.loop-next.making b.resolve_world.new.making sort was e.adds (λ known right. e.first (contents_fault files known) (right_next_world files items places r start c.requires.begun.foreign c.loop-next.making count i x sort was known right)) }))
      | in-Interface-declared b ↦ (
          let sort : is_world (item_view i) ≡ false = elim b.in-Interface-declared.is [
            | inl interface ↦ ap declares_world interface.1
            | inr inline ↦ ap declares_world inline.1
          ] in
          let past = kept_past is_world (all_items files) places count x.place (item_view i) x.next x.at sort in
          rw b.making-is (record { resolved = rw past was }))
    ]

pub returns-in_err-resolve_world-in-World-declared-clause-first : goal.returns-in_err-resolve_world-in-World-declared-clause-first
returns-in_err-resolve_world-in-World-declared-clause-first c =
    let q = err_from_is_err_and c.from_residual-in_err-resolve_world-in-World-declared.result c.from_residual-in_err-resolve_world-in-World-declared.ensures.1 in
    let start = c.args.making.now in
    let files = start.resolved.interfaces.files in
    let items = c.args.items.now in
    let places = c.args.places.now in
    let r = c.requires.ready in
    let count = c.loop-next.next-index in
    let i = c.index-items-next.result in
    let was = c.loop-next.invariant.resolved in
    let x = item_at start c.requires.begun items places r count i c.loop-next-test.true c.index-items-next.is in
    let sort : is_world (item_view i) ≡ true = ap declares_world c.in-World-declared.is in
    rw (q.1, q.2) (λ known right. worlds_reported files known right places r.order _ r.uses (was.interfaces.first known right) (among_kept is_world (contents_fault files known) (all_items files) places count x.place (item_view i) _ x.next x.at sort (was.first known right)
    (c.in_err-resolve_world-in-World-declared.ensures.first (contents_fault files known) (right_next_world files items places r start c.requires.begun.foreign c.loop-next.making count i x sort was known right))))

pub returns-clause-made : goal.returns-clause-made
returns-clause-made c =
    let start = c.args.making.now in
    let files = start.resolved.interfaces.files in
    let places = c.args.places.now in
    arenas_made start c.requires.begun c.args.items.now places c.requires.ready c.loop-next.making (subst (λ (l : List ℕ). HasWorlds files places start (worlds_in files l) c.loop-next.making) (take_all c.loop-next.next-index places c.loop-next-test.false) c.loop-next.invariant.resolved)

pub returns-clause-first : goal.returns-clause-first
returns-clause-first c = λ known right.
    let files = c.args.making.now.resolved.interfaces.files in
    let places = c.args.places.now in
    let was = c.loop-next.invariant.resolved in
    none_after files known right places c.requires.ready.order c.requires.ready.uses (was.interfaces.first known right)
    (ap (λ (l : List ℕ). first_in (contents_fault files known) (worlds_in files l)) (sym (take_all c.loop-next.next-index places c.loop-next-test.false)) ∙ was.first known right)
