use Rattle.std.proofs.Common.{◌≡◌, ◌+◌, ℕ, List, [], ◌∷◌, ◌++◌, ◌<◌, length, get_or, take, Some, refl, sym, ap, ◌∙◌, subst, arith}
use Rattle.wit_items.proofs.Common.{Include, IncludePart, TheWorld, TopName, contains_at, err_from_is_err_and, first_in, in-following, map, option_map, or_none, others_of, reports-in, reports_same, slice_get, slice_get-get_or, slice_get-map, take_all, top_at, world_part, worlds_at}
use Rattle.wit_syntax.proofs.Common.{WorldItem}
use Rattle.wit_tree.specs.declared.tree.WorldItem.TheVariants as world_item
use Rattle.wit_links.specs.Links.{included_fault}
use Rattle.wit_links.specs.declared.resolved.Resolved.{Resolved}
use Rattle.wit_links.proofs.Leading.{part_fault, parts_fault, included, AreIncluded, included_next, no_include, included_past, included_more, includes_are}
use Rattle.wit_links.proofs.includes.resolve_includes.Goals.{in-Include+in_ok-include+in_ok-push, in_default}
use Rattle.wit_links.proofs.includes.resolve_includes.Goals as goal

-- the part at hand
part_at : (items xs : List WorldItem) (k : ℕ) (x y : WorldItem) → xs ≡ items → k < length xs → x ≡ get_or xs k x → x ≡ y → slice_get items k ≡ Some y
part_at items xs k x y all lt is same = ap (λ (l : List WorldItem). slice_get l k) (sym all) ∙ slice_get-get_or xs k x lt ∙ ap Some (sym is ∙ same)

pub loop-part-init : goal.loop-part-init
loop-part-init c = record {
  are = (ap length c.in_ok-includes.ensures.items, λ ws gives. c.in_ok-includes.ensures.items);
  first = refl;
}

pub resolve_include-requires : goal.resolve_include-requires
resolve_include-requires c =
    let w = c.args.world.now in
    let k = c.loop-part.part-index in
    let i = c.in-Include.include in
    let at = part_at w.items.items c.world_items-part-items.result.now k c.part-item.result (world_item.Include i) c.world_items-part-items.ensures c.loop-part-test.true c.part-item.is c.in-Include.is in
    let there = slice_get-map world_part w.items.items k ∙ ap (option_map world_part) at in
    record { part = record { declared = TheWorld w; item = c.requires.item; among = contains_at (map world_part w.items.items) k (IncludePart i) there } }

-- the fault of a part that is an include
include_fault : (ws : Resolved) (top : List TopName) (x : WorldItem) (n : Include) → x ≡ world_item.Include n → part_fault ws top x ≡ included_fault ws top n
include_fault ws top x n is = ap (part_fault ws top) is ∙ or_none (included_fault ws top n)

pub returns-in_err-include-clause-first : goal.returns-in_err-include-clause-first
returns-in_err-include-clause-first c =
    let ws = c.args.resolved.now in
    let top = top_at ws.interfaces.files c.args.place in
    let p = err_from_is_err_and c.from_residual-in_err-include.result c.from_residual-in_err-include.ensures.1 in
    let w = c.args.world.now in
    let k = c.loop-part.part-index in
    let x = c.part-item.result in
    let at : slice_get w.items.items k ≡ Some x = part_at w.items.items c.world_items-part-items.result.now k x x c.world_items-part-items.ensures c.loop-part-test.true c.part-item.is refl in
    let own = reports_same (sym (include_fault ws top x c.in-Include.include c.in-Include.is)) c.in_err-include.ensures.first in
    rw (p.1, p.2) (reports_same (parts_fault ws c.args.place w) (reports-in (part_fault ws top) w.items.items k x _ at c.loop-part.invariant.first own))

pub loop-part-preserved : goal.loop-part-preserved
loop-part-preserved c =
    let ws = c.args.resolved.now in
    let top = top_at ws.interfaces.files c.args.place in
    let worlds = worlds_at (others_of ws.interfaces.files) ws.worlds in
    let items = c.args.world.now.items.items in
    let k = c.loop-part.part-index in
    let x = c.part-item.result in
    let at : slice_get items k ≡ Some x = part_at items c.world_items-part-items.result.now k x x c.world_items-part-items.ensures c.loop-part-test.true c.part-item.is refl in
    let was = c.loop-part.invariant in
    record {
      are = elim c.match-part.branch [
        | in-Include+in_ok-include+in_ok-push b ↦ (
            let n = b.in-Include.include in
            let next : included (take (k + 1) items) ≡ included (take k items) ++ n ∷ [] = included_next items k n (at ∙ ap Some b.in-Include.is) in
            rw (b.includes-is, next, b.in_ok-push.ensures.items) (included_more worlds top (included (take k items)) c.loop-part.includes.items n _ was.are b.in_ok-include.ensures.is))
        | in_default b ↦ (
            let past : included (take (k + 1) items) ≡ included (take k items) = included_past items k x at (no_include x b.in_default.not-Include) in
            rw (b.includes-is, past) was.are)
      ];
      first = in-following (part_fault ws top) items k x at was.first (elim c.match-part.branch [
        | in-Include+in_ok-include+in_ok-push b ↦ include_fault ws top x b.in-Include.include b.in-Include.is ∙ b.in_ok-include.ensures.first
        | in_default b ↦ ap (first_in (included_fault ws top)) (no_include x b.in_default.not-Include)
      ]);
    }

pub returns-clause-are : goal.returns-clause-are
returns-clause-are c =
    let files = c.args.resolved.now.interfaces.files in
    let top = top_at files c.args.place in
    let worlds = worlds_at (others_of files) c.args.resolved.now.worlds in
    let w = c.args.world.now in
    let xs = c.world_items-part-items.result.now in
    let k = c.loop-part.part-index in
    let all : take k w.items.items ≡ w.items.items = ap (take k) (sym c.world_items-part-items.ensures) ∙ take_all k xs (omega arith) ∙ c.world_items-part-items.ensures in
    rw c.from.ensures (includes_are worlds top w c.loop-part.includes.items (subst (λ (l : List WorldItem). AreIncluded worlds top (included l) c.loop-part.includes.items) all c.loop-part.invariant.are))

pub returns-clause-first : goal.returns-clause-first
returns-clause-first c =
    let ws = c.args.resolved.now in
    let w = c.args.world.now in
    let xs = c.world_items-part-items.result.now in
    let k = c.loop-part.part-index in
    let all : take k w.items.items ≡ w.items.items = ap (take k) (sym c.world_items-part-items.ensures) ∙ take_all k xs (omega arith) ∙ c.world_items-part-items.ensures in
    sym (parts_fault ws c.args.place w) ∙ ap (first_in (part_fault ws (top_at ws.interfaces.files c.args.place))) (sym all) ∙ c.loop-part.invariant.first
