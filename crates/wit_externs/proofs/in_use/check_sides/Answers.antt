use Rattle.std.proofs.Common.{◌≡◌, ℕ, List, Result, Ok, Err, map, subst, sym, ◌∙◌, ◌++◌}
use Rattle.wit_arena.proofs.Common.{Exported, Id, IfErr, Imported, OnOk, ParseError, Refused, SideItem, WorldSide, err_from_is_err_and, flat_map, item_function, on_side, items_on, names_on}
use Rattle.wit_walk.proofs.Common.{Finds, finds_back, none_both, reports_prefix}
use Rattle.wit_rules.specs.declared.borrowed.BorrowedFunction.{BorrowedFunction}
use Rattle.wit_refusals.specs.NameScopes.{Name, IsFirstLoneSetter, IsLoneSetter}
use Rattle.wit_rules.specs.Signatures.{function_view}
use Rattle.wit_externs.specs.Clash.{lone_setters, item_names}
use Rattle.wit_externs.proofs.FirstSetters.{AreMerged, borrowed_named, lone_found, merged_side, none_on, side_named}
use Rattle.wit_externs.proofs.in_use.check_sides.Goals as goal
use Rattle.wit_signatures.specs.FunctionsOfScope.{name_of_id}

pub returns-then-not-have_setter : goal.returns-then-not-have_setter
returns-then-not-have_setter c =
    let hs = c.args.functions.now in
    let none = sym c.have_setter.ensures ∙ c.if-not-have_setter.true in
    record { first = none_both (none_on Imported hs none) (none_on Exported hs none) }

-- what is found on a side
side_finds : {T : Type 0} (side : WorldSide) (ids : List Id) (items : List SideItem) (hs : List BorrowedFunction) (names : List Name) (r : Result T ParseError) → flat_map item_function items ≡ map function_view hs → names ≡ (names_on side (map name_of_id ids) ++ flat_map item_names (items_on side items)) → OnOk r ((i : ℕ) → IsLoneSetter names i → ⊥) → IfErr r (Refused (IsFirstLoneSetter names)) → Finds (lone_setters (on_side side (map function_view hs))) r
side_finds side ids items hs names r are same paired refused =
    let fns = map function_view hs in
    lone_found r names (on_side side fns) (subst (λ (l : List Name). AreMerged l (on_side side fns)) (sym same) (merged_side side ids items fns are)) (side_named side fns (borrowed_named hs)) paired refused

pub returns-in_err-check_setters : goal.returns-in_err-check_setters
returns-in_err-check_setters c =
    let p = err_from_is_err_and c.from_residual.result c.from_residual.ensures.1 in
    let hs = c.args.functions.now in
    let own = side_finds {T = Unit {0}} Imported c.args.names.now c.requires.0 hs c.args.in_use.now.imports (Err _) c.requires.1 (c.requires.2 Imported) tt c.in_err-check_setters.ensures.refused in
    record { first = rw (p.1, p.2) (reports_prefix (lone_setters (on_side Exported (map function_view hs))) own) }

pub returns : goal.returns
returns c =
    let hs = c.args.functions.now in
    let before = side_finds {T = Unit {0}} Imported c.args.names.now c.requires.0 hs c.args.in_use.now.imports (Ok tt) c.requires.1 (c.requires.2 Imported) c.in_ok-check_setters.ensures.paired tt in
    let own = side_finds Exported c.args.names.now c.requires.0 hs c.args.in_use.now.exports c.check_setters-2.result c.requires.1 (c.requires.2 Exported) c.check_setters-2.ensures.paired c.check_setters-2.ensures.refused in
    record { first = finds_back _ c.check_setters-2.result before own }
