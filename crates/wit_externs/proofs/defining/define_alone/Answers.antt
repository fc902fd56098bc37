use Rattle.std.proofs.Common.{◌≡◌, ◌∷◌, [], List, ℕ, ap, sym, ◌∙◌, subst}
use Rattle.wit_arena.proofs.Common.{SideFunction, WorldSide, role_side}
use Rattle.wit_walk.proofs.Common.{Finds}
use Rattle.wit_refusals.specs.NameScopes.{Name}
use Rattle.wit_sides.specs.SideNames.{defined_on}
use Rattle.wit_rules.specs.Signatures.{function_view}
use Rattle.wit_signatures.specs.FunctionsOfScope.{name_of_function}
use Rattle.wit_externs.specs.Clash.{again_fault, item_names}
use Rattle.wit_externs.proofs.AloneFaults.{again_by}
use Rattle.wit_externs.proofs.Clashing.{item_defined, name_differs}
use Rattle.wit_externs.proofs.defining.define_alone.Goals as goal

pub returns-clause-defined : goal.returns-clause-defined
returns-clause-defined c =
    let fn = function_view c.args.borrowed in
    let name = c.as_str-name.result.now in
    let span = c.args.function.now.span in
    let called : item_names (SideFunction fn) ≡ (name, span) ∷ [] = ap (λ (n : Name). n ∷ []) (sym (ap (λ (n : List ℕ). (n, span)) c.as_str-name.ensures ∙ c.requires.borrowed)) in
    item_defined c.define.result (SideFunction fn) c.side.result (λ s. defined_on s c.args.in_use.now) (λ s. defined_on s c.define.new.self) name span (sym c.side.ensures) called c.define.ensures.defined

pub returns-clause-differ : goal.returns-clause-differ
returns-clause-differ c = name_differs c.define.result c.side.result (λ s. defined_on s c.args.in_use.now) (λ s. defined_on s c.define.new.self) c.as_str-name.result.now c.args.function.now.span c.define.ensures.defined c.define.ensures.free

pub returns-clause-first : goal.returns-clause-first
returns-clause-first c =
    let fn = function_view c.args.borrowed in
    let name = c.as_str-name.result.now in
    let span = c.args.function.now.span in
    let old : WorldSide → List Name = λ s. defined_on s c.args.in_use.now in
    let called : (name, span) ≡ name_of_function fn = ap (λ (n : List ℕ). (n, span)) c.as_str-name.ensures ∙ c.requires.borrowed in
    let own = again_by c.define.result (old c.side.result) name span c.define.ensures.free c.define.ensures.refused in
    subst (λ (n : Name). Finds (again_fault (old (role_side fn.role)) n) c.define.result) called (subst (λ (s : WorldSide). Finds (again_fault (old s) (name, span)) c.define.result) c.side.ensures own)
