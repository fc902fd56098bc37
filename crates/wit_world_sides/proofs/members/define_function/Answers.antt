use Rattle.std.proofs.Common.{◌≡◌, ◌∷◌, [], List, ℕ, ap, sym, ◌∙◌, Option, true, false, subst}
use Rattle.wit_arena.proofs.Common.{Fault, Imported, SideFunction, role_side}
use Rattle.wit_refusals.specs.NameScopes.{Name}
use Rattle.wit_sides.specs.SideNames.{defined_on}
use Rattle.wit_rules.specs.Signatures.{function_view}
use Rattle.wit_externs.specs.Clash.{item_names}
use Rattle.wit_externs.proofs.Clashing.{side_imported, side_across, item_defined, name_differs}
use Rattle.wit_walk.proofs.Common.{Finds, is_on_side}
use Rattle.wit_externs.proofs.AloneFaults.{again_by}
use Rattle.wit_world_sides.proofs.PutFaults.{clash_one, extern_none}
use Rattle.wit_world_sides.proofs.members.define_function.Goals as goal

pub returns-in-None-clause-defined : goal.returns-in-None-clause-defined
returns-in-None-clause-defined c =
    let fn = function_view c.args.borrowed in
    let name = c.as_str-name.result.now in
    let span = c.args.function.now.span in
    let called : item_names (SideFunction fn) ≡ (name, span) ∷ [] = ap (λ (n : Name). n ∷ []) (sym (ap (λ (n : List ℕ). (n, span)) c.as_str-name.ensures ∙ c.requires.borrowed)) in
    item_defined c.define.result (SideFunction fn) Imported (λ s. defined_on s c.args.in_use.now) (λ s. defined_on s c.define.new.self) name span (side_imported fn.role (sym c.across.ensures ∙ c.in-None.is)) called c.define.ensures.defined

pub returns-in-None-clause-differ : goal.returns-in-None-clause-differ
returns-in-None-clause-differ c = name_differs c.define.result Imported (λ s. defined_on s c.args.in_use.now) (λ s. defined_on s c.define.new.self) c.as_str-name.result.now c.args.function.now.span c.define.ensures.defined c.define.ensures.free

pub returns-in-Some-clause-defined : goal.returns-in-Some-clause-defined
returns-in-Some-clause-defined c =
    let fn = function_view c.args.borrowed in
    let name = c.as_str-name.result.now in
    let span = c.args.function.now.span in
    let called : item_names (SideFunction fn) ≡ (name, span) ∷ [] = ap (λ (n : Name). n ∷ []) (sym (ap (λ (n : List ℕ). (n, span)) c.as_str-name.ensures ∙ c.requires.borrowed)) in
    let crosses = side_across fn.role c.in-Some.side (sym c.across.ensures ∙ c.in-Some.is) in
    item_defined c.define_extern_part.result (SideFunction fn) c.in-Some.side (λ s. defined_on s c.args.in_use.now) (λ s. defined_on s c.define_extern_part.new.in_use) name span (ap role_side crosses.2) called c.define_extern_part.ensures.defined

pub returns-in-Some-clause-differ : goal.returns-in-Some-clause-differ
returns-in-Some-clause-differ c = name_differs c.define_extern_part.result c.in-Some.side (λ s. defined_on s c.args.in_use.now) (λ s. defined_on s c.define_extern_part.new.in_use) c.as_str-name.result.now c.args.function.now.span c.define_extern_part.ensures.defined c.define_extern_part.ensures.free

pub returns-in-None-clause-first : goal.returns-in-None-clause-first
returns-in-None-clause-first c =
    let fn = function_view c.args.borrowed in
    let name = c.as_str-name.result.now in
    let span = c.args.function.now.span in
    let called : item_names (SideFunction fn) ≡ (name, span) ∷ [] = ap (λ (n : Name). n ∷ []) (sym (ap (λ (n : List ℕ). (n, span)) c.as_str-name.ensures ∙ c.requires.borrowed)) in
    let plain = sym c.across.ensures ∙ c.in-None.is in
    let one = clash_one c.args.in_use.now c.args.sides.now (SideFunction fn) Imported false (name, span) (side_imported fn.role plain) (extern_none fn.role plain) called in
    subst (λ (o : Option Fault). Finds o c.define.result) (sym one) (again_by c.define.result (defined_on Imported c.args.in_use.now) name span c.define.ensures.free c.define.ensures.refused)

pub returns-in-Some-clause-first : goal.returns-in-Some-clause-first
returns-in-Some-clause-first c =
    let fn = function_view c.args.borrowed in
    let name = c.as_str-name.result.now in
    let span = c.args.function.now.span in
    let called : item_names (SideFunction fn) ≡ (name, span) ∷ [] = ap (λ (n : Name). n ∷ []) (sym (ap (λ (n : List ℕ). (n, span)) c.as_str-name.ensures ∙ c.requires.borrowed)) in
    let crosses = side_across fn.role c.in-Some.side (sym c.across.ensures ∙ c.in-Some.is) in
    let one = clash_one c.args.in_use.now c.args.sides.now (SideFunction fn) c.in-Some.side true (name, span) (ap role_side crosses.2) (ap is_on_side crosses.2) called in
    subst (λ (o : Option Fault). Finds o c.define_extern_part.result) (sym one) c.define_extern_part.ensures.first
