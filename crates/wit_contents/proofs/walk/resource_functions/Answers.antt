use Rattle.std.proofs.Common.{map, sym, ap, ◌∙◌, List}
use Rattle.wit_contents.proofs.Names.{SideFunction, TypeBody, definition_functions, ResourceFunc, resource_function}
use Rattle.wit_contents.proofs.MemberFaults.{no_functions}
use Rattle.wit_contents.proofs.walk.resource_functions.Goals as goal

pub returns-in-Resource : goal.returns-in-Resource
returns-in-Resource c =
    let d = c.args.definition.now in
    ap (λ (b : TypeBody). map SideFunction (definition_functions d.name b)) c.in-Resource.is ∙ ap (λ (fs : List ResourceFunc). map SideFunction (map (resource_function d.name) fs)) (sym c.deref.ensures.value)

pub returns-in_default : goal.returns-in_default
returns-in_default c =
    let d = c.args.definition.now in
    ap (map SideFunction) (no_functions d.name d.body c.in_default.not-Resource)
