use Rattle.std.proofs.Common.{[], ◌∷◌, List, Option, map, ◌+◌, sym, ap, ◌∙◌, subst}
use Rattle.wit_types.specs.declared.types.«Type».{«Type» as Ty}
use Rattle.wit_arena.proofs.Common.{Fault, SourceFunction, Unknown, all_handles, env_of, take-map, all_shapes}
use Rattle.wit_walk.proofs.Common.{lost_word, or_none}
use Rattle.wit_entries.specs.EntryFaults.{written_fault, Resolves}
use Rattle.wit_rules.specs.Signatures.{function_view}
use Rattle.wit_signatures.proofs.signatures.resolve_in_signature.Goals as goal
use Rattle.wit_entries.specs.ResolvedForms.{AreParts}

pub returns : goal.returns
returns c =
    let env = env_of c.args.scope.names.now in
    let old = c.args.types.now in
    let new = c.resolve_type.new.types in
    let t = c.args.ty.now in
    let fns = ap (map function_view) c.up_to.ensures ∙ sym (take-map function_view (c.args.place + 1) c.args.scope.functions.now) in
    let same = or_none (written_fault (lost_word (map function_view c.up_to.result.now)) env new t) ∙ ap (λ (l : List SourceFunction). written_fault (lost_word l) env new t) fns in
    subst (λ (wrong : Option Fault). Resolves env old new c.args.required.now.items c.resolve_type.new.required.items (all_handles (t ∷ [])) wrong (λ (ty : Ty). AreParts old new env Unknown (all_shapes (t ∷ [])) (ty ∷ [])) c.resolve_type.result) same c.resolve_type.ensures
