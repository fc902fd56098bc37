-- The types of cases that hold something, case by case, and the first fault of them.
use Rattle.std.proofs.Common.{◌≡◌, List, [], ◌∷◌, ◌++◌, Option, Some, None, refl, ap, ◌∙◌}
use Rattle.wit_arena.proofs.Common.{Case, Env, Fault, Id, TypeDef, case_types, cons_option, option_or, option_to_list}
use Rattle.wit_first.specs.First.{first_in}
use Rattle.wit_first.proofs.First.{in-append}
use Rattle.wit_entries.specs.EntryFaults.{written_fault}

in_prefix : {X : Type 0} (o : Option X) (xs : List X) → cons_option o xs ≡ option_to_list o ++ xs
in_prefix None xs = refl
in_prefix (Some x) xs = refl

pub cases_first : (lost : Id → Fault) (env : Env) (es : List TypeDef) (cs : List Case) → first_in (written_fault lost env es) (case_types cs) ≡ first_in (λ (c : Case). first_in (written_fault lost env es) (option_to_list c.ty)) cs
cases_first lost env es [] = refl
cases_first lost env es (c ∷ cs) =
    ap (first_in (written_fault lost env es)) (in_prefix c.ty (case_types cs))
    ∙ in-append (written_fault lost env es) (option_to_list c.ty) (case_types cs)
    ∙ ap (option_or (first_in (written_fault lost env es) (option_to_list c.ty))) (cases_first lost env es cs)
