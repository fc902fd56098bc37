use Rattle.std.proofs.Common.{◌≡◌, ℕ, List, map, take, ap, ◌∙◌, subst, arith}
use Rattle.wit_arena.proofs.Common.{AllDiffer, IsRepeatAt, SourceParam, all_params, lower_case}
use Rattle.wit_rules.specs.Signatures.{function_view}
use Rattle.wit_rules.proofs.FunctionRules.{few_differ, keys-named}
use Rattle.wit_rules.proofs.function_rules.repeated_param.Goals as goal

pub returns-in-Some : goal.returns-in-Some
returns-in-Some c =
    let key : SourceParam → List ℕ = λ p. lower_case p.name in
    let params = all_params (function_view c.args.function) in
    let names : map (λ t. lower_case t.now) c.deref.result.now ≡ map key params = ap (map (λ t. lower_case t.now)) c.deref.ensures.value ∙ keys-named c.in_ok-names.names.items params c.in_ok-names.ensures in
    let first : ℕ = c.in-Some.field-0-0 in
    let second : ℕ = c.in-Some.second in
    let repeat = rw c.in-Some.is at c.in_ok-second.ensures.some in
    let differ = rw c.in-Some.is at c.in_ok-second.ensures.first in
    (first, subst (λ ks. IsRepeatAt ks first second) names repeat, subst (λ ks. AllDiffer (take second ks)) names differ)

pub returns : goal.returns
returns c =
    let key : SourceParam → List ℕ = λ p. lower_case p.name in
    let params = all_params (function_view c.args.function) in
    let names : map (λ t. lower_case t.now) c.deref.result.now ≡ map key params = ap (map (λ t. lower_case t.now)) c.deref.ensures.value ∙ keys-named c.in_ok-names.names.items params c.in_ok-names.ensures in
    subst AllDiffer names (rw c.in-None.is at c.in_ok-second.ensures.none)

pub returns-then-param_count-lt2 : goal.returns-then-param_count-lt2
returns-then-param_count-lt2 c = few_differ (λ (p : SourceParam). lower_case p.name) (all_params (function_view c.args.function)) (omega (arith, c.param_count.ensures))
