-- The parameters of a function without a fault, one more and in an arena that grows.
use Rattle.std.proofs.Common.{◌≡◌, ◌≤◌, ◌+◌, ℕ, List, [], ◌++◌, length, take, true, false, nat_eq, Option, Some, None, inl, inr, ap, ◌∙◌, subst, arith, sym}
use Rattle.wit_arena.proofs.Common.{Env, Fault, ParseError, ScopeName, SourceFunction, SourceParam, TypeDef, cases_lt, lower_case, map, option_eq, option_or, param_twice, slice_get, written_param, «Type» as Written}
use Rattle.wit_walk.proofs.Common.{IsFirstRepeat, Param, Reports, after_kept, first_after, function_fault, given_fault, lost_word, metadata_fault, none_both, or_none_both, param_fault, repeat_after, repeat_found, repeat_of, reports_back, reports_prefix, return_fault, unrepeated}
use Rattle.wit_entries.specs.EntryFaults.{IsExtended, written_fault}
use Rattle.wit_entries.proofs.Faults.{written_extended}
use Rattle.wit_walk.proofs.FunctionFaults.{param_at, params_before}

-- a parameter by its name, and the fault of a later one
abbrev key : SourceParam → List ℕ
key q = lower_case q.name

abbrev as_stated : SourceParam → Fault
as_stated q = param_twice q.name q.span

-- one that is the first repeated one, and one before that
pub param_repeated : (given : List SourceParam) (ps : List Param) (found : Option ℕ) (i : ℕ) (p : Param) → IsFirstRepeat key (given ++ map written_param ps) found → found ≡ Some (length given + i) → slice_get ps i ≡ Some p → repeat_of key as_stated (given ++ map written_param (take i ps)) (written_param p) ≡ Some (param_twice p.name.name.now p.name.span)
param_repeated given ps found i p first is at = subst (λ (l : List SourceParam). repeat_of key as_stated l (written_param p) ≡ Some (param_twice p.name.name.now p.name.span)) (params_before given ps i) (repeat_found key as_stated (given ++ map written_param ps) (length given + i) (written_param p) (subst (IsFirstRepeat key (given ++ map written_param ps)) is first) (param_at given ps i p at))

pub param_unrepeated : (given : List SourceParam) (ps : List Param) (found : Option ℕ) (i : ℕ) (p : Param) → length given ≤ 1 → IsFirstRepeat key (given ++ map written_param ps) found → ((k : ℕ) → found ≡ Some k → length given ≤ k → length given + i ≤ k) → (found ≡ Some (length given + i) → ⊥) → slice_get ps i ≡ Some p → repeat_of key as_stated (given ++ map written_param (take i ps)) (written_param p) ≡ None
param_unrepeated given ps found i p few first past other at =
    let all = given ++ map written_param ps in
    subst (λ (l : List SourceParam). repeat_of key as_stated l (written_param p) ≡ None) (params_before given ps i) (unrepeated key as_stated all found (length given + i) (written_param p) first (param_at given ps i p at) (λ k is. (
    let after = repeat_after key all found k first is in
    let le = past k is (omega arith) in
    elim (cases_lt (length given + i) k) [
      | inl lt ↦ lt
      | inr far ↦ (let same : k ≡ length given + i = omega arith in absurd (other (is ∙ ap (λ (n : ℕ). Some n) same)))
    ])))

-- the next one, where the first repeated one is another
pub param_next : (given : List SourceParam) (ps : List Param) (found : Option ℕ) (i count : ℕ) (p : Param) → length given ≤ 1 → IsFirstRepeat key (given ++ map written_param ps) found → ((k : ℕ) → found ≡ Some k → length given ≤ k → length given + i ≤ k) → count ≡ length given + i → (found ≡ Some count → ⊥) → slice_get ps i ≡ Some p → repeat_of key as_stated (given ++ map written_param (take i ps)) (written_param p) ≡ None
param_next given ps found i count p few first past same other at = param_unrepeated given ps found i p few first past (λ is. other (is ∙ ap (λ (n : ℕ). Some n) (sym same))) at

-- a place that differs from the one that is found is another
pub apart_found : (found : Option ℕ) (n : ℕ) → option_eq nat_eq found (Some n) ≡ false → found ≡ Some n → ⊥
apart_found found n apart is =
    let one : option_eq nat_eq found (Some n) ≡ nat_eq n n = ap (λ (o : Option ℕ). option_eq nat_eq o (Some n)) is in
    let two : nat_eq n n ≡ true = grind arith in
    let f : ⊥ = cc in
    f

-- of the parameters of a function as they are lent
pub repeat_lent : (fn : SourceFunction) (ps : List Param) (found : Option ℕ) → ps ≡ fn.func.params.items → IsFirstRepeat key (fn.given ++ map written_param fn.func.params.items) found → IsFirstRepeat key (fn.given ++ map written_param ps) found
repeat_lent fn ps found same first = subst (λ (l : List Param). IsFirstRepeat key (fn.given ++ map written_param l) found) (sym same) first

-- parameters without a fault, in a grown arena
pub params_extended : (env : Env) (old new : List TypeDef) (fns : List SourceFunction) (fn : SourceFunction) (ps : List Param) → IsExtended old new → first_after (param_fault (written_fault (lost_word fns) env old) fn) [] ps ≡ None → first_after (param_fault (written_fault (lost_word fns) env new) fn) [] ps ≡ None
params_extended env old new fns fn ps g none = after_kept (param_fault (written_fault (lost_word fns) env old) fn) (param_fault (written_fault (lost_word fns) env new) fn) (λ before p own. (
    let both = or_none_both (repeat_of key as_stated (fn.given ++ map written_param before) (written_param p)) (written_fault (lost_word fns) env old p.ty) own in
    none_both both.0 (written_extended (lost_word fns) env old new p.ty g both.1))) [] ps none

-- the first fault of a function: of what it is given, of its parameters, of what it gives, or none
module _ (wrong : Written → Option Fault) (xs : List ScopeName) (fn : SourceFunction) (meta : metadata_fault fn.attributes ≡ None) where
  abbrev returns : Option Fault
  returns = return_fault wrong xs fn fn.func.result

  pub given_first : {e : ParseError} → Reports (given_fault fn) e → Reports (function_fault wrong xs fn) e
  given_first report = reports_back meta (reports_prefix (option_or (first_after (param_fault wrong fn) [] fn.func.params.items) returns) report)

  pub params_first : {e : ParseError} → given_fault fn ≡ None → Reports (first_after (param_fault wrong fn) [] fn.func.params.items) e → Reports (function_fault wrong xs fn) e
  params_first given report = reports_back meta (reports_back given (reports_prefix returns report))

  pub returns_first : {e : ParseError} → given_fault fn ≡ None → first_after (param_fault wrong fn) [] fn.func.params.items ≡ None → Reports returns e → Reports (function_fault wrong xs fn) e
  returns_first given params report = reports_back meta (reports_back given (reports_back params report))

  pub none_first : given_fault fn ≡ None → first_after (param_fault wrong fn) [] fn.func.params.items ≡ None → returns ≡ None → function_fault wrong xs fn ≡ None
  none_first given params none = none_both meta (none_both given (none_both params none))
