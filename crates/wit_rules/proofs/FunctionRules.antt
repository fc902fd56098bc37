-- Rules of functions: their parameters by name, and setters among them.
use Rattle.std.proofs.Common.{◌≡◌, ℕ, ◌<◌, List, [], ◌∷◌, ◌++◌, Option, Some, None, length, arith, refl, sym, ap, ◌∙◌, subst}
use Rattle.wit_arena.proofs.Common.{AllDiffer, Fault, FuncForm, ParseError, Result, SourceFunction, SourceParam, Span, fault, length-map, lower_case, ltb-false, ltb-true, map, map-append, map_map, option_copied, slice_get, slice_get_past, slice_get_read, slice_get_within, written_param}
use Rattle.wit_syntax.proofs.Common.{Param}
use Rattle.std.specs.Slice.{IsItemAt}
use denote.Ref.{Bor}
use Rattle.wit_type_tree.specs.declared.types.FuncForm.TheVariants as form
use Rattle.wit_first.specs.First.{Finds}
use Rattle.wit_first.specs.FunctionFaults.{given_fault, params_fault}

-- the names of parameters, of which some are written
pub names-append : (given params : List SourceParam) (written : List Param) → map written_param written ≡ params → map (λ p. p.name) (given ++ params) ≡ map (λ p. p.name) given ++ map (λ p. p.name.name.now) written
names-append given params written is =
    map-append (λ p. p.name) given params
    ∙ ap (λ (names : List (List ℕ)). map (λ p. p.name) given ++ names) (ap (map (λ p. p.name)) (sym is) ∙ map_map (λ p. p.name) written_param written)

-- the keys of names are those of the parameters
pub keys-named : (names : List (Bor (List ℕ))) (params : List SourceParam) → map (λ t. t.now) names ≡ map (λ p. p.name) params → map (λ t. lower_case t.now) names ≡ map (λ p. lower_case p.name) params
keys-named names params is = sym (map_map lower_case (λ t. t.now) names) ∙ ap (map lower_case) is ∙ map_map lower_case (λ p. p.name) params

-- the key of one item repeats none
pub few_differ : {X : Type 0} (key : X → List ℕ) (xs : List X) → length xs < 2 → AllDiffer (map key xs)
few_differ key xs few = record {
  differ = λ i j k at_i at_j. (
      let one = slice_get_within (map key xs) i k at_i in
      let other = slice_get_within (map key xs) j k at_j in
      let count = length-map xs key in
      omega arith);
}

-- the first fault of what a setter is given: at the second parameter, or where there is none
pub second_param : (params : List Param) (span : Span) (second : Param) → slice_get params 1 ≡ Some second → params_fault form.Setter params span ≡ Some (fault 37 second.name.span)
second_param [] span second at = absurd (let f : ⊥ = cc in f)
second_param (x ∷ []) span second at = absurd (let f : ⊥ = cc in f)
second_param (x ∷ y ∷ rest) span second at = (let same : y ≡ second = cc in ap (λ (p : Param). Some (fault 37 p.name.span)) same)

pub no_param : (params : List Param) (span : Span) → (length params ≡ 1 → ⊥) → slice_get params 1 ≡ None → params_fault form.Setter params span ≡ Some (fault 37 span)
no_param [] span other none = refl
no_param (x ∷ []) span other none = absurd (other refl)
no_param (x ∷ y ∷ rest) span other none = absurd (let f : ⊥ = cc in f)

-- what is found of the parameters of a form is found of a function of that form
pub given_found : {T : Type 0} (fn : SourceFunction) (w : FuncForm) (params : List Param) (span : Span) (r : Result T ParseError) → w ≡ fn.func.form → params ≡ fn.func.params.items → span ≡ fn.func.span → Finds (params_fault w params span) r → Finds (given_fault fn) r
given_found fn w params span r is same at found = subst (λ (o : Option Fault). Finds o r) (ap (λ (v : FuncForm). params_fault v params span) is ∙ ap (λ (l : List Param). params_fault fn.func.form l span) same ∙ ap (params_fault fn.func.form fn.func.params.items) at) found

-- what is read at a place of a list is there
pub got_at : {X : Type 0} (xs : List X) (i : ℕ) (r : Option (Bor X)) → IsItemAt xs i r → option_copied r ≡ slice_get xs i
got_at xs i None h = sym (slice_get_past xs i (ltb-false i (length xs) (sym h.0)))
got_at xs i (Some x) h = sym (slice_get_read xs (length xs) i x.now refl (ltb-true i (length xs) (sym h.0)) h.1)
