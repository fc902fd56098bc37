use Rattle.std.proofs.Common.{◌≡◌, ◌+◌, ◌++◌, ◌∷◌, [], List, None, Some, map, take, refl, sym, ap, ◌∙◌, subst}
use Rattle.wit_items.proofs.Common.{Borrowed as ScopeName, Defined, body_ok, local_name, map-append, meaning, meant_ok, name_view, option_map, slice_get, slice_get-map, slice_get_read, take-map, take_all, take_next, option_and_then}
use Rattle.wit_rules.specs.Signatures.{AreResults}
use Rattle.wit_item_entries.proofs.ScopeFunctions.{unmeant_before, results_same, results_more}
use Rattle.wit_item_entries.proofs.functions.written_results.Goals.{in-Defined+in-Some+in_ok-from_str+in_ok-put, in-Defined+in_default-written_result, in_default}
use Rattle.wit_item_entries.proofs.functions.written_results.Goals as goal
use denote.Ref.{Bor}
use Rattle.wit_type_tree.specs.declared.types.«Type».{«Type» as Written}
use Rattle.wit_syntax.specs.SignatureRules.{ok_of}

pub loop-name-preserved : goal.loop-name-preserved
loop-name-preserved c =
    let names = c.args.names.now in
    let i = c.loop-name.name-index in
    let x = c.name-item.result in
    let prefix = map name_view (take i names) in
    let at : slice_get names i ≡ Some x = slice_get_read names _ i x refl c.loop-name-test.true c.name-item.is in
    let more : map name_view (take (i + 1) names) ≡ prefix ++ name_view x ∷ [] = ap (map name_view) (take_next names i x at) ∙ map-append name_view (take i names) (x ∷ []) in
    let was = c.loop-name.invariant in
    let all = map name_view names in
    elim c.match-name.branch [
      | in-Defined+in-Some+in_ok-from_str+in_ok-put w ↦ (
          let d = w.in-Defined.defined.definition.now in
          let t = w.in-Some.ty in
          let own : name_view x ≡ Defined d = ap name_view w.in-Defined.is in
          let gives : ok_of t.now ≡ body_ok d.body = ap (option_and_then (λ (t : Bor Written). ok_of t.now)) (sym w.in-Some.is) ∙ w.written_result.ensures in
          let there : slice_get all i ≡ Some (Defined d) = slice_get-map name_view names i ∙ ap (option_map name_view) at ∙ ap Some own in
          let free : meaning prefix (local_name (Defined d)) ≡ None = ap (λ l. meaning l (local_name (Defined d))) (sym (take-map name_view i names)) ∙ unmeant_before all i (Defined d) c.requires there in
          let next = results_more c.loop-name.results prefix d t gives free was in
          rw (w.results-is, w.in_ok-put.ensures.ok, w.in_ok-from_str.ensures.ok, more, own) next)
      | in-Defined+in_default-written_result w ↦ (
          let own = ap name_view w.in-Defined.is in
          let none : meant_ok (Some (Defined w.in-Defined.defined.definition.now)) ≡ None = sym (ap (option_and_then (λ (t : Bor Written). ok_of t.now)) (sym w.in_default-written_result.is) ∙ w.written_result.ensures) in
          rw (w.results-is, more, own) (results_same c.loop-name.results prefix _ none was))
      | in_default w ↦ rw (w.results-is, more, ap name_view w.in_default.is) (results_same c.loop-name.results prefix _ refl was)
    ]

pub returns : goal.returns
returns c = subst (λ (l : List ScopeName). AreResults c.loop-name.results (map name_view l)) (take_all c.loop-name.name-index c.args.names.now c.loop-name-test.false) c.loop-name.invariant
