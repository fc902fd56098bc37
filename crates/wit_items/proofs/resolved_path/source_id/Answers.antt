use Rattle.std.proofs.Common.{rules, ◌≡◌, Option, Some, None, ℕ, inl, inr, sym, ap, ◌∙◌, subst}
use Rattle.wit_arena.proofs.Common.{env_of, if◌then◌else◌, is_none, item_word, missing_at}
use Rattle.wit_scopes.specs.BorrowedNames.{IsPlaced}
use Rattle.wit_scopes.specs.declared.scope_name.Source.{Source}
use Rattle.wit_items.specs.ItemPaths.{prefix_of, source_target}
use Rattle.wit_items.specs.ResolvedInterfaces.{source_place, unresolved_fault}
use Rattle.wit_items.proofs.Found.{prefix_within}
use Rattle.wit_items.proofs.resolved_path.source_id.Goals as goal

pub returns-in-Some-clause-id : goal.returns-in-Some-clause-id
returns-in-Some-clause-id c =
    let by_name = c.args.interfaces.now.by_name in
    let found : env_of by_name c.in-Declared.path.name.now ≡ Some c.in-Some.id.now = search rules in
    ap (source_place by_name) c.in-Declared.is ∙ found

pub returns-in-Some-clause-first : goal.returns-in-Some-clause-first
returns-in-Some-clause-first c =
    let by_name = c.args.interfaces.now.by_name in
    let found : env_of by_name c.in-Declared.path.name.now ≡ Some c.in-Some.id.now = search rules in
    ap (λ (s : Source). unresolved_fault by_name (source_target s)) c.in-Declared.is ∙ ap (λ (o : Option ℕ). if is_none o then Some (missing_at 7 item_word c.in-Declared.path) else None) found

pub returns-in-None-clause-first : goal.returns-in-None-clause-first
returns-in-None-clause-first c =
    let by_name = c.args.interfaces.now.by_name in
    let free : env_of by_name c.in-Declared.path.name.now ≡ None = search rules in
    elim c.refuse_missing.ensures [
      | inl memory ↦ inl memory
      | inr says ↦ inr (ap (λ (s : Source). unresolved_fault by_name (source_target s)) c.in-Declared.is ∙ ap (λ (o : Option ℕ). if is_none o then Some (missing_at 7 item_word c.in-Declared.path) else None) free ∙ ap Some (sym says))
    ]

pub id_at-requires : goal.id_at-requires
id_at-requires c =
    let is = c.args.interfaces.now in
    prefix_within (prefix_of is.files) is.arena c.in-Foreign.place _ is.prefix (subst (IsPlaced (prefix_of is.files)) c.in-Foreign.is c.requires)

pub returns-in-Foreign-clause-id : goal.returns-in-Foreign-clause-id
returns-in-Foreign-clause-id c = ap (source_place c.args.interfaces.now.by_name) c.in-Foreign.is ∙ ap Some (sym c.id_at.ensures)

pub returns-in-Foreign-clause-first : goal.returns-in-Foreign-clause-first
returns-in-Foreign-clause-first c = ap (λ (s : Source). unresolved_fault c.args.interfaces.now.by_name (source_target s)) c.in-Foreign.is
