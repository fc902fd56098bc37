use Rattle.std.proofs.Common.{◌≡◌, ◌++◌, ◌∷◌, [], map, refl, sym, ap, ◌∙◌}
use Rattle.wit_arena.proofs.Common.{Address, InterfaceNamed, Used, append-nil, contains_at, err_from_is_err_and, map-append, target_scope}
use Rattle.wit_syntax.proofs.Common.{Use}
use Rattle.wit_first.specs.UseFaults.{use_fault}
use Rattle.wit_first.proofs.First.{or_none, reports_same}
use Rattle.wit_scopes.specs.BorrowedNames.{name_view}
use Rattle.wit_scopes.proofs.Placed.{names_more}
use Rattle.wit_items.specs.ItemPaths.{prefix_of}
use Rattle.wit_items.proofs.PlacedNames.{source_seen}
use Rattle.wit_items.proofs.part_names.add_part.Goals.{in-DefinitionPart+in_ok-push-in-DefinitionPart, in-UsePart+in_ok-from-in-UsePart+in_ok-add_used_names-in-UsePart, in-IncludePart, in-FunctionPart, in-ExternPart}
use Rattle.wit_files.specs.FileNames.{top_at}
use Rattle.wit_items.proofs.part_names.add_part.Goals as goal

pub sound_source-requires : goal.sound_source-requires
sound_source-requires c = let u : Use = c.in-UsePart.used.now in record { path = (rw c.in-UsePart.is at c.requires.paths) u (contains_at (u ∷ []) 0 u refl) }

pub returns-in_err-from-in-UsePart-clause-first : goal.returns-in_err-from-in-UsePart-clause-first
returns-in_err-from-in-UsePart-clause-first c =
    let files = c.args.files.now in
    let top = top_at files c.args.place in
    let p = err_from_is_err_and c.from_residual-in_err-from-in-UsePart.result c.from_residual-in_err-from-in-UsePart.ensures.1 in
    rw (c.in-UsePart.is, p.1, p.2) (reports_same (sym (or_none (use_fault files top c.in-UsePart.used.now))) c.in_err-from-in-UsePart.ensures.first)

pub returns-clause-view : goal.returns-clause-view
returns-clause-view c =
    let old = c.args.names.now.items in
    let same : map name_view old ≡ map name_view old ++ [] = sym (append-nil (map name_view old)) in
    elim c.match-part.branch [
      | in-DefinitionPart+in_ok-push-in-DefinitionPart b ↦ rw (b.names-is, b.in-DefinitionPart.is) (ap (map name_view) b.in_ok-push-in-DefinitionPart.ensures.items ∙ map-append name_view old (_ ∷ []))
      | in-UsePart+in_ok-from-in-UsePart+in_ok-add_used_names-in-UsePart b ↦ (
          let from = ap (λ (s : Address). map name_view old ++ map (Used s b.in-UsePart.used.now.attributes.items) b.in-UsePart.used.now.names.items) (source_seen _ ∙ ap (target_scope InterfaceNamed) b.in_ok-from-in-UsePart.ensures.source) in
          rw (b.names-is, b.in-UsePart.is) ((rw (b.deref.ensures.value, b.deref-in-UsePart.ensures.value) at b.in_ok-add_used_names-in-UsePart.ensures.names) ∙ from))
      | in-IncludePart b ↦ rw (b.names-is, b.in-IncludePart.is) same
      | in-FunctionPart b ↦ rw (b.names-is, b.in-FunctionPart.is) same
      | in-ExternPart b ↦ rw (b.names-is, b.in-ExternPart.is) same
    ]

pub returns-clause-placed : goal.returns-clause-placed
returns-clause-placed c = λ placed.
    let prefix = prefix_of c.args.files.now in
    elim c.match-part.branch [
      | in-DefinitionPart+in_ok-push-in-DefinitionPart b ↦ rw b.names-is (names_more prefix c.args.names.now.items _ _ b.in_ok-push-in-DefinitionPart.ensures.items placed tt)
      | in-UsePart+in_ok-from-in-UsePart+in_ok-add_used_names-in-UsePart b ↦ rw b.names-is (b.in_ok-add_used_names-in-UsePart.ensures.placed prefix b.in_ok-from-in-UsePart.ensures.placed placed)
      | in-IncludePart b ↦ rw b.names-is placed
      | in-FunctionPart b ↦ rw b.names-is placed
      | in-ExternPart b ↦ rw b.names-is placed
    ]

pub returns-clause-first : goal.returns-clause-first
returns-clause-first c = elim c.match-part.branch [
  | in-DefinitionPart+in_ok-push-in-DefinitionPart b ↦ rw b.in-DefinitionPart.is refl
  | in-UsePart+in_ok-from-in-UsePart+in_ok-add_used_names-in-UsePart b ↦ rw b.in-UsePart.is (or_none (use_fault c.args.files.now (top_at c.args.files.now c.args.place) b.in-UsePart.used.now) ∙ b.in_ok-from-in-UsePart.ensures.first)
  | in-IncludePart b ↦ rw b.in-IncludePart.is refl
  | in-FunctionPart b ↦ rw b.in-FunctionPart.is refl
  | in-ExternPart b ↦ rw b.in-ExternPart.is refl
]
