use Rattle.std.proofs.Common.{◌∙◌, ◌++◌, List, [], ◌∷◌, ap, sym, not, nat_lt, nat_eq, cond, length, true, false}
use Rattle.wit_syntax.proofs.Common.{PackageName, append-nil, is_some, lookup, pointwise, same_package, unwrap_or}
use Rattle.wit_foreign.specs.Kept.{Items, table_more}
use Rattle.wit_files.specs.ForeignPaths.{foreign_view}
use Rattle.wit_foreign.proofs.Growth.{deps_more}
use Rattle.wit_foreign.proofs.package_table.Deps.add_visit.Goals as goal

pub returns-in_ok-count : goal.returns-in_ok-count
returns-in_ok-count c vs are =
    let whole = c.in_ok-package.ensures.both.0 ∙ c.in_ok-key.ensures.whole in
    let as_stated = rw c.in_ok-package.ensures.both.1 at c.stated_stability-as_stated.ensures in
    deps_more vs (foreign_view c.args.visit.now) true c.next_entry-entry.result c.args.self.now c.count.new.self (record {
      entry_is = c.next_entry-entry.ensures;
      fresh_is = sym c.if-fresh.true ∙ (c.in_ok-fresh.ensures.fresh ∙ ap (λ p. not (is_some (lookup (pointwise nat_eq c.args.visit.now.name.name.now) (unwrap_or (lookup (same_package p) c.args.self.now.packages) [])))) whole);
      packages = c.in_ok-count.ensures.packages ∙ (c.in_ok-note_span.ensures.packages ∙ (c.in_ok-fresh.ensures.packages ∙ (λ i. table_more c.args.self.now.packages (whole i) c.args.visit.now.name.name.now c.next_entry-entry.result (as_stated i))));
      spans = c.in_ok-count.ensures.spans ∙ (c.in_ok-note_span.ensures.spans ∙ ap (λ (p : List (PackageName × Items)). c.args.self.now.spans ++ cond (nat_lt (length c.args.self.now.spans) (length p)) (c.args.visit.now.package.now.span ∷ []) []) (sym (c.in_ok-count.ensures.packages ∙ c.in_ok-note_span.ensures.packages)));
      interfaces = c.in_ok-count.ensures.interfaces ∙ ap (λ is. is ++ cond c.args.visit.now.wants_world [] (tt ∷ [])) c.in_ok-note_span.ensures.interfaces;
      worlds = c.in_ok-count.ensures.worlds ∙ ap (λ ws. ws ++ cond c.args.visit.now.wants_world (tt ∷ []) []) c.in_ok-note_span.ensures.worlds;
    }) are

pub returns-else-fresh : goal.returns-else-fresh
returns-else-fresh c vs are =
    let whole = c.in_ok-package.ensures.both.0 ∙ c.in_ok-key.ensures.whole in
    let as_stated = rw c.in_ok-package.ensures.both.1 at c.stated_stability-as_stated.ensures in
    deps_more vs (foreign_view c.args.visit.now) false c.next_entry-entry.result c.args.self.now c.note_span.new.self (record {
      entry_is = c.next_entry-entry.ensures;
      fresh_is = sym c.if-fresh.false ∙ (c.in_ok-fresh.ensures.fresh ∙ ap (λ p. not (is_some (lookup (pointwise nat_eq c.args.visit.now.name.name.now) (unwrap_or (lookup (same_package p) c.args.self.now.packages) [])))) whole);
      packages = c.in_ok-note_span.ensures.packages ∙ (c.in_ok-fresh.ensures.packages ∙ (λ i. table_more c.args.self.now.packages (whole i) c.args.visit.now.name.name.now c.next_entry-entry.result (as_stated i)));
      spans = c.in_ok-note_span.ensures.spans ∙ ap (λ (p : List (PackageName × Items)). c.args.self.now.spans ++ cond (nat_lt (length c.args.self.now.spans) (length p)) (c.args.visit.now.package.now.span ∷ []) []) (sym c.in_ok-note_span.ensures.packages);
      interfaces = c.in_ok-note_span.ensures.interfaces ∙ sym (append-nil c.args.self.now.interfaces);
      worlds = c.in_ok-note_span.ensures.worlds ∙ sym (append-nil c.args.self.now.worlds);
    }) are
