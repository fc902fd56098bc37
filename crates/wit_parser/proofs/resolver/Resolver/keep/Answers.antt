use Rattle.std.proofs.Common.{◌≡◌, sym, subst, ◌∙◌}
use Rattle.wit_items.proofs.Common.{headers, headers-append, last_header}
use Rattle.wit_items.specs.ItemPaths.{header_at}
use Rattle.wit_parser.proofs.LastHeader.{some_is, none_is, header_more, header_kept}
use Rattle.wit_parser.proofs.resolver.Resolver.keep.Goals as goal

pub invariant_of-self-then-has_header : goal.invariant_of-self-then-has_header
invariant_of-self-then-has_header c =
    let files = c.args.self.now.files.items in
    let own = some_is c.args.file.package_id (sym c.is_some-has_header.ensures ∙ c.if-has_header.true) in
    record {
      header = subst (λ place. header_at c.push.new.self.items place ≡ last_header c.push.new.self.items) (sym (c.len-place.ensures ∙ c.args.self.now.files.ok.0)) (rw c.in_ok-push.ensures.items (header_more files c.args.file own.0 own.1));
      docs = rw (c.in_ok-push.ensures.items, headers-append files c.args.file) (c.have_docs-documented.ensures (headers files) c.args.self.now.docs);
    }

pub invariant_of-self-else-has_header : goal.invariant_of-self-else-has_header
invariant_of-self-else-has_header c =
    let files = c.args.self.now.files.items in
    let own = none_is c.args.file.package_id (sym c.is_some-has_header.ensures ∙ c.if-has_header.false) in
    record {
      header = rw c.in_ok-push.ensures.items (header_kept files c.args.file c.args.self.now.last own c.args.self.now.header);
      docs = rw (c.in_ok-push.ensures.items, headers-append files c.args.file) (c.have_docs-documented.ensures (headers files) c.args.self.now.docs);
    }
