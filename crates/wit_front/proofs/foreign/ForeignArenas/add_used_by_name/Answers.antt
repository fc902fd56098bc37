use Rattle.std.proofs.Common.{◌≡◌, [], ◌∷◌, ap, ◌∙◌, subst}
use Rattle.wit_items.proofs.Common.{Borrowed as ScopeName, ForeignNamed, IsNamePlaced, IsPlaced, Source, Used, append-nil, name_view, on_ok_weaker, package_of, source_view, use_of_foreign}
use Rattle.wit_front.specs.ForeignPrefix.{addresses_among, name_foreign_uses}
use Rattle.wit_front.proofs.foreign.ForeignArenas.add_used_by_name.Goals as goal

pub returns-in-Foreign : goal.returns-in-Foreign
returns-in-Foreign c =
    let u = c.in-Used.used in
    let s = ForeignNamed (package_of c.in-Foreign.«package».now) c.in-Foreign.name.name.now in
    let names : name_foreign_uses (name_view c.args.name.now) ≡ use_of_foreign s u.attributes.now u.name.now ∷ [] = ap (λ (x : ScopeName). name_foreign_uses (name_view x)) c.in-Used.is ∙ ap (λ (f : Source). name_foreign_uses (Used (source_view f) u.attributes.now u.name.now)) c.in-Foreign.is in
    on_ok_weaker c.add_used_type.result (λ adds vs ts apart placed before. (
    let from : IsPlaced (addresses_among vs) u.from = subst (IsNamePlaced (addresses_among vs)) c.in-Used.is placed in
    let place = subst (IsPlaced (addresses_among vs)) c.in-Foreign.is from in
    rw names (adds s vs ts apart place before))) c.add_used_type.ensures

pub returns-in-Declared : goal.returns-in-Declared
returns-in-Declared c = λ vs ts apart placed before.
    let u = c.in-Used.used in
    let names : name_foreign_uses (name_view c.args.name.now) ≡ [] = ap (λ (x : ScopeName). name_foreign_uses (name_view x)) c.in-Used.is ∙ ap (λ (f : Source). name_foreign_uses (Used (source_view f) u.attributes.now u.name.now)) c.in-Declared.is in
    rw (names, append-nil ts) before

pub returns-in-Defined : goal.returns-in-Defined
returns-in-Defined c = λ vs ts apart placed before.
    let names : name_foreign_uses (name_view c.args.name.now) ≡ [] = ap (λ (x : ScopeName). name_foreign_uses (name_view x)) c.in-Defined.is in
    rw (names, append-nil ts) before
