-- What fits of a package's spans fits of each of its parts', and the other way round.
use Rattle.std.proofs.Common.{◌≡◌, ℕ, ◌++◌, List, [], ◌∷◌, ap, refl, subst, sym}
use Rattle.std.specs.List.{flat_map}
use Rattle.wit_types.proofs.Moving.{AllFit-append, AllFit-parts}
use Rattle.wit_types.specs.Spans.{AllFit, Fits, required_spans, type_spans}
use Rattle.wit_values.specs.declared.span.Span.{Span}
use Rattle.wit_model.specs.Spans.{interface_spans, package_spans, world_spans}
use Rattle.wit_model.specs.declared.unresolved.UnresolvedPackage.{UnresolvedPackage}

-- a span's own
abbrev pub itself : Span → List Span
itself s = s ∷ []

flat_map-itself : (xs : List Span) → flat_map itself xs ≡ xs
flat_map-itself [] = refl
flat_map-itself (x ∷ xs) = ap (λ l. x ∷ l) (flat_map-itself xs)

each_fits : (o : ℕ) (xs : List Span) → AllFit o xs → AllFit o (flat_map itself xs)
each_fits o xs fits = subst (λ l. AllFit o l) (sym (flat_map-itself xs)) fits

all_fit : (o : ℕ) (xs : List Span) → AllFit o (flat_map itself xs) → AllFit o xs
all_fit o xs each = subst (λ l. AllFit o l) (flat_map-itself xs) each

pub record PackageFits (o : ℕ) (p : UnresolvedPackage) : Type 0 where
  pub own : Fits o p.name_span
  pub unknown : AllFit o (flat_map itself p.unknown_type_spans)
  pub foreign : AllFit o (flat_map itself p.foreign_dep_spans)
  pub required : AllFit o (flat_map required_spans p.required_resource_types)
  pub worlds : AllFit o (flat_map world_spans p.worlds)
  pub interfaces : AllFit o (flat_map interface_spans p.interfaces)
  pub types : AllFit o (flat_map type_spans p.types)

pub PackageFits-from : (o : ℕ) (p : UnresolvedPackage) → AllFit o (package_spans p) → PackageFits o p
PackageFits-from o p h =
    let named = p.unknown_type_spans ++ p.foreign_dep_spans in
    let written = named ++ flat_map required_spans p.required_resource_types in
    let to_worlds = written ++ flat_map world_spans p.worlds in
    let to_interfaces = to_worlds ++ flat_map interface_spans p.interfaces in
    let whole = AllFit-parts o to_interfaces (flat_map type_spans p.types) h.1 in
    let prefix = AllFit-parts o to_worlds (flat_map interface_spans p.interfaces) whole.0 in
    let outer = AllFit-parts o written (flat_map world_spans p.worlds) prefix.0 in
    let inner = AllFit-parts o named (flat_map required_spans p.required_resource_types) outer.0 in
    let names = AllFit-parts o p.unknown_type_spans p.foreign_dep_spans inner.0 in
    record { own = h.0; unknown = each_fits o p.unknown_type_spans names.0; foreign = each_fits o p.foreign_dep_spans names.1; required = inner.1; worlds = outer.1; interfaces = prefix.1; types = whole.1 }

pub PackageFits-whole : (o : ℕ) (p : UnresolvedPackage) → PackageFits o p → AllFit o (package_spans p)
PackageFits-whole o p fits =
    let named = p.unknown_type_spans ++ p.foreign_dep_spans in
    let written = named ++ flat_map required_spans p.required_resource_types in
    let to_worlds = written ++ flat_map world_spans p.worlds in
    let to_interfaces = to_worlds ++ flat_map interface_spans p.interfaces in
    let names = AllFit-append o p.unknown_type_spans p.foreign_dep_spans (all_fit o p.unknown_type_spans fits.unknown) (all_fit o p.foreign_dep_spans fits.foreign) in
    let inner = AllFit-append o named (flat_map required_spans p.required_resource_types) names fits.required in
    let outer = AllFit-append o written (flat_map world_spans p.worlds) inner fits.worlds in
    let prefix = AllFit-append o to_worlds (flat_map interface_spans p.interfaces) outer fits.interfaces in
    (fits.own, AllFit-append o to_interfaces (flat_map type_spans p.types) prefix fits.types)
