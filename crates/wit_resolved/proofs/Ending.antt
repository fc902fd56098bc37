-- In a backward arena an alias, and a handle, name an earlier type.
use Rattle.std.proofs.Common.{◌≡◌, ◌<◌, ◌≤◌, ◌+◌, ℕ, List, Some, ap, arith}
use Rattle.wit_arena.proofs.Common.{IsBackward, TypeDef, TypeDefKind, UnresolvedPackage, handled_of, length, option_and_then_some, places_to, rank, slice_get, slice_get_within, ∥∥₁_elim}
use Rattle.wit_walk.proofs.Common.{IsBelow}
use Rattle.wit_types.specs.InnerTypes.{place_of}
use Rattle.std.proofs.Props.{props}
use Rattle.wit_types.specs.declared.types.«Type».{«Type» as Ty}
use Rattle.wit_types.specs.declared.types.TypeDefKind.TheVariants as kind
use Rattle.wit_resolved.specs.AliasEnds.{aliased, aliased_at}
use Rattle.wit_resolved.specs.Valid.{IsValid}

ranked : (t : Ty) (n next : ℕ) → rank (Some t) ≤ n → place_of t ≡ Some next → next < n
ranked t n next low is = let high : rank (Some t) ≡ next + 1 = ap places_to is in omega (arith, high, low)

aliased_below : (n : ℕ) (d : TypeDefKind) (next : ℕ) → IsBelow n d → aliased d ≡ Some next → next < n
aliased_below n (kind.Type_ t) next below is = ranked t n next (below.0 0 (Some t) (omega arith)) is
aliased_below n (kind.Record r) next below is = absurd (let wrong : ⊥ = cc in wrong)
aliased_below n kind.Resource next below is = absurd (let wrong : ⊥ = cc in wrong)
aliased_below n (kind.Handle h) next below is = absurd (let wrong : ⊥ = cc in wrong)
aliased_below n (kind.Flags f) next below is = absurd (let wrong : ⊥ = cc in wrong)
aliased_below n (kind.Tuple t) next below is = absurd (let wrong : ⊥ = cc in wrong)
aliased_below n (kind.Variant v) next below is = absurd (let wrong : ⊥ = cc in wrong)
aliased_below n (kind.Enum e) next below is = absurd (let wrong : ⊥ = cc in wrong)
aliased_below n (kind.Option t) next below is = absurd (let wrong : ⊥ = cc in wrong)
aliased_below n (kind.Result r) next below is = absurd (let wrong : ⊥ = cc in wrong)
aliased_below n (kind.List t) next below is = absurd (let wrong : ⊥ = cc in wrong)
aliased_below n (kind.Map k v) next below is = absurd (let wrong : ⊥ = cc in wrong)
aliased_below n (kind.FixedLengthList t m) next below is = absurd (let wrong : ⊥ = cc in wrong)
aliased_below n (kind.Future t) next below is = absurd (let wrong : ⊥ = cc in wrong)
aliased_below n (kind.Stream t) next below is = absurd (let wrong : ⊥ = cc in wrong)
aliased_below n kind.Unknown next below is = absurd (let wrong : ⊥ = cc in wrong)

-- what the type at a place is an alias of is earlier
aliased_earlier : (types : List TypeDef) (place next : ℕ) → IsBackward types → aliased_at types place ≡ Some next → next < place
aliased_earlier types place next back is =
    option_and_then_some (λ (e : TypeDef). aliased e.kind) (slice_get types place) next is (λ e at to. aliased_below place e.kind next (back place e at) to)

pub alias_earlier : (p : UnresolvedPackage) (place next : ℕ) → ∥ IsValid p ∥₁ → aliased_at p.types place ≡ Some next → next < place
alias_earlier p place next valid is = ∥∥₁_elim valid (hlevel props) (λ v. aliased_earlier p.types place next v.backward is)

-- what a handle names is a type
handled_earlier : (types : List TypeDef) (place next : ℕ) (e : TypeDef) → IsBackward types → slice_get types place ≡ Some e → handled_of e.kind ≡ Some next → next < length types
handled_earlier types place next e back at is =
    let low : places_to (handled_of e.kind) ≤ place = (back place e at).1 in
    let high : places_to (handled_of e.kind) ≡ next + 1 = ap places_to is in
    let within = slice_get_within types place e at in
    omega (arith, low, high, within)

pub handle_within : (p : UnresolvedPackage) (place next : ℕ) (e : TypeDef) → ∥ IsValid p ∥₁ → slice_get p.types place ≡ Some e → handled_of e.kind ≡ Some next → next < length p.types
handle_within p place next e valid at is = ∥∥₁_elim valid (hlevel props) (λ v. handled_earlier p.types place next e v.backward at is)
