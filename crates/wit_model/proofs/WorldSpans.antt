-- What fits of a world's spans fits of its own, its imports', its exports' and its includes', and the other way round.
use Rattle.std.proofs.Common.{ℕ, Bool, true, false, ◌++◌}
use Rattle.std.specs.Bool.{MatchBool}
use Rattle.std.specs.List.{flat_map}
use Rattle.std.specs.Map.{values_of}
use Rattle.wit_types.proofs.Moving.{AllFit-append, AllFit-parts}
use Rattle.wit_types.specs.Spans.{AllFit, Fits}
use Rattle.wit_model.specs.Spans.{include_spans, item_spans, world_spans}
use Rattle.wit_model.specs.declared.world.World.{World}

pub record PartsFit (o : ℕ) (w : World) : Type 0 where
  pub own : Fits o w.span
  pub imports : AllFit o (flat_map item_spans (values_of w.imports))
  pub exports : AllFit o (flat_map item_spans (values_of w.exports))
  pub includes : AllFit o (flat_map include_spans w.includes)

pub PartsFit-from : (o : ℕ) (w : World) → AllFit o (world_spans w) → PartsFit o w
PartsFit-from o w h =
    let imports = flat_map item_spans (values_of w.imports) in
    let exports = flat_map item_spans (values_of w.exports) in
    let outer = AllFit-parts o (imports ++ exports) (flat_map include_spans w.includes) h.1 in
    let inner = AllFit-parts o imports exports outer.0 in
    record { own = h.0; imports = inner.0; exports = inner.1; includes = outer.1 }

pub PartsFit-whole : (o : ℕ) (w : World) → PartsFit o w → AllFit o (world_spans w)
PartsFit-whole o w p =
    let imports = flat_map item_spans (values_of w.imports) in
    let exports = flat_map item_spans (values_of w.exports) in
    (p.own, AllFit-append o (imports ++ exports) (flat_map include_spans w.includes) (AllFit-append o imports exports p.imports p.exports) p.includes)

-- a test of the last part is one of the whole, where the others fit
pub gives_whole : {P Q : Type 0} (b : Bool) → (P → Q) → (Q → P) → MatchBool b P (P → ⊥) → MatchBool b Q (Q → ⊥)
gives_whole true f g m = f m
gives_whole false f g m = λ q. m (g q)
