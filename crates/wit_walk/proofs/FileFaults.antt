-- What the first fault of the names of files breaks, and that of the uses of their items.
use Rattle.std.proofs.Common.{◌≡◌, ℕ, zero, suc, Bool, true, false, List, Option, Some, None, inl, inr, refl, ap, ◌∙◌, Contains}
use Rattle.wit_syntax.proofs.Common.{DefinitionPart, ExternPart, Fault, FunctionPart, IncludePart, IsBroken, IsBrokenUse, Item, MissingUse, PackageFile, Part, Use as WrittenUse, UseMetadata, UsePart, UsePath, WorldUsed, all_items, all_uses, all_uses_among, at_contains, at_prefix, contains_at, extern_paths, flat_map, flat_map_at, flat_map_has, inline_uses, is_world_at, leads, map, option_map, part_uses, parts, path_id, slice_get, slice_get-map, use_path, use_paths, uses, world_there}
use Rattle.wit_syntax.specs.Broken.{Use}
use Rattle.wit_first.specs.AttributeFaults.{metadata_fault}
use Rattle.wit_first.specs.FileFaults.{lost_fault}
use Rattle.wit_first.specs.UseFaults.{all_uses_fault, item_uses_fault, path_fault, reached_fault, use_fault}
use Rattle.wit_first.proofs.Bridge.{in_some, metadata_agree, or_some}
use Rattle.wit_first.proofs.FileFaults.{lost_agrees}

-- where a path of an item leads
pub path_broken : (files : List PackageFile) (i : Item) (from : UsePath) (f : Fault) → Contains (use_paths i) from → path_fault files i.top from None ≡ Some f → IsBrokenUse files i f
path_broken files i from f among h = by (is_world_at files (leads i.top from)) refl h
  where
    by : (o : Option Bool) → is_world_at files (leads i.top from) ≡ o → reached_fault o (path_id from) (lost_fault (all_items files) (leads i.top from)) None ≡ Some f → IsBrokenUse files i f
    by None is h = (let lost = (lost_agrees (all_items files) (leads i.top from)).broken f h in MissingUse from lost.id among lost.local lost.missing lost.is)
    by (Some true) is h = (let same : Some (world_there (path_id from)) ≡ Some f = h in WorldUsed from among is (let says : f ≡ world_there (path_id from) = cc in says))
    by (Some false) is h = absurd (let g : ⊥ = cc in g)

-- the path of a `use` is one of its item
path_of : (p : Part) (j : ℕ) (u : WrittenUse) → slice_get (part_uses p) j ≡ Some u → slice_get (use_path p) j ≡ Some u.from
path_of (DefinitionPart d) j u at = absurd (let f : ⊥ = cc in f)
path_of (UsePart v) zero u at = (let same : v ≡ u = cc in ap (λ (x : WrittenUse). Some x.from) same)
path_of (UsePart v) (suc j) u at = absurd (let f : ⊥ = cc in f)
path_of (IncludePart n) j u at = absurd (let f : ⊥ = cc in f)
path_of (FunctionPart g) j u at = absurd (let f : ⊥ = cc in f)
path_of (ExternPart x) j u at =
    let from : WrittenUse → UsePath = λ v. v.from in
    at_prefix (map from (inline_uses x.kind)) (extern_paths x.kind) j u.from (slice_get-map from (inline_uses x.kind) j ∙ ap (option_map from) at)

path_of_use : (ps : List Part) (u : WrittenUse) → Contains (flat_map part_uses ps) u → Contains (flat_map use_path ps) u.from
path_of_use ps u among =
    let k = at_contains (flat_map part_uses ps) u among in
    let p = flat_map_at part_uses ps k.0 u k.1 in
    let it = flat_map_has use_path ps p.0 p.3.0 p.1 u.from p.2 (path_of p.1 p.3.0 u p.3.1) in
    contains_at (flat_map use_path ps) it.0 u.from it.1

-- the uses of items
pub uses_broken : (files : List PackageFile) (f : Fault) → all_uses_fault files ≡ Some f → IsBroken files f
uses_broken files f h =
    let own = in_some (item_uses_fault files) (all_items files) f h in
    let i = own.1 in
    let all = all_uses i in
    let it = in_some (use_fault files i.top) all f own.3 in
    let u = it.1 in
    let here = contains_at (all_items files) own.0 i own.2 in
    let among : Contains (uses i) u = all_uses_among i u (contains_at all it.0 u it.2) in
    elim (or_some (metadata_fault u.attributes.items) (path_fault files i.top u.from None) f it.3) [
      | inl noted ↦ UseMetadata i here u among ((metadata_agree u.attributes.items).broken f noted)
      | inr far ↦ Use i here (path_broken files i u.from f (path_of_use (parts i) u among) far.1)
    ]
