-- The worlds of a package in its listing: a line for each, and for each import, export and include.
use Rattle.std.specs.Prelude.{ℕ, ◌==◌, Bool, true, false, List, [], ◌∷◌, ◌++◌, Option, Some, None, codes, length, slice_get, if◌then◌else◌}
use Rattle.std.specs.List.{flat_map}
use Rattle.std.specs.Fmt.{decimal}
use Rattle.wit_types.specs.declared.stability.Stability.{Stability}
use Rattle.wit_types.specs.declared.stability.Stability.TheVariants.{Unknown, Unstable, Stable}
use Rattle.wit_model.specs.declared.interface.Interface.{Interface}
use Rattle.wit_model.specs.declared.world.World.{World}
use Rattle.wit_model.specs.declared.world.WorldInclude.{WorldInclude}
use Rattle.wit_model.specs.declared.world.IncludeName.{IncludeName}
use Rattle.wit_model.specs.declared.world.WorldKey.{WorldKey}
use Rattle.wit_model.specs.declared.world.WorldKey.TheVariants as key
use Rattle.wit_model.specs.declared.world.WorldItem.{WorldItem}
use Rattle.wit_model.specs.declared.world.WorldItem.TheVariants as item
use Rattle.wit_listing.specs.Lists.{numbered}
use Rattle.wit_listing.specs.ListingTexts.{stability_text}
use Rattle.wit_listing.specs.Functions.{signature_text}

-- what an import or export is found by
abbrev pub key_text : WorldKey → List ℕ
key_text (key.Name name) = name
key_text (key.Interface i) = codes "interface-" ++ decimal i

abbrev pub is_known : Stability → Bool
is_known Unknown = false
is_known (Unstable feature deprecated) = true
is_known (Stable since deprecated) = true

-- no name and a known stability: so is an interface that is written in a world
abbrev pub is_own : Option (List ℕ) → Stability → Bool
is_own (Some name) s = false
is_own None s = is_known s

abbrev pub has_own_line : Interface → Bool
has_own_line i = is_own i.name i.stability

abbrev pub is_such : Option Interface → Bool
is_such None = false
is_such (Some i) = has_own_line i

-- an import or export by a name whose interface has a line that says its stability
abbrev pub is_inline : List Interface → WorldKey → ℕ → Bool
is_inline interfaces (key.Interface i) id = false
is_inline interfaces (key.Name name) id = is_such (slice_get interfaces id)

-- what is imported or exported
abbrev pub extern_text : List Interface → WorldKey → WorldItem → List ℕ
extern_text interfaces k (item.Interface id stability external_id docs span) =
    codes "interface i" ++ (decimal id ++ (if is_inline interfaces k id then [] else stability_text stability))
extern_text interfaces k (item.Function f) = signature_text f ++ stability_text f.stability
extern_text interfaces k (item.Type_ id span) = codes "type #" ++ decimal id

-- the line of an import or export
abbrev pub extern_line : List ℕ → List Interface → WorldKey × WorldItem → List ℕ
extern_line side interfaces p = side ++ (key_text p.0 ++ (codes " = " ++ (extern_text interfaces p.0 p.1 ++ (10 ∷ []))))

-- a renaming, with a comma before it unless it is the first
abbrev pub rename_text : ℕ → IncludeName → List ℕ
rename_text place r = (if place == 0 then [] else codes ",") ++ (32 ∷ (r.name ++ (codes " as " ++ r.as_)))

-- the place of an included world
abbrev pub included_text : ℕ → List ℕ
included_text place = codes "  include w" ++ decimal place

-- the line of an included world
abbrev pub include_line : WorldInclude → List ℕ
include_line i = included_text i.id ++ (numbered rename_text 0 i.names ++ (10 ∷ []))

-- a world's name, or `-` where it is empty
abbrev pub world_name : List ℕ → List ℕ
world_name name = if length name == 0 then codes "-" else name

-- the line of a world
abbrev pub world_line : ℕ → World → List ℕ
world_line place w = 119 ∷ (decimal place ++ (32 ∷ (world_name w.name ++ (stability_text w.stability ++ (10 ∷ [])))))

-- the line of a world, and those of what it imports, exports and includes
abbrev pub world_lines : List Interface → ℕ → World → List ℕ
world_lines interfaces place w =
    world_line place w ++ (flat_map (extern_line (codes "  import ") interfaces) w.imports ++ (flat_map (extern_line (codes "  export ") interfaces) w.exports ++ flat_map include_line w.includes))
