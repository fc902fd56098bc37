-- The first fault of what is on the sides of an item: functions, links and inline interfaces, each with E44 and E17 of its name.
use Rattle.std.specs.Prelude.{ℕ, if◌then◌else◌, Bool, true, false, List, [], ◌∷◌, ◌++◌, codes, length, Option, None}
use Rattle.std.specs.List.{filter, flat_map}
use Rattle.std.specs.Option.{option_or}
use Rattle.wit_tree.specs.declared.tree.PackageFile.{PackageFile}
use Rattle.wit_tree.specs.declared.tree.WorldSide.{WorldSide}
use Rattle.wit_syntax.specs.Fault.{Fault, fault_in}
use Rattle.wit_syntax.specs.Function.{Role, OnSide}
use Rattle.wit_syntax.specs.SignatureRules.{Called}
use Rattle.wit_syntax.specs.Sides.{SideItem, SideFunction, SideLink, SideInline, item_called, item_function, item_side, items_on, inline_item, is_interface, side_called}
use Rattle.wit_syntax.specs.Source.{Item, ScopeName, address, scope_names}
use Rattle.wit_first.specs.AttributeFaults.{external_fault}
use Rattle.wit_first.specs.First.{first_in, clash_of}
use Rattle.wit_walk.specs.Definitions.{handle_fault}
use Rattle.wit_walk.specs.Functions.{function_fault, signed_fault}
use Rattle.wit_walk.specs.Names.{folded_fault}
use Rattle.wit_walk.specs.Paths.{link_fault}
use Rattle.wit_syntax.specs.Words.{side_word}

-- what a world imports or exports, and no function of an interface or a resource
abbrev pub is_on_side : Role → Bool
is_on_side (OnSide side id form) = true
is_on_side role = false

abbrev pub is_extern : SideItem → Bool
is_extern (SideFunction fn) = is_on_side fn.role
is_extern x = true

-- what is imported or exported has the name of an earlier one
abbrev pub crossed : WorldSide → Called → Called → Fault
crossed side earlier later = fault_in 44 later.span (side_word side ++ (codes " `" ++ (later.name ++ (codes "` conflicts with prior " ++ (earlier.sort ++ codes " of same name")))))

-- of a name after these of its side: one of them is spelled alike, where it is that of an import or export, and then one has its folded key
abbrev pub called_fault : Bool → (Called → Called → Fault) → List Called → Called → Option Fault
called_fault extern as_crossed before c = option_or (if extern then clash_of (λ (d : Called). d.name) as_crossed before c else None) (folded_fault before c)

-- of what is on a side after these: of its name, where it has one
abbrev pub own_fault : List ScopeName → List SideItem → List ℕ → SideItem → Option Fault
own_fault xs there order x = first_in (called_fault (is_extern x) (crossed (item_side x)) (side_called (item_side x) xs there order)) (item_called x)

-- of an item of a side after these, without its name, where `inside` is the fault of an inline interface: that, and then its external id
abbrev pub item_fault : List PackageFile → ℕ → (Item → Option Fault) → Item → List SideItem → SideItem → Option Fault
item_fault files steps inside i before (SideFunction fn) = function_fault (signed_fault (scope_names i) (flat_map item_function before ++ fn ∷ []) (handle_fault files steps (address i))) (scope_names i) fn
item_fault files steps inside i before (SideLink link) = link_fault files i.top before link
item_fault files steps inside i before (SideInline x name items) = option_or (first_in inside (inline_item i (length (filter is_interface (items_on x.side before))) (SideInline x name items))) (external_fault x.attributes.items)

-- and then of its name, where the definitions of the item are resolved in this order
abbrev pub member_fault : List PackageFile → ℕ → (Item → Option Fault) → Item → List ℕ → List SideItem → SideItem → Option Fault
member_fault files steps inside i order before x = option_or (item_fault files steps inside i before x) (own_fault (scope_names i) (items_on (item_side x) before) order x)
