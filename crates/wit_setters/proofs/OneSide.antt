-- A side of a world: its keys and the names of its functions.
use Rattle.std.proofs.Common.{◌≡◌, true, List, Option, Some, inl, inr, ap, ◌∙◌, subst, arith}
use Rattle.wit_syntax.proofs.Common.{AllDiffer, cases_Bool, map, name_equal}
use Rattle.wit_maps.specs.Indexed.{AreApart}
use Rattle.wit_functions.specs.declared.function.Function.{Function}
use Rattle.wit_model.specs.declared.world.WorldItem.{WorldItem}
use Rattle.wit_model.specs.declared.world.WorldKey.{WorldKey}
use Rattle.wit_model.specs.declared.world.WorldKey.TheVariants as key
use Rattle.wit_model.specs.contracts.world.WorldKeyPartialEq.TheImpl.{eq-value as key_test}
use Rattle.wit_functions.specs.SettersPlaced.{pairs, placed}
use Rattle.wit_model.specs.ItemsOfWorlds.{function_of}
use Rattle.wit_functions.proofs.Pairs.{in_turn-placed}
use Rattle.wit_functions.specs.MaybeFunction.{HaveOwnNames}
use Rattle.wit_setters.proofs.Keys.{in_turn_differ}
use Rattle.wit_setters.proofs.OwnNames.{AtNames, own_names}

abbrev pub Entry : Type 0
Entry = WorldKey × WorldItem

abbrev pub key_of : Entry → WorldKey
key_of e = e.0

abbrev pub item_function : Entry → Option Function
item_function e = function_of e.1

-- no two functions of a side have one name
pub own_on_side : (side : List Entry) → AllDiffer (map key_of side) → AtNames item_function key_of key.Name side → HaveOwnNames item_function side
own_on_side side differ named = own_names item_function key_of key.Name side differ named

-- once setters are placed, keys still differ
pub placed_differ : (side : List Entry) → AllDiffer (map key_of side) → AtNames item_function key_of key.Name side → AllDiffer (map key_of (placed function_of side))
placed_differ side differ named = subst (λ (es : List Entry). AllDiffer (map key_of es)) (in_turn-placed function_of side (own_on_side side differ named)) (in_turn_differ key_of (pairs function_of) side differ)

key_same : (a b : WorldKey) → key_test.it a b ≡ true → a ≡ b
key_same (key.Name a) (key.Name b) h = ap key.Name (name_equal a b h)
key_same (key.Name a) (key.Interface j) h = cc
key_same (key.Interface i) (key.Name b) h = cc
key_same (key.Interface i) (key.Interface j) h = ap key.Interface (grind (arith, h))

-- where keys differ, no two are equal
pub apart_keys : (ks : List WorldKey) → AllDiffer ks → AreApart key_test.it ks
apart_keys ks differ i j k l before at_i at_j = elim (cases_Bool (key_test.it k l)) [
  | inl same ↦ let one : i ≡ j = differ.differ i j l (at_i ∙ ap Some (key_same k l same)) at_j in absurd (omega (arith, before, one))
  | inr apart ↦ apart
]
