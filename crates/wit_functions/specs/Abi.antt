-- Spellings of names, and how functions are called.
use Rattle.std.specs.Prelude.{ℕ, Bool, true, false, List, ◌++◌, if◌then◌else◌, Option, Some, None, codes, nat_eq}
use Rattle.std.specs.Cmp.Lexicographic.{pointwise}
use Rattle.wit_functions.specs.FunctionKinds.{is_async}
use Rattle.wit_functions.specs.declared.abi.AbiVariant.{AbiVariant}
use Rattle.wit_functions.specs.declared.abi.AbiVariant.TheVariants as variant
use Rattle.wit_functions.specs.declared.abi.LiftLowerAbi.{LiftLowerAbi}
use Rattle.wit_functions.specs.declared.abi.LiftLowerAbi.TheVariants as abi
use Rattle.wit_functions.specs.declared.abi.Mangling.{Mangling}
use Rattle.wit_functions.specs.declared.abi.Mangling.TheVariants as mangling
use Rattle.wit_functions.specs.declared.abi.ManglingAndAbi.{ManglingAndAbi}
use Rattle.wit_functions.specs.declared.abi.ManglingAndAbi.TheVariants as choice
use Rattle.wit_functions.specs.declared.function.FunctionKind.{FunctionKind}

-- the spelling of this name
abbrev pub mangling_named : List ℕ → Option Mangling
mangling_named name =
    if pointwise nat_eq name (codes "legacy") then Some mangling.Legacy
    else (if pointwise nat_eq name (codes "standard32") then Some mangling.Standard32 else None)

-- what is said of a name that no spelling has
abbrev pub fault_text : List ℕ → List ℕ
fault_text name = codes "unknown name mangling `" ++ (name ++ codes "`, supported values are `legacy` or `standard32`")

-- how an imported function is called
abbrev pub import_of : LiftLowerAbi → AbiVariant
import_of abi.Sync = variant.GuestImport
import_of abi.AsyncCallback = variant.GuestImportAsync
import_of abi.AsyncStackful = variant.GuestImportAsync

-- how an exported function is called
abbrev pub export_of : LiftLowerAbi → AbiVariant
export_of abi.Sync = variant.GuestExport
export_of abi.AsyncCallback = variant.GuestExportAsync
export_of abi.AsyncStackful = variant.GuestExportAsyncStackful

-- the way of calling that a choice fixes
abbrev pub abi_of : ManglingAndAbi → LiftLowerAbi
abi_of choice.Standard32 = abi.Sync
abi_of (choice.Legacy a) = a

-- a way of calling that may wait
abbrev pub waits : LiftLowerAbi → Bool
waits abi.Sync = false
waits abi.AsyncCallback = true
waits abi.AsyncStackful = true

-- the same spelling, with calls that do not wait
abbrev pub in_sync : ManglingAndAbi → ManglingAndAbi
in_sync choice.Standard32 = choice.Standard32
in_sync (choice.Legacy a) = choice.Legacy abi.Sync

-- how the names are spelled
abbrev pub mangling_of : ManglingAndAbi → Mangling
mangling_of choice.Standard32 = mangling.Standard32
mangling_of (choice.Legacy a) = mangling.Legacy

-- the choice for a function of a kind: calls of a function that is not asynchronous never wait
abbrev pub choice_for : ManglingAndAbi → FunctionKind → ManglingAndAbi
choice_for c k = if is_async k then c else in_sync c
