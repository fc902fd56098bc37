-- The integers that say cases and hold flags.
use Rattle.std.specs.Prelude.{ℕ, ◌+◌, ◌/◌, ◌==◌, nat_le, if◌then◌else◌}
use Rattle.wit_types.specs.declared.int.Int.{Int}
use Rattle.wit_types.specs.declared.int.Int.TheVariants as int
use Rattle.wit_types.specs.declared.int.FlagsRepr.{FlagsRepr}
use Rattle.wit_types.specs.declared.int.FlagsRepr.TheVariants as flags

-- the least integer that distinguishes n cases
abbrev pub int_of_cases : ℕ → Int
int_of_cases n = if nat_le n 256 then int.U8 else (if nat_le n 65536 then int.U16 else int.U32)

-- the least number of integers of 32 bits that hold n flags
abbrev pub words_of_flags : ℕ → ℕ
words_of_flags n = (n + 31) / 32

-- the integers that hold n flags
abbrev pub repr_of_flags : ℕ → FlagsRepr
repr_of_flags n = if n == 0 then flags.U32 0 else (if nat_le n 8 then flags.U8 else (if nat_le n 16 then flags.U16 else flags.U32 (words_of_flags n)))

-- how many integers there are
abbrev pub count_of : FlagsRepr → ℕ
count_of flags.U8 = 1
count_of flags.U16 = 1
count_of (flags.U32 n) = n
