-- A track's text, read back: the numbers up to each dot, and the pre-release after the dash.
use Rattle.std.proofs.Common.{◌≡◌, ℕ, ◌<◌, ◌≤◌, ◌==◌, ◌++◌, ◌^◌, Bool, true, false, if◌then◌else◌, List, [], ◌∷◌, refl, ap, arith}
use Rattle.std.specs.Char.{digit_value}
use Rattle.std.specs.Fmt.{decimal}
use Rattle.std.specs.Str.Parse.{AllDigits, digits_value}
use Rattle.std.proofs.lemmas.Bool.{ne_eqb}
use Rattle.std.proofs.lemmas.Bool.Decides.{nat_tests}
use Rattle.std.proofs.lemmas.Fmt.{decimal_is_IsNumeral}
use Rattle.wit_names.specs.Track.{Parts, is_release, track_parts, track_text}

-- the text before the first such byte, or all of it
abbrev pub until : ℕ → List ℕ → List ℕ
until mark [] = []
until mark (b ∷ rest) = if b == mark then [] else b ∷ until mark rest

-- the text after the first such byte
abbrev pub past : ℕ → List ℕ → List ℕ
past mark [] = []
past mark (b ∷ rest) = if b == mark then rest else past mark rest

-- the parts that a track's text says
abbrev pub reading : List ℕ → Parts
reading t = (digits_value 10 (until 46 t), digits_value 10 (until 46 (past 46 t)), digits_value 10 (until 45 (past 46 (past 46 t))), past 45 (past 46 (past 46 t)), [])

-- a number is itself, compared
eqb-refl : (n : ℕ) → (n == n) ≡ true
eqb-refl n = grind (arith, nat_tests)

-- a digit is no such byte
other : (mark b : ℕ) → 10 ≤ digit_value mark → digit_value b < 10 → (b == mark) ≡ false
other mark b high low = ne_eqb b mark (λ e. let same : digit_value b ≡ digit_value mark = ap digit_value e in absurd (omega arith))

until-digits : (mark : ℕ) (ds rest : List ℕ) → 10 ≤ digit_value mark → AllDigits 10 ds → until mark (ds ++ (mark ∷ rest)) ≡ ds
until-digits mark [] rest high d = rw (eqb-refl mark) refl
until-digits mark (b ∷ ds) rest high d = rw (other mark b high d.0) (ap (λ (t : List ℕ). b ∷ t) (until-digits mark ds rest high d.1))

past-digits : (mark : ℕ) (ds rest : List ℕ) → 10 ≤ digit_value mark → AllDigits 10 ds → past mark (ds ++ (mark ∷ rest)) ≡ rest
past-digits mark [] rest high d = rw (eqb-refl mark) refl
past-digits mark (b ∷ ds) rest high d = rw (other mark b high d.0) (past-digits mark ds rest high d.1)

until-all_digits : (mark : ℕ) (ds : List ℕ) → 10 ≤ digit_value mark → AllDigits 10 ds → until mark ds ≡ ds
until-all_digits mark [] high d = refl
until-all_digits mark (b ∷ ds) high d = rw (other mark b high d.0) (ap (λ (t : List ℕ). b ∷ t) (until-all_digits mark ds high d.1))

past-all_digits : (mark : ℕ) (ds : List ℕ) → 10 ≤ digit_value mark → AllDigits 10 ds → past mark ds ≡ []
past-all_digits mark [] high d = refl
past-all_digits mark (b ∷ ds) high d = rw (other mark b high d.0) (past-all_digits mark ds high d.1)

-- the numbers fit the fields of a version
pub record FitsFields (p : Parts) : Type 0 where
  pub major : p.0 < 2 ^ 64
  pub minor : p.1 < 2 ^ 64
  pub patch : p.2 < 2 ^ 64

-- the digits of a number, and their value
decimal_digits : (n : ℕ) → n < 2 ^ 64 → AllDigits 10 (decimal n)
decimal_digits n h = (decimal_is_IsNumeral n h).0.1

decimal_value : (n : ℕ) → n < 2 ^ 64 → digits_value 10 (decimal n) ≡ n
decimal_value n h = (decimal_is_IsNumeral n h).1

-- what is read of `M`, `M.N`, `M.N.P` and `M.N.P-` with a pre-release
reading-one : (m : ℕ) → m < 2 ^ 64 → reading (decimal m) ≡ (m, 0, 0, [], [])
reading-one m hm =
    let prefix = until-all_digits 46 (decimal m) (omega arith) (decimal_digits m hm) in
    let rest = past-all_digits 46 (decimal m) (omega arith) (decimal_digits m hm) in
    simp (prefix, rest, decimal_value m hm)

reading-two : (m n : ℕ) → m < 2 ^ 64 → n < 2 ^ 64 → reading (decimal m ++ (46 ∷ decimal n)) ≡ (m, n, 0, [], [])
reading-two m n hm hn =
    let prefix = until-digits 46 (decimal m) (decimal n) (omega arith) (decimal_digits m hm) in
    let rest = past-digits 46 (decimal m) (decimal n) (omega arith) (decimal_digits m hm) in
    let second = until-all_digits 46 (decimal n) (omega arith) (decimal_digits n hn) in
    let last = past-all_digits 46 (decimal n) (omega arith) (decimal_digits n hn) in
    simp (prefix, rest, second, last, decimal_value m hm, decimal_value n hn)

reading-three : (m n k : ℕ) → m < 2 ^ 64 → n < 2 ^ 64 → k < 2 ^ 64 → reading (decimal m ++ (46 ∷ (decimal n ++ (46 ∷ decimal k)))) ≡ (m, n, k, [], [])
reading-three m n k hm hn hk =
    let tail : List ℕ = decimal n ++ (46 ∷ decimal k) in
    let prefix = until-digits 46 (decimal m) tail (omega arith) (decimal_digits m hm) in
    let rest = past-digits 46 (decimal m) tail (omega arith) (decimal_digits m hm) in
    let second = until-digits 46 (decimal n) (decimal k) (omega arith) (decimal_digits n hn) in
    let more = past-digits 46 (decimal n) (decimal k) (omega arith) (decimal_digits n hn) in
    let third = until-all_digits 45 (decimal k) (omega arith) (decimal_digits k hk) in
    let last = past-all_digits 45 (decimal k) (omega arith) (decimal_digits k hk) in
    simp (prefix, rest, second, more, third, last, decimal_value m hm, decimal_value n hn, decimal_value k hk)

reading-pre : (m n k : ℕ) (pre : List ℕ) → m < 2 ^ 64 → n < 2 ^ 64 → k < 2 ^ 64 → reading (decimal m ++ (46 ∷ (decimal n ++ (46 ∷ (decimal k ++ (45 ∷ pre)))))) ≡ (m, n, k, pre, [])
reading-pre m n k pre hm hn hk =
    let third_on : List ℕ = decimal k ++ (45 ∷ pre) in
    let second_on : List ℕ = decimal n ++ (46 ∷ third_on) in
    let prefix = until-digits 46 (decimal m) second_on (omega arith) (decimal_digits m hm) in
    let rest = past-digits 46 (decimal m) second_on (omega arith) (decimal_digits m hm) in
    let second = until-digits 46 (decimal n) third_on (omega arith) (decimal_digits n hn) in
    let more = past-digits 46 (decimal n) third_on (omega arith) (decimal_digits n hn) in
    let third = until-digits 45 (decimal k) pre (omega arith) (decimal_digits k hk) in
    let last = past-digits 45 (decimal k) pre (omega arith) (decimal_digits k hk) in
    simp (prefix, rest, second, more, third, last, decimal_value m hm, decimal_value n hn, decimal_value k hk)

-- a track's text gives the parts of the track version
pub reading-track_text : (p : Parts) → FitsFields p → reading (track_text p) ≡ track_parts p
reading-track_text p h = by (is_release p) (p.0 == 0) (p.1 == 0) refl refl refl where
  by : (r a b : Bool) → is_release p ≡ r → (p.0 == 0) ≡ a → (p.1 == 0) ≡ b → reading (track_text p) ≡ track_parts p
  by true true true e f g = simp (e, f, g) (reading-three p.0 p.1 p.2 h.major h.minor h.patch)
  by true true false e f g = simp (e, f, g) (reading-two p.0 p.1 h.major h.minor)
  by true false b e f g = simp (e, f, g) (reading-one p.0 h.major)
  by false a b e f g = simp (e, f, g) (reading-pre p.0 p.1 p.2 p.3 h.major h.minor h.patch)
