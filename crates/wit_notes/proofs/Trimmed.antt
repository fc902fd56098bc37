-- A text that ends with a sign of ASCII has no white space at its end.
use Rattle.std.proofs.Common.{◌≡◌, ℕ, ◌+◌, ◌-◌, ◌<◌, ◌==◌, ◌&&◌, true, false, Bool, List, [], ◌∷◌, ◌++◌, length, lit<, nat_lt, take, slice_index, refl, sym, ap, ◌∙◌, arith, if◌then◌else◌}
use Rattle.wit_syntax.proofs.Common.{IsCharBoundary, IsCharBoundary-before_ascii, IsUtf8, IsUtf8-take, chars-append, drop_trailing_whitespace, encode_utf8_all, encodes-chars, is_ascii_graphic, is_whitespace, length-append, ne_eqb, take_all, take_more}
use Rattle.std.specs.Str.{chars, trim_end}

-- a sign is no white space, and one byte
sign-high : (b : ℕ) → is_ascii_graphic b ≡ true → 32 < b
sign-high b h = grind arith

sign-byte : (b : ℕ) → is_ascii_graphic b ≡ true → b < 128
sign-byte b h = grind arith

other : (b c : ℕ) → b < 128 → 127 < c → (b == c) ≡ false
other b c low high = ne_eqb b c (λ e. (let f : ⊥ = omega arith in f))

sign-kept : (b : ℕ) → is_ascii_graphic b ≡ true → is_whitespace b ≡ false
sign-kept b h =
    let high : 32 < b = sign-high b h in
    let low : b < 128 = sign-byte b h in
    let space : (b == 32) ≡ false = ne_eqb b 32 (λ e. (let f : ⊥ = omega arith in f)) in
    let control : nat_lt b 14 ≡ false = grind arith in
    let low_end : nat_lt 8 b ≡ true = grind arith in
    let wide : nat_lt 8191 b ≡ false = grind arith in
    rw (space, low_end, control, wide, other b 133 low (lit< tt), other b 160 low (lit< tt), other b 5760 low (lit< tt), other b 8232 low (lit< tt), other b 8233 low (lit< tt), other b 8239 low (lit< tt), other b 8287 low (lit< tt), other b 12288 low (lit< tt)) refl

end-kept : (cs : List ℕ) (b : ℕ) → is_whitespace b ≡ false → drop_trailing_whitespace (cs ++ b ∷ []) ≡ cs ++ b ∷ []
end-kept [] b h = rw h refl
end-kept (c ∷ cs) b h = by (is_whitespace c) (drop_trailing_whitespace (cs ++ b ∷ [])) (end-kept cs b h)
  where
    by : (w : Bool) (l : List ℕ) → l ≡ cs ++ b ∷ [] → (if w && length l == 0 then [] else c ∷ l) ≡ c ∷ (cs ++ b ∷ [])
    by false l e = ap (λ k. c ∷ k) e
    by true l e =
        let long : (length l == 0) ≡ false = ne_eqb (length l) 0 (λ z. (let n = ap length e ∙ length-append cs (b ∷ []) in let f : ⊥ = omega arith in f)) in
        rw long (ap (λ k. c ∷ k) e)

chars-sign : (b : ℕ) → b < 128 → chars (b ∷ []) ≡ b ∷ []
unfolding chars
chars-sign b h = let one : nat_lt b 128 ≡ true = grind arith in rw one refl

chars-kept : (s prefix : List ℕ) (b : ℕ) → IsUtf8 s → IsUtf8 prefix → s ≡ prefix ++ b ∷ [] → is_ascii_graphic b ≡ true → s ≡ trim_end s
unfolding trim_end
chars-kept s prefix b u v at h =
    let parts : chars s ≡ chars prefix ++ b ∷ [] = ap chars at ∙ chars-append prefix (b ∷ []) v ∙ ap (λ l. chars prefix ++ l) (chars-sign b (sign-byte b h)) in
    let kept : drop_trailing_whitespace (chars s) ≡ chars s = ap drop_trailing_whitespace parts ∙ end-kept (chars prefix) b (sign-kept b h) ∙ sym parts in
    sym (ap encode_utf8_all kept ∙ encodes-chars s u)

pub sign-trimmed : (s : List ℕ) → IsUtf8 s → 0 < length s → is_ascii_graphic (slice_index s (length s - 1)) ≡ true → s ≡ trim_end s
sign-trimmed s u some h =
    let n = length s - 1 in
    let low : n < length s = omega arith in
    let whole : n + 1 ≡ length s = omega arith in
    let border : IsCharBoundary s n = IsCharBoundary-before_ascii s n low (sign-byte _ h) in
    let at : s ≡ take n s ++ slice_index s n ∷ [] = sym (take_all (n + 1) s (omega arith)) ∙ take_more s n 0 low in
    chars-kept s (take n s) (slice_index s n) u (IsUtf8-take s n u border) at h
