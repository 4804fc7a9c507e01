-- Words of two halves: headers and the clock.
use Rattle.std.proofs.Common.{◌≡◌, ℕ, ◌+◌, ◌%◌, ◌^◌, ◌<◌, sym, ap, ◌∙◌, arith}
use Rattle.std.proofs.lemmas.Nat.{div-mul-add, mod-mul-add}
use Rattle.std.proofs.Math.Nat.{mod-eq_of_lt}
use Rattle.st_layout.specs.Packed.{packed, high_half, low_half}

-- of two halves in one word the high one comes out again
pub high_packed : (high low : ℕ) → low < 2 ^ 32 → high_half (packed high low) ≡ high
high_packed high low fits = div-mul-add high (2 ^ 32) low fits

-- and so does the low one
pub low_packed : (high low : ℕ) → low < 2 ^ 32 → low_half (packed high low) ≡ low
low_packed high low fits = mod-mul-add high (2 ^ 32) low fits

-- two words with the same halves below 2^32
pub packed_halves : (a b c d : ℕ) → b < 2 ^ 32 → d < 2 ^ 32 → packed a b ≡ packed c d → (a ≡ c) × (b ≡ d)
packed_halves a b c d fits fits' same = (
  sym (high_packed a b fits) ∙ ap high_half same ∙ high_packed c d fits',
  sym (low_packed a b fits) ∙ ap low_half same ∙ low_packed c d fits',
)

-- a word is its two halves
pub word_is_packed : (word : ℕ) → packed (high_half word) (low_half word) ≡ word
word_is_packed word = omega arith

-- the clock after a draw
pub clock_sum : (clock copy : ℕ) → high_half clock + 1 < 2 ^ 32 → low_half clock + copy < 2 ^ 32
    → (clock + packed 1 copy) % 2 ^ 64 ≡ packed (high_half clock + 1) (low_half clock + copy)
clock_sum clock copy high low =
    let whole : clock + packed 1 copy ≡ packed (high_half clock + 1) (low_half clock + copy) = omega arith in
    let below : packed (high_half clock + 1) (low_half clock + copy) < 2 ^ 64 = omega (arith, high, low) in
    ap (λ n. n % 2 ^ 64) whole ∙ mod-eq_of_lt below
