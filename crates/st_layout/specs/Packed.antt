-- A word of 64 bits as two numbers below 2^32, its halves.
use Rattle.std.specs.Prelude.{ℕ, ◌+◌, ◌*◌, ◌/◌, ◌%◌, ◌^◌}

-- two halves as one word
abbrev pub packed : (high low : ℕ) → ℕ
packed high low = high * 2 ^ 32 + low

-- the half of a word that counts in steps of 2^32
abbrev pub high_half : (word : ℕ) → ℕ
high_half word = word / 2 ^ 32

-- the half of a word that counts in ones
abbrev pub low_half : (word : ℕ) → ℕ
low_half word = word % 2 ^ 32
