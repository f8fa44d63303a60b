-- Numbers as bytes, high byte first (FIPS 180-4, 3.1).
use Rattle.std.specs.Prelude.{ℕ, ◌+◌, ◌-◌, ◌*◌, ◌/◌, ◌%◌, ◌^◌, List, slice_index}
use Rattle.slices.specs.Slices.{tabulate}

-- 3.1: byte j of a number of k bytes, the high byte first
unfoldable pub byte_of : ℕ → ℕ → ℕ → ℕ
byte_of k n j = n / 2 ^ (8 * (k - 1 - j)) % 256

-- 3.1: a number as k bytes, the high byte first
unfoldable pub bytes_of : ℕ → ℕ → List ℕ
bytes_of k n = tabulate k (byte_of k n)

-- 3.1: the word that bytes 4i to 4i + 3 are, the high byte first
unfoldable pub word_at : List ℕ → ℕ → ℕ
word_at m i = slice_index m (4 * i) * 2 ^ 24 + slice_index m (4 * i + 1) * 2 ^ 16 + slice_index m (4 * i + 2) * 2 ^ 8 + slice_index m (4 * i + 3)
