-- The bytes of a number: how many, and which. Assumes nothing.
use mathlib.Core.Path.{◌≡◌}
use Prim.Native.Nat.{ℕ, ◌/◌, ◌<◌}
use native.Mathlib.Omega.{arith}
use lib.ListN.{length, get_or}
use Rattle.slices.proofs.Tabulate.{length-tabulate, tabulate_at}
use Rattle.std.specs.Int.{w32, w64, to_be_bytes}
use Rattle.slices.specs.Slices.{tabulate}
use Rattle.sha256_block.specs.Bytes.{byte_of, bytes_of}

pub length-bytes_of : (k n : ℕ) → length (bytes_of k n) ≡ k
unfolding bytes_of
length-bytes_of k n = length-tabulate k (byte_of k n)

pub get_or-bytes_of : (k n j : ℕ) → j < k → get_or (bytes_of k n) j 0 ≡ byte_of k n j
unfolding bytes_of
get_or-bytes_of k n j h = tabulate_at k (byte_of k n) j h

-- the library's bytes of a number
pub be_bytes_4 : (n : ℕ) → to_be_bytes w32 n ≡ bytes_of 4 n
unfolding bytes_of byte_of tabulate
be_bytes_4 n = let one : n / 1 ≡ n = omega arith in simp one

pub be_bytes_8 : (n : ℕ) → to_be_bytes w64 n ≡ bytes_of 8 n
unfolding bytes_of byte_of tabulate
be_bytes_8 n = let one : n / 1 ≡ n = omega arith in simp one
