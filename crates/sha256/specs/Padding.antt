-- The padding of a message in FIPS 180-4 and its cut into blocks, over bytes.
use Rattle.std.specs.Prelude.{List, ◌∷◌, ◌++◌, ℕ, ◌-◌, ◌*◌, ◌/◌, ◌%◌, length, take, drop, replicate}
use Rattle.sha256_block.specs.Bytes.{bytes_of}

-- 5.1.1: the zero bytes that follow the one bit and seven zero bits; k is 7 + 8 zero_bytes, the smallest solution (`fills` and `fewest`
-- of proofs/PaddedMessage.antt)
unfoldable pub zero_bytes : ℕ → ℕ
zero_bytes n = (119 - n % 64) % 64

-- 5.1.1: the message, the bit 1 and seven bits 0, zero bytes, and the message's length in bits as 64 bits
unfoldable pub pad : List ℕ → List ℕ
pad m = m ++ (0x80 ∷ replicate (zero_bytes (length m)) 0) ++ bytes_of 8 (8 * length m)

-- 5.2.1: the number N of blocks of a padded message
unfoldable pub block_count : List ℕ → ℕ
block_count p = length p / 64

-- 5.2.1: block i of a padded message, counted from 0
unfoldable pub block : List ℕ → ℕ → List ℕ
block p i = take 64 (drop (64 * i) p)
