-- SHA-256 as FIPS 180-4 (August 2015) defines it, as a function of a message's bytes. Each definition names the section that it renders.
-- It is defined for messages of any length, where FIPS 180-4 stops at 2^64 - 1 bits.
use Rattle.std.specs.Prelude.{List, [], ◌∷◌, ◌++◌, ℕ, zero, suc}
use Rattle.sha256_block.specs.Bytes.{bytes_of}
use Rattle.sha256_block.specs.Words.{Variables}
use Rattle.sha256_block.specs.Constants.{initial}
use Rattle.sha256_block.specs.Block.{compress}
use Rattle.sha256.specs.Padding.{pad, block_count, block}

-- 6.2.2: the hash value H(i) of a padded message
unfoldable pub hash_value : List ℕ → ℕ → Variables
hash_value p zero = initial
hash_value p (suc i) = compress (hash_value p i) (block p i)

-- 6.2.2: the words of a hash value one after the other, as bytes
unfoldable pub joined : List ℕ → List ℕ
joined [] = []
joined (w ∷ ws) = bytes_of 4 w ++ joined ws

-- 6.2.2: a hash value's words, H_0 first
unfoldable pub hash_words : Variables → List ℕ
hash_words v = v.a ∷ v.b ∷ v.c ∷ v.d ∷ v.e ∷ v.f ∷ v.g ∷ v.h ∷ []

-- 6.2: the message digest, the last hash value of the padded message
unfoldable pub sha256 : List ℕ → List ℕ
sha256 m = joined (hash_words (hash_value (pad m) (block_count (pad m))))
