-- The padded message: its length, its bytes, and its blocks.
use mathlib.Core.Path.{◌≡◌, refl, sym, ap, ◌∙◌}
use mathlib.Core.List.{List, [], ◌∷◌, ◌++◌}
use Prim.Native.Nat.{ℕ, zero, suc, ◌+◌, ◌-◌, ◌*◌, ◌/◌, ◌%◌, ◌<◌, ◌≤◌}
use native.Mathlib.Omega.{arith}
use lib.ListN.{length, get_or, take, drop, replicate, length-append, length-replicate, get_or-replicate, length-drop, get_or-append}
use lib.Seq.{get_or-append-add, get_or_at, get_or-take, get_or-drop, take-append-le, drop-append-le, drop-drop, length-take-le}
use Rattle.std.specs.Simd.{first_chunks}
use Rattle.sha256_block.specs.Bytes.{byte_of, bytes_of}
use Rattle.sha256.specs.Padding.{zero_bytes, pad, block_count, block}
use Rattle.sha256.proofs.NumberBytes.{length-bytes_of, get_or-bytes_of}

-- 5.1.1 of FIPS 180-4: k = 7 + 8 zero_bytes is a solution of l + 1 + k = 448 modulo 512 for a message of l = 8n bits
fills : (n : ℕ) → (8 * n + 1 + (7 + 8 * zero_bytes n)) % 512 ≡ 448
unfolding zero_bytes
fills n = omega arith

-- and the smallest
fewest : (n k : ℕ) → (8 * n + 1 + k) % 512 ≡ 448 → 7 + 8 * zero_bytes n ≤ k
unfolding zero_bytes
fewest n k h = omega arith

-- where the length in bits begins in the padding of n bytes
abbrev pub length_at : ℕ → ℕ
length_at n = 64 * ((n + 8) / 64 + 1) - 8

body : (n : ℕ) → n + (1 + zero_bytes n) ≡ length_at n
unfolding zero_bytes
body n = omega arith

-- the padded message before its length in bits
front : List ℕ → List ℕ
front m = m ++ 0x80 ∷ replicate (zero_bytes (length m)) 0

length_front : (m : List ℕ) → length (front m) ≡ length_at (length m)
unfolding front
length_front m = simp (length-append, length-replicate) (omega (arith, body (length m)))

pub length-pad : (m : List ℕ) → length (pad m) ≡ 64 * ((length m + 8) / 64 + 1)
unfolding pad front
length-pad m = length-append (front m) (bytes_of 8 (8 * length m)) ∙ rw (length_front, length-bytes_of) (omega arith)

pub block_count-pad : (m : List ℕ) → block_count (pad m) ≡ (length m + 8) / 64 + 1
unfolding block_count
block_count-pad m = rw length-pad (omega arith)

module _ (m : List ℕ) (i : ℕ) where
  -- a byte before the length in bits
  front_at : i < length_at (length m) → get_or (pad m) i 0 ≡ get_or (front m) i 0
  unfolding pad front
  front_at h = get_or-append (front m) (bytes_of 8 (8 * length m)) 0 i (rw length_front h)

  -- a byte of the message
  pub pad_message : i < length m → get_or (pad m) i 0 ≡ get_or m i 0
  unfolding front
  pad_message h = front_at (omega arith) ∙ get_or-append m (0x80 ∷ replicate (zero_bytes (length m)) 0) 0 i h

  -- the byte that begins with the one bit
  pub pad_one : i ≡ length m → get_or (pad m) i 0 ≡ 0x80
  unfolding front
  pad_one e = front_at (omega arith) ∙ get_or_at m 0x80 (replicate (zero_bytes (length m)) 0) 0 i (sym e)

  -- a zero byte
  pub pad_zero : length m < i → i < length_at (length m) → get_or (pad m) i 0 ≡ 0
  unfolding front
  pad_zero low high =
      let n : ℕ = zero_bytes (length m) in
      let k : ℕ = i - length m - 1 in
      let at : i ≡ length m + suc k = omega arith in
      front_at high ∙ ap (λ (j : ℕ). get_or (front m) j 0) at
      ∙ get_or-append-add m (0x80 ∷ replicate n 0) (suc k) 0 ∙ get_or-replicate n k 0 0 (omega (arith, body (length m)))

  -- a byte of the length in bits
  pub pad-length : length_at (length m) ≤ i → i < length (pad m)
      → get_or (pad m) i 0 ≡ byte_of 8 (8 * length m) (i - (length_at (length m)))
  unfolding pad front
  pad-length low high =
      let j : ℕ = i - (length_at (length m)) in
      let at : i ≡ length (front m) + j = omega (arith, length_front m) in
      ap (λ (k : ℕ). get_or (pad m) k 0) at ∙ get_or-append-add (front m) (bytes_of 8 (8 * length m)) j 0
      ∙ get_or-bytes_of 8 (8 * length m) j (omega (arith, length-pad m))

-- a block within the first of two parts
block-append : (m x : List ℕ) (i : ℕ) → 64 * i + 64 ≤ length m → block (m ++ x) i ≡ block m i
unfolding block
block-append m x i h =
    ap (take 64) (drop-append-le (64 * i) m x (omega arith)) ∙ take-append-le 64 (drop (64 * i) m) x (rw length-drop (omega arith))

-- a block that is whole in the message
pub whole_block : (m : List ℕ) (i : ℕ) → 64 * i + 64 ≤ length m → block (pad m) i ≡ block m i
unfolding pad front
whole_block m i h =
    block-append (front m) (bytes_of 8 (8 * length m)) i (rw length_front (omega arith))
    ∙ block-append m (0x80 ∷ replicate (zero_bytes (length m)) 0) i h

-- a block of a slice taken as whole blocks
pub chunk_block : (m : List ℕ) (k i : ℕ) → i < k → get_or (first_chunks 64 k m) i [] ≡ block m i
unfolding block
chunk_block m zero i h = absurd (omega arith)
chunk_block m (suc k) zero h = refl
chunk_block m (suc k) (suc i) h = chunk_block (drop 64 m) k i (omega arith) ∙ ap (take 64) (drop-drop (64 * i) 64 m ∙ ap (λ (n : ℕ). drop n m) (omega arith))

module _ (p : List ℕ) (i : ℕ) (h : i < block_count p) where
  within : 64 * i + 64 ≤ length p
  unfolding block_count
  within = omega arith

  pub length-block : length (block p i) ≡ 64
  unfolding block
  length-block = length-take-le 64 (drop (64 * i) p) (rw length-drop (omega (arith, within)))

  pub block_at : (j : ℕ) → j < 64 → get_or (block p i) j 0 ≡ get_or p (64 * i + j) 0
  unfolding block
  block_at j lt = rw (get_or-take, get_or-drop)
