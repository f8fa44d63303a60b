-- A digest is 32 numbers, each a byte: its bytes are those of its eight words.
use mathlib.Core.Path.{◌≡◌, refl, sym, ap, ap₂, ◌∙◌}
use mathlib.Core.List.{List, [], ◌∷◌, ◌++◌, append_assoc, append-nil}
use Prim.Native.Nat.{ℕ, suc, ◌+◌, ◌-◌, ◌*◌, ◌/◌, ◌%◌, ◌<◌, ◌≤◌}
use native.Mathlib.Nat.{mod-lt}
use native.Mathlib.Decide.{dec_lt}
use native.Mathlib.Omega.{arith}
use lib.Dec.{lit<}
use lib.ListN.{length, get_or, length-append, get_or-append, get_or-eq_default, take}
use lib.Seq.{get_or-append-add, take-suc}
use borrow.Rule.Slice.PartMut.{put_mid}
use Rattle.std.proofs.lemmas.Slice.{take-put_mid}
use native.Mathlib.Numerals.{add-one}
use Rattle.sha256_block.specs.Bytes.{byte_of, bytes_of}
use Rattle.sha256.specs.Sha256.{joined, hash_words, sha256}
use Rattle.sha256.proofs.NumberBytes.{length-bytes_of, get_or-bytes_of}

pub length-joined : (ws : List ℕ) → length (joined ws) ≡ 4 * length ws
unfolding joined
length-joined [] = refl
length-joined (w ∷ ws) = length-append (bytes_of 4 w) (joined ws) ∙ rw (length-bytes_of, length-joined ws) (omega arith)

pub joined_at : (ws : List ℕ) (i : ℕ) → i < 4 * length ws → get_or (joined ws) i 0 ≡ byte_of 4 (get_or ws (i / 4) 0) (i % 4)
unfolding joined
joined_at [] i h = absurd (omega arith)
joined_at (w ∷ ws) i h =
    elim (dec_lt i 4) [
      | yes lt ↦
          let q : i / 4 ≡ 0 = omega arith in
          let r : i % 4 ≡ i = omega arith in
          get_or-append (bytes_of 4 w) (joined ws) 0 i (rw length-bytes_of lt) ∙ get_or-bytes_of 4 w i lt ∙ rw (q, r)
      | no ge ↦
          let k : ℕ = i - 4 in
          let at : i ≡ length (bytes_of 4 w) + k = omega (arith, length-bytes_of 4 w) in
          let q : i / 4 ≡ suc (k / 4) = omega arith in
          let r : i % 4 ≡ k % 4 = omega arith in
          ap (λ (j : ℕ). get_or (bytes_of 4 w ++ joined ws) j 0) at ∙ get_or-append-add (bytes_of 4 w) (joined ws) k 0
          ∙ joined_at ws k (omega arith) ∙ rw (q, r)
    ]

joined-append : (u v : List ℕ) → joined (u ++ v) ≡ joined u ++ joined v
unfolding joined
joined-append [] v = refl
joined-append (w ∷ u) v = ap (λ (l : List ℕ). bytes_of 4 w ++ l) (joined-append u v) ∙ sym (append_assoc (bytes_of 4 w) (joined u) (joined v))

joined_word : (w : ℕ) → joined (w ∷ []) ≡ bytes_of 4 w
unfolding joined
joined_word w = append-nil (bytes_of 4 w)

-- what holds the bytes of the first i words, once those of word i are put behind them
pub joined_more : (w out part : List ℕ) (i k : ℕ) → i < length w → 4 * i ≤ length out → take (4 * i) out ≡ joined (take i w) → part ≡ bytes_of 4 (get_or w i 0) →
    take (4 * (i + 1)) (put_mid (4 * i) k out part) ≡ joined (take (i + 1) w)
joined_more w out part i k h room e is =
    let long : length part ≡ 4 = ap length is ∙ length-bytes_of 4 (get_or w i 0) in
    take-put_mid (4 * i) k out part (4 * (i + 1)) (omega arith) room ∙ ap₂ (λ (s t : List ℕ). s ++ t) e (is ∙ sym (joined_word (get_or w i 0))) ∙
    sym (joined-append (take i w) (get_or w i 0 ∷ [])) ∙ ap joined (sym (ap (λ (n : ℕ). take n w) (add-one i) ∙ take-suc w i 0 h))

byte_below : (k n j : ℕ) → byte_of k n j < 256
unfolding byte_of
byte_below k n j = mod-lt _ (lit< tt)

pub length-sha256 : (m : List ℕ) → length (sha256 m) ≡ 32
unfolding sha256 hash_words
length-sha256 m = length-joined (hash_words _)

pub sha256_below : (m : List ℕ) (i : ℕ) → get_or (sha256 m) i 0 < 256
unfolding sha256 hash_words
sha256_below m i =
    elim (dec_lt i 32) [
      | yes lt ↦ rw joined_at (byte_below 4 _ (i % 4))
      | no ge ↦ let past : length (sha256 m) ≤ i = omega (arith, length-sha256 m) in rw (get_or-eq_default (sha256 m) 0 past) (lit< tt)
    ]
