-- The hash of one block as FIPS 180-4 (August 2015) defines it. Each definition names the section that it renders.
use Rattle.std.specs.Prelude.{ℕ, zero, suc, ◌-◌, List, [], ◌∷◌, ◌++◌, length, slice_index, slice_index_or}
use Rattle.slices.specs.Slices.{tabulate}
use Rattle.sha256_block.specs.Bytes.{word_at}
use Rattle.sha256_block.specs.Words.{◌⊞◌, Ch, Maj, Σ0, Σ1, σ0, σ1, Variables}
use Rattle.sha256_block.specs.Constants.{K}

-- 5.2.1: a block as the sixteen words M_0 to M_15
unfoldable pub words_of : List ℕ → List ℕ
words_of m = tabulate 16 (word_at m)

-- 6.2.2, step 1: W_t of the words before it, for t of 16 and more
unfoldable pub next_word : List ℕ → ℕ → ℕ
next_word w t = σ1 (slice_index w (t - 2)) ⊞ slice_index_or w (t - 7) 0 ⊞ σ0 (slice_index w (t - 15)) ⊞ slice_index_or w (t - 16) 0

-- 6.2.2, step 1: words W_0 to W_(t-1), followed by W_t
unfoldable pub extended : List ℕ → List ℕ
extended w = w ++ (next_word w (length w) ∷ [])

-- 6.2.2, step 1: the first 16 + n words of the message schedule of a block whose words are m
unfoldable pub schedule : ℕ → List ℕ → List ℕ
schedule zero m = m
schedule (suc n) m = extended (schedule n m)

-- 6.2.2, step 3: the word T1 of a round, with its words K_t and W_t
unfoldable pub T1 : ℕ → ℕ → Variables → ℕ
T1 k w v = v.h ⊞ Σ1 v.e ⊞ Ch v.e v.f v.g ⊞ k ⊞ w

-- 6.2.2, step 3: the word T2 of a round
unfoldable pub T2 : Variables → ℕ
T2 v = Σ0 v.a ⊞ Maj v.a v.b v.c

-- 6.2.2, step 3: the working variables after a round, of T1 and T2
unfoldable pub shifted : ℕ → ℕ → Variables → Variables
shifted t1 t2 v = record { a = t1 ⊞ t2; b = v.a; c = v.b; d = v.c; e = v.d ⊞ t1; f = v.e; g = v.f; h = v.g }

-- 6.2.2, step 3: a round with the words K_t and W_t
unfoldable pub round : ℕ → ℕ → Variables → Variables
round k w v = shifted (T1 k w v) (T2 v) v

-- 6.2.2, step 3: the first t rounds, with the message schedule w
unfoldable pub rounds : ℕ → List ℕ → Variables → Variables
rounds zero w v = v
rounds (suc t) w v = round (slice_index K t) (slice_index w t) (rounds t w v)

-- 6.2.2, step 4: the working variables added to the hash value, word by word
unfoldable pub added : Variables → Variables → Variables
added v u = record { a = v.a ⊞ u.a; b = v.b ⊞ u.b; c = v.c ⊞ u.c; d = v.d ⊞ u.d; e = v.e ⊞ u.e; f = v.f ⊞ u.f; g = v.g ⊞ u.g; h = v.h ⊞ u.h }

-- 6.2.2, steps 1 to 4: the hash value H(i) of H(i-1), v, and a block's bytes
unfoldable pub compress : Variables → List ℕ → Variables
compress v m = added (rounds 64 (schedule 48 (words_of m)) v) v
