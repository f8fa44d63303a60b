-- The message schedule's length and words, and an array that holds its first words.
use Rattle.std.proofs.Common.{◌≡◌, ℕ, zero, suc, ◌+◌, ◌-◌, ◌<◌, ◌≤◌, List, [], ◌∷◌, ◌++◌, length, get_or, take, set, sym, refl, ap, ◌∙◌, arith, length-append, get_or-set_other, get_or-take, get_or-set_same}
use native.Mathlib.Decide.{dec_lt}
use lib.ListN.{get_or-append}
use lib.Seq.{get_or_at}
use Rattle.sha256_block.specs.Block.{next_word, extended, schedule}

pub length-schedule : (n : ℕ) (m : List ℕ) → length (schedule n m) ≡ length m + n
unfolding schedule extended
length-schedule zero m = omega arith
length-schedule (suc n) m = simp (length-append, length-schedule n m) (omega arith)

-- a word hangs on the words before it alone
next_same : (w u : List ℕ) (t : ℕ) → 16 ≤ t → ((i : ℕ) → i < t → get_or w i 0 ≡ get_or u i 0) → next_word w t ≡ next_word u t
unfolding next_word
next_same w u t low same =
    let at : (k : ℕ) → 0 < k → get_or w (t - k) 0 ≡ get_or u (t - k) 0 = λ k pos. same (t - k) (omega arith) in
    simp (at 2 (omega arith), at 7 (omega arith), at 15 (omega arith), at 16 (omega arith))

next_append : (w u : List ℕ) (t : ℕ) → 16 ≤ t → t ≤ length w → next_word (w ++ u) t ≡ next_word w t
next_append w u t low high = next_same (w ++ u) w t low (λ i h. get_or-append w u 0 i (omega arith))

-- the first words are the block's
pub schedule_first : (n : ℕ) (m : List ℕ) (i : ℕ) → i < length m → get_or (schedule n m) i 0 ≡ get_or m i 0
unfolding schedule extended
schedule_first zero m i h = refl
schedule_first (suc n) m i h = get_or-append (schedule n m) _ 0 i (rw length-schedule (omega arith)) ∙ schedule_first n m i h

-- each word after the sixteenth is the next of those before it
pub schedule_next : (n : ℕ) (m : List ℕ) (t : ℕ) → length m ≡ 16 → 16 ≤ t → t < 16 + n → get_or (schedule n m) t 0 ≡ next_word (schedule n m) t
unfolding schedule extended
schedule_next zero m t e low high = absurd (omega arith)
schedule_next (suc n) m t e low high =
    let w : List ℕ = schedule n m in
    let l : length w ≡ 16 + n = length-schedule n m ∙ ap (λ (k : ℕ). k + n) e in
    let v : List ℕ = next_word w (length w) ∷ [] in
    elim (dec_lt t (16 + n)) [
      | yes lt ↦ get_or-append w v 0 t (omega arith) ∙ schedule_next n m t e low lt ∙ sym (next_append w v t low (omega arith))
      | no ge ↦
          let at_end : t ≡ length w = omega arith in
          get_or_at w (next_word w (length w)) [] 0 t (sym at_end) ∙ ap (next_word w) (sym at_end) ∙ sym (next_append w v t low (omega arith))
    ]

-- the first n words of the array w are the first of the schedule u
abbrev pub Holds : List ℕ → List ℕ → ℕ → Type 0
Holds u w n = (i : ℕ) → i < n → i < 64 → get_or w i 0 ≡ get_or u i 0

-- a store of the word at n
holds_more : (u w : List ℕ) (n v : ℕ) → n < length w → v ≡ get_or u n 0 → Holds u w n → Holds u (set w n v) (n + 1)
holds_more u w n v h e holds i lt fits =
    elim (dec_lt i n) [
      | yes below ↦ get_or-set_other w n i v 0 (λ same. omega arith) ∙ holds i below fits
      | no above ↦
          let same : i ≡ n = omega arith in
          ap (λ (k : ℕ). get_or (set w n v) k 0) same ∙ get_or-set_same w n v 0 h ∙ e ∙ ap (λ (k : ℕ). get_or u k 0) (sym same)
    ]

-- an array that begins with a block's words
pub holds_first : (n : ℕ) (m w : List ℕ) → length m ≡ 16 → take 16 w ≡ m → Holds (schedule n m) w 16
holds_first n m w e h i lt fits =
    sym (get_or-take 16 w i 0 lt) ∙ ap (λ (l : List ℕ). get_or l i 0) h ∙ sym (schedule_first n m i (omega arith))

-- a turn that stores the next word
pub holds_step : (m w : List ℕ) (t v : ℕ) → length m ≡ 16 → length w ≡ 64 → t < 48 → Holds (schedule 48 m) w (t + 16)
    → v ≡ next_word w (t + 16) → Holds (schedule 48 m) (set w (t + 16) v) (t + 1 + 16)
holds_step m w t v e l h holds ev =
    let u = schedule 48 m in
    let next : t + 1 + 16 ≡ t + 16 + 1 = omega arith in
    let same : next_word w (t + 16) ≡ next_word u (t + 16) = next_same w u (t + 16) (omega arith) (λ i lt. holds i lt (omega arith)) in
    let word : get_or u (t + 16) 0 ≡ next_word u (t + 16) = schedule_next 48 m (t + 16) e (omega arith) (omega arith) in
    rw next (holds_more u w (t + 16) v (omega arith) (ev ∙ same ∙ sym word) holds)

-- a turn after the last word is stored
pub holds_all : (u w : List ℕ) (t : ℕ) → 48 ≤ t → Holds u w (t + 16) → Holds u w (t + 1 + 16)
holds_all u w t h holds i lt fits = holds i (omega arith) fits
