-- Parts of a list, from s up to e: what stands in them, how long they are, and a list with a part of it replaced. Assumes nothing.
use Prim.Native.Nat.{ℕ, ◌+◌, ◌-◌, ◌≤◌, ◌<◌}
use mathlib.Core.Path.{◌≡◌, refl, sym, ap, ap₂, ◌∙◌}
use mathlib.Core.List.{List, [], ◌++◌, append-nil, append_assoc}
use native.Mathlib.Nat.{lt_of_not-le}
use native.Mathlib.Decide.{dec_le}
use native.Mathlib.Omega.{arith}
use lib.ListN.{length, take, drop, replicate, length-append, length-take, length-drop, length-replicate, get_or-replicate, drop_of_length-le, get_or-append, get_or-eq_default}
use lib.Seq.{length-take-le, take-append_seam, drop-append_seam, take_at, drop_at, take_all, take-nil, take-length, drop-length, drop-drop, get_or-take, get_or-drop, get_or-append-add}
use borrow.Rule.Slice.PartMut.{put_mid, post_of, Post-is}
use Rattle.slices.specs.Slices.{◌!◌, tabulate, placed}
use Rattle.slices.proofs.Tabulate.{tabulate_of}

pub part_at : (a : List ℕ) (s e i : ℕ) → i < e - s → take (e - s) (drop s a) ! i ≡ a ! (s + i)
part_at a s e i h = get_or-take (e - s) (drop s a) i 0 h ∙ get_or-drop s a i 0

pub length_part : (a : List ℕ) (s e : ℕ) → s ≤ e → e ≤ length a → length (take (e - s) (drop s a)) ≡ e - s
length_part a s e h k = length-take-le (e - s) (drop s a) (simp length-drop (omega arith))

-- a part that starts beyond the end, and one that ends there
pub part_none : (l : List ℕ) (place k : ℕ) → length l ≤ place → take k (drop place l) ≡ []
part_none l place k beyond = ap (take k) (drop_of_length-le l beyond) ∙ take-nil k

-- a part as long as the whole has all that is left
pub part_all : (l : List ℕ) (place : ℕ) → take (length l) (drop place l) ≡ drop place l
part_all l place = take_all (length l) (drop place l) (rw (length-drop place l) (omega arith))

-- and the part of all of it is the whole
pub part_whole : (l : List ℕ) → take (length l) (drop 0 l) ≡ l
part_whole l = part_all l 0

-- `at..at + count` is a part of as many
pub part_count : (place count : ℕ) → place + count - place ≡ count
part_count place count = omega arith

pub part_rest : (l : List ℕ) (place k j : ℕ) → length l ≤ place + k → length l ≤ place + j → take k (drop place l) ≡ take j (drop place l)
part_rest l place k j hk hj = take_all k (drop place l) (short k hk) ∙ sym (take_all j (drop place l) (short j hj))
  where
    short : (i : ℕ) → length l ≤ place + i → length (drop place l) ≤ i
    short i h = rw (length-drop place l) (omega arith)

-- a part is no longer than asked for
pub part_most : (l p : List ℕ) (place k : ℕ) → p ≡ take k (drop place l) → length p ≤ k
part_most l p place k is = rw (ap length is, length-take k (drop place l)) (omega arith)

-- two lists of equal length with something behind each
pub append_split : (p q s t : List ℕ) → length p ≡ length q → p ++ s ≡ q ++ t → (p ≡ q) × (s ≡ t)
append_split p q s t long e = (
  sym (take-append_seam p s) ∙ ap₂ (λ (n : ℕ) (l : List ℕ). take n l) long e ∙ take-append_seam q t,
  sym (drop-append_seam p s) ∙ ap₂ (λ (n : ℕ) (l : List ℕ). drop n l) long e ∙ drop-append_seam q t,
)

-- ---- a list with a part of it replaced

pub put_before : (a k : ℕ) (xs ys : List ℕ) (i : ℕ) → a ≤ length xs → i < a → put_mid a k xs ys ! i ≡ xs ! i
put_before a k xs ys i within h =
    get_or-append (take a xs) (ys ++ post_of a k xs) 0 i (rw (length-take-le a xs within) h) ∙ get_or-take a xs i 0 h

pub put_inside : (a k : ℕ) (xs ys : List ℕ) (i : ℕ) → a ≤ length xs → i < length ys → put_mid a k xs ys ! (a + i) ≡ ys ! i
put_inside a k xs ys i within h =
    ap (λ (n : ℕ). put_mid a k xs ys ! (n + i)) (sym (length-take-le a xs within)) ∙
    get_or-append-add (take a xs) (ys ++ post_of a k xs) i 0 ∙
    get_or-append ys (post_of a k xs) 0 i h

-- the front of what was copied over
pub copied_at : (src dst l : List ℕ) (k i : ℕ) → k ≡ length src → l ≡ take k src ++ drop k dst → i < length src → l ! i ≡ src ! i
copied_at src dst l k i e copied h =
    ap (λ (s : List ℕ). s ! i) (copied ∙ ap (λ (s : List ℕ). s ++ drop k dst) (take_all k src (omega arith))) ∙ get_or-append src (drop k dst) 0 i h

-- k places, with a part over the front of zeros
pub copied_part : (s p l : List ℕ) (place k : ℕ) → p ≡ take k (drop place s) → l ≡ p ++ drop (length p) (replicate k 0) → l ≡ tabulate k (λ i. s ! (place + i))
copied_part s p l place k is whole = tabulate_of l k _ long each
  where
    long : length l ≡ k
    long = ap length whole ∙ simp (length-append, length-drop, length-replicate {A = ℕ} k 0) (omega (arith, part_most s p place k is))

    behind : (i : ℕ) → i < k → length p ≤ i → (p ++ drop (length p) (replicate k 0)) ! i ≡ p ! i
    behind i h beyond =
        ap (λ (j : ℕ). (p ++ drop (length p) (replicate k 0)) ! j) (omega (arith, beyond)) ∙
        get_or-append-add p (drop (length p) (replicate k 0)) (i - length p) 0 ∙
        get_or-drop (length p) (replicate k 0) (i - length p) 0 ∙
        get_or-replicate {A = ℕ} k (length p + (i - length p)) 0 0 (omega arith) ∙
        sym (get_or-eq_default p 0 beyond)

    each : (i : ℕ) → i < k → l ! i ≡ s ! (place + i)
    each i h =
        ap (λ (t : List ℕ). t ! i) whole ∙
        elim (dec_le (length p) i) [
          | yes beyond ↦ behind i h beyond
          | no inside ↦ get_or-append p _ 0 i (lt_of_not-le inside)
        ] ∙
        ap (λ (t : List ℕ). t ! i) is ∙ get_or-take k (drop place s) i 0 h ∙ get_or-drop place s i 0

-- a whole list is copied over
pub copied_whole : (src dst l : List ℕ) → length src ≡ length dst → l ≡ take (length src) src ++ drop (length src) dst → l ≡ src
copied_whole src dst l same copied = copied ∙ rw (take-length, same, drop-length, append-nil)

-- a whole list is copied to a part
pub put_whole : (a e : ℕ) (xs src l : List ℕ) → a ≤ e → l ≡ src → put_mid a (e - a) xs l ≡ take a xs ++ (src ++ drop e xs)
put_whole a e xs src l h copied = ap₂ (λ (s t : List ℕ). take a xs ++ (s ++ t)) copied (Post-is a e xs h)

-- ---- a list that is written from the front, piece by piece

pub length-placed : (l s : List ℕ) (place : ℕ) → place + length s ≤ length l → length (placed l place s) ≡ length l
unfolding placed
length-placed l s place room = simp (length-append, length-take-le place l (omega arith), length-drop) (omega arith)

pub placed_next : (done s l r : List ℕ) (place next : ℕ) → take place l ≡ done → place + length s ≤ length l → next ≡ place + length s → r ≡ placed l place s → take next r ≡ done ++ s
unfolding placed
placed_next done s l r place next written room e er =
    ap₂ take e er ∙
    ap (take (place + length s)) (sym (append_assoc (take place l) s (drop (place + length s) l))) ∙
    take_at (take place l ++ s) (drop (place + length s) l) (place + length s) (simp (length-append, length-take-le place l (omega arith))) ∙
    ap (λ (d : List ℕ). d ++ s) written

pub placed_all : (done r : List ℕ) (next : ℕ) → take next r ≡ done → length r ≡ next → r ≡ done
placed_all done r next written long = sym (take_all next r (omega arith)) ∙ written

-- a piece as long as all
pub placed_whole : (l s r : List ℕ) → length s ≡ length l → r ≡ placed l 0 s → r ≡ s
placed_whole l s r long er =
    let room : 0 + length s ≤ length l = omega arith in
    let length_r : length r ≡ length s = ap length er ∙ length-placed l s 0 room ∙ sym long in
    placed_all s r (length s) (placed_next [] s l r 0 (length s) refl room (omega arith) er) length_r

-- two pieces, the second behind the first, as long as all
pub placed_both : (a b l k r : List ℕ) (place : ℕ) → length a ≡ place → length l ≡ place + length b → k ≡ placed l 0 a → r ≡ placed k place b → r ≡ a ++ b
placed_both a b l k r place first long ek er =
    let length_k : length k ≡ length l = ap length ek ∙ length-placed l a 0 (omega arith) in
    let length_r : length r ≡ length k = ap length er ∙ length-placed k b place (omega arith) in
    placed_all (a ++ b) r (place + length b)
    (placed_next a b k r place (place + length b) (placed_next [] a l k 0 place refl (omega arith) (omega arith) ek) (omega arith) refl er) (omega arith)

-- what stands behind the piece stays
placed_rest : (l r s : List ℕ) (place next : ℕ) → place + length s ≤ length l → next ≡ place + length s → r ≡ placed l place s → drop next r ≡ drop next l
unfolding placed
placed_rest l r s place next room e er =
    ap₂ drop e (er ∙ sym (append_assoc (take place l) s (drop (place + length s) l))) ∙
    drop_at (take place l ++ s) (drop (place + length s) l) (place + length s) (simp (length-append, length-take-le place l (omega arith))) ∙
    ap (λ (k : ℕ). drop k l) (sym e)

-- a piece behind another is both in one
pub placed-append : (l k r s t : List ℕ) (place next : ℕ) → place + length s ≤ length l → next ≡ place + length s → k ≡ placed l place s → r ≡ placed k next t → r ≡ placed l place (s ++ t)
unfolding placed
placed-append l k r s t place next room e ek er =
    let rest = sym (drop-drop (length t) next k) ∙ ap (drop (length t)) (placed_rest l k s place next room e ek) ∙ drop-drop (length t) next l in
    let end : next + length t ≡ place + length (s ++ t) = simp length-append (omega arith) in
    er ∙ ap₂ (λ (h d : List ℕ). h ++ (t ++ d)) (placed_next (take place l) s l k place next refl room e ek) rest ∙ simp (end, append_assoc)
