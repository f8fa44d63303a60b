-- Reading back what was written: the pieces, lengths and elements of each message, and that what stands behind its end does not matter. Assumes nothing.
use Prim.Native.Nat.{ℕ, ◌+◌, ◌*◌, ◌≤◌, ◌<◌}
use mathlib.Core.Path.{◌≡◌, refl, sym, ap, ap₂, ◌∙◌}
use mathlib.Core.Bool.{true, ◌&&◌}
use mathlib.Core.List.{List, [], ◌∷◌, ◌++◌}
use native.Mathlib.Nat.{lt_of_not-le}
use native.Mathlib.Decide.{dec_le}
use native.Mathlib.Omega.{arith}
use lib.ListN.{length, take, length-append, length-take, get_or-append, get_or-eq_default}
use lib.Seq.{length-take-le, get_or-take, get_or-append-add, take-append-le, take_at}
use Rattle.slices.specs.Slices.{◌!◌, tabulate}
use Rattle.slices.specs.Slices.{same as same_bytes}
use Rattle.slices.proofs.Tabulate.{length-tabulate, tabulate_at, tabulate_beyond, tabulate_of, tabulate_cong}
use Rattle.field.specs.Ops.{Ops}
use Rattle.field.specs.Vector.{vector, slot_v, IsVector, all_below}
use Rattle.field.proofs.Vectors.{length-vector, vector_at, vector_beyond, vector_cong, element_at}
use Rattle.field.proofs.Elements.{at_all_below, below_append}
use Rattle.scheme.specs.declared.Scheme.{Scheme}
use Rattle.scheme.specs.declared.Scheme.TheVariants.{ThreePass, FivePass}
use Rattle.scheme.specs.Scheme.{commitment_count, commitments_length, opened_count, vectors_length, rhos_length, reply_length}
use Rattle.sha256.specs.Sha256.{sha256}
use Rattle.commitment.specs.declared.Domain.{Domain}
use Rattle.round.specs.declared.pieces.CommitmentsThree.{CommitmentsThree}
use Rattle.round.specs.declared.pieces.CommitmentsFive.{CommitmentsFive}
use Rattle.round.specs.declared.pieces.Middle.{Middle}
use Rattle.round.specs.declared.pieces.ReplyThree.{ReplyThree}
use Rattle.round.specs.declared.pieces.ReplyFive.{ReplyFive}
use Rattle.exchange.specs.Messages.{middle_in, reply_three_in, reply_five_in, openings, accepts}
use Rattle.round.specs.Openings.{Opening, string_of, bytes_at, commitment_at, opens_to, all_open}
use Rattle.round.specs.FivePass.{openings_five}
use Rattle.round.proofs.Acceptance.{ThreeAt, TwoAt}
use Rattle.exchange.specs.Messages.{three_commitments, five_commitments, reply_three_bytes, middle_bytes, reply_five_bytes}

-- ---- pieces by place

-- s stands in l from a place on
abbrev pub Stands : List ℕ → ℕ → List ℕ → Type 0
Stands s place l = (i : ℕ) → i < length s → l ! (place + i) ≡ s ! i

-- the last piece
pub stands_last : (p s : List ℕ) (place : ℕ) → length p ≡ place → Stands s place (p ++ s)
stands_last p s place e i h = ap (λ (k : ℕ). (p ++ s) ! (k + i)) (sym e) ∙ get_or-append-add p s i 0

-- and those before it
pub stands_before : (p t s : List ℕ) (place : ℕ) → place + length s ≤ length p → Stands s place p → Stands s place (p ++ t)
stands_before p t s place room stands i h = get_or-append p t 0 (place + i) (omega arith) ∙ stands i h

pub length_bytes : (place : ℕ) (l : List ℕ) → length (bytes_at place l) ≡ 32
unfolding bytes_at
length_bytes place l = length-tabulate 32 _

pub bytes_back : (s l : List ℕ) (place : ℕ) → length s ≡ 32 → Stands s place l → bytes_at place l ≡ s
unfolding bytes_at
bytes_back s l place long stands = sym (tabulate_of s 32 _ long (λ i h. sym (stands i (rw long h))))

-- a vector of n elements in 96 places
abbrev pub Padded : ℕ → List ℕ → Type 0
Padded n x = x ≡ vector n (λ i. x ! i)

pub length_padded : (n : ℕ) (x : List ℕ) → n ≤ 96 → Padded n x → length (take n x) ≡ n
length_padded n x small held =
    let long : length x ≡ 96 = ap length held ∙ length-vector n _ in
    length-take-le n x (omega arith)

pub slot_back : (n : ℕ) (x l : List ℕ) (place : ℕ) → n ≤ 96 → Padded n x → Stands (take n x) place l → slot_v n place l ≡ x
unfolding slot_v
slot_back n x l place small held stands =
    vector_cong n _ _ (λ i h k. stands i (rw (length_padded n x small held) h) ∙ get_or-take n x i 0 h) ∙ sym held

-- ---- what stands behind a message's end does not matter

-- two lists read the same at every place
abbrev pub Reads : List ℕ → List ℕ → Type 0
Reads l k = (i : ℕ) → l ! i ≡ k ! i

pub reads_vector : (l : List ℕ) → length l ≤ 96 → Reads (vector (length l) (λ i. l ! i)) l
reads_vector l room i =
    elim (dec_le (length l) i) [
      | yes h ↦ vector_beyond (length l) _ i h ∙ sym (get_or-eq_default l 0 h)
      | no h ↦ let below : i < length l = lt_of_not-le h in vector_at (length l) _ i below (omega arith)
    ]

pub reads_tabulate : (k : ℕ) (l : List ℕ) → length l ≤ k → Reads (tabulate k (λ i. l ! i)) l
reads_tabulate k l room i =
    elim (dec_le k i) [
      | yes h ↦ let beyond : length l ≤ i = omega arith in tabulate_beyond k _ i h ∙ sym (get_or-eq_default l 0 beyond)
      | no h ↦ tabulate_at k _ i (lt_of_not-le h)
    ]

same_bytes_lem : (l k : List ℕ) (place : ℕ) → Reads l k → bytes_at place l ≡ bytes_at place k
unfolding bytes_at
same_bytes_lem l k place same = tabulate_cong 32 _ _ (λ i h. same (place + i))

same_slot : (n : ℕ) (l k : List ℕ) (place : ℕ) → Reads l k → slot_v n place l ≡ slot_v n place k
unfolding slot_v
same_slot n l k place same = vector_cong n _ _ (λ i h b. same (place + i))

pub same_middle : (n m : ℕ) (l k : List ℕ) → Reads l k → middle_in n m l ≡ middle_in n m k
unfolding middle_in
same_middle n m l k same = λ i. record { t1 = same_slot n l k 1 same i; e1 = same_slot m l k (1 + n) same i }

-- ---- commitments

-- c is three commitments
pub record AreThree (c : CommitmentsThree) : Type 0 where
  pub c0_long : length c.c0 ≡ 32
  pub c1_long : length c.c1 ≡ 32
  pub c2_long : length c.c2 ≡ 32

-- c is two commitments
pub record AreTwo (c : CommitmentsFive) : Type 0 where
  pub c0_long : length c.c0 ≡ 32
  pub c1_long : length c.c1 ≡ 32

pub length_three_commitments : (c : CommitmentsThree) → AreThree c → length (three_commitments c) ≡ commitments_length ThreePass
unfolding three_commitments commitments_length commitment_count
length_three_commitments c k = simp length-append (omega arith)

pub length_five_commitments : (c : CommitmentsFive) → AreTwo c → length (five_commitments c) ≡ commitments_length FivePass
unfolding five_commitments commitments_length commitment_count
length_five_commitments c k = simp length-append (omega arith)

-- each of them is the commitment of its number among the bytes
pub three_at : (c : CommitmentsThree) → AreThree c → ThreeAt (three_commitments c) c
unfolding commitment_at three_commitments
three_at c k =
    let two : length (c.c0 ++ c.c1) ≡ 64 = simp length-append (omega arith) in
    let l = c.c0 ++ c.c1 ++ c.c2 in
    let s0 = stands_before c.c0 c.c1 c.c0 0 (omega arith) (stands_last [] c.c0 0 refl) in
    let s1 = stands_last c.c0 c.c1 32 k.c0_long in
    record {
      at_0 = bytes_back c.c0 l 0 k.c0_long (stands_before (c.c0 ++ c.c1) c.c2 c.c0 0 (omega arith) s0);
      at_1 = bytes_back c.c1 l 32 k.c1_long (stands_before (c.c0 ++ c.c1) c.c2 c.c1 32 (omega arith) s1);
      at_2 = bytes_back c.c2 l 64 k.c2_long (stands_last (c.c0 ++ c.c1) c.c2 64 two);
    }

pub two_at : (c : CommitmentsFive) → AreTwo c → TwoAt (five_commitments c) c
unfolding commitment_at five_commitments
two_at c k =
    let l = c.c0 ++ c.c1 in
    record {
      at_0 = bytes_back c.c0 l 0 k.c0_long (stands_before c.c0 c.c1 c.c0 0 (omega arith) (stands_last [] c.c0 0 refl));
      at_1 = bytes_back c.c1 l 32 k.c1_long (stands_last c.c0 c.c1 32 k.c0_long);
    }

-- ---- elements

module _ (o : Ops) where
  below_vector : (n : ℕ) (x : List ℕ) → IsVector o n x → all_below o.size (take n x) ≡ true
  below_vector n x k =
      at_all_below o.size (take n x) (λ i h.
      let short : length (take n x) ≤ n = rw (length-take n x) (omega arith) in
      let below : i < n = omega arith in
      rw (get_or-take n x i 0 below) (element_at o n x k i))

  -- ---- a reply of three passes

  -- its vectors and random bytes have their lengths
  pub record IsReplyThree (n m : ℕ) (r : ReplyThree) : Type 0 where
    pub x_is : IsVector o n r.x
    pub y_is : IsVector o n r.y
    pub z_is : IsVector o m r.z
    pub first_long : length r.first ≡ 32
    pub second_long : length r.second ≡ 32

  module _ (n m : ℕ) (r : ReplyThree) (hn : n ≤ 96) (hm : m ≤ 96) (k : IsReplyThree n m r) where
    after_y : length (take n r.x ++ take n r.y) ≡ n + n
    after_y = simp (length-append, length_padded n r.x hn k.x_is.padded, length_padded n r.y hn k.y_is.padded)

    after_z : length (take n r.x ++ take n r.y ++ take m r.z) ≡ n + n + m
    after_z = length-append (take n r.x ++ take n r.y) _ ∙ simp (after_y, length_padded m r.z hm k.z_is.padded)

    after_first : length (take n r.x ++ take n r.y ++ take m r.z ++ r.first) ≡ n + n + m + 32
    after_first = length-append (take n r.x ++ take n r.y ++ take m r.z) _ ∙ simp (after_z, k.first_long)

    pub reply_three_length : length (reply_three_bytes n m r) ≡ reply_length ThreePass n m
    unfolding reply_three_bytes reply_length vectors_length rhos_length opened_count
    reply_three_length = length-append (take n r.x ++ take n r.y ++ take m r.z ++ r.first) _ ∙ omega (arith, after_first, k.second_long)

    pub reply_three_back : reply_three_in n m (reply_three_bytes n m r) ≡ r
    unfolding reply_three_in reply_three_bytes
    reply_three_back =
        let x = take n r.x in
        let y = take n r.y in
        let z = take m r.z in
        let f = r.first in
        let s = r.second in
        let x_long : length x ≡ n = length_padded n r.x hn k.x_is.padded in
        let y_long : length y ≡ n = length_padded n r.y hn k.y_is.padded in
        let z_long : length z ≡ m = length_padded m r.z hm k.z_is.padded in
        let two = after_y in
        let three = after_z in
        let four = after_first in
        let l = x ++ y ++ z ++ f ++ s in
        let in_four : (t : List ℕ) (place : ℕ) → place + length t ≤ n + n + m + 32 → Stands t place (x ++ y ++ z ++ f) → Stands t place l =
        λ t place room. stands_before (x ++ y ++ z ++ f) s t place (omega arith) in
        let in_three : (t : List ℕ) (place : ℕ) → place + length t ≤ n + n + m → Stands t place (x ++ y ++ z) → Stands t place l =
        λ t place room st. in_four t place (omega arith) (stands_before (x ++ y ++ z) f t place (omega arith) st) in
        let in_two : (t : List ℕ) (place : ℕ) → place + length t ≤ n + n → Stands t place (x ++ y) → Stands t place l =
        λ t place room st. in_three t place (omega arith) (stands_before (x ++ y) z t place (omega arith) st) in
        let bx = slot_back n r.x l 0 hn k.x_is.padded (in_two x 0 (omega arith) (stands_before x y x 0 (omega arith) (stands_last [] x 0 refl))) in
        let by = slot_back n r.y l n hn k.y_is.padded (in_two y n (omega arith) (stands_last x y n x_long)) in
        let bz = slot_back m r.z l (n + n) hm k.z_is.padded (in_three z (n + n) (omega arith) (stands_last (x ++ y) z (n + n) two)) in
        let bf = bytes_back f l (n + n + m) k.first_long (in_four f (n + n + m) (omega (arith, k.first_long)) (stands_last (x ++ y ++ z) f (n + n + m) three)) in
        let bs = bytes_back s l (n + n + m + 32) k.second_long (stands_last (x ++ y ++ z ++ f) s (n + n + m + 32) four) in
        λ i. record { x = bx i; y = by i; z = bz i; first = bf i; second = bs i }

    pub reply_three_below : all_below o.size (take (n + n + m) (reply_three_bytes n m r)) ≡ true
    unfolding reply_three_bytes
    reply_three_below =
        let x = take n r.x in
        let y = take n r.y in
        let z = take m r.z in
        rw (take-append-le (n + n + m) (x ++ y ++ z ++ r.first) r.second (omega (arith, after_first)), take_at (x ++ y ++ z) r.first (n + n + m) after_z)
        (below_append o.size (x ++ y) z (below_append o.size x y (below_vector n r.x k.x_is) (below_vector n r.y k.y_is)) (below_vector m r.z k.z_is))

  -- ---- a reply of five passes

  pub record IsReplyFive (n : ℕ) (r : ReplyFive) : Type 0 where
    pub x_is : IsVector o n r.x
    pub rho_long : length r.rho ≡ 32

  pub reply_five_length : (n : ℕ) (r : ReplyFive) → n ≤ 96 → IsReplyFive n r → length (reply_five_bytes n r) ≡ n + rhos_length FivePass
  unfolding reply_five_bytes rhos_length opened_count
  reply_five_length n r hn k = let x_long = length_padded n r.x hn k.x_is.padded in simp length-append (omega (arith, k.rho_long))

  pub reply_five_back : (n : ℕ) (r : ReplyFive) → n ≤ 96 → IsReplyFive n r → reply_five_in n (reply_five_bytes n r) ≡ r
  unfolding reply_five_in reply_five_bytes
  reply_five_back n r hn k =
      let x = take n r.x in
      let x_long : length x ≡ n = length_padded n r.x hn k.x_is.padded in
      let l = x ++ r.rho in
      let bx = slot_back n r.x l 0 hn k.x_is.padded (stands_before x r.rho x 0 (omega arith) (stands_last [] x 0 refl)) in
      let br = bytes_back r.rho l n k.rho_long (stands_last x r.rho n x_long) in
      λ i. record { x = bx i; rho = br i }

  pub reply_five_below : (n : ℕ) (r : ReplyFive) → n ≤ 96 → IsReplyFive n r → all_below o.size (take n (reply_five_bytes n r)) ≡ true
  unfolding reply_five_bytes
  reply_five_below n r hn k = rw (take_at (take n r.x) r.rho n (length_padded n r.x hn k.x_is.padded)) (below_vector n r.x k.x_is)

  -- ---- t1 and e1

  pub record IsMiddle (n m : ℕ) (sent : Middle) : Type 0 where
    pub t1_is : IsVector o n sent.t1
    pub e1_is : IsVector o m sent.e1

  pub middle_length : (n m : ℕ) (sent : Middle) → n ≤ 96 → m ≤ 96 → IsMiddle n m sent → length (middle_bytes n m sent) ≡ n + m
  unfolding middle_bytes
  middle_length n m sent hn hm k =
      let t_long = length_padded n sent.t1 hn k.t1_is.padded in
      let e_long = length_padded m sent.e1 hm k.e1_is.padded in
      simp length-append (omega arith)

  -- behind α, whatever that is
  pub middle_back : (n m : ℕ) (α : ℕ) (sent : Middle) → n ≤ 96 → m ≤ 96 → IsMiddle n m sent → middle_in n m (α ∷ middle_bytes n m sent) ≡ sent
  unfolding middle_in middle_bytes
  middle_back n m α sent hn hm k =
      let t = take n sent.t1 in
      let e = take m sent.e1 in
      let t_long : length t ≡ n = length_padded n sent.t1 hn k.t1_is.padded in
      let p = α ∷ t in
      let both : length p ≡ 1 + n = omega arith in
      let bt = slot_back n sent.t1 (p ++ e) 1 hn k.t1_is.padded (stands_before p e t 1 (omega arith) (stands_last (α ∷ []) t 1 refl)) in
      let be = slot_back m sent.e1 (p ++ e) (1 + n) hm k.e1_is.padded (stands_last p e (1 + n) both) in
      λ i. record { t1 = bt i; e1 = be i }

  pub middle_below : (n m : ℕ) (sent : Middle) → IsMiddle n m sent → all_below o.size (middle_bytes n m sent) ≡ true
  unfolding middle_bytes
  middle_below n m sent k =
      below_append o.size (take n sent.t1) (take m sent.e1) (below_vector n sent.t1 k.t1_is) (below_vector m sent.e1 k.e1_is)

-- ---- the judgement does not depend on how commitments and turn are held

same_open : (d : Domain) (c c' : List ℕ) → Reads c c' → (os : List Opening) → all_open d c os ≡ all_open d c' os
unfolding all_open opens_to commitment_at
same_open d c c' same [] = refl
same_open d c c' same (o ∷ os) =
    ap₂ ◌&&◌ (ap (λ (l : List ℕ). same_bytes (sha256 (string_of d o)) l) (same_bytes_lem c c' (32 * o.k) same)) (same_open d c c' same os)

same_openings : (b : List ℕ) (scheme : Scheme) (v turn turn' : List ℕ) (challenge : ℕ) (reply : List ℕ) → Reads turn turn' →
    openings b scheme v turn challenge reply ≡ openings b scheme v turn' challenge reply
unfolding openings
same_openings b ThreePass v turn turn' challenge reply same = refl
same_openings b FivePass v turn turn' challenge reply same =
    ap₂ (λ (α : ℕ) (sent : Middle). openings_five b α v sent challenge (reply_five_in (b ! 1) reply)) (same 0) (same_middle (b ! 1) (b ! 2) turn turn' same)

pub same_verdict : (b : List ℕ) (d : Domain) (v c c' turn turn' : List ℕ) (challenge : ℕ) (reply : List ℕ) → Reads c c' → Reads turn turn' →
    accepts b d v c turn challenge reply ≡ accepts b d v c' turn' challenge reply
unfolding accepts
same_verdict b d v c c' turn turn' challenge reply hc ht =
    ap (all_open d c) (same_openings b _ v turn turn' challenge reply ht) ∙ same_open d c c' hc _
