-- The simulator refuses exactly the arguments that are not as document 01 asks. Assumes nothing.
use Prim.Native.Nat.{ℕ, ◌+◌, ◌≤◌, ◌<◌}
use mathlib.Core.Path.{◌≡◌, refl, sym, ap, subst, ◌∙◌}
use mathlib.Core.Bool.{true, not}
use mathlib.Core.List.{List, [], ◌∷◌, ◌++◌}
use native.Mathlib.Omega.{arith}
use lib.ListN.{length, take, drop, replicate, length-append, length-take, length-drop}
use lib.Seq.{get_or-take, get_or-drop, take-add, take_all, take_at, take-append-le}
use borrow.Author.Tests.{le-leb, eq-eqb, ne_eqb}
use Rattle.slices.specs.Slices.{◌!◌}
use Rattle.refusal.specs.Refusal.{unless, ◌or_else◌}
use Rattle.refusal.proofs.Refusals.{first_zero, later_zero, equal_holds, both_zero, unless_holds}
use Rattle.field.specs.Ops.{is_field}
use Rattle.field.specs.Vector.{all_below}
use Rattle.system.specs.System.{q_of, n_of, m_of, width, system_length, is_size, are_sizes, system_refusal}
use Rattle.field.proofs.Elements.{all_below_at, at_all_below, below_append}
use Rattle.system.proofs.SystemLayout.{well_formed, not_refused, q_is, n_is, m_is}
use Rattle.scheme.specs.Scheme.{drawn_length, commitment_count, commitments_length, opened_count, vectors_length, rhos_length, reply_length}
use Rattle.simulator.specs.Arguments.{VectorBytes, LentPieces, Simulable}
use Rattle.simulator.specs.Simulator.{simulate_refusal}
use Rattle.simulator.proofs.NotRefused.{taken}

-- ---- the lent slice and its pieces

module _ (q n m : ℕ) (lent : List ℕ) (k : LentPieces q n m lent) where
  vectors : List ℕ
  vectors = k.s' ++ k.r0 ++ k.t0 ++ k.e0

  vectors_length_lem : length vectors ≡ n + n + n + m
  unfolding vectors
  vectors_length_lem = simp length-append (omega (arith, k.s'_is.0, k.r0_is.0, k.t0_is.0, k.e0_is.0))

  pieces_length : length lent ≡ n + n + n + m + 96
  unfolding vectors
  pieces_length = ap length k.laid_out ∙ simp length-append (omega (arith, simp length-append at vectors_length_lem, k.ρ0_length, k.ρ1_length, k.ρ2_length))

  -- the first bytes are the four vectors
  front : take (n + n + n + m) lent ≡ vectors
  unfolding vectors
  front =
      ap (take (n + n + n + m)) k.laid_out ∙
      take-append-le (n + n + n + m) (vectors ++ k.ρ0 ++ k.ρ1) k.ρ2 (simp length-append (omega (arith, vectors_length_lem))) ∙
      take-append-le (n + n + n + m) (vectors ++ k.ρ0) k.ρ1 (simp length-append (omega (arith, vectors_length_lem))) ∙
      take_at vectors k.ρ0 (n + n + n + m) vectors_length_lem

  all_below_lem : (l : List ℕ) (j : ℕ) → VectorBytes q j l → all_below q l ≡ true
  all_below_lem l j h = at_all_below q l h.1

  pieces_below : all_below q (take (n + n + n + m) lent) ≡ true
  unfolding vectors
  pieces_below =
      rw front
      (below_append q (k.s' ++ k.r0 ++ k.t0) k.e0
      (below_append q (k.s' ++ k.r0) k.t0 (below_append q k.s' k.r0 (all_below_lem k.s' n k.s'_is) (all_below_lem k.r0 n k.r0_is)) (all_below_lem k.t0 n k.t0_is))
      (all_below_lem k.e0 m k.e0_is))

module _ (q n m : ℕ) (lent : List ℕ) (long : length lent ≡ n + n + n + m + 96) (below : all_below q (take (n + n + n + m) lent) ≡ true) where
  part_length : (a j : ℕ) → a + j ≤ n + n + n + m + 96 → length (take j (drop a lent)) ≡ j
  part_length a j room = simp (length-take, length-drop) (omega arith)

  part_is : (a j : ℕ) → a + j ≤ n + n + n + m → VectorBytes q j (take j (drop a lent))
  part_is a j room =
      let size = part_length a j (omega arith) in
      (size, λ i h. within i (omega (arith, h, size)))
    where
      within : (i : ℕ) → i < j → take j (drop a lent) ! i < q
      within i h =
          rw (get_or-take j (drop a lent) i 0 h, get_or-drop a lent i 0, ← (get_or-take (n + n + n + m) lent (a + i) 0 (omega arith)))
          (all_below_at q (take (n + n + n + m) lent) below (a + i) (simp length-take (omega arith)))

  lent_pieces : LentPieces q n m lent
  lent_pieces =
      let front = n + n + n + m in
      record {
        s' = take n (drop 0 lent);
        r0 = take n (drop n lent);
        t0 = take n (drop (n + n) lent);
        e0 = take m (drop (n + n + n) lent);
        ρ0 = take 32 (drop front lent);
        ρ1 = take 32 (drop (front + 32) lent);
        ρ2 = take 32 (drop (front + 32 + 32) lent);
        laid_out = sym (take_all (front + 32 + 32 + 32) lent (omega arith)) ∙ simp take-add;
        s'_is = part_is 0 n (omega arith);
        r0_is = part_is n n (omega arith);
        t0_is = part_is (n + n) n (omega arith);
        e0_is = part_is (n + n + n) m (omega arith);
        ρ0_length = part_length front 32 (omega arith);
        ρ1_length = part_length (front + 32) 32 (omega arith);
        ρ2_length = part_length (front + 32 + 32) 32 (omega arith);
      }

-- ---- the call

drawn : (n m : ℕ) → n + n + n + m ≡ n + (n + n + m)
drawn n m = omega arith

module _ (b v : List ℕ) (unanswered challenge : ℕ) (lent : List ℕ) (commitments reply : ℕ) where
  pub simulate_not_refused : Simulable b v unanswered challenge lent commitments reply → simulate_refusal b v unanswered challenge lent commitments reply ≡ 0
  unfolding simulate_refusal drawn_length commitments_length commitment_count reply_length vectors_length rhos_length opened_count
  simulate_not_refused k =
      let w = k.system in
      let q = q_is b w in
      let n = n_is b w in
      let m = m_is b w in
      let lent_is = pieces_length w.q w.n w.m lent k.pieces in
      both_zero _ _ (not_refused b w)
      (both_zero _ _
      (both_zero _ _
      (both_zero _ _ (unless_holds _ 2 (eq-eqb (length v) _ (k.key.0 ∙ sym m))) (unless_holds _ 2 (eq-eqb (length lent) _ (omega arith))))
      (both_zero _ _ (unless_holds _ 2 (eq-eqb commitments _ (omega (arith, k.commitments_length_is)))) (unless_holds _ 2 (eq-eqb reply _ (omega (arith, k.reply_length_is))))))
      (both_zero _ _
      (both_zero _ _ (unless_holds _ 3 (at_all_below (q_of b) v (rw q k.key.1))) (unless_holds _ 3 (rw (q, n, m, ← drawn w.n w.m) (pieces_below _ _ _ _ k.pieces))))
      (both_zero _ _ (unless_holds _ 4 (le-leb unanswered 2 k.unanswered_value))
      (both_zero _ _ (unless_holds _ 4 (le-leb challenge 2 k.challenge_value)) (unless_holds _ 4 (ap not (ne_eqb unanswered challenge (λ e. k.other (sym e)))))))))

  pub simulable : simulate_refusal b v unanswered challenge lent commitments reply ≡ 0 → Simulable b v unanswered challenge lent commitments reply
  unfolding simulate_refusal drawn_length commitments_length commitment_count reply_length vectors_length rhos_length opened_count
  simulable none =
      let k = taken b v unanswered challenge lent commitments reply none in
      let w = well_formed b k.good in
      let lengths = first_zero _ _ (later_zero _ _ none) in
      let long = equal_holds (length lent) (n_of b + (n_of b + n_of b + m_of b) + 96) 2 tt (later_zero _ _ (first_zero _ _ lengths)) in
      let below = subst (λ (j : ℕ). all_below (q_of b) (take j lent) ≡ true) (sym (drawn (n_of b) (m_of b))) k.lent_elements in
      record {
        system = w;
        key = (k.key_length ∙ m_is b w, rw (q_is b w) at (all_below_at (q_of b) v k.key_elements));
        pieces = rw (q_is b w, n_is b w, m_is b w) at (lent_pieces (q_of b) (n_of b) (m_of b) lent (omega (arith, long)) below);
        commitments_length_is = k.commitments_room;
        reply_length_is = omega (arith, k.reply_room, n_is b w, m_is b w);
        unanswered_value = k.unanswered_value;
        challenge_value = k.challenge_value;
        other = k.other;
      }

-- ---- there are right calls: K9, "simulator, Ch* = 0, s' = (1,0)", with Ch = 1 and each ρ zero

pub simulable_k9 : Simulable (7 ∷ 2 ∷ 2 ∷ 1 ∷ 2 ∷ 3 ∷ 1 ∷ 0 ∷ 0 ∷ 1 ∷ 5 ∷ 0 ∷ 4 ∷ []) (5 ∷ 6 ∷ []) 0 1 (1 ∷ 0 ∷ 5 ∷ 1 ∷ 4 ∷ 2 ∷ 2 ∷ 5 ∷ replicate 96 0) 96 70
unfolding simulate_refusal drawn_length commitments_length commitment_count reply_length vectors_length rhos_length opened_count system_refusal are_sizes is_size system_length width is_field all_below unless ◌or_else◌
simulable_k9 = simulable _ _ _ _ _ _ _ refl
