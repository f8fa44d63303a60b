-- What is formed from bytes that are elements, by card or simulator: vectors, commitments and replies have their lengths and elements. Assumes nothing.
use Prim.Native.Nat.{ℕ, ◌+◌, ◌≤◌, ◌<◌}
use mathlib.Core.Path.{◌≡◌}
use mathlib.Core.Bool.{true}
use mathlib.Core.List.{List}
use native.Mathlib.Omega.{arith}
use lib.Dec.{eqb}
use lib.ListN.{length, take, drop, length-take}
use lib.Seq.{get_or-take, get_or-drop}
use Rattle.slices.proofs.Booleans.{either}
use Rattle.slices.specs.Slices.{◌!◌}
use Rattle.field.specs.Vector.{as_vector, slot_v, IsVector, all_below}
use Rattle.field.proofs.Modulus.{size_of}
use Rattle.field.proofs.Fields.{ring}
use Rattle.sha256.proofs.DigestBytes.{length-sha256}
use Rattle.commitment.specs.declared.Domain.{Domain}
use Rattle.commitment.specs.Commitment.{Com}
use Rattle.system.specs.System.{q_of, n_of, m_of, ops_of, system_refusal}
use Rattle.field.proofs.Elements.{all_below_at, at_all_below, everywhere}
use Rattle.system.proofs.SystemLayout.{accepted}
use Rattle.protocol.specs.Protocols as P
use Rattle.protocol.specs.Protocols.{AreElements}
use Rattle.protocol.specs.Rounds.{IsX, IsY}
use Rattle.protocol.proofs.SystemMap.{is_vector}
use Rattle.round.specs.declared.pieces.Rhos.{Rhos}
use Rattle.round.specs.ThreePass.{commitments_three, reply_three}
use Rattle.round.specs.FivePass.{commitments_five}
use Rattle.exchange.specs.Messages.{lent_in}
use Rattle.exchange.proofs.ReadBack.{AreThree, AreTwo, IsReplyThree}

-- the first k of a list are elements; beyond the list's end there is the element 0
first_below : (q k : ℕ) (l : List ℕ) → 0 < q → all_below q (take k l) ≡ true → (i : ℕ) → i < k → l ! i < q
first_below q k l pos below i h = rw (← get_or-take k l i 0 h) (everywhere q (take k l) pos (all_below_at q (take k l) below) i)

-- ---- vectors

-- the bytes of the lent vectors are elements
abbrev pub Lends : List ℕ → List ℕ → Type 0
Lends b lent = all_below (q_of b) (take (n_of b + n_of b + m_of b) lent) ≡ true

-- the lent vectors are vectors of n, n and m elements
pub record LentIs (b lent : List ℕ) : Type 0 where
  pub r0_is : IsX b (lent_in (n_of b) (m_of b) lent).r0
  pub t0_is : IsX b (lent_in (n_of b) (m_of b) lent).t0
  pub e0_is : IsY b (lent_in (n_of b) (m_of b) lent).e0

module _ (b : List ℕ) (good : system_refusal b ≡ 0) where
  pub size_is : (ops_of b).size ≡ q_of b
  size_is = size_of (q_of b) (accepted b good).q_is_field

  -- a list of n elements as a vector
  pub as_vector_is : (n : ℕ) (l : List ℕ) → length l ≡ n → all_below (q_of b) l ≡ true → IsVector (ops_of b) n (as_vector l)
  as_vector_is n l long below = rw long (is_vector (ops_of b) (ring (q_of b)) n _ (λ i h. rw size_is (all_below_at (q_of b) l below i (rw long h))))

  -- n places among the first k, which are elements
  pub slot_is : (n place k : ℕ) (l : List ℕ) → place + n ≤ k → all_below (q_of b) (take k l) ≡ true → IsVector (ops_of b) n (slot_v n place l)
  unfolding slot_v
  slot_is n place k l room below =
      is_vector (ops_of b) (ring (q_of b)) n _ (λ i h.
      first_below (ops_of b).size k l (ring (q_of b)).zero_below (rw size_is below) (place + i) (omega arith))

  pub lent_is : (lent : List ℕ) → Lends b lent → LentIs b lent
  unfolding lent_in
  lent_is lent h =
      let drawn = n_of b + n_of b + m_of b in
      record {
        r0_is = slot_is (n_of b) 0 drawn lent (omega arith) h;
        t0_is = slot_is (n_of b) (n_of b) drawn lent (omega arith) h;
        e0_is = slot_is (m_of b) (n_of b + n_of b) drawn lent (omega arith) h;
      }

  -- what is lent behind n other elements
  pub lends_behind : (n all : ℕ) (l : List ℕ) → all ≡ n + (n_of b + n_of b + m_of b) → all_below (q_of b) (take all l) ≡ true → Lends b (drop n l)
  lends_behind n all l long below =
      at_all_below (q_of b) _ (λ i h.
      let within : i < n_of b + n_of b + m_of b = omega (arith, h, length-take (n_of b + n_of b + m_of b) (drop n l)) in
      rw (get_or-take (n_of b + n_of b + m_of b) (drop n l) i 0 within, get_or-drop n l i 0) (first_below (q_of b) all l (rw (← size_is) (ring (q_of b)).zero_below) below (n + i) (omega arith)))

-- ---- commitments

pub are_three : (d : Domain) (n m : ℕ) (w : P.Vectors (List ℕ) (List ℕ)) (ρ : Rhos) → AreThree (commitments_three d n m w ρ)
unfolding commitments_three Com
are_three d n m w ρ = record { c0_long = length-sha256 _; c1_long = length-sha256 _; c2_long = length-sha256 _ }

pub are_two : (d : Domain) (b s r0 t0 e0 : List ℕ) (ρ : Rhos) → AreTwo (commitments_five d b s r0 t0 e0 ρ)
unfolding commitments_five Com
are_two d b s r0 t0 e0 ρ = record { c0_long = length-sha256 _; c1_long = length-sha256 _ }

-- ---- a reply of three passes

pub replied_is : (b : List ℕ) (w : P.Vectors (List ℕ) (List ℕ)) (ρ : Rhos) → AreElements (IsX b) (IsY b) w →
    length ρ.rho0 ≡ 32 → length ρ.rho1 ≡ 32 → length ρ.rho2 ≡ 32 → (challenge : ℕ) → IsReplyThree (ops_of b) (n_of b) (m_of b) (reply_three w ρ challenge)
unfolding reply_three
replied_is b w ρ k long0 long1 long2 challenge =
    either (IsReplyThree (ops_of b) (n_of b) (m_of b)) (eqb challenge 0) _ _
    (record { x_is = k.r0_is; y_is = k.t1_is; z_is = k.e1_is; first_long = long1; second_long = long2 })
    (either (IsReplyThree (ops_of b) (n_of b) (m_of b)) (eqb challenge 1) _ _
    (record { x_is = k.r1_is; y_is = k.t1_is; z_is = k.e1_is; first_long = long0; second_long = long2 })
    (record { x_is = k.r1_is; y_is = k.t0_is; z_is = k.e0_is; first_long = long0; second_long = long1 }))
