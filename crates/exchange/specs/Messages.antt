-- The messages of a round as bytes, in the order in which document 01 names their parts, and the judgement of a round by them.
use Rattle.std.specs.Prelude.{ℕ, ◌+◌, Bool, List, ◌++◌, take}
use Rattle.slices.specs.Slices.{◌!◌}
use Rattle.field.specs.Vector.{slot_v}
use Rattle.system.specs.System.{n_of, m_of}
use Rattle.scheme.specs.declared.Scheme.{Scheme}
use Rattle.scheme.specs.declared.Scheme.TheVariants.{ThreePass, FivePass}
use Rattle.commitment.specs.declared.Domain.{Domain}
use Rattle.round.specs.declared.pieces.CommitmentsThree.{CommitmentsThree}
use Rattle.round.specs.declared.pieces.CommitmentsFive.{CommitmentsFive}
use Rattle.round.specs.declared.pieces.Middle.{Middle}
use Rattle.round.specs.declared.pieces.ReplyThree.{ReplyThree}
use Rattle.round.specs.declared.pieces.ReplyFive.{ReplyFive}
use Rattle.exchange.specs.declared.read.Lent.{Lent}
use Rattle.round.specs.Openings.{Opening, all_open}
unfoldable pub use Rattle.round.specs.Openings.{bytes_at}
use Rattle.round.specs.ThreePass.{openings_three}
use Rattle.round.specs.FivePass.{openings_five}

-- "Lent as one slice, in order: r0 (n), t0 (n), e0 (m), ρ0, ρ1, ρ2."
unfoldable pub lent_in : ℕ → ℕ → List ℕ → Lent
lent_in n m l =
    record {
      r0 = slot_v n 0 l;
      t0 = slot_v n n l;
      e0 = slot_v m (n + n) l;
      rhos = record { rho0 = bytes_at (n + n + m) l; rho1 = bytes_at (n + n + m + 32) l; rho2 = bytes_at (n + n + m + 64) l };
    }

-- t1 and e1 of a turn, behind α: "scheme 5, α, t1, e1"
unfoldable pub middle_in : ℕ → ℕ → List ℕ → Middle
middle_in n m l = record { t1 = slot_v n 1 l; e1 = slot_v m (1 + n) l }

-- "A reply has 2n + m + 64 bytes."
unfoldable pub reply_three_in : ℕ → ℕ → List ℕ → ReplyThree
reply_three_in n m l =
    record {
      x = slot_v n 0 l;
      y = slot_v n n l;
      z = slot_v m (n + n) l;
      first = bytes_at (n + n + m) l;
      second = bytes_at (n + n + m + 32) l;
    }

-- "reply r0, ρ0", "reply r1, ρ1"
unfoldable pub reply_five_in : ℕ → List ℕ → ReplyFive
reply_five_in n l = record { x = slot_v n 0 l; rho = bytes_at n l }

-- ---- the judgement

-- what the reply of a round opens; the turn is α, t1 and e1 of five passes, and is not looked at in three
unfoldable pub openings : List ℕ → Scheme → List ℕ → List ℕ → ℕ → List ℕ → List Opening
openings b ThreePass v turn challenge reply = openings_three b v challenge (reply_three_in (n_of b) (m_of b) reply)
openings b FivePass v turn challenge reply =
    openings_five b (turn ! 0) v (middle_in (n_of b) (m_of b) turn) challenge (reply_five_in (n_of b) reply)

-- a round is accepted, by the bytes of its messages
unfoldable pub accepts : List ℕ → Domain → List ℕ → List ℕ → List ℕ → ℕ → List ℕ → Bool
accepts b d v commitments turn challenge reply = all_open d commitments (openings b d.scheme v turn challenge reply)

-- ---- what is written

-- the three commitments of a three-pass round
unfoldable pub three_commitments : CommitmentsThree → List ℕ
three_commitments c = c.c0 ++ c.c1 ++ c.c2

-- "r0, t1, e1, ρ1, ρ2", "r1, t1, e1, ρ0, ρ2", "r1, t0, e0, ρ0, ρ1"
unfoldable pub reply_three_bytes : ℕ → ℕ → ReplyThree → List ℕ
reply_three_bytes n m r = take n r.x ++ take n r.y ++ take m r.z ++ r.first ++ r.second

-- the two commitments of a five-pass round
unfoldable pub five_commitments : CommitmentsFive → List ℕ
five_commitments c = c.c0 ++ c.c1

-- "The card sends t1 = αr0 - t0, then e1 = αF(r0) - e0."
unfoldable pub middle_bytes : ℕ → ℕ → Middle → List ℕ
middle_bytes n m sent = take n sent.t1 ++ take m sent.e1

-- "reply r0, ρ0", "reply r1, ρ1"
unfoldable pub reply_five_bytes : ℕ → ReplyFive → List ℕ
reply_five_bytes n r = take n r.x ++ r.rho
