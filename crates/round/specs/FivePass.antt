-- Document 01, "Five-pass round (scheme 5)": commitments, the answer to α, replies and what they open.
use Rattle.std.specs.Prelude.{ℕ, zero, suc, cond, List, [], ◌∷◌, ◌++◌, eqb, take}
use Rattle.field.specs.Ops.{ops}
use Rattle.field.specs.Vector.{sub_v}
use Rattle.commitment.specs.declared.Domain.{Domain}
use Rattle.commitment.specs.Commitment.{Com}
use Rattle.system.specs.System.{n_of, m_of}
use Rattle.protocol.specs.Protocols.{r1_of, masked, t1_by, e1_by, t0_by, e0_by, unmasked_by}
use Rattle.protocol.specs.Rounds.{map_of}
use Rattle.round.specs.Openings.{Opening, with_two, with_three}
use Rattle.round.specs.declared.pieces.Rhos.{Rhos}
use Rattle.round.specs.declared.pieces.CommitmentsFive.{CommitmentsFive}
use Rattle.round.specs.declared.pieces.Middle.{Middle}
use Rattle.round.specs.declared.pieces.ReplyFive.{ReplyFive}

-- "c0 = Com(0, ρ0, r0, t0, e0); c1 = Com(1, ρ1, r1, G(t0,r1) + e0)"
unfoldable pub commitments_five : Domain → List ℕ → List ℕ → List ℕ → List ℕ → List ℕ → Rhos → CommitmentsFive
commitments_five d b s r0 t0 e0 ρ =
    let n = n_of b in
    let m = m_of b in
    let r1 = r1_of (map_of b).sub_x s r0 in
    record {
      c0 = Com d 0 ρ.rho0 (take n r0 ++ (take n t0 ++ take m e0));
      c1 = Com d 1 ρ.rho1 (take n r1 ++ take m (masked (map_of b) t0 r1 e0));
    }

-- "The card sends t1 = αr0 - t0, then e1 = αF(r0) - e0."
unfoldable pub middle_five : List ℕ → ℕ → List ℕ → List ℕ → List ℕ → Middle
middle_five b α r0 t0 e0 = record { t1 = t1_by (map_of b) α r0 t0; e1 = e1_by (map_of b) α r0 e0 }

-- "Challenge 0: reply r0, ρ0", "Challenge 1: reply r1, ρ1"
unfoldable pub reply_five : ℕ → ℕ → List ℕ → List ℕ → Rhos → ℕ → ReplyFive
reply_five q n s r0 ρ challenge =
    cond (eqb challenge 0) (record { x = r0; rho = ρ.rho0 }) (record { x = r1_of (sub_v (ops q) n) s r0; rho = ρ.rho1 })

-- "Challenge 0: .. opens c0 with (r0, αr0 - t1, αF(r0) - e1)."
-- "Challenge 1: .. opens c1 with (r1, α(v - F(r1)) - G(t1,r1) - e1)."
unfoldable pub openings_five : List ℕ → ℕ → List ℕ → Middle → ℕ → ReplyFive → List Opening
openings_five b α v sent zero r =
    with_three b 0 r.rho r.x (t0_by (map_of b) α r.x sent.t1) (e0_by (map_of b) α r.x sent.e1) ∷ []
openings_five b α v sent (suc k) r =
    with_two b 1 r.rho r.x (unmasked_by (map_of b) α v r.x sent.t1 sent.e1) ∷ []
