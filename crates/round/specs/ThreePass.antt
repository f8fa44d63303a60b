-- Document 01, "Three-pass round (scheme 3)": commitments, replies and what they open. The vectors are those of the protocols' definitions.
use Rattle.std.specs.Prelude.{ℕ, zero, suc, cond, List, [], ◌∷◌, ◌++◌, eqb, take}
use Rattle.commitment.specs.declared.Domain.{Domain}
use Rattle.commitment.specs.Commitment.{Com}
use Rattle.protocol.specs.Protocols as P
use Rattle.protocol.specs.Protocols.{t0_of, e0_of, unmasked, masked}
use Rattle.protocol.specs.Rounds.{map_of}
use Rattle.round.specs.Openings.{Opening, with_two}
use Rattle.round.specs.declared.pieces.Rhos.{Rhos}
use Rattle.round.specs.declared.pieces.CommitmentsThree.{CommitmentsThree}
use Rattle.round.specs.declared.pieces.ReplyThree.{ReplyThree}

-- "c0 = Com(0, ρ0, r1, G(t0,r1) + e0); c1 = Com(1, ρ1, t0, e0); c2 = Com(2, ρ2, t1, e1)"
unfoldable pub commitments_three : Domain → ℕ → ℕ → P.Vectors (List ℕ) (List ℕ) → Rhos → CommitmentsThree
commitments_three d n m w ρ =
    record {
      c0 = Com d 0 ρ.rho0 (take n w.r1 ++ take m w.mask);
      c1 = Com d 1 ρ.rho1 (take n w.t0 ++ take m w.e0);
      c2 = Com d 2 ρ.rho2 (take n w.t1 ++ take m w.e1);
    }

-- "0: r0, t1, e1, ρ1, ρ2. 1: r1, t1, e1, ρ0, ρ2. 2: r1, t0, e0, ρ0, ρ1."
unfoldable pub reply_three : P.Vectors (List ℕ) (List ℕ) → Rhos → ℕ → ReplyThree
reply_three w ρ challenge =
    cond (eqb challenge 0) (record { x = w.r0; y = w.t1; z = w.e1; first = ρ.rho1; second = ρ.rho2 })
    (cond (eqb challenge 1) (record { x = w.r1; y = w.t1; z = w.e1; first = ρ.rho0; second = ρ.rho2 })
    (record { x = w.r1; y = w.t0; z = w.e0; first = ρ.rho0; second = ρ.rho1 }))

-- "0: .. Opens c1 with (r0 - t1, F(r0) - e1) and c2 with (t1, e1)."
-- "1: .. Opens c0 with (r1, v - F(r1) - G(t1,r1) - e1) and c2 with (t1, e1)."
-- "2: .. Opens c0 with (r1, G(t0,r1) + e0) and c1 with (t0, e0)."
unfoldable pub openings_three : List ℕ → List ℕ → ℕ → ReplyThree → List Opening
openings_three b v zero r =
    with_two b 1 r.first (t0_of (map_of b).sub_x r.x r.y) (e0_of (map_of b) r.x r.z) ∷
    with_two b 2 r.second r.y r.z ∷ []
openings_three b v (suc zero) r =
    with_two b 0 r.first r.x (unmasked (map_of b) v r.x r.y r.z) ∷
    with_two b 2 r.second r.y r.z ∷ []
openings_three b v (suc (suc k)) r =
    with_two b 0 r.first r.x (masked (map_of b) r.y r.x r.z) ∷
    with_two b 1 r.second r.y r.z ∷ []
