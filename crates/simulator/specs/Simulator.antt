-- Document 01, "Simulator": "commitments and reply in one call: from the system, v, challenges Ch* and Ch and lent s', r0, t0, e0, ρ0..ρ2". `unanswered` is
-- Ch*, the challenge that is not answered.
use Rattle.std.specs.Prelude.{ℕ, ◌+◌, not, List, leb, eqb, length, take, drop}
use Rattle.refusal.specs.Refusal.{unless, ◌or_else◌}
use Rattle.field.specs.Vector.{as_vector, slot_v, all_below}
use Rattle.system.specs.System.{q_of, n_of, m_of, system_refusal}
use Rattle.scheme.specs.declared.Scheme.TheVariants.{ThreePass}
use Rattle.scheme.specs.Scheme.{drawn_length, commitments_length, reply_length}
use Rattle.commitment.specs.declared.Domain.{Domain}
use Rattle.protocol.specs.Protocols.{Vectors, simulated}
use Rattle.protocol.specs.Rounds.{map_of}
use Rattle.round.specs.ThreePass.{commitments_three, reply_three}
use Rattle.exchange.specs.declared.read.Lent.{Lent}
use Rattle.exchange.specs.Messages.{lent_in, three_commitments, reply_three_bytes}

-- the system; all 2, all 3; then 4: "Ch = Ch* is refused with 4"
unfoldable pub simulate_refusal : List ℕ → List ℕ → ℕ → ℕ → List ℕ → ℕ → ℕ → ℕ
simulate_refusal b v unanswered challenge lent commitments reply =
    let n = n_of b in
    let m = m_of b in
    system_refusal b or_else
    ((unless (eqb (length v) m) 2 or_else unless (eqb (length lent) (n + drawn_length ThreePass n m + commitments_length ThreePass)) 2) or_else
    (unless (eqb commitments (commitments_length ThreePass)) 2 or_else unless (eqb reply (reply_length ThreePass n m)) 2)) or_else
    (unless (all_below (q_of b) v) 3 or_else unless (all_below (q_of b) (take (n + drawn_length ThreePass n m) lent)) 3) or_else
    (unless (leb unanswered 2) 4 or_else unless (leb challenge 2) 4 or_else unless (not (eqb unanswered challenge)) 4)

-- "lent s', r0, t0, e0, ρ0..ρ2": behind s' what a card is lent
unfoldable pub lent_behind : ℕ → ℕ → List ℕ → Lent
lent_behind n m lent = lent_in n m (drop n lent)

-- "it forms r1 = s' - r0, t1 = r0 - t0, and e1", from s' and what is lent behind it
unfoldable pub vectors_from : List ℕ → ℕ → List ℕ → List ℕ → Lent → Vectors (List ℕ) (List ℕ)
vectors_from b unanswered v lent l = simulated (map_of b) unanswered (as_vector v) (slot_v (n_of b) 0 lent) l.r0 l.t0 l.e0

-- the same from the whole slice
unfoldable pub lent_vectors : List ℕ → ℕ → List ℕ → List ℕ → Vectors (List ℕ) (List ℕ)
lent_vectors b unanswered v lent = vectors_from b unanswered v lent (lent_behind (n_of b) (m_of b) lent)

-- "One three-pass round without s"
unfoldable pub simulator_domain : Domain
simulator_domain = record { scheme = ThreePass }

-- "All else is formed as on the card."
unfoldable pub simulated_commitments : List ℕ → List ℕ → ℕ → List ℕ → List ℕ
simulated_commitments b v unanswered lent =
    three_commitments (commitments_three simulator_domain (n_of b) (m_of b) (lent_vectors b unanswered v lent) (lent_behind (n_of b) (m_of b) lent).rhos)

unfoldable pub simulated_reply : List ℕ → List ℕ → ℕ → ℕ → List ℕ → List ℕ
simulated_reply b v unanswered challenge lent =
    reply_three_bytes (n_of b) (m_of b) (reply_three (lent_vectors b unanswered v lent) (lent_behind (n_of b) (m_of b) lent).rhos challenge)
