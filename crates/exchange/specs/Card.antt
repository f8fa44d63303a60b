-- The card's side of a round, from its secret and the lent slice.
use Rattle.std.specs.Prelude.{ℕ, List}
use Rattle.system.specs.System.{n_of, m_of}
use Rattle.protocol.specs.Protocols.{Vectors, card_three}
use Rattle.protocol.specs.Rounds.{map_of}
use Rattle.commitment.specs.declared.Domain.{Domain}
use Rattle.round.specs.declared.pieces.CommitmentsThree.{CommitmentsThree}
use Rattle.round.specs.declared.pieces.CommitmentsFive.{CommitmentsFive}
use Rattle.round.specs.declared.pieces.ReplyThree.{ReplyThree}
use Rattle.round.specs.ThreePass.{commitments_three, reply_three}
use Rattle.round.specs.FivePass.{commitments_five}
use Rattle.exchange.specs.Messages.{lent_in}

-- the card's vectors: "Lent as one slice, in order: r0 (n), t0 (n), e0 (m), ρ0, ρ1, ρ2."
unfoldable pub three_vectors : List ℕ → List ℕ → List ℕ → Vectors (List ℕ) (List ℕ)
three_vectors b s lent = let l = lent_in (n_of b) (m_of b) lent in card_three (map_of b) s l.r0 l.t0 l.e0

unfoldable pub three_committed : Domain → List ℕ → List ℕ → List ℕ → CommitmentsThree
three_committed d b s lent = commitments_three d (n_of b) (m_of b) (three_vectors b s lent) (lent_in (n_of b) (m_of b) lent).rhos

unfoldable pub three_replied : List ℕ → List ℕ → List ℕ → ℕ → ReplyThree
three_replied b s lent challenge = reply_three (three_vectors b s lent) (lent_in (n_of b) (m_of b) lent).rhos challenge

-- "Lent as one slice: r0, t0, e0, ρ0, ρ1"
unfoldable pub five_committed : Domain → List ℕ → List ℕ → List ℕ → CommitmentsFive
five_committed d b s lent = let l = lent_in (n_of b) (m_of b) lent in commitments_five d b s l.r0 l.t0 l.e0 l.rhos
