-- What a call makes of the session and sends, by the scheme. Assumes nothing.
use Prim.Native.Nat.{ℕ}
use mathlib.Core.Path.{◌≡◌}
use mathlib.Core.List.{List}
use Rattle.slices.specs.Slices.{zeros}
use Rattle.system.specs.System.{n_of, m_of}
use Rattle.scheme.specs.declared.Scheme.TheVariants.{ThreePass, FivePass}
use Rattle.scheme.specs.Scheme.{has_alpha}
use Rattle.exchange.specs.Messages.{lent_in, three_commitments, five_commitments}
use Rattle.exchange.specs.Card.{three_vectors, three_committed, five_committed}
use Rattle.card_state.specs.declared.session.CardPhase.TheVariants.{AnswerAlpha, Reply}
use Rattle.card_state.specs.declared.session.Card.{Card}
use Rattle.card_state.specs.Card.{card_domain, card_with, behind_commit, kept_e1, committed_card, formed_commitments, sent_commitments}

pub committed_three_lem : (card : Card) (b lent : List ℕ) → card.scheme ≡ ThreePass →
    committed_card card b lent ≡ card_with card Reply card.round (lent_in (n_of b) (m_of b) lent) (three_vectors b card.s lent).e1
unfolding committed_card behind_commit kept_e1 has_alpha
committed_three_lem card b lent three = simp three

pub committed_five : (card : Card) (b lent : List ℕ) → card.scheme ≡ FivePass →
    committed_card card b lent ≡ card_with card AnswerAlpha card.round (lent_in (n_of b) (m_of b) lent) (zeros 96)
unfolding committed_card behind_commit kept_e1 has_alpha
committed_five card b lent five = simp five

pub sent_three : (card : Card) (b lent : List ℕ) → card.scheme ≡ ThreePass →
    sent_commitments card b lent ≡ three_commitments (three_committed (card_domain card) b card.s lent)
unfolding sent_commitments formed_commitments
sent_three card b lent three = simp three

pub sent_five : (card : Card) (b lent : List ℕ) → card.scheme ≡ FivePass →
    sent_commitments card b lent ≡ five_commitments (five_committed (card_domain card) b card.s lent)
unfolding sent_commitments formed_commitments
sent_five card b lent five = simp five
