-- The states of both ends along an honest session: what each session is, and what has been given, by the call that is due. Assumes nothing.
use Prim.Native.Nat.{ℕ, ◌+◌, ◌≤◌, ◌<◌}
use mathlib.Core.Path.{◌≡◌}
use mathlib.Core.List.{List}
use mathlib.Core.Option.{some}
use Rattle.field.specs.Vector.{as_vector}
use Rattle.system.specs.System.{n_of, m_of}
use Rattle.scheme.specs.declared.Scheme.{Scheme}
use Rattle.scheme.specs.declared.Scheme.TheVariants.{ThreePass, FivePass}
use Rattle.scheme.specs.Scheme.{challenges}
use Rattle.exchange.specs.Messages.{middle_bytes, reply_three_bytes, reply_five_bytes}
use Rattle.exchange.specs.Card.{three_replied}
use Rattle.exchange.proofs.Formed.{Lends}
use Rattle.honest.proofs.Honest.{five_middle, five_replied}
use Rattle.card_state.specs.declared.session.CardPhase.TheVariants.{AnswerAlpha, Reply}
use Rattle.card_state.specs.declared.session.Card.{Card}
use Rattle.card_state.specs.Card as CardCalls
use Rattle.card_state.specs.Card.{formed_commitments}
use Rattle.session.specs.Session.{Terms, passes, domain_of, Given, Asked, Taken, World}
use Rattle.session.proofs.Logs.{Clear, Stays}
use Rattle.session.proofs.CardHistory.{fresh_card, held_card, CardHistory}
use Rattle.session.proofs.CarrierHistory.{AllAccepted, CarrierHistory}

-- the reply of a round, from the secret and what is lent
unfoldable pub reply_bytes : Scheme → List ℕ → List ℕ → List ℕ → ℕ → List ℕ
reply_bytes ThreePass b s lent challenge = reply_three_bytes (n_of b) (m_of b) (three_replied b s lent challenge)
reply_bytes FivePass b s lent challenge = reply_five_bytes (n_of b) (five_replied b s lent challenge)

module _ (o : Terms) where
  -- ---- what an honest card sends in a round, from what is lent for it

  abbrev pub secret_of : List ℕ
  secret_of = as_vector o.secret

  abbrev pub given_commitments : List ℕ → List ℕ
  given_commitments lent = formed_commitments (passes o) (domain_of o) o.system secret_of lent

  unfoldable pub given_middle : List ℕ → ℕ → List ℕ
  given_middle lent α = middle_bytes (n_of o.system) (m_of o.system) (five_middle o.system lent α)

  abbrev pub given_reply : List ℕ → ℕ → List ℕ
  given_reply lent challenge = reply_bytes (passes o) o.system secret_of lent challenge

  -- ---- the card

  -- what the card gave between commitments and challenge: nothing, or t1 and e1 for the α that was set
  pub data MiddleGiven (g : Given) (a : Asked) (r : ℕ) (lent : List ℕ) : Type 0 where
    no_middle : passes o ≡ ThreePass → MiddleGiven g a r lent
    with_middle_is : passes o ≡ FivePass → (α : ℕ) → a.alphas r ≡ some α → g.middles r ≡ some (given_middle lent α) → MiddleGiven g a r lent

  pub data CardState (g : Given) (a : Asked) (card : Card) (r : ℕ) : Type 0 where
    is_fresh : r < o.rounds → card ≡ fresh_card o r → Clear g.commitments r → Clear g.middles r → Clear g.replies r → CardState g a card r
    is_committed : (lent : List ℕ) → r < o.rounds → passes o ≡ FivePass → Lends o.system lent → card ≡ held_card o o.system AnswerAlpha r lent →
        g.commitments r ≡ some (given_commitments lent) → Clear g.commitments (r + 1) → Clear g.middles r → Clear g.replies r → CardState g a card r
    is_ready : (lent : List ℕ) → r < o.rounds → Lends o.system lent → card ≡ held_card o o.system Reply r lent →
        g.commitments r ≡ some (given_commitments lent) → Clear g.commitments (r + 1) → MiddleGiven g a r lent → Clear g.middles (r + 1) →
        Clear g.replies r → CardState g a card r
    is_over : r ≡ o.rounds → card ≡ CardCalls.closed_card → Clear g.replies r → CardState g a card r

  -- a round that is over at the card
  pub record Past (g : Given) (a : Asked) (k : ℕ) : Type 0 where
    pub lent : List ℕ
    pub challenge : ℕ
    pub lends : Lends o.system lent
    pub commitments_given : g.commitments k ≡ some (given_commitments lent)
    pub middle_given : MiddleGiven g a k lent
    pub challenge_given : a.challenges k ≡ some challenge
    pub challenge_value : challenge < challenges (passes o)
    pub reply_given : g.replies k ≡ some (given_reply lent challenge)

  -- ---- both ends

  -- what the carrier took was given by the card, for that round
  pub record TakenGiven (g : Given) (t : Taken) : Type 0 where
    pub commitments_given : Stays t.commitments g.commitments
    pub middles_given : Stays t.middles g.middles

  pub record Link (w : World) : Type 0 where
    pub card_state : CardState w.history.given w.history.asked w.card w.history.card_round
    pub past : (k : ℕ) → k < w.history.card_round → Past w.history.given w.history.asked k
    pub card_history : CardHistory o w
    pub carrier_history : CarrierHistory o w
    pub taken_given : TakenGiven w.history.given w.history.taken
    pub all_accepted : AllAccepted w.history.judged w.history.carrier_round
    pub behind : w.history.carrier_round ≤ w.history.card_round

  -- ---- what was given stays

  pub record GivenStays (old new : Given) : Type 0 where
    pub commitments_stay : Stays old.commitments new.commitments
    pub middles_stay : Stays old.middles new.middles
    pub replies_stay : Stays old.replies new.replies

  pub record AskedStays (old new : Asked) : Type 0 where
    pub alphas_stay : Stays old.alphas new.alphas
    pub challenges_stay : Stays old.challenges new.challenges

  pub given_same : (g : Given) → GivenStays g g
  given_same g = record { commitments_stay = λ k x e. e; middles_stay = λ k x e. e; replies_stay = λ k x e. e }

  pub asked_same : (a : Asked) → AskedStays a a
  asked_same a = record { alphas_stay = λ k x e. e; challenges_stay = λ k x e. e }

  pub middle_stays : {g g' : Given} {a a' : Asked} (r : ℕ) (lent : List ℕ) → GivenStays g g' → AskedStays a a' → MiddleGiven g a r lent → MiddleGiven g' a' r lent
  middle_stays r lent gs ks (no_middle e) = no_middle e
  middle_stays r lent gs ks (with_middle_is five α ea eg) = with_middle_is five α (ks.alphas_stay r _ ea) (gs.middles_stay r _ eg)

  pub past_stays : {g g' : Given} {a a' : Asked} (k : ℕ) → GivenStays g g' → AskedStays a a' → Past g a k → Past g' a' k
  past_stays k gs ks p =
      record {
        lent = p.lent;
        challenge = p.challenge;
        lends = p.lends;
        commitments_given = gs.commitments_stay k _ p.commitments_given;
        middle_given = middle_stays k p.lent gs ks p.middle_given;
        challenge_given = ks.challenges_stay k _ p.challenge_given;
        challenge_value = p.challenge_value;
        reply_given = gs.replies_stay k _ p.reply_given;
      }

  -- the card's state says of what the carrier gave only that it was given
  pub card_stays : {g : Given} {a a' : Asked} {card : Card} {r : ℕ} → AskedStays a a' → CardState g a card r → CardState g a' card r
  card_stays ks (is_fresh h e c m p) = is_fresh h e c m p
  card_stays ks (is_committed lent h five l e c cn m p) = is_committed lent h five l e c cn m p
  card_stays {g = g} ks (is_ready lent h l e c cn m mn p) = is_ready lent h l e c cn (middle_stays _ lent (given_same g) ks m) mn p
  card_stays ks (is_over h e p) = is_over h e p
