-- Every reply of an honest session that the carrier takes is accepted. Assumes nothing.
use Prim.Native.Nat.{ℕ, ◌+◌, ◌<◌}
use mathlib.Core.Path.{◌≡◌, sym, ◌∙◌}
use mathlib.Core.Bool.{true}
use mathlib.Core.List.{List, ◌∷◌}
use mathlib.Core.Option.{some}
use native.Mathlib.Omega.{arith}
use Rattle.field.specs.Vector.{as_vector}
use Rattle.system.specs.System.{n_of, m_of, system_refusal, F}
use Rattle.system.proofs.SystemLayout.{accepted}
use Rattle.scheme.specs.declared.Scheme.{Scheme}
use Rattle.scheme.specs.declared.Scheme.TheVariants.{ThreePass, FivePass}
use Rattle.commitment.specs.declared.Domain.{Domain}
use Rattle.protocol.specs.Rounds.{IsX}
use Rattle.exchange.specs.Messages.{accepts, three_commitments, five_commitments, reply_three_bytes, reply_five_bytes}
use Rattle.exchange.specs.Card.{three_committed, three_replied, five_committed}
use Rattle.honest.proofs.Honest.{five_replied, honest_three, honest_five}
use Rattle.card_state.specs.Card.{formed_commitments}
use Rattle.carrier_state.specs.Carrier.{reply_refusal, accepts_reply}
use Rattle.session.specs.Session.{Terms, passes, domain_of, Log, Given, Asked, World}
use Rattle.session.specs.Histories.{Turn}
use Rattle.session.specs.Honest.{RoundAccepted}
use Rattle.session.proofs.Logs.{same_message, given_before}
use Rattle.session.proofs.Schemes.{by_scheme, not_both_schemes, three_challenges, five_challenges}
use Rattle.session.proofs.CarrierHistory as Ca
use Rattle.session.proofs.CarrierHistory.{CarrierOpens, put_accepted, turn_within}
use Rattle.session.proofs.CarrierSide.{moved}
use Rattle.session.proofs.States as St
use Rattle.session.proofs.States.{Link, Past, asked_same}

-- what two openings that are not refused give
pub record Opens (o : Terms) : Type 0 where
  pub good : system_refusal o.system ≡ 0
  pub few : o.rounds < 256
  pub some_rounds : 0 < o.rounds
  pub secret_is : IsX o.system (St.secret_of o)
  pub key_is : F o.system (St.secret_of o) ≡ as_vector o.key

pub of_carrier : (o : Terms) → Opens o → CarrierOpens o
of_carrier o k =
    let a = accepted o.system k.good in
    record { some_rounds = k.some_rounds; few = k.few; small = omega (arith, a.n_high, a.m_high) }

-- the turn of five passes
five_turn : (scheme : Scheme) (alphas : Log ℕ) (middles : Log (List ℕ)) (r : ℕ) (turn : List ℕ) → scheme ≡ FivePass → Turn scheme alphas middles r turn →
    (α : ℕ) × (l : List ℕ) × (alphas r ≡ some α) × (middles r ≡ some l) × (turn ≡ α ∷ l)
unfolding Turn
five_turn scheme alphas middles r turn five sent_on = rw five at sent_on

-- ---- what the card gave, by the scheme

three_commitments_lem : (scheme : Scheme) (d : Domain) (b s lent : List ℕ) → scheme ≡ ThreePass →
    formed_commitments scheme d b s lent ≡ three_commitments (three_committed d b s lent)
unfolding formed_commitments
three_commitments_lem scheme d b s lent three = rw three

five_commitments_lem : (scheme : Scheme) (d : Domain) (b s lent : List ℕ) → scheme ≡ FivePass →
    formed_commitments scheme d b s lent ≡ five_commitments (five_committed d b s lent)
unfolding formed_commitments
five_commitments_lem scheme d b s lent five = rw five

three_reply : (scheme : Scheme) (b s lent : List ℕ) (challenge : ℕ) → scheme ≡ ThreePass →
    St.reply_bytes scheme b s lent challenge ≡ reply_three_bytes (n_of b) (m_of b) (three_replied b s lent challenge)
unfolding St.reply_bytes
three_reply scheme b s lent challenge three = rw three

five_reply : (scheme : Scheme) (b s lent : List ℕ) (challenge : ℕ) → scheme ≡ FivePass →
    St.reply_bytes scheme b s lent challenge ≡ reply_five_bytes (n_of b) (five_replied b s lent challenge)
unfolding St.reply_bytes
five_reply scheme b s lent challenge five = rw five

module _ (o : Terms) where
  module _ (k : Opens o) (g : Given) (a : Asked) (r : ℕ) (p : Past o g a r) (reply : List ℕ) (replied : g.replies r ≡ some reply) where
    reply_is : reply ≡ St.given_reply o p.lent p.challenge
    reply_is = same_message _ _ (sym replied ∙ p.reply_given)

    -- in three passes, with any turn
    three_accepted : passes o ≡ ThreePass → (c turn : List ℕ) (challenge : ℕ) → g.commitments r ≡ some c → a.challenges r ≡ some challenge →
        accepts o.system (domain_of o) (as_vector o.key) c turn challenge reply ≡ true
    three_accepted three c turn challenge given asked =
        let ec = same_message _ _ (sym given ∙ p.commitments_given) ∙ three_commitments_lem (passes o) (domain_of o) o.system (St.secret_of o) p.lent three in
        let ech = same_message _ _ (sym asked ∙ p.challenge_given) in
        let er = reply_is ∙ three_reply (passes o) o.system (St.secret_of o) p.lent p.challenge three in
        let few = three_challenges (passes o) p.challenge three p.challenge_value in
        rw (ec, ech, er)
        (honest_three o.system k.good (St.secret_of o) p.lent (domain_of o) (as_vector o.key) k.key_is k.secret_is p.lends three turn p.challenge few)

    -- in five passes, with the α that was set and the t1 and e1 that were given
    five_accepted : passes o ≡ FivePass → (c : List ℕ) (α : ℕ) (l : List ℕ) (challenge : ℕ) → g.commitments r ≡ some c → a.alphas r ≡ some α →
        g.middles r ≡ some l → a.challenges r ≡ some challenge → St.MiddleGiven o g a r p.lent →
        accepts o.system (domain_of o) (as_vector o.key) c (α ∷ l) challenge reply ≡ true
    unfolding St.given_middle
    five_accepted five c α l challenge given set sent_on asked (St.no_middle three) = absurd (not_both_schemes (passes o) three five)
    five_accepted five c α l challenge given set sent_on asked (St.with_middle_is too β eβ em) =
        let ec = same_message _ _ (sym given ∙ p.commitments_given) ∙ five_commitments_lem (passes o) (domain_of o) o.system (St.secret_of o) p.lent five in
        let eα = same_message α β (sym set ∙ eβ) in
        let el = same_message l (St.given_middle o p.lent β) (sym sent_on ∙ em) in
        let ech = same_message _ _ (sym asked ∙ p.challenge_given) in
        let er = reply_is ∙ five_reply (passes o) o.system (St.secret_of o) p.lent p.challenge five in
        let few = five_challenges (passes o) p.challenge five p.challenge_value in
        rw (ec, eα, el, ech, er)
        (honest_five o.system k.good (St.secret_of o) p.lent (domain_of o) (as_vector o.key) k.key_is k.secret_is p.lends five β p.challenge few)

    -- by the scheme's check of the messages as they were given
    given_accepted : (c turn : List ℕ) (challenge : ℕ) → g.commitments r ≡ some c → Turn (passes o) a.alphas g.middles r turn →
        a.challenges r ≡ some challenge → accepts o.system (domain_of o) (as_vector o.key) c turn challenge reply ≡ true
    given_accepted c turn challenge given sent_on asked =
        by_scheme (passes o) (λ three. three_accepted three c turn challenge given asked)
        (λ five.
        let (α, l, set, got, is) = five_turn (passes o) a.alphas g.middles r turn five sent_on in
        rw is (five_accepted five c α l challenge given set got asked p.middle_given))

  -- ---- take reply

  module _ (k : Opens o) (w : World) (reply : List ℕ) (l : Link o w) (none : reply_refusal w.carrier o.system reply ≡ 0)
      (given : w.history.given.replies w.history.carrier_round ≡ some reply) where
    -- the round of a reply that is given is over at the card
    replied_before : w.history.carrier_round < w.history.card_round
    replied_before = given_before w.history.given.replies w.history.card_round w.history.carrier_round reply l.card_history.no_replies given

    taken : Ca.Checked o w.history.asked w.history.taken w.carrier w.history.carrier_round o.system reply
    taken = Ca.reply_checked o (of_carrier o k) w o.system reply l.carrier_history none

    pub round_accepted : RoundAccepted o w.history reply
    round_accepted =
        let r = w.history.carrier_round in
        let ec = l.taken_given.commitments_given r _ taken.commitments_taken in
        let et = turn_within _ _ _ _ _ r _ (λ i x e. e) l.taken_given.middles_given taken.turn_taken in
        record {
          commitments = taken.commitments;
          turn = taken.turn;
          challenge = taken.challenge;
          commitments_given = ec;
          turn_given = et;
          challenge_given = taken.challenge_set_is;
          reply_given = given;
          check = given_accepted k w.history.given w.history.asked r (l.past r replied_before) reply given _ _ _ ec et taken.challenge_set_is;
        }

    pub reply_accepted : accepts_reply w.carrier o.system reply ≡ true
    unfolding taken round_accepted
    reply_accepted = taken.verdict ∙ round_accepted.check

    pub reply_linked : Link o (Ca.reply_taken o (of_carrier o k) w o.system reply)
    reply_linked =
        moved o w _ (w.history.carrier_round + 1) _ _ _ l (Ca.reply_history o (of_carrier o k) w o.system reply l.carrier_history none)
        (asked_same o w.history.asked) l.taken_given (put_accepted _ _ _ l.all_accepted reply_accepted) (omega (arith, replied_before))
