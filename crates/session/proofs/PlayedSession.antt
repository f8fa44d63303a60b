-- Whole honest sessions: for every opening that document 01 lets through and all that may be drawn for its N rounds, the calls of the rounds are played through,
-- one round behind the other or with the card a round ahead, and such a list is honest and ends accepted. Assumes nothing.
use Prim.Native.Nat.{ℕ, ◌+◌, ◌<◌}
use mathlib.Core.Path.{◌≡◌, refl, sym, ap, ap₂, subst, ◌∙◌}
use mathlib.Core.Bool.{true}
use mathlib.Core.List.{List, [], ◌∷◌, ◌++◌}
use mathlib.Core.Option.{some}
use native.Mathlib.Omega.{arith}
use lib.ListN.{length, take}
use Rattle.refusal.proofs.Refusals.{kept_accepted}
use Rattle.field.specs.Vector.{Elements, all_below}
use Rattle.system.specs.System.{q_of, n_of, m_of, system_refusal}
use Rattle.field.proofs.Elements.{all_below_at, at_all_below}
use Rattle.scheme.specs.declared.Scheme.{Scheme}
use Rattle.scheme.specs.declared.Scheme.TheVariants.{ThreePass, FivePass}
use Rattle.scheme.specs.Scheme.{challenges, commitment_count, opened_count, has_alpha}
use Rattle.scheme.specs.Scheme.{drawn_length, commitments_length, lent_length, vectors_length, rhos_length, reply_length}
use Rattle.commitment.specs.declared.Domain.{Domain}
use Rattle.exchange.proofs.Formed.{Lends}
use Rattle.honest.proofs.Honest.{three_commitments_long, three_reply_long, three_reply_below, middle_long, middle_elements, five_commitments_long, five_reply_long, five_reply_below}
use Rattle.session_state.specs.declared.Verdict.TheVariants.{Accepted}
use Rattle.card_state.specs.declared.session.CardPhase.{CardPhase}
use Rattle.card_state.specs.declared.session.CardPhase.TheVariants.{AnswerAlpha, Reply}
use Rattle.card_state.specs.declared.session.Card.{Card}
use Rattle.card_state.specs.Card as CardCalls
use Rattle.card_state.specs.Card.{behind_commit, committed_card, card_with, opened_card, answered_card, held_lent, formed_commitments, sent_commitments, sent_middle, sent_reply}
use Rattle.carrier_state.specs.declared.session.CarrierPhase.{CarrierPhase}
use Rattle.carrier_state.specs.declared.session.CarrierPhase.TheVariants.{TakeCommitments, SetAlpha, SetChallenge, TakeReply}
use Rattle.carrier_state.specs.declared.session.Carrier.{Carrier}
use Rattle.carrier_state.specs.Carrier as CarrierCalls
use Rattle.carrier_state.specs.Carrier.{held_commitments, no_turn, behind_commitments, carrier_with, opened_carrier, with_alpha, with_middle, with_challenge, judged_carrier}
use Rattle.session.specs.Session.{Terms, passes, domain_of, Call, Given, Asked, Taken, Judgement, Log, World, opened, refusal, effect, step, after}
use Rattle.session.specs.Honest.{Unaltered, Honest, Fitting, Ended, Holds}
use Rattle.session.specs.Played.{Openable, Draw, Fits, zero_draw, draws_from, AllFit, fresh, lending, committing, taking, setting, answering, taking_middle, asking, replying, judging, exchange_calls, exchanging, session_calls, ahead_from, ahead_calls, Plays}
use Rattle.session.proofs.States as St
use Rattle.session.proofs.States.{Link}
use Rattle.session.proofs.Logs.{put_there}
use Rattle.session.proofs.CardSide.{drawn_lends, sent_commitments_is, sent_middle_is, sent_reply_is}
use Rattle.session.proofs.CardHistory as Cd
use Rattle.session.proofs.CardHistory.{fresh_card, held_card, card_opens, committed_is, replied_next}
use Rattle.session.proofs.Schemes.{by_scheme, five_has_alpha}
use Rattle.session.proofs.CarrierHistory as Ca
use Rattle.session.proofs.CarrierHistory.{carrier_at, carrier_opens, took_commitments, judged_next}
use Rattle.session.proofs.Verdicts.{Opens, reply_accepted}
use Rattle.session.proofs.Openings.{card_opens_for, carrier_opens_for, zeros_fit, all_fit, length_draws}
use Rattle.session.proofs.HonestSession.{opens, start, AtPhase, effect_linked, phase_goes, honest_session}

-- ---- one call

went : (w : World) (c : Call) → refusal w c ≡ 0 → step w c ≡ effect w c
unfolding step
went w c none = kept_accepted (refusal w c) w (effect w c) none

-- ---- what the card sends has its lengths and elements

commitments_length_is : (scheme : Scheme) (d : Domain) (b : List ℕ) → system_refusal b ≡ 0 → (s lent : List ℕ) →
    length (formed_commitments scheme d b s lent) ≡ commitments_length scheme
unfolding formed_commitments commitments_length commitment_count
commitments_length_is ThreePass d b good s lent = three_commitments_long b good d s lent
commitments_length_is FivePass d b good s lent = five_commitments_long b good d s lent

reply_length_is : (scheme : Scheme) (b : List ℕ) → system_refusal b ≡ 0 → (s lent : List ℕ) → Lends b lent → (challenge : ℕ) →
    length (St.reply_bytes scheme b s lent challenge) ≡ reply_length scheme (n_of b) (m_of b)
unfolding St.reply_bytes reply_length vectors_length rhos_length opened_count
reply_length_is ThreePass b good s lent lends challenge = three_reply_long b good s lent lends challenge
reply_length_is FivePass b good s lent lends challenge = five_reply_long b good s lent lends challenge

reply_below : (scheme : Scheme) (b : List ℕ) → system_refusal b ≡ 0 → (s lent : List ℕ) → Lends b lent → (challenge : ℕ) →
    all_below (q_of b) (take (vectors_length scheme (n_of b) (m_of b)) (St.reply_bytes scheme b s lent challenge)) ≡ true
unfolding St.reply_bytes vectors_length
reply_below ThreePass b good s lent lends challenge = three_reply_below b good s lent lends challenge
reply_below FivePass b good s lent lends challenge = five_reply_below b good s lent lends challenge

module _ (o : Terms) (k : Opens o) where
  -- a call in its phase goes, and leaves the ends linked for those behind it
  goes : (w : World) (c : Call) (cs : List Call) → Link o w → AtPhase w c → Fitting o c → Unaltered o w.history c →
      (refusal w c ≡ 0 → Link o (effect w c) → Plays o (effect w c) cs) → Plays o w (c ∷ cs)
  unfolding Plays
  goes w c cs l phase fitting same rest =
      let none = phase_goes o k w c l phase fitting in
      (none, same, subst (λ (later : World). Plays o later cs) (sym (went w c none)) (rest none (effect_linked o k w c l none same)))

  -- ---- both ends in a round

  abbrev fresh_carrier : ℕ → Carrier
  fresh_carrier r = carrier_at o TakeCommitments r (held_commitments []) no_turn 0

  -- what is due at the card, and at the carrier, behind the commitments
  abbrev card_next_phase : CardPhase
  card_next_phase = behind_commit (passes o)

  abbrev carrier_next : CarrierPhase
  carrier_next = behind_commitments (passes o)

  abbrev both : Card → Carrier → ℕ → Given → Asked → Taken → Log Judgement → World
  both card carrier r g a t j =
      record { card = card; carrier = carrier; history = record { card_round = r; given = g; carrier_round = r; asked = a; taken = t; judged = j } }

  same_ends : {card card' : Card} {carrier carrier' : Carrier} (r : ℕ) (g : Given) (a : Asked) (t : Taken) (j : Log Judgement) → card ≡ card' →
      carrier ≡ carrier' → both card carrier r g a t j ≡ both card' carrier' r g a t j
  same_ends r g a t j = ap₂ (λ (card : Card) (carrier : Carrier). both card carrier r g a t j)

  with_ends : (cs : List Call) (w later : World) → w ≡ later → Link o w → (Link o later → Plays o later cs) → Plays o w cs
  with_ends cs w later e l rest = subst (λ (world : World). Plays o world cs) (sym e) (rest (subst (Link o) e l))

  in_round : (w : World) (r : ℕ) → w.history.card_round ≡ r → w.history.carrier_round ≡ r →
      w ≡ both w.card w.carrier r w.history.given w.history.asked w.history.taken w.history.judged
  in_round w r =
      let h = w.history in
      ap₂ (λ (i j : ℕ).
      record {
        card = w.card;
        carrier = w.carrier;
        history = record { card_round = i; given = h.given; carrier_round = j; asked = h.asked; taken = h.taken; judged = h.judged };
      })

  -- r rounds are over at both ends
  record Reached (w : World) (r : ℕ) : Type 0 where
    pub linked : Link o w
    pub card_round_is : w.history.card_round ≡ r
    pub carrier_round_is : w.history.carrier_round ≡ r
    pub card_fresh : r < o.rounds → w.card ≡ fresh_card o r
    pub carrier_fresh : r < o.rounds → w.carrier ≡ fresh_carrier r

  -- both ends in round r: the commitments are given, and not taken yet
  record Committed (d : Draw) (w : World) (r : ℕ) : Type 0 where
    pub linked : Link o w
    pub card_round_is : w.history.card_round ≡ r
    pub carrier_round_is : w.history.carrier_round ≡ r
    pub card_is : w.card ≡ held_card o o.system card_next_phase r d.lent
    pub carrier_is : w.carrier ≡ fresh_carrier r
    pub given : w.history.given.commitments r ≡ some (sent_commitments (fresh o) o.system d.lent)

  -- the reply of round r is given, and not taken yet
  record Replied (d : Draw) (w : World) (r : ℕ) : Type 0 where
    pub linked : Link o w
    pub card_round_is : w.history.card_round ≡ r + 1
    pub carrier_round_is : w.history.carrier_round ≡ r
    pub card_fresh : r + 1 < o.rounds → w.card ≡ fresh_card o (r + 1)
    pub commitments : List ℕ
    pub turn : List ℕ
    pub carrier_is : w.carrier ≡ carrier_at o TakeReply r commitments turn d.challenge
    pub given : w.history.given.replies r ≡ some (sent_reply (lending o d) d.challenge)

  module _ (d : Draw) (fits : Fits o d) where
    lends : Lends o.system d.lent
    lends = drawn_lends o d.lent (at_all_below _ _ fits.lent_elements)

    -- ---- what the card sends, as its states name it

    commitments_are : sent_commitments (fresh o) o.system d.lent ≡ St.given_commitments o d.lent
    commitments_are = ap (λ (c : Card). sent_commitments c o.system d.lent) (card_opens o) ∙ sent_commitments_is o 0 d.lent

    lending_is : lending o d ≡ held_card o o.system card_next_phase 0 d.lent
    lending_is = ap (λ (c : Card). committed_card c o.system d.lent) (card_opens o) ∙ committed_is o 0 o.system d.lent _ refl

    middle_is : sent_middle (lending o d) o.system d.α ≡ St.given_middle o d.lent d.α
    middle_is = ap (λ (c : Card). sent_middle c o.system d.α) lending_is ∙ sent_middle_is o _ 0 d.lent d.α

    reply_is : sent_reply (lending o d) d.challenge ≡ St.given_reply o d.lent d.challenge
    reply_is = ap (λ (c : Card). sent_reply c d.challenge) lending_is ∙ sent_reply_is o _ 0 d.lent d.challenge

    -- ---- its lengths and elements

    commitments_long : length (sent_commitments (fresh o) o.system d.lent) ≡ commitments_length (passes o)
    commitments_long = ap length commitments_are ∙ commitments_length_is (passes o) (domain_of o) o.system k.good (St.secret_of o) d.lent

    reply_long : length (sent_reply (lending o d) d.challenge) ≡ reply_length (passes o) (n_of o.system) (m_of o.system)
    reply_long = ap length reply_is ∙ reply_length_is (passes o) o.system k.good (St.secret_of o) d.lent lends d.challenge

    reply_elements : Elements (q_of o.system) (take (vectors_length (passes o) (n_of o.system) (m_of o.system)) (sent_reply (lending o d) d.challenge))
    reply_elements = rw reply_is (all_below_at _ _ (reply_below (passes o) o.system k.good (St.secret_of o) d.lent lends d.challenge))

    middle_has_length : length (sent_middle (lending o d) o.system d.α) ≡ n_of o.system + m_of o.system
    unfolding St.given_middle
    middle_has_length = ap length middle_is ∙ middle_long o.system k.good d.lent lends d.α

    middle_has_elements : Elements (q_of o.system) (sent_middle (lending o d) o.system d.α)
    unfolding St.given_middle
    middle_has_elements = rw middle_is (all_below_at _ _ (middle_elements o.system k.good d.lent lends d.α))

    -- ---- the calls between commitments and reply go

    module _ (cs : List Call) (r : ℕ) (rest : (later : World) → Replied d later r → Plays o later cs) where
      -- challenge and reply
      ending : (g : Given) (a : Asked) (t : Taken) (j : Log Judgement) (c m : List ℕ) →
          Link o (both (held_card o o.system Reply r d.lent) (carrier_at o SetChallenge r c m 0) r g a t j) →
          Plays o (both (held_card o o.system Reply r d.lent) (carrier_at o SetChallenge r c m 0) r g a t j) (asking o d ∷ replying o d ∷ cs)
      unfolding AtPhase Fitting Unaltered effect held_card card_with CardCalls.phase_number carrier_at carrier_with opened_carrier with_challenge CarrierCalls.phase_number
      ending g a t j c m l =
          goes _ _ _ l refl fits.challenge_value tt
          (λ n1 l1. goes _ _ _ l1 refl (refl, fits.challenge_value) (put_there _ r _)
          (λ n2 l2.
          rest _
          (record {
            linked = l2;
            card_round_is = refl;
            carrier_round_is = refl;
            card_fresh = λ more. replied_next o r o.system d.lent more k.few;
            commitments = c;
            turn = m;
            carrier_is = refl;
            given = put_there _ r _ ∙ ap some (sent_reply_is o Reply r d.lent d.challenge ∙ sym reply_is);
          })))

      -- α, t1 and e1
      turned : (g : Given) (a : Asked) (t : Taken) (j : Log Judgement) (c m : List ℕ) → passes o ≡ FivePass →
          Link o (both (held_card o o.system AnswerAlpha r d.lent) (carrier_at o SetAlpha r c m 0) r g a t j) →
          Plays o (both (held_card o o.system AnswerAlpha r d.lent) (carrier_at o SetAlpha r c m 0) r g a t j)
          (setting o d ∷ answering o d ∷ taking_middle o d ∷ asking o d ∷ replying o d ∷ cs)
      unfolding AtPhase Fitting Unaltered effect held_card card_with opened_card answered_card held_lent CardCalls.phase_number carrier_at carrier_with opened_carrier with_alpha with_middle CarrierCalls.phase_number
      turned g a t j c m five l =
          let element = fits.alpha_element (five_has_alpha (passes o) five) in
          goes _ _ _ l refl element tt
          (λ n1 l1. goes _ _ _ l1 refl (refl, refl, element) (refl, put_there _ r _)
          (λ n2 l2. goes _ _ _ l2 refl (middle_has_length, middle_has_elements) (put_there _ r _ ∙ ap some (sent_middle_is o AnswerAlpha r d.lent d.α ∙ sym middle_is))
          (λ n3 l3. ending _ _ _ _ c _ l3)))

      -- the commitments are taken
      begun : (g : Given) (a : Asked) (t : Taken) (j : Log Judgement) (card_due : CardPhase) (carrier_due : CarrierPhase) (later : List Call) →
          carrier_next ≡ carrier_due → g.commitments r ≡ some (sent_commitments (fresh o) o.system d.lent) →
          Link o (both (held_card o o.system card_due r d.lent) (fresh_carrier r) r g a t j) →
          ((t' : Taken) (c : List ℕ) → Link o (both (held_card o o.system card_due r d.lent) (carrier_at o carrier_due r c no_turn 0) r g a t' j) →
          Plays o (both (held_card o o.system card_due r d.lent) (carrier_at o carrier_due r c no_turn 0) r g a t' j) later) →
          Plays o (both (held_card o o.system card_due r d.lent) (fresh_carrier r) r g a t j) (taking o d ∷ later)
      unfolding AtPhase Fitting Unaltered effect carrier_at carrier_with opened_carrier CarrierCalls.phase_number
      begun g a t j card_due carrier_due later e given l next =
          goes _ _ _ l refl commitments_long given
          (λ n1 l1. with_ends later _ _ (same_ends r g a _ j refl (took_commitments o r _ carrier_due e)) l1 (next _ _))

      -- the ends as they are behind the commit, in this scheme's phase
      starting : (w : World) (calls : List Call) (card_due : CardPhase) → card_next_phase ≡ card_due → Committed d w r →
          let h = w.history in
          let start = both (held_card o o.system card_due r d.lent) (fresh_carrier r) r h.given h.asked h.taken h.judged in
          (Link o start → Plays o start calls) → Plays o w calls
      starting w calls card_due e s =
          with_ends calls w _
          (in_round w r s.card_round_is s.carrier_round_is ∙
          same_ends r _ _ _ _ (s.card_is ∙ ap (λ (p : CardPhase). held_card o o.system p r d.lent) e) s.carrier_is) s.linked

      exchanged : (w : World) → Committed d w r → Plays o w (exchanging o d ++ cs)
      unfolding exchange_calls
      exchanged w s =
          by_scheme (passes o)
          (λ three.
          subst (λ (scheme : Scheme). Plays o w (exchange_calls o d scheme ++ cs)) (sym three)
          (starting w _ Reply (Cd.three_behind (passes o) three) s (λ l.
          begun _ _ _ _ Reply SetChallenge _ (Ca.three_behind (passes o) three) s.given l (λ t' c l'. ending _ _ t' _ c _ l'))))
          (λ five.
          subst (λ (scheme : Scheme). Plays o w (exchange_calls o d scheme ++ cs)) (sym five)
          (starting w _ AnswerAlpha (Cd.five_behind (passes o) five) s (λ l.
          begun _ _ _ _ AnswerAlpha SetAlpha _ (Ca.five_behind (passes o) five) s.given l (λ t' c l'. turned _ _ t' _ c _ five l'))))

    -- ---- the reply is taken

    judged : (w : World) (r : ℕ) (cs : List Call) → Link o w → w.history.carrier_round ≡ r → (c m : List ℕ) →
        w.carrier ≡ carrier_at o TakeReply r c m d.challenge → w.history.given.replies r ≡ some (sent_reply (lending o d) d.challenge) →
        (Link o (effect w (judging o d)) → (r + 1 < o.rounds → (effect w (judging o d)).carrier ≡ fresh_carrier (r + 1)) → Plays o (effect w (judging o d)) cs) →
        Plays o w (judging o d ∷ cs)
    unfolding AtPhase Fitting Unaltered refusal effect carrier_at carrier_with CarrierCalls.phase_number
    judged w r cs l at c m is given rest =
        let given_now = ap w.history.given.replies at ∙ given in
        goes w (judging o d) cs l (ap (λ (c : Carrier). CarrierCalls.phase_number c.phase) is) (refl, reply_long, reply_elements) (refl, given_now)
        (λ none next. rest next (λ more. ap₂ judged_carrier is (reply_accepted o k w _ l none given_now) ∙ judged_next o r c m d.challenge more k.few))

    -- ---- the card commits

    committed : (w : World) (r : ℕ) (cs : List Call) → Link o w → w.history.card_round ≡ r → w.card ≡ fresh_card o r →
        (Link o (effect w (committing o d)) → (effect w (committing o d)).card ≡ held_card o o.system card_next_phase r d.lent →
        (effect w (committing o d)).history.given.commitments r ≡ some (sent_commitments (fresh o) o.system d.lent) →
        Plays o (effect w (committing o d)) cs) →
        Plays o w (committing o d ∷ cs)
    unfolding AtPhase Fitting Unaltered effect fresh_card card_with CardCalls.phase_number
    committed w r cs l at is rest =
        goes w (committing o d) cs l (ap (λ (c : Card). CardCalls.phase_number c.phase) is) (refl, fits.lent_length_is, refl, fits.lent_elements) refl
        (λ none next.
        rest next (ap (λ (c : Card). committed_card c o.system d.lent) is ∙ committed_is o r o.system d.lent _ refl)
        (rw at (put_there _ r _) ∙ ap some (ap (λ (c : Card). sent_commitments c o.system d.lent) is ∙ sent_commitments_is o r d.lent ∙ sym commitments_are)))

  -- ---- one round behind the other

  rounds_play : (ds : List Draw) (r : ℕ) (w : World) → r + length ds ≡ o.rounds → Reached w r → AllFit o ds → Plays o w (session_calls o ds)
  unfolding AllFit Plays session_calls effect
  rounds_play [] r w all e fits = omega (arith, e.carrier_round_is, all)
  rounds_play (d ∷ ds) r w all e (fit, fits) =
      let below : r < o.rounds = omega (arith, all) in
      let taking_it = judging o d ∷ session_calls o ds in
      committed d fit w r (exchanging o d ++ taking_it) e.linked e.card_round_is (e.card_fresh below) (λ l1 card_is given.
      exchanged d fit taking_it r
      (λ later s.
      judged d fit later r (session_calls o ds) s.linked s.carrier_round_is s.commitments s.turn s.carrier_is s.given (λ l2 carrier_fresh.
      rounds_play ds (r + 1) _ (omega (arith, all))
      (record {
        linked = l2;
        card_round_is = s.card_round_is;
        carrier_round_is = ap (λ (i : ℕ). i + 1) s.carrier_round_is;
        card_fresh = s.card_fresh;
        carrier_fresh = carrier_fresh;
      })
      fits))
      _
      (record { linked = l1; card_round_is = e.card_round_is; carrier_round_is = e.carrier_round_is; card_is = card_is; carrier_is = e.carrier_fresh below; given = given }))

  opened_reached : Reached (opened o) 0
  unfolding opened
  opened_reached =
      record { linked = start o k; card_round_is = refl; carrier_round_is = refl; card_fresh = λ h. card_opens o; carrier_fresh = λ h. carrier_opens o }

  -- ---- the card a round ahead

  ahead_plays : (d : Draw) (ds : List Draw) (r : ℕ) (w : World) → Fits o d → r + 1 + length ds ≡ o.rounds → Committed d w r → AllFit o ds →
      Plays o w (ahead_from o d ds)
  unfolding AllFit Plays ahead_from effect
  ahead_plays d [] r w fit all s fits =
      exchanged d fit (judging o d ∷ []) r
      (λ later q.
      judged d fit later r [] q.linked q.carrier_round_is q.commitments q.turn q.carrier_is q.given (λ l2 carrier_fresh. omega (arith, q.carrier_round_is, all)))
      w s
  ahead_plays d (next ∷ ds) r w fit all s (fit_next, fits) =
      let more : r + 1 < o.rounds = omega (arith, all) in
      let taking_it = judging o d ∷ ahead_from o next ds in
      exchanged d fit (committing o next ∷ taking_it) r
      (λ later q.
      committed next fit_next later (r + 1) taking_it q.linked q.card_round_is (q.card_fresh more) (λ l1 card_is given.
      judged d fit (effect later (committing o next)) r (ahead_from o next ds) l1 q.carrier_round_is q.commitments q.turn q.carrier_is q.given (λ l2 carrier_fresh.
      ahead_plays next ds (r + 1) _ fit_next (omega (arith, all))
      (record {
        linked = l2;
        card_round_is = q.card_round_is;
        carrier_round_is = ap (λ (i : ℕ). i + 1) q.carrier_round_is;
        card_is = card_is;
        carrier_is = carrier_fresh more;
        given = given;
      })
      fits)))
      w s

  ahead_from_start : (draws : List Draw) → length draws ≡ o.rounds → AllFit o draws → Plays o (opened o) (ahead_calls o draws)
  unfolding AllFit ahead_calls effect opened
  ahead_from_start [] all fits = absurd (omega (arith, all, k.some_rounds))
  ahead_from_start (d ∷ ds) all (fit, fits) =
      let e = opened_reached in
      committed d fit (opened o) 0 (ahead_from o d ds) e.linked refl (e.card_fresh k.some_rounds) (λ l1 card_is given.
      ahead_plays d ds 0 _ fit (omega (arith, all))
      (record { linked = l1; card_round_is = refl; carrier_round_is = refl; card_is = card_is; carrier_is = e.carrier_fresh k.some_rounds; given = given }) fits)

pub plays_honest : (o : Terms) (w : World) (cs : List Call) → Plays o w cs → Honest o w cs
unfolding Plays Honest
plays_honest o w [] played = tt
plays_honest o w (c ∷ cs) (none, same, rest) = (λ e. same, plays_honest o (step w c) cs rest)

taken_all : (o : Terms) (w : World) (cs : List Call) → Plays o w cs → (after w cs).history.carrier_round ≡ o.rounds
unfolding Plays after
taken_all o w [] played = played
taken_all o w (c ∷ cs) (none, same, rest) = taken_all o (step w c) cs rest

at_the_end : (o : Terms) (w : World) (cs : List Call) → Holds o w cs → Ended o (after w cs)
unfolding Holds after
at_the_end o w [] holds = holds
at_the_end o w (c ∷ cs) (ended, goes_on, accepted, rest) = at_the_end o (step w c) cs rest

-- the calls of N rounds are played through, for every opening that document 01 lets through and whatever is drawn
pub whole_session : (o : Terms) → Openable o → (draws : List Draw) → length draws ≡ o.rounds → AllFit o draws → Plays o (opened o) (session_calls o draws)
whole_session o openable draws all fits =
    let k = opens o (card_opens_for o openable) in
    rounds_play o k draws 0 (opened o) (omega (arith, all)) (opened_reached o k) fits

-- and so they are with the card a round ahead
pub ahead_session : (o : Terms) → Openable o → (draws : List Draw) → length draws ≡ o.rounds → AllFit o draws → Plays o (opened o) (ahead_calls o draws)
ahead_session o openable = ahead_from_start o (opens o (card_opens_for o openable))

-- a session that is played through ends as accepted with the count N, the card's closed
pub played_accepted : (o : Terms) → Openable o → (calls : List Call) → Plays o (opened o) calls →
    ((after (opened o) calls).carrier ≡ CarrierCalls.closed_carrier Accepted o.rounds) × ((after (opened o) calls).card ≡ CardCalls.closed_card)
unfolding Ended
played_accepted o openable calls played =
    let holds = honest_session o (card_opens_for o openable) (carrier_opens_for o openable.for_carrier) calls (plays_honest o (opened o) calls played) in
    at_the_end o (opened o) calls holds (taken_all o (opened o) calls played)

-- "The random elements, α and the challenges are any.": whatever is drawn, round by round, with right lengths, elements and challenge, its session exists, with
-- the card a round ahead or not
pub any_session : (o : Terms) → Openable o → (draw : ℕ → Draw) →
    ((r : ℕ) → length (draw r).lent ≡ lent_length (passes o) (n_of o.system) (m_of o.system)) →
    ((r : ℕ) → Elements (q_of o.system) (take (drawn_length (passes o) (n_of o.system) (m_of o.system)) (draw r).lent)) →
    ((r : ℕ) → has_alpha (passes o) ≡ true → (draw r).α < q_of o.system) → ((r : ℕ) → (draw r).challenge < challenges (passes o)) →
    Plays o (opened o) (session_calls o (draws_from draw 0 o.rounds)) × Plays o (opened o) (ahead_calls o (draws_from draw 0 o.rounds))
any_session o openable draw long elements alpha value =
    let all = length_draws draw 0 o.rounds in
    let fit =
    all_fit o draw (λ r. record { lent_length_is = long r; lent_elements = elements r; alpha_element = alpha r; challenge_value = value r }) 0 o.rounds in
    (whole_session o openable _ all fit, ahead_session o openable _ all fit)

-- so every opening that document 01 lets through has both kinds of session: of zeros
pub some_session : (o : Terms) → Openable o →
    let zeros_drawn = draws_from (λ r. zero_draw o) 0 o.rounds in
    Plays o (opened o) (session_calls o zeros_drawn) × Plays o (opened o) (ahead_calls o zeros_drawn)
some_session o openable =
    let fit = zeros_fit o openable in
    any_session o openable (λ r. zero_draw o) (λ r. fit.lent_length_is) (λ r. fit.lent_elements) (λ r. fit.alpha_element) (λ r. fit.challenge_value)
