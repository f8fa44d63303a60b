-- A session played through: the list of calls in which none is refused, from the openings to the taking of round N's reply. There is one for every opening
-- that document 01 lets through and all that may be drawn (`whole_session`), and zeros may be drawn (`zeros_fit`), so the claim about honest sessions speaks of
-- whole sessions of each length.
use Rattle.std.specs.Prelude.{ℕ, zero, suc, ◌+◌, ◌≤◌, ◌<◌, ◌≡◌, true, ◌⊎◌, List, [], ◌∷◌, ◌++◌, length, take}
use Rattle.slices.specs.Slices.{zeros}
use Rattle.field.specs.Vector.{Elements, as_vector}
use Rattle.system.specs.System.{q_of, n_of, m_of, WellFormedSystem, F}
use Rattle.scheme.specs.declared.Scheme.{Scheme}
use Rattle.scheme.specs.declared.Scheme.TheVariants.{ThreePass, FivePass}
use Rattle.scheme.specs.Scheme.{challenges, has_alpha, drawn_length, commitments_length, lent_length, reply_length}
use Rattle.card_state.specs.declared.session.Card.{Card}
use Rattle.card_state.specs.Card.{opened_card, committed_card, sent_commitments, sent_middle, sent_reply}
use Rattle.session.specs.Session.{Terms, passes, World, refusal, step}
use Rattle.session.specs.Session.{Call, commit, answer_alpha, reply, take_commitments, set_alpha, take_middle, set_challenge, take_reply}
use Rattle.session.specs.Honest.{Unaltered}

-- "An opening to which no numbered refusal applies isn't refused.": the carrier's, with none of the system's and no 1, 2 or 3; v need be no F(s)
pub record CarrierOpenable (o : Terms) : Type 0 where
  pub system_well_formed : WellFormedSystem o.system
  pub scheme_value : (o.scheme ≡ 3) ⊎ (o.scheme ≡ 5)
  pub some_rounds : 1 ≤ o.rounds
  pub most_rounds : o.rounds ≤ 255
  pub key_length : length o.key ≡ m_of o.system
  pub key_elements : Elements (q_of o.system) o.key

-- the card's: the same of s, and no 5
pub record Openable (o : Terms) : Type 0 where
  pub for_carrier : CarrierOpenable o
  pub secret_length : length o.secret ≡ n_of o.system
  pub secret_elements : Elements (q_of o.system) o.secret
  pub key_of_secret : F o.system (as_vector o.secret) ≡ as_vector o.key

-- what is drawn for a round: what is lent to the card, and the carrier's α and challenge
pub record Draw : Type 0 where
  pub lent : List ℕ
  pub α : ℕ
  pub challenge : ℕ

-- "right lengths, elements and challenge"; three passes have no α
pub record Fits (o : Terms) (d : Draw) : Type 0 where
  pub lent_length_is : length d.lent ≡ lent_length (passes o) (n_of o.system) (m_of o.system)
  pub lent_elements : Elements (q_of o.system) (take (drawn_length (passes o) (n_of o.system) (m_of o.system)) d.lent)
  pub alpha_element : has_alpha (passes o) ≡ true → d.α < q_of o.system
  pub challenge_value : d.challenge < challenges (passes o)

-- nothing but zeros
unfoldable pub zero_draw : Terms → Draw
zero_draw o = record { lent = zeros (lent_length (passes o) (n_of o.system) (m_of o.system)); α = 0; challenge = 0 }

-- n draws, those of rounds r, r + 1 and so on
unfoldable pub draws_from : (ℕ → Draw) → ℕ → ℕ → List Draw
draws_from draw r zero = []
draws_from draw r (suc n) = draw r ∷ draws_from draw (r + 1) n

-- each of them, a round each
unfoldable pub AllFit : Terms → List Draw → Type 0
AllFit o [] = Unit
AllFit o (d ∷ ds) = Fits o d × AllFit o ds

-- ---- the calls

module _ (o : Terms) where
  abbrev pub fresh : Card
  fresh = opened_card o.system o.scheme o.rounds o.secret

  module _ (d : Draw) where
    -- a card to which this is lent: what it sends in a round hangs on what is lent for it, and not on the round's number
    abbrev pub lending : Card
    lending = committed_card fresh o.system d.lent

    abbrev pub committing : Call
    committing = commit o.system d.lent (commitments_length (passes o))

    abbrev pub taking : Call
    taking = take_commitments (sent_commitments fresh o.system d.lent)

    abbrev pub setting : Call
    setting = set_alpha d.α

    abbrev pub answering : Call
    answering = answer_alpha o.system d.α (n_of o.system + m_of o.system)

    abbrev pub taking_middle : Call
    taking_middle = take_middle (sent_middle lending o.system d.α)

    abbrev pub asking : Call
    asking = set_challenge d.challenge

    abbrev pub replying : Call
    replying = reply d.challenge (reply_length (passes o) (n_of o.system) (m_of o.system))

    abbrev pub judging : Call
    judging = take_reply o.system (sent_reply lending d.challenge)

    -- a round from the commitments that are given to the reply that is given: "per round take commitments, set α (scheme 5), take t1 and e1 (scheme 5), set
    -- challenge", each behind the card's call that it waits for
    unfoldable pub exchange_calls : Scheme → List Call
    exchange_calls ThreePass = taking ∷ asking ∷ replying ∷ []
    exchange_calls FivePass = taking ∷ setting ∷ answering ∷ taking_middle ∷ asking ∷ replying ∷ []

    abbrev pub exchanging : List Call
    exchanging = exchange_calls (passes o)

  -- round after round
  unfoldable pub session_calls : List Draw → List Call
  session_calls [] = []
  session_calls (d ∷ ds) = committing d ∷ exchanging d ++ judging d ∷ session_calls ds

  -- the card a round ahead: it commits the next round before the carrier takes the reply
  unfoldable pub ahead_from : Draw → List Draw → List Call
  ahead_from d [] = exchanging d ++ judging d ∷ []
  ahead_from d (next ∷ ds) = exchanging d ++ committing next ∷ judging d ∷ ahead_from next ds

  unfoldable pub ahead_calls : List Draw → List Call
  ahead_calls [] = []
  ahead_calls (d ∷ ds) = committing d ∷ ahead_from d ds

-- each call in its turn is not refused and unaltered, and at the end of the list round N's reply has been taken
unfoldable pub Plays : Terms → World → List Call → Type 0
Plays o w [] = w.history.carrier_round ≡ o.rounds
Plays o w (c ∷ cs) = (refusal w c ≡ 0) × Unaltered o w.history c × Plays o (step w c) cs
