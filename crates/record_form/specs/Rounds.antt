-- A record by its rounds: the messages of each one behind the other are its bodies. A round is counted from 0.
use Rattle.std.specs.Prelude.{ℕ, ◌<◌, ◌≡◌, true, List, ◌∷◌, ◌++◌, length, take}
use Rattle.slices.specs.Slices.{joined}
use Rattle.scheme.specs.Scheme as S
use Rattle.record_form.specs.declared.layout.Header.{Header}
use Rattle.record_form.specs.Record.{Fields, Elements, exchange_of, commitments_of, turn_of, challenge_of, reply_of}
use Rattle.record_form.specs.Form.{are_values}

-- the messages of a round; the turn is α, t1, e1 in scheme 5 and nothing in scheme 3
pub record Round : Type 0 where
  pub commitments : List ℕ
  pub turn : List ℕ
  pub challenge : ℕ
  pub reply : List ℕ

-- "Exchange: scheme 3, challenge byte and reply; scheme 5, α, t1, e1, challenge byte, reply."
unfoldable pub exchange_bytes : Round → List ℕ
exchange_bytes x = x.turn ++ x.challenge ∷ x.reply

-- the fields of a record of these rounds: "Commitments: 32 bytes each, 3 or 2 a round.", then the exchanges
unfoldable pub fields_of_rounds : Header → List ℕ → (ℕ → Round) → Fields
fields_of_rounds h key round =
    record {
      header = h;
      key = key;
      commitments = joined h.rounds (λ r. (round r).commitments);
      exchanges = joined h.rounds (λ r. exchange_bytes (round r));
    }

-- a round whose messages have their lengths, "every .. element and challenge among its values"
pub record ValidRound (h : Header) (x : Round) : Type 0 where
  pub commitments_length_is : length x.commitments ≡ S.commitments_length h.scheme
  pub turn_length_is : length x.turn ≡ S.turn_length h.scheme h.n h.m
  pub reply_length_is : length x.reply ≡ S.reply_length h.scheme h.n h.m
  pub turn_elements : Elements h.q x.turn
  pub challenge_value : x.challenge < S.challenges h.scheme
  pub reply_elements : Elements h.q (take (S.vectors_length h.scheme h.n h.m) x.reply)

-- what a record is written of: header, key and N rounds
pub record ValidRounds (h : Header) (key : List ℕ) (round : ℕ → Round) : Type 0 where
  pub header_values : are_values h ≡ true
  pub key_length : length key ≡ h.m
  pub key_elements : Elements h.q key
  pub each_round : (r : ℕ) → r < h.rounds → ValidRound h (round r)

-- round r of these fields
unfoldable pub round_of : Fields → ℕ → Round
round_of f r =
    let x = exchange_of f.header f.exchanges r in
    record {
      commitments = commitments_of f.header f.commitments r;
      turn = turn_of f.header x;
      challenge = challenge_of f.header x;
      reply = reply_of f.header x;
    }
