-- Fields and rounds: the parts of an exchange one behind the other are the exchange, those of a body the body, for every length that is right; the rounds of fields
-- that were made of rounds are those, and fields are those of their rounds. Assumes nothing.
use Prim.Native.Nat.{ℕ, suc, ◌+◌, ◌<◌}
use mathlib.Core.Path.{◌≡◌, sym, ap, subst, ◌∙◌}
use mathlib.Core.List.{List, [], ◌∷◌, ◌++◌}
use native.Mathlib.Numerals.{add-one}
use native.Mathlib.Omega.{arith}
use lib.ListN.{length, take, drop, length-append, length-drop}
use lib.Seq.{length-take-le, take_all, take_at, drop_at, get_or_at, take-take, append_snoc, split_at}
use Rattle.slices.specs.Slices.{◌!◌, joined}
use Rattle.slices.proofs.Joined.{joined-pieces, length-joined, joined_at, joined_same, piece_long}
use Rattle.scheme.specs.Scheme as S
use Rattle.record_form.specs.declared.layout.Header.{Header}
use Rattle.record_form.specs.Record.{Fields, Elements, commitments_body, exchange_length, exchanges_body, Valid, ValidExchange}
use Rattle.record_form.specs.Record.{commitments_of, exchange_of, turn_of, challenge_of, reply_of, reply_vectors}
use Rattle.record_form.specs.Rounds.{Round, exchange_bytes, fields_of_rounds, ValidRound, ValidRounds, round_of}
use Rattle.record_form.proofs.ValidForm.{values, values_true, header_values_of}

-- ---- an exchange

-- every exchange of the right length is its parts, one behind the other
pub exchange_is_parts : (h : Header) (x : List ℕ) → length x ≡ exchange_length h → turn_of h x ++ challenge_of h x ∷ reply_of h x ≡ x
unfolding exchange_length S.exchange_length turn_of challenge_of reply_of
exchange_is_parts h x long =
    let k = S.turn_length h.scheme h.n h.m in
    let n = S.reply_length h.scheme h.n h.m in
    let rest : take n (drop (k + 1) x) ≡ drop (suc k) x =
    take_all n (drop (k + 1) x) (rw (length-drop (k + 1) x) (omega (arith, long))) ∙ ap (λ (j : ℕ). drop j x) (add-one k)
    in
    ap (λ (l : List ℕ). take k x ++ (x ! k) ∷ l) rest ∙ sym (split_at x k 0 (omega (arith, long)))

-- the parts of an exchange that was made of parts are those
module _ (h : Header) (x : Round) (v : ValidRound h x) where
  length_exchange : length (exchange_bytes x) ≡ exchange_length h
  unfolding exchange_bytes exchange_length S.exchange_length
  length_exchange = length-append x.turn (x.challenge ∷ x.reply) ∙ omega (arith, v.turn_length_is, v.reply_length_is)

  turn_of_lem : turn_of h (exchange_bytes x) ≡ x.turn
  unfolding exchange_bytes turn_of
  turn_of_lem = take_at x.turn _ _ v.turn_length_is

  challenge_of_lem : challenge_of h (exchange_bytes x) ≡ x.challenge
  unfolding exchange_bytes challenge_of
  challenge_of_lem = get_or_at x.turn x.challenge x.reply 0 _ v.turn_length_is

  -- what stands behind the challenge
  behind : drop (S.turn_length h.scheme h.n h.m + 1) (exchange_bytes x) ≡ x.reply
  unfolding exchange_bytes
  behind =
      let k = S.turn_length h.scheme h.n h.m in
      let before : length (x.turn ++ x.challenge ∷ []) ≡ k + 1 = length-append x.turn (x.challenge ∷ []) ∙ omega (arith, v.turn_length_is) in
      ap (drop (k + 1)) (sym (append_snoc x.turn x.challenge x.reply)) ∙ drop_at (x.turn ++ x.challenge ∷ []) x.reply (k + 1) before

  reply_of_lem : reply_of h (exchange_bytes x) ≡ x.reply
  unfolding reply_of
  reply_of_lem =
      let n = S.reply_length h.scheme h.n h.m in
      ap (take n) behind ∙ take_all n x.reply (omega (arith, v.reply_length_is))

  vectors_of_lem : reply_vectors h (exchange_bytes x) ≡ take (S.vectors_length h.scheme h.n h.m) x.reply
  unfolding reply_vectors
  vectors_of_lem = ap (take (S.vectors_length h.scheme h.n h.m)) behind

  valid_exchange_of : ValidExchange h (exchange_bytes x)
  valid_exchange_of =
      record {
        turn_elements = subst (Elements h.q) (sym turn_of_lem) v.turn_elements;
        challenge_value = rw challenge_of_lem v.challenge_value;
        reply_elements = subst (Elements h.q) (sym vectors_of_lem) v.reply_elements;
      }

-- ---- the fields of rounds

module _ (h : Header) (key : List ℕ) (round : ℕ → Round) (v : ValidRounds h key round) where
  exchange_at : (r : ℕ) → r < h.rounds → exchange_of h (fields_of_rounds h key round).exchanges r ≡ exchange_bytes (round r)
  unfolding exchange_of fields_of_rounds
  exchange_at = joined_at (exchange_length h) h.rounds (λ r. exchange_bytes (round r)) (λ r below. length_exchange h (round r) (v.each_round r below))

  commitments_at : (r : ℕ) → r < h.rounds → commitments_of h (fields_of_rounds h key round).commitments r ≡ (round r).commitments
  unfolding commitments_of fields_of_rounds
  commitments_at = joined_at (S.commitments_length h.scheme) h.rounds (λ r. (round r).commitments) (λ r below. (v.each_round r below).commitments_length_is)

  -- round r of fields that were made of rounds is the one that was given
  pub round_of_lem : (r : ℕ) → r < h.rounds → round_of (fields_of_rounds h key round) r ≡ round r
  unfolding round_of fields_of_rounds
  round_of_lem r below =
      let x = exchange_at r below in
      let w = v.each_round r below in
      let cs = commitments_at r below in
      let turn = ap (turn_of h) x ∙ turn_of_lem h (round r) w in
      let challenge = ap (challenge_of h) x ∙ challenge_of_lem h (round r) w in
      let reply = ap (reply_of h) x ∙ reply_of_lem h (round r) w in
      λ i. record { commitments = cs i; turn = turn i; challenge = challenge i; reply = reply i }

  -- and such fields are valid
  pub rounds_valid : Valid (fields_of_rounds h key round)
  unfolding fields_of_rounds commitments_body exchanges_body
  rounds_valid =
      let k = values h v.header_values in
      let s = k.sizes_value in
      record {
        q_value = s.q_is_field;
        n_value = (s.n_low, s.n_high);
        m_value = (s.m_low, s.m_high);
        rounds_value = k.rounds_value;
        key_length = v.key_length;
        commitments_length_is = length-joined (S.commitments_length h.scheme) h.rounds _ (λ r below. (v.each_round r below).commitments_length_is);
        exchanges_length = length-joined (exchange_length h) h.rounds _ (λ r below. length_exchange h (round r) (v.each_round r below));
        key_elements = v.key_elements;
        each_exchange = λ r below. subst (ValidExchange h) (sym (exchange_at r below)) (valid_exchange_of h (round r) (v.each_round r below));
      }

-- ---- the rounds of fields

module _ (f : Fields) (v : Valid f) where
  exchange_long : (r : ℕ) → r < f.header.rounds → length (exchange_of f.header f.exchanges r) ≡ exchange_length f.header
  unfolding exchange_of exchanges_body
  exchange_long r below = piece_long (exchange_length f.header) f.header.rounds f.exchanges r v.exchanges_length below

  commitments_whole : joined f.header.rounds (λ r. (round_of f r).commitments) ≡ f.commitments
  unfolding round_of commitments_of commitments_body
  commitments_whole = joined-pieces (S.commitments_length f.header.scheme) f.header.rounds f.commitments v.commitments_length_is

  exchanges_whole : joined f.header.rounds (λ r. exchange_bytes (round_of f r)) ≡ f.exchanges
  unfolding round_of exchange_bytes exchange_of exchanges_body
  exchanges_whole =
      joined_same f.header.rounds _ _ (λ r below. exchange_is_parts f.header _ (exchange_long r below)) ∙
      joined-pieces (exchange_length f.header) f.header.rounds f.exchanges v.exchanges_length

  -- valid fields are those of their rounds
  pub fields_of_lem : fields_of_rounds f.header f.key (round_of f) ≡ f
  unfolding fields_of_rounds
  fields_of_lem = λ i. record { header = f.header; key = f.key; commitments = commitments_whole i; exchanges = exchanges_whole i }

  valid_round : (r : ℕ) → r < f.header.rounds → ValidRound f.header (round_of f r)
  unfolding round_of commitments_of commitments_body turn_of reply_of reply_vectors exchange_length S.exchange_length S.reply_length
  valid_round r below =
      let h = f.header in
      let x = exchange_of h f.exchanges r in
      let k = S.turn_length h.scheme h.n h.m in
      let n = S.reply_length h.scheme h.n h.m in
      let long = exchange_long r below in
      let valid = v.each_exchange r below in
      record {
        commitments_length_is = piece_long (S.commitments_length h.scheme) h.rounds f.commitments r v.commitments_length_is below;
        turn_length_is = length-take-le k x (omega (arith, long));
        reply_length_is = length-take-le n (drop (k + 1) x) (rw (length-drop (k + 1) x) (omega (arith, long)));
        turn_elements = valid.turn_elements;
        challenge_value = valid.challenge_value;
        reply_elements =
            subst (Elements h.q) (sym (take-take (S.vectors_length h.scheme h.n h.m) n (drop (k + 1) x) (omega arith))) valid.reply_elements;
      }

  -- whose messages are valid
  pub valid_rounds : ValidRounds f.header f.key (round_of f)
  valid_rounds = record { header_values = values_true f.header (header_values_of f v); key_length = v.key_length; key_elements = v.key_elements; each_round = valid_round }
