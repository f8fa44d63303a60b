-- The rounds of a record, by the messages with which report and audit judge them: those that were written, and no others. Assumes nothing.
use Prim.Native.Nat.{ℕ, ◌<◌}
use mathlib.Core.Path.{◌≡◌, refl, ap, ◌∙◌}
use mathlib.Core.List.{List, ◌∷◌, ◌++◌}
use lib.ListN.{length}
use Rattle.slices.specs.Slices.{◌!◌}
use Rattle.field.specs.Vector.{as_vector}
use Rattle.scheme.specs.Scheme as S
use Rattle.system.proofs.SystemLayout.{Sizes}
use Rattle.scheme.specs.declared.Scheme.{Scheme}
use Rattle.scheme.specs.declared.Scheme.TheVariants.{ThreePass, FivePass}
use Rattle.round.specs.Openings.{commitment_at}
use Rattle.exchange.specs.Messages.{accepts, middle_in, reply_three_in, reply_five_in}
use Rattle.exchange.specs.Messages.{reply_three_bytes, middle_bytes, reply_five_bytes}
use Rattle.exchange.proofs.Parts.{three_commitments_are, five_commitments_are, turn_is, reply_three_is, reply_five_is}
use Rattle.record_form.specs.declared.layout.Header.{Header}
use Rattle.record_form.specs.Record.{Fields, layout_of, written, WellFormedRecord, header_in, fields_in}
use Rattle.record_form.specs.Rounds.{Round, fields_of_rounds, ValidRound, ValidRounds, round_of}
use Rattle.record_form.proofs.ValidForm.{values}
use Rattle.record_form.proofs.Rounds.{round_of_lem, rounds_valid, fields_of_lem, valid_rounds}
use Rattle.record.proofs.RecordLayout.{header_written, fields_written, valid_fields, written_fields, not_refused}
use Rattle.transcript.specs.Transcript.{domain_in, key_vector, round_commitments, round_exchange, round_turn, round_challenge, round_reply, round_in, accepted_round}

-- a round's messages are those that stand in the record's fields
in_fields : (b : List ℕ) (r : ℕ) → round_in b r ≡ round_of (fields_in b) r
unfolding round_in round_of round_commitments round_exchange round_challenge fields_in layout_of
in_fields b r = refl

-- the record of N rounds is well-formed, and its round r is the one that was written there
pub rounds_written : (h : Header) (key : List ℕ) (round : ℕ → Round) → ValidRounds h key round →
    WellFormedRecord (written (fields_of_rounds h key round)) × ((r : ℕ) → r < h.rounds → round_in (written (fields_of_rounds h key round)) r ≡ round r)
rounds_written h key round v =
    let f = fields_of_rounds h key round in
    let valid = rounds_valid h key round v in (
      record { fields = f; valid = valid; laid_out = refl },
      λ r below. in_fields (written f) r ∙ ap (λ (g : Fields). round_of g r) (fields_written f valid) ∙ round_of_lem h key round v r below,
    )

-- so a round of such a record is judged by the messages that were written
pub judged_as_written : (system : List ℕ) (h : Header) (key : List ℕ) (round : ℕ → Round) → ValidRounds h key round → (r : ℕ) → r < h.rounds →
    accepted_round system (written (fields_of_rounds h key round)) r ≡
    accepts system (record { scheme = h.scheme }) (as_vector key) (round r).commitments (round r).turn (round r).challenge (round r).reply
unfolding accepted_round domain_in key_vector round_in fields_of_rounds
judged_as_written system h key round v r below =
    let f = fields_of_rounds h key round in
    of_same _ _ _ (header_written f) (ap (λ (g : Fields). g.key) (fields_written f (rounds_valid h key round v))) ((rounds_written h key round v).1 r below)
  where
    of_same : (k : Header) (l : List ℕ) (x : Round) → k ≡ h → l ≡ key → x ≡ round r →
        accepts system (record { scheme = k.scheme }) (as_vector l) x.commitments x.turn x.challenge x.reply ≡
        accepts system (record { scheme = h.scheme }) (as_vector key) (round r).commitments (round r).turn (round r).challenge (round r).reply
    of_same k l x hk hl hx = rw (hk, hl, hx)

-- and every well-formed record is the record of its rounds, each of them valid
pub rounds_read : (b : List ℕ) → WellFormedRecord b →
    ValidRounds (header_in b) (fields_in b).key (round_in b) × (written (fields_of_rounds (header_in b) (fields_in b).key (round_in b)) ≡ b)
unfolding round_in round_of round_commitments round_exchange round_challenge fields_in layout_of
rounds_read b w =
    let none = not_refused b w in
    let valid = valid_fields b none in
    (valid_rounds (fields_in b) valid, ap written (fields_of_lem (fields_in b) valid) ∙ written_fields b none)

-- ---- what the messages are made of, as the check reads them

module _ (b : List ℕ) (w : WellFormedRecord b) (r : ℕ) (below : r < (header_in b).rounds) where
  abbrev n : ℕ
  n = (header_in b).n

  abbrev m : ℕ
  m = (header_in b).m

  sizes_of : Sizes (header_in b).q n m
  sizes_of = (values (header_in b) (rounds_read b w).0.header_values).sizes_value

  valid_of : ValidRound (header_in b) (round_in b r)
  valid_of = (rounds_read b w).0.each_round r below

  abbrev committed : ℕ → List ℕ
  committed k = commitment_at (round_commitments b r) k

  -- three passes: c0, c1, c2; nothing before the challenge; three vectors and two ρ
  pub three_parts : (header_in b).scheme ≡ ThreePass →
      (committed 0 ++ committed 1 ++ committed 2 ≡ round_commitments b r) × (length (round_turn b r) ≡ 0) ×
      (reply_three_bytes n m (reply_three_in n m (round_reply b r)) ≡ round_reply b r)
  unfolding round_in S.turn_length
  three_parts is =
      let v = valid_of in (
        three_commitments_are (round_commitments b r) (v.commitments_length_is ∙ ap S.commitments_length is),
        v.turn_length_is ∙ ap (λ (s : Scheme). S.turn_length s n m) is,
        reply_three_is n m sizes_of.n_high sizes_of.m_high (round_reply b r) (v.reply_length_is ∙ ap (λ (s : Scheme). S.reply_length s n m) is),
      )

  -- five passes: c0, c1; α, t1, e1; a vector and its ρ
  pub five_parts : (header_in b).scheme ≡ FivePass →
      (committed 0 ++ committed 1 ≡ round_commitments b r) ×
      ((round_turn b r ! 0) ∷ middle_bytes n m (middle_in n m (round_turn b r)) ≡ round_turn b r) ×
      (reply_five_bytes n (reply_five_in n (round_reply b r)) ≡ round_reply b r)
  unfolding round_in
  five_parts is =
      let v = valid_of in (
        five_commitments_are (round_commitments b r) (v.commitments_length_is ∙ ap S.commitments_length is),
        turn_is n m sizes_of.n_high sizes_of.m_high (round_turn b r) (v.turn_length_is ∙ ap (λ (s : Scheme). S.turn_length s n m) is),
        reply_five_is n m sizes_of.n_high sizes_of.m_high (round_reply b r) (v.reply_length_is ∙ ap (λ (s : Scheme). S.reply_length s n m) is),
      )
