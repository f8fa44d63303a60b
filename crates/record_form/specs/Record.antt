-- Document 01, "Session record": the layout, and what a well-formed record is.
use Rattle.std.specs.Prelude.{ℕ, ◌+◌, ◌*◌, ◌≤◌, ◌<◌, ◌≡◌, true, List, [], ◌∷◌, ◌++◌, length, take, drop}
use Rattle.slices.specs.Slices.{◌!◌, word}
use Rattle.field.specs.Ops.{is_field}
pub use Rattle.field.specs.Vector.{Elements}
use Rattle.scheme.specs.Scheme as S
use Rattle.record_form.specs.declared.layout.Header.{Header}
use Rattle.record_form.specs.declared.layout.Body.{Body}
use Rattle.record_form.specs.declared.layout.Layout.{Layout}

-- ---- lengths

-- "Commitments: 32 bytes each, 3 or 2 a round.": the body, of all rounds
unfoldable pub commitments_body : Header → ℕ
commitments_body h = h.rounds * S.commitments_length h.scheme

-- the bytes of a round's exchange
unfoldable pub exchange_length : Header → ℕ
exchange_length h = S.exchange_length h.scheme h.n h.m

-- and of all rounds
unfoldable pub exchanges_body : Header → ℕ
exchanges_body h = h.rounds * exchange_length h

-- "Bodies follow in that order without gaps from offset 30. Key: v."
unfoldable pub layout_of : Header → Layout
layout_of h =
    record {
      edition = 1;
      header = h;
      key = record { offset = 30; length = h.m };
      commitments = record { offset = 30 + h.m; length = commitments_body h };
      exchanges = record { offset = 30 + h.m + commitments_body h; length = exchanges_body h };
    }

-- "Nothing follows the last body."
unfoldable pub record_length : Header → ℕ
record_length h = 30 + h.m + commitments_body h + exchanges_body h

-- ---- bytes

-- "offset and length, each 4 bytes, low byte first"
unfoldable pub entry : Body → List ℕ
entry b = word b.offset ++ word b.length

-- "a table of contents of three entries": "key, commitments, exchanges"
unfoldable pub table : Header → List ℕ
table h = entry (layout_of h).key ++ entry (layout_of h).commitments ++ entry (layout_of h).exchanges

-- "Byte 0 edition (1), then scheme, q, n, m, N."
unfoldable pub head : Header → List ℕ
head h = 1 ∷ S.byte_of h.scheme ∷ h.q ∷ h.n ∷ h.m ∷ h.rounds ∷ []

-- what a record holds
pub record Fields : Type 0 where
  pub header : Header
  pub key : List ℕ
  pub commitments : List ℕ
  pub exchanges : List ℕ

-- the record of these fields: header, table, then the three bodies
unfoldable pub written : Fields → List ℕ
written f = head f.header ++ table f.header ++ f.key ++ f.commitments ++ f.exchanges

-- ---- the fields that stand in a record

-- the header of five bytes, the first decoded as a scheme's
abbrev pub header_of : ℕ → ℕ → ℕ → ℕ → ℕ → Header
header_of byte q n m rounds = record { scheme = S.scheme_of byte; q = q; n = n; m = m; rounds = rounds }

-- "then scheme, q, n, m, N"
unfoldable pub header_in : List ℕ → Header
header_in b = header_of (b ! 1) (b ! 2) (b ! 3) (b ! 4) (b ! 5)

-- the bytes of a body
unfoldable pub body_in : Body → List ℕ → List ℕ
body_in body b = take body.length (drop body.offset b)

-- the header and the three bodies, where the header says that they stand
unfoldable pub fields_in : List ℕ → Fields
fields_in b =
    let l = layout_of (header_in b) in
    record { header = l.header; key = body_in l.key b; commitments = body_in l.commitments b; exchanges = body_in l.exchanges b }

-- ---- the parts of the bodies

-- the commitments of round r, counted from 0
unfoldable pub commitments_of : Header → List ℕ → ℕ → List ℕ
commitments_of h commitments r = take (S.commitments_length h.scheme) (drop (r * S.commitments_length h.scheme) commitments)

-- the exchange of round r
unfoldable pub exchange_of : Header → List ℕ → ℕ → List ℕ
exchange_of h exchanges r = take (exchange_length h) (drop (r * exchange_length h) exchanges)

-- "scheme 5, α, t1, e1": nothing in scheme 3
unfoldable pub turn_of : Header → List ℕ → List ℕ
turn_of h exchange = take (S.turn_length h.scheme h.n h.m) exchange

-- "challenge byte"
unfoldable pub challenge_of : Header → List ℕ → ℕ
challenge_of h exchange = exchange ! S.turn_length h.scheme h.n h.m

-- "and reply"
unfoldable pub reply_of : Header → List ℕ → List ℕ
reply_of h exchange = take (S.reply_length h.scheme h.n h.m) (drop (S.turn_length h.scheme h.n h.m + 1) exchange)

-- the reply's vectors, without its ρ
unfoldable pub reply_vectors : Header → List ℕ → List ℕ
reply_vectors h exchange = take (S.vectors_length h.scheme h.n h.m) (drop (S.turn_length h.scheme h.n h.m + 1) exchange)

-- ---- well-formed

-- an exchange whose elements and challenge are among their values
pub record ValidExchange (h : Header) (exchange : List ℕ) : Type 0 where
  pub turn_elements : Elements h.q (turn_of h exchange)
  pub challenge_value : challenge_of h exchange < S.challenges h.scheme
  pub reply_elements : Elements h.q (reply_vectors h exchange)

-- "every field, element and challenge among its values"; a `Scheme` has no other values
pub record Valid (f : Fields) : Type 0 where
  pub q_value : is_field f.header.q ≡ true
  pub n_value : (1 ≤ f.header.n) × (f.header.n ≤ 96)
  pub m_value : (1 ≤ f.header.m) × (f.header.m ≤ 96)
  pub rounds_value : (1 ≤ f.header.rounds) × (f.header.rounds ≤ 255)
  pub key_length : length f.key ≡ f.header.m
  pub commitments_length_is : length f.commitments ≡ commitments_body f.header
  pub exchanges_length : length f.exchanges ≡ exchanges_body f.header
  pub key_elements : Elements f.header.q f.key
  pub each_exchange : (r : ℕ) → r < f.header.rounds → ValidExchange f.header (exchange_of f.header f.exchanges r)

-- "A record or a system is well-formed when it is laid out as here, every field, element and challenge among its values."
pub record WellFormedRecord (b : List ℕ) : Type 0 where
  pub fields : Fields
  pub valid : Valid fields
  pub laid_out : b ≡ written fields
