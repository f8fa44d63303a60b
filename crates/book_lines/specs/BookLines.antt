-- What the program book prints of a key book, as bytes, ASCII codes.
use Rattle.std.specs.Prelude.{ℕ, cond, List, [], ◌∷◌, ◌++◌, eqb, take}
use Rattle.slices.specs.Slices.{joined}
use Rattle.text.specs.Text.{numbered, line_feed}
use Rattle.hex_text.specs.Hex.{hex}
use Rattle.report_lines.specs.ReportLines.{space_word, refused_line}
use Rattle.iccid.specs.Iccid.{label_digits, label_from}
use Rattle.book_form.specs.declared.layout.Front.{Front}
use Rattle.book_form.specs.Book.{key_of, front_in, table_in, fields_in}
use Rattle.book_form.specs.Labels.{label_at}
use Rattle.book_reader.specs.Reader.{book_refusal}
use Rattle.book_lookup.specs.Answer.{Answer, Found, Absent, Refused}
use Rattle.book_lookup.specs.Lookup.{lookup_of}

-- ---- words

-- "q "
unfoldable pub q_word : List ℕ
q_word = 113 ∷ 32 ∷ []

-- " n "
unfoldable pub n_word : List ℕ
n_word = 32 ∷ 110 ∷ 32 ∷ []

-- " m "
unfoldable pub m_word : List ℕ
m_word = 32 ∷ 109 ∷ 32 ∷ []

-- " count "
unfoldable pub count_word : List ℕ
count_word = 32 ∷ 99 ∷ 111 ∷ 117 ∷ 110 ∷ 116 ∷ 32 ∷ []

-- "absent" and the end of its line
unfoldable pub absent_line : List ℕ
absent_line = 97 ∷ 98 ∷ 115 ∷ 101 ∷ 110 ∷ 116 ∷ 10 ∷ []

-- ---- all cards of a book

-- a card's label and key: `8944100000000000013 0506`
unfoldable pub card_line : List ℕ → List ℕ → List ℕ
card_line label key = label_digits label ++ space_word ++ hex key ++ line_feed

-- what stands before the table: `q 7 n 2 m 2 count 3`
unfoldable pub sizes_line : Front → List ℕ
sizes_line h = (numbered q_word h.q ++ numbered n_word h.n) ++ numbered m_word h.m ++ numbered count_word h.count ++ line_feed

-- the line of a book's card i, from 0
unfoldable pub card_of : List ℕ → ℕ → List ℕ
card_of b i = card_line (label_at 14 (table_in b) i) (key_of (front_in b) (fields_in b).keys i)

-- the numbers of a book and a line a card, or its refusal
unfoldable pub book_text : List ℕ → List ℕ
book_text b = cond (eqb (book_refusal b) 0) (sizes_line (front_in b) ++ joined (front_in b).count (card_of b)) (refused_line (book_refusal b))

-- ---- one card by its ICCID

-- a key alone on its line
unfoldable pub key_line : List ℕ → List ℕ
key_line key = hex key ++ line_feed

-- a key where there is one, else `absent` or the refusal
unfoldable pub answer_line : Answer → List ℕ → List ℕ
answer_line Found key = key_line key
answer_line Absent key = absent_line
answer_line (Refused number) key = refused_line number

-- the key of the card with this ICCID, of m bytes, or that there is none
unfoldable pub lookup_text : List ℕ → List ℕ → List ℕ
lookup_text b iccid = let found = lookup_of b (label_from iccid) in answer_line found.answer (take (front_in b).m found.key)
