-- Document 02, paper 2: the layout of a key book, and what a well-formed one is. Cards are counted from 0.
use Rattle.std.specs.Prelude.{ℕ, ◌+◌, ◌*◌, ◌≤◌, ◌<◌, ◌≡◌, true, List, [], ◌∷◌, ◌++◌, length, take, drop}
use Rattle.slices.specs.Slices.{◌!◌, piece, joined, word, number}
use Rattle.field.specs.Ops.{is_field}
use Rattle.field.specs.Vector.{Elements}
use Rattle.label.specs.Label.{WellFormedLabel, Below}
use Rattle.book_form.specs.declared.layout.Front.{Front}

-- ---- the layout

-- "a count (4 bytes, low first, 0 to 2,000), q, n, m"
unfoldable pub front_bytes : Front → List ℕ
front_bytes h = word h.count ++ h.q ∷ h.n ∷ h.m ∷ []

-- "then the keys of m bytes in that order without gaps": where that of card i starts, behind 7 bytes and the table
unfoldable pub offset_of : Front → ℕ → ℕ
offset_of h i = 7 + h.count * 14 + i * h.m

-- nothing stands behind the last key
unfoldable pub book_length : Front → ℕ
book_length h = offset_of h h.count

-- card i's label, where all stand one behind the other
unfoldable pub label_of : List ℕ → ℕ → List ℕ
label_of labels i = piece 10 i labels

-- and its key
unfoldable pub key_of : Front → List ℕ → ℕ → List ℕ
key_of h keys i = piece h.m i keys

-- "one entry a card with its ten-byte label and 4-byte offset (as in a record)"
unfoldable pub entry : Front → List ℕ → ℕ → List ℕ
entry h labels i = label_of labels i ++ word (offset_of h i)

-- what a book holds: all labels and all keys, one behind the other
pub record Fields : Type 0 where
  pub front : Front
  pub labels : List ℕ
  pub keys : List ℕ

-- the book of these fields: "then a table of contents", "then the keys"
unfoldable pub written : Fields → List ℕ
written f = front_bytes f.front ++ joined f.front.count (entry f.front f.labels) ++ f.keys

-- ---- the fields that stand in a book

unfoldable pub front_in : List ℕ → Front
front_in b = record { count = number b; q = b ! 4; n = b ! 5; m = b ! 6 }

-- the table, as long as the count says
unfoldable pub table_in : List ℕ → List ℕ
table_in b = take ((front_in b).count * 14) (drop 7 b)

unfoldable pub fields_in : List ℕ → Fields
fields_in b =
    let h = front_in b in
    record { front = h; labels = joined h.count (λ i. take 10 (piece 14 i (table_in b))); keys = drop (7 + h.count * 14) b }

-- ---- well-formed

-- each is a byte, as in all that is lent
abbrev pub Bytes : List ℕ → Type 0
Bytes b = Elements 256 b

-- every field among its values, every label without a wrong half, "Labels rise strictly", and every byte of a key an element
pub record Valid (f : Fields) : Type 0 where
  pub count_value : f.front.count ≤ 2000
  pub q_value : is_field f.front.q ≡ true
  pub n_value : (1 ≤ f.front.n) × (f.front.n ≤ 96)
  pub m_value : (1 ≤ f.front.m) × (f.front.m ≤ 96)
  pub labels_length : length f.labels ≡ f.front.count * 10
  pub keys_length : length f.keys ≡ f.front.count * f.front.m
  pub each_label : (i : ℕ) → i < f.front.count → WellFormedLabel (label_of f.labels i)
  pub rising : (i : ℕ) → i + 1 < f.front.count → Below (label_of f.labels i) (label_of f.labels (i + 1))
  pub key_elements : Elements f.front.q f.keys

-- laid out as paper 2 says
pub record WellFormedBook (b : List ℕ) : Type 0 where
  pub fields : Fields
  pub valid : Valid fields
  pub laid_out : b ≡ written fields
