-- The book of fields and the fields of a book. Assumes nothing.
use Prim.Native.Nat.{ℕ, ◌+◌, ◌-◌, ◌*◌, ◌≤◌, ◌<◌}
use mathlib.Core.Path.{◌≡◌, refl, sym, ap, ap₂, ◌∙◌}
use mathlib.Core.List.{List, [], ◌∷◌, ◌++◌, append_assoc, append-nil}
use native.Mathlib.Omega.{arith}
use native.Mathlib.Decide.{dec_lt}
use lib.ListN.{length, take, drop, length-append, length-take, length-drop, take-append-drop, get_or-eq_default}
use lib.Seq.{length-take-le, take_all, take-add, take_at, drop_at, take-take, get_or-take, get_or-drop}
use Rattle.slices.specs.Slices.{◌!◌, piece, joined, word, number}
use Rattle.slices.proofs.Joined.{joined-pieces, length-joined, joined_at, joined_same, piece_long}
use Rattle.slices.proofs.Words.{length-word, number-word, word-number}
use Rattle.field.proofs.Elements.{everywhere}
use Rattle.book_form.specs.declared.layout.Front.{Front}
use Rattle.book_form.specs.Book.{front_bytes, offset_of, book_length, label_of, entry, Fields, written, front_in, table_in, fields_in, Bytes}
use Rattle.book_form.specs.Labels.{label_at}

-- the first ten bytes of an entry
label_of_piece : (t : List ℕ) (i : ℕ) → take 10 (drop (i * 14) t) ≡ take 10 (piece 14 i t)
label_of_piece t i = sym (take-take 10 14 (drop (i * 14) t) (omega arith))

-- a word with nothing behind it
whole_number : (k : ℕ) → k < 4294967296 → number (word k) ≡ k
whole_number k low = ap number (sym (append-nil (word k))) ∙ number-word k [] low

-- what is left behind the front, and behind the table
pub room : (n : ℕ) (h : Front) → n ≡ book_length h → h.count * 14 ≤ n - 7
unfolding book_length offset_of
room n h whole = omega (arith, whole)

rest : (n : ℕ) (h : Front) → n ≡ book_length h → n - (7 + h.count * 14) ≡ h.count * h.m
unfolding book_length offset_of
rest n h whole = omega (arith, whole)

-- ---- the book of fields

seven : (h : Front) → length (front_bytes h) ≡ 7
unfolding front_bytes word
seven h = refl

module _ (f : Fields) (labels_long : length f.labels ≡ f.front.count * 10) where
  label_long : (i : ℕ) → i < f.front.count → length (label_of f.labels i) ≡ 10
  unfolding label_of
  label_long i h = piece_long 10 f.front.count f.labels i labels_long h

  pub entry_long : (i : ℕ) → i < f.front.count → length (entry f.front f.labels i) ≡ 14
  unfolding entry
  entry_long i h =
      let long = label_long i h in
      let four = length-word (offset_of f.front i) in
      length-append (label_of f.labels i) (word (offset_of f.front i)) ∙ omega (arith, long, four)

  pub table_long : length (joined f.front.count (entry f.front f.labels)) ≡ f.front.count * 14
  table_long = length-joined 14 f.front.count (entry f.front f.labels) entry_long

  -- what stands behind the first seven bytes
  behind_front : drop 7 (written f) ≡ joined f.front.count (entry f.front f.labels) ++ f.keys
  unfolding written front_bytes word
  behind_front = refl

  counted : f.front.count < 4294967296 → number (written f) ≡ f.front.count
  unfolding written front_bytes
  counted small =
      let h = f.front in
      let t = joined h.count (entry h f.labels) in
      ap number (append_assoc (word h.count ++ (h.q ∷ h.n ∷ h.m ∷ [])) t f.keys ∙ append_assoc (word h.count) (h.q ∷ h.n ∷ h.m ∷ []) (t ++ f.keys)) ∙
      number-word h.count _ small

  pub front_written : f.front.count < 4294967296 → front_in (written f) ≡ f.front
  unfolding front_in written front_bytes word
  front_written small = let e = counted small in λ i. record { count = e i; q = f.front.q; n = f.front.n; m = f.front.m }

  -- the table, and the label and the offset in each of its entries
  table_written : take (f.front.count * 14) (drop 7 (written f)) ≡ joined f.front.count (entry f.front f.labels)
  table_written = ap (take (f.front.count * 14)) behind_front ∙ take_at (joined f.front.count (entry f.front f.labels)) f.keys (f.front.count * 14) table_long

  entry_at : (i : ℕ) → i < f.front.count → piece 14 i (joined f.front.count (entry f.front f.labels)) ≡ entry f.front f.labels i
  entry_at = joined_at 14 f.front.count (entry f.front f.labels) entry_long

  label_in_entry : (i : ℕ) → i < f.front.count → take 10 (entry f.front f.labels i) ≡ label_of f.labels i
  unfolding entry
  label_in_entry i h = take_at (label_of f.labels i) (word (offset_of f.front i)) 10 (label_long i h)

  offset_in_entry : (i : ℕ) → i < f.front.count → take 4 (drop 10 (entry f.front f.labels i)) ≡ word (offset_of f.front i)
  unfolding entry
  offset_in_entry i h =
      let four = length-word (offset_of f.front i) in
      ap (take 4) (drop_at (label_of f.labels i) (word (offset_of f.front i)) 10 (label_long i h)) ∙ take_all 4 (word (offset_of f.front i)) (omega (arith, four))

  labels_written : joined f.front.count (λ i. take 10 (piece 14 i (joined f.front.count (entry f.front f.labels)))) ≡ f.labels
  unfolding label_of
  labels_written =
      joined_same f.front.count _ _ (λ i h. ap (take 10) (entry_at i h) ∙ label_in_entry i h) ∙ joined-pieces 10 f.front.count f.labels labels_long

  keys_written : drop (7 + f.front.count * 14) (written f) ≡ f.keys
  unfolding written
  keys_written =
      let front_long : length (front_bytes f.front) ≡ 7 = seven f.front in
      let long = table_long in
      drop_at (front_bytes f.front ++ joined f.front.count (entry f.front f.labels)) f.keys (7 + f.front.count * 14)
      (length-append (front_bytes f.front) (joined f.front.count (entry f.front f.labels)) ∙ omega (arith, front_long, long))

  pub table_in_lem : f.front.count < 4294967296 → table_in (written f) ≡ joined f.front.count (entry f.front f.labels)
  unfolding table_in
  table_in_lem small = ap (λ (h : Front). take (h.count * 14) (drop 7 (written f))) (front_written small) ∙ table_written

  -- "reading what the writer wrote gives the fields back"
  pub fields_written : f.front.count < 4294967296 → fields_in (written f) ≡ f
  unfolding fields_in table_in
  fields_written small =
      let b = written f in
      let read : Front → Fields =
      λ h. record { front = h; labels = joined h.count (λ i. take 10 (piece 14 i (take (h.count * 14) (drop 7 b)))); keys = drop (7 + h.count * 14) b }
      in
      let labels = ap (λ (t : List ℕ). joined f.front.count (λ i. take 10 (piece 14 i t))) table_written ∙ labels_written in
      let keys = keys_written in
      ap read (front_written small) ∙ (λ i. record { front = f.front; labels = labels i; keys = keys i })

  pub length-written : length f.keys ≡ f.front.count * f.front.m → length (written f) ≡ book_length f.front
  unfolding written book_length offset_of
  length-written keys_long =
      let t = joined f.front.count (entry f.front f.labels) in
      let front_long = seven f.front in
      let long = table_long in
      length-append (front_bytes f.front ++ t) f.keys ∙ ap (λ (k : ℕ). k + length f.keys) (length-append (front_bytes f.front) t) ∙
      omega (arith, front_long, long, keys_long)

  -- what an entry says
  pub offset_written : f.front.count < 4294967296 → (i : ℕ) → i < f.front.count → offset_of f.front i < 4294967296 →
      number (take 4 (drop 10 (piece 14 i (table_in (written f))))) ≡ offset_of f.front i
  offset_written small i h low =
      ap (λ (t : List ℕ). number (take 4 (drop 10 (piece 14 i t)))) (table_in_lem small) ∙ ap (λ (e : List ℕ). number (take 4 (drop 10 e))) (entry_at i h) ∙
      ap number (offset_in_entry i h) ∙ whole_number (offset_of f.front i) low

  pub label_written : f.front.count < 4294967296 → (i : ℕ) → i < f.front.count → label_at 14 (table_in (written f)) i ≡ label_of f.labels i
  unfolding label_at
  label_written small i h =
      label_of_piece (table_in (written f)) i ∙ ap (λ (t : List ℕ). take 10 (piece 14 i t)) (table_in_lem small) ∙ ap (take 10) (entry_at i h) ∙ label_in_entry i h

-- ---- the fields of a book

-- what is read is a byte, beyond the end too
abbrev ReadsBytes : List ℕ → Type 0
ReadsBytes b = (i : ℕ) → b ! i < 256

front_read : (b : List ℕ) → ReadsBytes b → 7 ≤ length b → front_bytes (front_in b) ≡ take 7 b
unfolding front_bytes front_in number
front_read (x0 ∷ x1 ∷ x2 ∷ x3 ∷ x4 ∷ x5 ∷ x6 ∷ b) bytes size =
    ap (λ (w : List ℕ). w ++ (x4 ∷ x5 ∷ x6 ∷ [])) (word-number x0 x1 x2 x3 (bytes 0) (bytes 1) (bytes 2) (bytes 3))
front_read [] bytes size = absurd (omega arith)
front_read (x0 ∷ []) bytes size = absurd (omega arith)
front_read (x0 ∷ x1 ∷ []) bytes size = absurd (omega arith)
front_read (x0 ∷ x1 ∷ x2 ∷ []) bytes size = absurd (omega arith)
front_read (x0 ∷ x1 ∷ x2 ∷ x3 ∷ []) bytes size = absurd (omega arith)
front_read (x0 ∷ x1 ∷ x2 ∷ x3 ∷ x4 ∷ []) bytes size = absurd (omega arith)
front_read (x0 ∷ x1 ∷ x2 ∷ x3 ∷ x4 ∷ x5 ∷ []) bytes size = absurd (omega arith)

word_read : (l : List ℕ) → ReadsBytes l → length l ≡ 4 → word (number l) ≡ l
word_read (x0 ∷ x1 ∷ x2 ∷ x3 ∷ []) bytes four = word-number x0 x1 x2 x3 (bytes 0) (bytes 1) (bytes 2) (bytes 3)
word_read [] bytes four = absurd (omega (arith, four))
word_read (x0 ∷ []) bytes four = absurd (omega (arith, four))
word_read (x0 ∷ x1 ∷ []) bytes four = absurd (omega (arith, four))
word_read (x0 ∷ x1 ∷ x2 ∷ []) bytes four = absurd (omega (arith, four))
word_read (x0 ∷ x1 ∷ x2 ∷ x3 ∷ x4 ∷ l) bytes four = absurd (omega (arith, four))

bytes_take : (n : ℕ) (l : List ℕ) → ReadsBytes l → ReadsBytes (take n l)
bytes_take n l bytes i =
    elim (dec_lt i n) [
      | yes inside ↦ rw (get_or-take n l i 0 inside) (bytes i)
      | no beyond ↦ rw (get_or-eq_default (take n l) 0 (length_most n l i (omega (arith, beyond)))) (omega arith)
    ]
  where
    length_most : (n : ℕ) (l : List ℕ) (i : ℕ) → n ≤ i → length (take n l) ≤ i
    length_most n l i h = rw (length-take n l) (omega (arith, h))

bytes_drop : (n : ℕ) (l : List ℕ) → ReadsBytes l → ReadsBytes (drop n l)
bytes_drop n l bytes i = rw (get_or-drop n l i 0) (bytes (n + i))

-- a book that is as long as its front says, and in which each entry's offset is right
pub record LaidOut (b : List ℕ) : Type 0 where
  pub size : 7 ≤ length b
  pub whole : length b ≡ book_length (front_in b)
  pub offsets : (i : ℕ) → i < (front_in b).count → number (take 4 (drop 10 (piece 14 i (table_in b)))) ≡ offset_of (front_in b) i

module _ (b : List ℕ) (k : LaidOut b) where
  pub table_size : length (table_in b) ≡ (front_in b).count * 14
  unfolding table_in
  table_size =
      let whole = k.whole in
      length-take-le ((front_in b).count * 14) (drop 7 b) (rw (length-drop 7 b) (room (length b) (front_in b) whole))

  entry_size : (i : ℕ) → i < (front_in b).count → length (piece 14 i (table_in b)) ≡ 14
  entry_size i h = piece_long 14 (front_in b).count (table_in b) i table_size h

  label_size : (i : ℕ) → i < (front_in b).count → length (take 10 (piece 14 i (table_in b))) ≡ 10
  label_size i h = let long = entry_size i h in length-take-le 10 (piece 14 i (table_in b)) (omega (arith, long))

  pub labels_size : length (fields_in b).labels ≡ (front_in b).count * 10
  unfolding fields_in
  labels_size = length-joined 10 (front_in b).count (λ i. take 10 (piece 14 i (table_in b))) label_size

  pub keys_size : length (fields_in b).keys ≡ (front_in b).count * (front_in b).m
  unfolding fields_in
  keys_size = length-drop (7 + (front_in b).count * 14) b ∙ rest (length b) (front_in b) k.whole

  -- the label of card i, as it stands among the labels and in the table
  label_in : (i : ℕ) → i < (front_in b).count → label_of (fields_in b).labels i ≡ take 10 (piece 14 i (table_in b))
  unfolding fields_in label_of
  label_in i h = joined_at 10 (front_in b).count (λ j. take 10 (piece 14 j (table_in b))) label_size i h

  pub label_read : (i : ℕ) → i < (front_in b).count → label_at 14 (table_in b) i ≡ label_of (fields_in b).labels i
  unfolding label_at
  label_read i h = label_of_piece (table_in b) i ∙ sym (label_in i h)

  entry_read : ReadsBytes b → (i : ℕ) → i < (front_in b).count → entry (front_in b) (fields_in b).labels i ≡ piece 14 i (table_in b)
  unfolding entry table_in
  entry_read bytes i h =
      let e = piece 14 i (table_in b) in
      let long = entry_size i h in
      let four : length (take 4 (drop 10 e)) ≡ 4 = length-take-le 4 (drop 10 e) (rw (length-drop 10 e) (omega (arith, long))) in
      let all : take 4 (drop 10 e) ≡ drop 10 e = take_all 4 (drop 10 e) (rw (length-drop 10 e) (omega (arith, long))) in
      let below : ReadsBytes (take 4 (drop 10 e)) = bytes_take 4 (drop 10 e) (bytes_drop 10 e (bytes_take 14 (drop (i * 14) (table_in b)) (bytes_drop (i * 14) (table_in b) (bytes_take ((front_in b).count * 14) (drop 7 b) (bytes_drop 7 b bytes))))) in
      ap₂ (λ (s t : List ℕ). s ++ t) (label_in i h) (ap word (sym (k.offsets i h)) ∙ word_read (take 4 (drop 10 e)) below four ∙ all) ∙ take-append-drop 10 e

  table_read : ReadsBytes b → joined (front_in b).count (entry (front_in b) (fields_in b).labels) ≡ table_in b
  table_read bytes = joined_same (front_in b).count _ _ (entry_read bytes) ∙ joined-pieces 14 (front_in b).count (table_in b) table_size

  -- "Reading a book and writing it again gives the same bytes."
  pub written_fields : Bytes b → written (fields_in b) ≡ b
  unfolding written fields_in table_in
  written_fields bytes =
      let n = (front_in b).count * 14 in
      let reads = everywhere 256 b (omega arith) bytes in
      let front = front_read b reads k.size in
      let table = table_read reads in
      ap₂ (λ (s t : List ℕ). s ++ t ++ drop (7 + n) b) front table ∙ ap (λ (s : List ℕ). s ++ drop (7 + n) b) (sym (take-add 7 n b)) ∙ take-append-drop (7 + n) b
