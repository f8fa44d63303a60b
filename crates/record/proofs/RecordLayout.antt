-- A record is refused exactly when it is not well-formed; what the layout says of a record's fields, and of a record made of fields. Assumes nothing.
use Prim.Native.Nat.{ℕ, ◌+◌, ◌≤◌}
use mathlib.Core.Path.{◌≡◌, refl, sym, ap, ap₂, ◌∙◌}
use mathlib.Core.Bool.{true}
use mathlib.Core.List.{List, [], ◌∷◌, ◌++◌, append_assoc, append-nil}
use native.Mathlib.Omega.{arith}
use lib.Dec.{leb}
use lib.ListN.{length, take, drop, length-append, length-drop}
use lib.Seq.{length-take-le, take_all, take-add, take_at, drop_at}
use borrow.Author.Tests.{leb-true, le-leb, eq-eqb, eqb-true}
use Rattle.slices.specs.Slices.{◌!◌, same, word}
use Rattle.slices.proofs.Sameness.{same_true, same_by}
use Rattle.refusal.proofs.Refusals.{first_zero, later_zero, test_holds, equal_holds, both_zero, unless_holds}
use Rattle.field.specs.Vector.{all_below}
use Rattle.scheme.specs.Scheme.{byte_of, scheme_of, is_scheme}
use Rattle.scheme.proofs.Bytes.{decoded, is_scheme_lem}
use Rattle.field.proofs.Elements.{all_below_at, at_all_below}
use Rattle.record_form.specs.declared.layout.Header.{Header}
use Rattle.record_form.specs.declared.form.Check.TheVariants.{FileOrder}
use Rattle.record_form.specs.Record.{commitments_body, exchanges_body, layout_of, record_length, entry, table, head, Fields, written, Valid, WellFormedRecord}
use Rattle.record_form.specs.Record.{header_in, body_in, fields_in}
use Rattle.record_form.specs.Form.{are_values, exchanges_refusal}
use Rattle.record.specs.Reader.{record_refusal}
use Rattle.record_form.proofs.ValidForm.{values, values_true, header_values_of, valid_in_order, each_zero}

-- ---- a record that is not refused

pub record Accepted (b : List ℕ) : Type 0 where
  pub size : 30 ≤ length b
  pub edition : b ! 0 ≡ 1
  pub scheme_value : is_scheme (b ! 1) ≡ true
  pub header_values : are_values (header_in b) ≡ true
  pub table_bytes : take 24 (drop 6 b) ≡ table (header_in b)
  pub whole : length b ≡ record_length (header_in b)
  pub key_below : all_below (header_in b).q (fields_in b).key ≡ true
  pub exchanges_good : exchanges_refusal FileOrder (header_in b) (fields_in b).exchanges ≡ 0

pub accepted : (b : List ℕ) → record_refusal b ≡ 0 → Accepted b
unfolding record_refusal
accepted b none =
    let after_size = later_zero _ _ none in
    let after_edition = later_zero _ _ after_size in
    let after_scheme = later_zero _ _ after_edition in
    let after_values = later_zero _ _ after_scheme in
    let after_table = later_zero _ _ after_values in
    let after_whole = later_zero _ _ after_table in
    record {
      size = leb-true 30 (length b) (test_holds (leb 30 (length b)) 6 tt (first_zero _ _ none));
      edition = equal_holds (b ! 0) 1 6 tt (first_zero _ _ after_size);
      scheme_value = test_holds (is_scheme (b ! 1)) 1 tt (first_zero _ _ after_edition);
      header_values = test_holds (are_values (header_in b)) 1 tt (first_zero _ _ after_scheme);
      table_bytes = same_true _ _ (test_holds (same (take 24 (drop 6 b)) (table (header_in b))) 6 tt (first_zero _ _ after_values));
      whole = equal_holds (length b) (record_length (header_in b)) 6 tt (first_zero _ _ after_table);
      key_below = test_holds (all_below (header_in b).q (fields_in b).key) 3 tt (first_zero _ _ after_whole);
      exchanges_good = later_zero _ _ after_whole;
    }

none_refused : (b : List ℕ) → Accepted b → record_refusal b ≡ 0
unfolding record_refusal
none_refused b k =
    both_zero _ _ (unless_holds _ 6 (le-leb 30 (length b) k.size))
    (both_zero _ _ (unless_holds _ 6 (eq-eqb (b ! 0) 1 k.edition))
    (both_zero _ _ (unless_holds _ 1 k.scheme_value)
    (both_zero _ _ (unless_holds _ 1 k.header_values)
    (both_zero _ _ (unless_holds _ 6 (same_by _ _ k.table_bytes))
    (both_zero _ _ (unless_holds _ 6 (eq-eqb (length b) (record_length (header_in b)) k.whole))
    (both_zero _ _ (unless_holds _ 3 k.key_below) k.exchanges_good))))))

-- ---- the record of its fields

scheme_byte : (byte : ℕ) → is_scheme byte ≡ true → byte_of (scheme_of byte) ≡ byte
unfolding is_scheme
scheme_byte byte is = eqb-true _ _ is

first_six : (b : List ℕ) → 30 ≤ length b → b ! 0 ≡ 1 → byte_of (scheme_of (b ! 1)) ≡ b ! 1 → take 6 b ≡ head (header_in b)
unfolding head header_in
first_six (x0 ∷ x1 ∷ x2 ∷ x3 ∷ x4 ∷ x5 ∷ b) h e s = ap₂ (λ (x y : ℕ). x ∷ y ∷ x2 ∷ x3 ∷ x4 ∷ x5 ∷ []) e (sym s)
first_six [] h e s = absurd (omega arith)
first_six (x0 ∷ []) h e s = absurd (omega arith)
first_six (x0 ∷ x1 ∷ []) h e s = absurd (omega arith)
first_six (x0 ∷ x1 ∷ x2 ∷ []) h e s = absurd (omega arith)
first_six (x0 ∷ x1 ∷ x2 ∷ x3 ∷ []) h e s = absurd (omega arith)
first_six (x0 ∷ x1 ∷ x2 ∷ x3 ∷ x4 ∷ []) h e s = absurd (omega arith)

-- every record that the reader accepts is the one that is made of its fields
pub written_fields : (b : List ℕ) → record_refusal b ≡ 0 → written (fields_in b) ≡ b
unfolding written fields_in layout_of body_in record_length
written_fields b none =
    let k = accepted b none in
    let h = header_in b in
    let front = sym (take-add 6 24 b ∙ ap₂ (λ (s t : List ℕ). s ++ t) (first_six b k.size k.edition (scheme_byte (b ! 1) k.scheme_value)) k.table_bytes) in
    let key = front_and 30 h.m (head h ++ table h) front in
    let commitments = front_and (30 + h.m) (commitments_body h) _ key in
    let exchanges = front_and (30 + h.m + commitments_body h) (exchanges_body h) _ commitments in
    exchanges ∙ take_all (30 + h.m + commitments_body h + exchanges_body h) b (omega (arith, k.whole))
  where
    front_and : (a n : ℕ) (done : List ℕ) → done ≡ take a b → done ++ take n (drop a b) ≡ take (a + n) b
    front_and a n done e = ap (λ (s : List ℕ). s ++ take n (drop a b)) e ∙ sym (take-add a n b)

-- the fields of a record that is not refused are among their values
pub valid_fields : (b : List ℕ) → record_refusal b ≡ 0 → Valid (fields_in b)
unfolding fields_in layout_of body_in record_length
valid_fields b none =
    let k = accepted b none in
    let h = header_in b in
    let v = values h k.header_values in
    let s = v.sizes_value in
    record {
      q_value = s.q_is_field;
      n_value = (s.n_low, s.n_high);
      m_value = (s.m_low, s.m_high);
      rounds_value = v.rounds_value;
      key_length = between 30 h.m (omega (arith, k.whole));
      commitments_length_is = between (30 + h.m) (commitments_body h) (omega (arith, k.whole));
      exchanges_length = between (30 + h.m + commitments_body h) (exchanges_body h) (omega (arith, k.whole));
      key_elements = all_below_at h.q (fields_in b).key k.key_below;
      each_exchange = valid_in_order h (fields_in b).exchanges k.exchanges_good;
    }
  where
    between : (a n : ℕ) → a + n ≤ length b → length (take n (drop a b)) ≡ n
    between a n within = length-take-le n (drop a b) (rw (length-drop a b) (omega arith))

-- the length is the one of its fields' header
pub whole_fields : (b : List ℕ) → record_refusal b ≡ 0 → length b ≡ record_length (fields_in b).header
unfolding fields_in layout_of
whole_fields b none = (accepted b none).whole

pub well_formed : (b : List ℕ) → record_refusal b ≡ 0 → WellFormedRecord b
well_formed b none = record { fields = fields_in b; valid = valid_fields b none; laid_out = sym (written_fields b none) }

-- ---- a record made of fields

pub length-table : (h : Header) → length (table h) ≡ 24
unfolding table entry word
length-table h = refl

-- what stands between what comes before and what comes after
body_between : (p body s : List ℕ) (a n : ℕ) → length p ≡ a → length body ≡ n → take n (drop a (p ++ body ++ s)) ≡ body
body_between p body s a n before long =
    ap (λ (l : List ℕ). take n (drop a l)) (append_assoc p body s) ∙ ap (take n) (drop_at p (body ++ s) a before) ∙ take_at body s n long

pub header_written : (f : Fields) → header_in (written f) ≡ f.header
unfolding header_in written head
header_written f =
    let h = f.header in
    λ i. record { scheme = decoded h.scheme i; q = h.q; n = h.n; m = h.m; rounds = h.rounds }

length-head : (h : Header) → length (head h) ≡ 6
unfolding head
length-head h = refl

length_front : (h : Header) → length (head h ++ table h) ≡ 30
length_front h = length-append (head h) (table h) ∙ ap₂ ◌+◌ (length-head h) (length-table h)

key_written : (f : Fields) → Valid f → body_in (layout_of f.header).key (written f) ≡ f.key
unfolding written layout_of body_in
key_written f v =
    let front = head f.header ++ table f.header in
    ap (λ (l : List ℕ). take f.header.m (drop 30 l)) (append_assoc (front ++ f.key) f.commitments f.exchanges) ∙
    body_between front f.key (f.commitments ++ f.exchanges) 30 f.header.m (length_front f.header) v.key_length

commitments_written : (f : Fields) → Valid f → body_in (layout_of f.header).commitments (written f) ≡ f.commitments
unfolding written layout_of body_in
commitments_written f v =
    let front = head f.header ++ table f.header in
    body_between (front ++ f.key) f.commitments f.exchanges (30 + f.header.m) (commitments_body f.header)
    (length-append front f.key ∙ ap₂ ◌+◌ (length_front f.header) v.key_length) v.commitments_length_is

exchanges_written : (f : Fields) → Valid f → body_in (layout_of f.header).exchanges (written f) ≡ f.exchanges
unfolding written layout_of body_in
exchanges_written f v =
    let front = head f.header ++ table f.header in
    let before = front ++ f.key ++ f.commitments in
    let after = 30 + f.header.m + commitments_body f.header in
    ap (λ (l : List ℕ). take (exchanges_body f.header) (drop after l)) (sym (append-nil (before ++ f.exchanges))) ∙
    body_between before f.exchanges [] after (exchanges_body f.header)
    (length-append (front ++ f.key) f.commitments ∙
    ap₂ ◌+◌ (length-append front f.key ∙ ap₂ ◌+◌ (length_front f.header) v.key_length) v.commitments_length_is)
    v.exchanges_length

-- the fields of a record that was made of fields are those
pub fields_written : (f : Fields) → Valid f → fields_in (written f) ≡ f
unfolding fields_in layout_of
fields_written f v = simp (header_written f, key_written f v, commitments_written f v, exchanges_written f v)

pub length-written : (f : Fields) → Valid f → length (written f) ≡ record_length f.header
unfolding written record_length
length-written f v =
    simp
    (length-append, length-head f.header, length-table f.header, v.key_length, v.commitments_length_is, v.exchanges_length)

table_written : (f : Fields) → take 24 (drop 6 (written f)) ≡ table f.header
unfolding written head
table_written f =
    ap (take 24) (append_assoc (table f.header ++ f.key) f.commitments f.exchanges ∙ append_assoc (table f.header) f.key (f.commitments ++ f.exchanges)) ∙
    take_at (table f.header) (f.key ++ (f.commitments ++ f.exchanges)) 24 (length-table f.header)

at_least : (h : Header) → 30 ≤ record_length h
unfolding record_length
at_least h = omega arith

starts : (f : Fields) → written f ! 0 ≡ 1
unfolding written head
starts f = refl

scheme_written : (f : Fields) → is_scheme (written f ! 1) ≡ true
unfolding written head
scheme_written f = is_scheme_lem f.header.scheme

-- a record made of valid fields is not refused
accepted_written : (f : Fields) → Valid f → Accepted (written f)
accepted_written f v =
    let h = header_written f in
    record {
      size = rw (length-written f v) (at_least f.header);
      edition = starts f;
      scheme_value = scheme_written f;
      header_values = ap are_values h ∙ values_true f.header (header_values_of f v);
      table_bytes = table_written f ∙ ap table (sym h);
      whole = length-written f v ∙ ap record_length (sym h);
      key_below = ap₂ all_below (ap (λ (k : Header). k.q) h) (ap (λ (g : Fields). g.key) (fields_written f v)) ∙ at_all_below f.header.q f.key v.key_elements;
      exchanges_good =
          ap₂ (exchanges_refusal FileOrder) h (ap (λ (g : Fields). g.exchanges) (fields_written f v)) ∙
          each_zero FileOrder f.header f.exchanges v.each_exchange;
    }

pub written_accepted : (f : Fields) → Valid f → record_refusal (written f) ≡ 0
written_accepted f v = none_refused (written f) (accepted_written f v)

pub not_refused : (b : List ℕ) → WellFormedRecord b → record_refusal b ≡ 0
not_refused b w = ap record_refusal w.laid_out ∙ written_accepted w.fields w.valid
