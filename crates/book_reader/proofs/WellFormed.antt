-- A book is refused exactly when it is not well-formed; and what was written is read as it was. Assumes nothing.
use Prim.Native.Nat.{ℕ, ◌*◌, ◌≤◌, ◌<◌}
use mathlib.Core.Path.{◌≡◌, sym, ap, subst, ◌∙◌}
use mathlib.Core.Bool.{true}
use mathlib.Core.Logic.{◌↔◌}
use mathlib.Core.List.{List}
use native.Mathlib.Omega.{arith}
use native.Mathlib.Nat.{mul-le-mul}
use lib.Dec.{leb}
use lib.ListN.{length, take, drop}
use borrow.Author.Tests.{leb-true, le-leb, eq-eqb}
use Rattle.slices.specs.Slices.{piece, number}
use Rattle.refusal.proofs.Refusals.{first_zero, later_zero, test_holds, equal_holds, both_zero, unless_holds, first_of_each, first_of_none, unless_most, or_else_most, first_of_most}
use Rattle.field.specs.Vector.{all_below}
use Rattle.field.proofs.Elements.{all_below_at, at_all_below}
use Rattle.system.specs.System.{are_sizes}
use Rattle.system.proofs.SystemLayout.{sizes, sizes_true}
use Rattle.book_form.specs.declared.layout.Front.{Front}
use Rattle.book_form.specs.Book.{offset_of, book_length, label_of, Fields, written, front_in, table_in, fields_in, Valid, WellFormedBook, Bytes}
use Rattle.book_form.specs.Values.{values_refusal}
use Rattle.book_form.specs.Labels.{label_at, label_refusal, labels_refusal}
use Rattle.book_form.proofs.BookLayout.{LaidOut, front_written, fields_written, length-written, offset_written, label_written, labels_size, keys_size, label_read, written_fields}
use Rattle.book_form.proofs.RightValues.{few_cards, right_sizes, right_values}
use Rattle.book_form.proofs.Rising.{Rising, rising, none_refused, rising_same}
use Rattle.book_reader.specs.Reader.{offset_refusal, offsets_refusal, front_refusal, book_refusal}

-- ---- a book that is not refused

pub record Accepted (b : List ℕ) : Type 0 where
  pub count_value : (front_in b).count ≤ 2000
  pub sizes_value : are_sizes (front_in b).q (front_in b).n (front_in b).m ≡ true
  pub laid_out : LaidOut b
  pub labels_rise : Rising (front_in b).count (label_at 14 (table_in b))
  pub keys_below : all_below (front_in b).q (fields_in b).keys ≡ true

pub accepted : (b : List ℕ) → book_refusal b ≡ 0 → Accepted b
unfolding book_refusal front_refusal offsets_refusal offset_refusal
accepted b none =
    let h = front_in b in
    let in_front = first_zero _ _ none in
    let after_size = later_zero _ _ in_front in
    let values = first_zero _ _ after_size in
    let after_front = later_zero _ _ none in
    let after_table = later_zero _ _ after_front in
    record {
      count_value = few_cards h values;
      sizes_value = right_sizes h values;
      laid_out =
          record {
            size = leb-true 7 (length b) (test_holds (leb 7 (length b)) 6 tt (first_zero _ _ in_front));
            whole = equal_holds (length b) (book_length h) 6 tt (later_zero _ _ after_size);
            offsets = λ i below. equal_holds _ (offset_of h i) 6 tt (first_of_each h.count _ (first_zero _ _ after_front) i below);
          };
      labels_rise = rising 14 h.count (table_in b) (first_zero _ _ after_table);
      keys_below = test_holds (all_below h.q (fields_in b).keys) 3 tt (later_zero _ _ after_table);
    }

not_refused_by : (b : List ℕ) → Accepted b → book_refusal b ≡ 0
unfolding book_refusal front_refusal offsets_refusal offset_refusal
not_refused_by b k =
    let h = front_in b in
    let l = k.laid_out in
    both_zero _ _
    (both_zero _ _ (unless_holds _ 6 (le-leb 7 (length b) l.size))
    (both_zero _ _ (right_values h k.count_value k.sizes_value) (unless_holds _ 6 (eq-eqb (length b) (book_length h) l.whole))))
    (both_zero _ _ (first_of_none h.count _ (λ i below. unless_holds _ 6 (eq-eqb _ (offset_of h i) (l.offsets i below))))
    (both_zero _ _ (none_refused 14 h.count (table_in b) k.labels_rise) (unless_holds _ 3 k.keys_below)))

-- ---- its fields

pub valid_fields : (b : List ℕ) → book_refusal b ≡ 0 → Valid (fields_in b)
unfolding fields_in
valid_fields b none =
    let k = accepted b none in
    let h = front_in b in
    let s = sizes h.q h.n h.m k.sizes_value in
    let r = rising_same h.count (label_at 14 (table_in b)) (label_of (fields_in b).labels) (label_read b k.laid_out) k.labels_rise in
    record {
      count_value = k.count_value;
      q_value = s.q_is_field;
      n_value = (s.n_low, s.n_high);
      m_value = (s.m_low, s.m_high);
      labels_length = labels_size b k.laid_out;
      keys_length = keys_size b k.laid_out;
      each_label = r.each;
      rising = r.next;
      key_elements = all_below_at h.q (fields_in b).keys k.keys_below;
    }

-- ---- the book of fields

offset_small : (h : Front) (i : ℕ) → h.count ≤ 2000 → h.m ≤ 96 → i < h.count → offset_of h i < 4294967296
unfolding offset_of
offset_small h i count m below = let low : i ≤ 2000 = omega (arith, count, below) in let bound : i * h.m ≤ 2000 * 96 = mul-le-mul low m in omega (arith, count, bound)

seven_or_more : (n : ℕ) (h : Front) → n ≡ book_length h → 7 ≤ n
unfolding book_length offset_of
seven_or_more n h whole = omega (arith, whole)

pub written_accepted : (f : Fields) → Valid f → book_refusal (written f) ≡ 0
written_accepted f v =
    let few = v.count_value in
    let small : f.front.count < 4294967296 = omega (arith, few) in
    let h = f.front in
    let front = front_written f v.labels_length small in
    let fields = fields_written f v.labels_length small in
    not_refused_by (written f)
    (record {
      count_value = rw front few;
      sizes_value = subst (λ (g : Front). are_sizes g.q g.n g.m ≡ true) (sym front) (sizes_true h.q h.n h.m v.q_value v.n_value v.m_value);
      laid_out =
          record {
            size = seven_or_more (length (written f)) h (length-written f v.labels_length v.keys_length);
            whole = length-written f v.labels_length v.keys_length ∙ ap book_length (sym front);
            offsets =
                subst (λ (g : Front). (i : ℕ) → i < g.count → number (take 4 (drop 10 (piece 14 i (table_in (written f))))) ≡ offset_of g i) (sym front)
                (λ i below. offset_written f v.labels_length small i below (offset_small h i few v.m_value.1 below));
          };
      labels_rise =
          subst (λ (g : Front). Rising g.count (label_at 14 (table_in (written f)))) (sym front)
          (rising_same h.count (label_of f.labels) (label_at 14 (table_in (written f))) (λ i below. sym (label_written f v.labels_length small i below))
          (record { each = v.each_label; next = v.rising }));
      keys_below =
          subst (λ (g : Front). all_below g.q (fields_in (written f)).keys ≡ true) (sym front)
          (subst (λ (g : Fields). all_below h.q g.keys ≡ true) (sym fields) (at_all_below h.q f.keys v.key_elements));
    })

-- ---- the claims

-- "a book is refused exactly when it is not well-formed", for all bytes
pub well_formed : (b : List ℕ) → Bytes b → (book_refusal b ≡ 0) ↔ WellFormedBook b
well_formed b bytes = (
  λ none. record { fields = fields_in b; valid = valid_fields b none; laid_out = sym (written_fields b (accepted b none).laid_out bytes) },
  λ w. ap book_refusal w.laid_out ∙ written_accepted w.fields w.valid,
)

-- no number is above 13
pub refusal_most : (b : List ℕ) → book_refusal b ≤ 13
unfolding book_refusal front_refusal values_refusal offsets_refusal offset_refusal labels_refusal label_refusal
refusal_most b =
    or_else_most _ _ 13 (or_else_most _ _ 13 (unless_most _ 6 13 tt) (or_else_most _ _ 13 (or_else_most _ _ 13 (unless_most _ 6 13 tt) (unless_most _ 1 13 tt)) (unless_most _ 6 13 tt)))
    (or_else_most _ _ 13 (first_of_most _ 13 _ (λ i. unless_most _ 6 13 tt))
    (or_else_most _ _ 13 (first_of_most _ 13 _ (λ i. or_else_most _ _ 13 (unless_most _ 12 13 tt) (unless_most _ 13 13 tt))) (unless_most _ 3 13 tt)))
