-- Where the labels of a table stand below another, and the card that the search ends at. Assumes nothing.
use Prim.Native.Nat.{ℕ, zero, suc, ◌+◌, ◌*◌, ◌/◌, ◌≤◌, ◌<◌}
use mathlib.Core.Path.{◌≡◌, refl, sym, ap, ap₂, subst, ◌∙◌}
use mathlib.Core.Bool.{Bool, true, false, false≢true}
use mathlib.Core.Logic.{⊎_elim}
use mathlib.Core.List.{List, []}
use native.Mathlib.Nat.{not-suc-le-zero, eq-or-lt_of_le, le_of_suc-le-suc}
use native.Mathlib.Decide.{dec_lt}
use native.Mathlib.Omega.{arith}
use lib.ListN.{length, take, drop, get_or}
use lib.Seq.{take-take, drop-drop}
use Rattle.std.specs.Simd.{first_chunks}
use Rattle.std.specs.Bool.{then_some}
use Rattle.std.specs.List.Sorted.{IsPartitionedBy, IsPartitionPoint}
use Rattle.slices.specs.Slices.{same}
use Rattle.slices.proofs.Sameness.{same_true}
use Rattle.refusal.specs.Refusal.{counted}
use Rattle.refusal.proofs.Search.{none_where, where_found}
use Rattle.label.specs.Label.{Below}
use Rattle.label.specs.Tests.{is_below}
use Rattle.label.proofs.Labels.{below, is_below_lem, below_ten}
use Rattle.label.proofs.Order.{below_trans, not_below_itself}
use Rattle.book_form.specs.Labels.{label_at, labels_refusal}
use Rattle.book_form.specs.Book.{front_in, table_in}
use Rattle.book_form.proofs.BookLayout.{table_size}
use Rattle.book_form.proofs.Rising.{Rising, rising, none_refused, below_later}
use Rattle.book_reader.specs.Reader.{book_refusal}
use Rattle.book_reader.proofs.WellFormed.{accepted}
use Rattle.book_lookup.specs.Lookup.{place_in, LowerBound}

-- ---- the entries of a table

-- whether an entry's label stands below another
abbrev pub entry_below : List ℕ → List ℕ → Bool
entry_below label entry = is_below (take 10 entry) label

entry_at : (t : List ℕ) (k i : ℕ) (d : List ℕ) → i < k → get_or (first_chunks 14 k t) i d ≡ take 14 (drop (i * 14) t)
entry_at t zero i d h = absurd (not-suc-le-zero h)
entry_at t (suc k) zero d h = refl
entry_at t (suc k) (suc i) d h =
    let next : i * 14 + 14 ≡ suc i * 14 = omega arith in
    entry_at (drop 14 t) k i d (le_of_suc-le-suc h) ∙ ap (take 14) (drop-drop (i * 14) 14 t) ∙ ap (λ (n : ℕ). take 14 (drop n t)) (omega arith)

pub label_entry : (t : List ℕ) (k i : ℕ) (d : List ℕ) → i < k → take 10 (get_or (first_chunks 14 k t) i d) ≡ label_at 14 t i
unfolding label_at
label_entry t k i d h = ap (take 10) (entry_at t k i d h) ∙ take-take 10 14 (drop (i * 14) t) (omega arith)

length-entries : (k : ℕ) (t : List ℕ) → length (first_chunks 14 k t) ≡ k
length-entries zero t = refl
length-entries (suc k) t = ap suc (length-entries k (drop 14 t))

module _ (table : List ℕ) (count : ℕ) (label : List ℕ) (none : labels_refusal 14 count table ≡ 0) where
  rises : Rising count (label_at 14 table)
  rises = rising 14 count table none

  -- a card's label stands below if a later one's does
  below_earlier : (i j : ℕ) → i ≤ j → j < count → is_below (label_at 14 table j) label ≡ true → is_below (label_at 14 table i) label ≡ true
  below_earlier i j h k e =
      ⊎_elim (λ (same : i ≡ j). rw same e)
      (λ (less : i < j).
      is_below_lem (label_at 14 table i) label (rises.each i (omega (arith, less, k))).ten_bytes (below_ten (label_at 14 table j) label e).1
      (below_trans (label_at 14 table i) (label_at 14 table j) label (below_later count (label_at 14 table) rises i j less k) (below (label_at 14 table j) label e)))
      (eq-or-lt_of_le h)

  abbrev pub entries : List (List ℕ)
  entries = first_chunks 14 count table

  -- the labels before some place stand below, and no later one does
  pub parted : IsPartitionedBy (entry_below label) entries
  parted i j d h k e =
      let below : j < count = rw (length-entries count table) at k in
      let label_j = label_entry table count j d below in
      let label_i = label_entry table count i d (omega (arith, h, below)) in
      rw label_i (below_earlier i j h below (rw label_j at e))

  pub bound : (place : ℕ) → place ≤ length entries → IsPartitionPoint (λ e. entry_below label e ≡ true) (λ e. entry_below label e ≡ false) entries place → LowerBound table count label place
  bound place within (before, behind) =
      let all = length-entries count table in
      let inside : place ≤ count = rw all at within in
      record {
        within = inside;
        before = λ i h. rw (label_entry table count i [] (omega (arith, h, inside))) at (before i [] (omega arith) h);
        behind = λ i from below. rw (label_entry table count i [] below) at (behind i [] from (rw all below));
      }

  -- ---- the card at the bound

  -- a label that stands below is another
  other : (i : ℕ) → is_below (label_at 14 table i) label ≡ true → same (label_at 14 table i) label ≡ false
  other i e = go (same (label_at 14 table i) label) refl
    where
      go : (t : Bool) → same (label_at 14 table i) label ≡ t → same (label_at 14 table i) label ≡ false
      go true is = absurd (not_below_itself label (subst (λ (l : List ℕ). Below l label) (same_true (label_at 14 table i) label is) (below (label_at 14 table i) label e)))
      go false differs = differs

  -- so is one behind a label that does not
  other_behind : (i j : ℕ) → i < j → j < count → is_below (label_at 14 table i) label ≡ false → same (label_at 14 table j) label ≡ false
  other_behind i j h k e = go (same (label_at 14 table j) label) refl
    where
      go : (t : Bool) → same (label_at 14 table j) label ≡ t → same (label_at 14 table j) label ≡ false
      go true is =
          let there = same_true (label_at 14 table j) label is in
          let first = (rises.each i (omega (arith, h, k))).ten_bytes in
          let ten = ap length (sym there) ∙ (rises.each j k).ten_bytes in
          let lower = subst (λ (l : List ℕ). Below (label_at 14 table i) l) there (below_later count (label_at 14 table) rises i j h k) in
          absurd (false≢true (sym e ∙ is_below_lem (label_at 14 table i) label first ten lower))
      go false differs = differs

  pub place_found : (r : ℕ) (t : Bool) → LowerBound table count label r → r < count → t ≡ same (label_at 14 table r) label → t ≡ true → r + 1 ≡ place_in table count label
  unfolding place_in
  place_found r t b h is holds =
      sym (where_found count (λ i. same (label_at 14 table i) label) r (record { within = h; holds = sym is ∙ holds; before = λ i below. other i (b.before i below) }))

  pub place_none : (r : ℕ) → LowerBound table count label r → (r < count → same (label_at 14 table r) label ≡ false) → 0 ≡ place_in table count label
  unfolding place_in
  place_none r b differs =
      sym (none_where count (λ i. same (label_at 14 table i) label) (λ i h.
      elim (dec_lt i r) [
        | yes earlier ↦ other i (b.before i earlier)
        | no not_earlier ↦
            let from : r ≤ i = omega (arith, not_earlier) in
            ⊎_elim (λ (here : r ≡ i). subst (λ (k : ℕ). same (label_at 14 table k) label ≡ false) here (differs (omega (arith, here, h))))
            (λ (later : r < i). other_behind r i later h (b.behind r (omega arith) (omega (arith, later, h)))) (eq-or-lt_of_le from)
      ]))

  -- the place of the card at the bound, where it has the label
  pub place_at : (place : ℕ) (t : Bool) → LowerBound table count label place → place < count → t ≡ same (label_at 14 table place) label →
      counted (then_some t place) ≡ place_in table count label
  place_at place true b h is = place_found place true b h is refl
  place_at place false b h is = place_none place b (λ below. sym is)

-- ---- a book that is not refused

pub labels_rise : (b : List ℕ) → book_refusal b ≡ 0 → labels_refusal 14 (front_in b).count (table_in b) ≡ 0
labels_rise b none = none_refused 14 (front_in b).count (table_in b) (accepted b none).labels_rise

-- its table as chunks
pub entries_of : (b t : List ℕ) (es : List (List ℕ)) → book_refusal b ≡ 0 → t ≡ table_in b → es ≡ first_chunks 14 (length t / 14) t →
    (es ≡ first_chunks 14 (front_in b).count (table_in b)) × (length es ≡ (front_in b).count) × (length es ≤ 2000)
entries_of b t es none table chunks =
    let k = accepted b none in
    let size = ap length table ∙ table_size b k.laid_out in
    let whole : length t / 14 ≡ (front_in b).count = omega (arith, size) in
    let is = chunks ∙ ap₂ (first_chunks 14) whole table in
    let long = ap length is ∙ length-entries (front_in b).count (table_in b) in
    (is, long, omega (arith, long, k.count_value))
