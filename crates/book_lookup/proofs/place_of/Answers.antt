-- The card at the bound has the label, or none has. Assumes nothing.
use Prim.Native.Nat.{ℕ, ◌≤◌, ◌<◌}
use mathlib.Core.Path.{◌≡◌, ap, ◌∙◌}
use mathlib.Core.Bool.{true, false}
use mathlib.Core.List.{List, []}
use native.Mathlib.Omega.{arith}
use lib.ListN.{length, take, get_or}
use Rattle.std.specs.Prelude.{None}
use Rattle.std.specs.List.Sorted.{IsPartitionedBy, IsPartitionPoint}
use Rattle.std.specs.Simd.{first_chunks}
use Rattle.std.proofs.Common.{rules}
use Rattle.std.proofs.lemmas.List.Sorted.{IsPartitionPoint-from_clause}
use Rattle.slices.specs.Slices.{same}
use Rattle.refusal.specs.Refusal.{counted}
use Rattle.book_form.specs.Book.{front_in, table_in}
use Rattle.book_reader.specs.Reader.{book_refusal}
use Rattle.book_lookup.specs.Lookup.{LowerBound}
use Rattle.book_lookup.proofs.Search.{entry_below, label_entry, parted, bound, place_none, place_at, labels_rise, entries_of}
use Rattle.book_lookup.proofs.place_of.Goals as goal

-- the place of the search, in the table of a book
bound_in : (b label : List ℕ) (es : List (List ℕ)) (place : ℕ) (good : book_refusal b ≡ 0) → es ≡ first_chunks 14 (front_in b).count (table_in b) → place ≤ length es →
    (IsPartitionedBy (entry_below label) es → IsPartitionPoint (λ e. entry_below label e ≡ true) (λ e. entry_below label e ≡ false) es place) →
    LowerBound (table_in b) (front_in b).count label place
bound_in b label es place good is =
    rw is (λ within clause. bound (table_in b) _ label (labels_rise b good) place within (clause (parted (table_in b) _ label (labels_rise b good))))

pub returns-in_err-entry : goal.returns-in_err-entry
returns-in_err-entry c =
    let none : c.from_residual.result ≡ None = search rules in
    let beyond : length c.as_chunks.result.0.now ≤ c.partition_point-place.result = search rules in
    let es = entries_of _ _ _ c.args.book.now.well_formed c.table_of.ensures c.as_chunks.ensures.front in
    let b = bound_in c.args.book.now.bytes.now c.args.label.now _ _ c.args.book.now.well_formed es.0 c.partition_point-place.ensures.bound
    (λ parted. IsPartitionPoint-from_clause (entry_below c.args.label.now) _ _ c.partition_point-place.ensures.partitioned parted (λ a r q k. search rules)) in
    ap counted none ∙ place_none _ _ _ (labels_rise c.args.book.now.bytes.now c.args.book.now.well_formed) _ b (λ below. absurd (omega (arith, beyond, below, es.1)))

pub overflow_cast-place : goal.overflow_cast-place
overflow_cast-place c =
    let es = entries_of _ _ _ c.args.book.now.well_formed c.table_of.ensures c.as_chunks.ensures.front in
    omega (arith, es.2, c.partition_point-place.ensures.bound)

pub returns : goal.returns
returns c =
    let inside : c.partition_point-place.result < length c.as_chunks.result.0.now = search rules in
    let is : c.in_ok-entry.entry.now ≡ get_or c.as_chunks.result.0.now c.partition_point-place.result [] = search rules in
    let es = entries_of _ _ _ c.args.book.now.well_formed c.table_of.ensures c.as_chunks.ensures.front in
    let below : c.partition_point-place.result < (front_in c.args.book.now.bytes.now).count = omega (arith, inside, es.1) in
    let b = bound_in c.args.book.now.bytes.now c.args.label.now _ _ c.args.book.now.well_formed es.0 c.partition_point-place.ensures.bound
    (λ parted. IsPartitionPoint-from_clause (entry_below c.args.label.now) _ _ c.partition_point-place.ensures.partitioned parted (λ a r q k. search rules)) in
    let label = ap (take 10) is ∙ ap (λ (l : List (List ℕ)). take 10 (get_or l c.partition_point-place.result [])) es.0 ∙ label_entry (table_in c.args.book.now.bytes.now) _ _ [] below in
    ap counted c.then_some.ensures ∙
    place_at _ _ _ (labels_rise c.args.book.now.bytes.now c.args.book.now.well_formed) _ _ b below (c.equal.ensures ∙ ap (λ (l : List ℕ). same l c.args.label.now) label)
