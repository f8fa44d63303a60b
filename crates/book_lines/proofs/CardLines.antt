-- How long labels and keys are, and the text of a book by its refusal. Assumes nothing.
use Prim.Native.Nat.{ℕ, ◌+◌, ◌*◌, ◌≤◌}
use native.Mathlib.Numerals.{add-one}
use mathlib.Core.Path.{◌≡◌, refl}
use mathlib.Core.List.{List, [], ◌++◌}
use lib.ListN.{length}
use Rattle.slices.specs.Slices.{joined}
use Rattle.slices.proofs.Parts.{part_most}
use Rattle.system.proofs.SystemLayout.{sizes}
use Rattle.book_form.specs.declared.layout.Front.{Front}
use Rattle.book_form.specs.Book.{key_of, front_in}
use Rattle.book_form.specs.Labels.{label_at}
use Rattle.book_reader.specs.Reader.{book_refusal}
use Rattle.book_reader.proofs.WellFormed.{accepted}
use Rattle.book_lines.specs.BookLines.{sizes_line, card_of, book_text}

pub label_short : (p table : List ℕ) (i : ℕ) → p ≡ label_at 14 table i → length p ≤ 10
unfolding label_at
label_short p table i is = part_most table p (i * 14) 10 is

pub key_short : (p keys : List ℕ) (h : Front) (i : ℕ) → p ≡ key_of h keys i → length p ≤ h.m
unfolding key_of
key_short p keys h i is = part_most keys p (i * h.m) h.m is

-- a book that is not refused has few cards and short keys
pub few_cards : (b : List ℕ) → book_refusal b ≡ 0 → (front_in b).count ≤ 2000
few_cards b none = (accepted b none).count_value

pub short_keys : (b : List ℕ) → book_refusal b ≡ 0 → (front_in b).m ≤ 96
short_keys b none = let h = front_in b in (sizes h.q h.n h.m (accepted b none).sizes_value).m_high

-- ---- the text

pub cards_text : (b : List ℕ) → book_refusal b ≡ 0 → sizes_line (front_in b) ++ joined (front_in b).count (card_of b) ≡ book_text b
unfolding book_text
cards_text b none = simp none

-- ---- one card more

pub no_cards : (f : ℕ → List ℕ) → joined 0 f ≡ []
unfolding joined
no_cards f = refl

pub one_more : (n : ℕ) (f : ℕ → List ℕ) → joined (n + 1) f ≡ joined n f ++ f n
unfolding joined
one_more n f = rw (add-one n) refl

-- what the loop over the cards wants
pub ruleset cards = (no_cards, one_more, few_cards, short_keys)
