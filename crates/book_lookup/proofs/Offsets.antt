-- Where the key of a card stands: m bytes from the offset in its entry on. Assumes nothing.
use Prim.Native.Nat.{ℕ, ◌+◌, ◌*◌, ◌<◌}
use mathlib.Core.Path.{◌≡◌, sym, ap, ◌∙◌}
use native.Mathlib.Omega.{arith}
use lib.ListN.{take, drop}
use lib.Seq.{drop-drop}
use Rattle.book_form.specs.declared.layout.Front.{Front}
use Rattle.book_form.specs.Book.{offset_of, key_of, Fields, written, fields_in, Valid}
use Rattle.book_form.proofs.BookLayout.{front_written, fields_written}

module _ (f : Fields) (v : Valid f) where
  few : f.front.count < 4294967296
  few = omega (arith, v.count_value)

  keys_behind : drop (7 + f.front.count * 14) (written f) ≡ f.keys
  unfolding fields_in
  keys_behind =
      ap (λ (h : Front). drop (7 + h.count * 14) (written f)) (sym (front_written f v.labels_length few)) ∙
      ap (λ (g : Fields). g.keys) (fields_written f v.labels_length few)

  pub key_at_offset : (i : ℕ) → take f.front.m (drop (offset_of f.front i) (written f)) ≡ key_of f.front f.keys i
  unfolding offset_of key_of
  key_at_offset i =
      ap (take f.front.m)
      (ap (λ (k : ℕ). drop k (written f)) (omega arith) ∙ sym (drop-drop (i * f.front.m) (7 + f.front.count * 14) (written f)) ∙ ap (drop (i * f.front.m)) keys_behind)
