-- How the rows of the triangle of monomials are filled, one after the other, and then the linear part. Assumes nothing.
use Prim.Native.Nat.{ℕ, ◌+◌, ◌-◌, ◌≤◌, ◌<◌}
use mathlib.Core.Path.{◌≡◌, ap, ap₂, ◌∙◌}
use mathlib.Core.Logic.{⊎_elim}
use mathlib.Core.List.{List}
use native.Mathlib.Nat.{eq-or-lt_of_le, le_of_suc-le-suc}
use native.Mathlib.Numerals.{add-one}
use native.Mathlib.Omega.{arith}
use lib.ListN.{length, take, drop}
use borrow.Rule.Slice.PartMut.{put_mid}
use Rattle.slices.specs.Slices.{◌!◌, tabulate}
use Rattle.slices.proofs.Parts.{part_at, put_before, put_inside}
use Rattle.slices.proofs.Tabulate.{length-tabulate, tabulate_at}
use Rattle.field.specs.Ops.{Ops}
use Rattle.system.specs.System.{triangle}
use Rattle.polynomials.specs.Monomials.{monomial, Monomials}
use Rattle.system.proofs.SystemLayout.{triangle_next}

-- the rows before i are filled
abbrev pub Rows : Ops → ℕ → ℕ → List ℕ → List ℕ → List ℕ → List ℕ → Type 0
Rows o n i x y z row = (j d : ℕ) → j < i → d < n - j → row ! (triangle n j + d) ≡ monomial o x y z j (j + d)

-- what stands before row i stays, when a part from there on is replaced
stays : (o : Ops) (n i k : ℕ) (x y z row part : List ℕ) → triangle n i ≤ length row → Rows o n i x y z row → Rows o n i x y z (put_mid (triangle n i) k row part)
stays o n i k x y z row part within rows j d h l =
    put_before (triangle n i) k row part (triangle n j + d) within (omega (arith, triangle_next n j i h)) ∙ rows j d h l

-- row i, as the code combines it from the parts of y and x that start at i
abbrev pub combined : Ops → ℕ → ℕ → List ℕ → List ℕ → List ℕ → ℕ → ℕ
combined o n i x y z d = o.add (o.mul (x ! i) (take (n - i) (drop i y) ! d)) (o.mul (z ! i) (take (n - i) (drop i x) ! d))

filled_row : (o : Ops) (n i k : ℕ) (x y z row part : List ℕ) → triangle n i ≤ length row → (len : ℕ) → len ≡ n - i →
    part ≡ tabulate len (combined o n i x y z) → (d : ℕ) → d < n - i → put_mid (triangle n i) k row part ! (triangle n i + d) ≡ monomial o x y z i (i + d)
filled_row o n i k x y z row part within len e filled d h =
    put_inside (triangle n i) k row part d within (rw (filled, length-tabulate, e) h) ∙
    ap (λ (l : List ℕ). l ! d) filled ∙
    tabulate_at len (combined o n i x y z) d (rw e h) ∙
    ap₂ (λ (a b : ℕ). o.add (o.mul (x ! i) a) (o.mul (z ! i) b)) (part_at y i n d h) (part_at x i n d h)

pub rows_step : (o : Ops) (n i at k : ℕ) (x y z row part : List ℕ) → at ≡ triangle n i → at ≤ length row → Rows o n i x y z row →
    (end : ℕ) → end ≡ n → (len : ℕ) → len ≡ n - i → part ≡ tabulate len (combined o end i x y z) → Rows o n (i + 1) x y z (put_mid at k row part)
rows_step o n i at k x y z row part start within rows end whole len e combines j d h l =
    let filled = rw whole at combines in
    let inside : triangle n i ≤ length row = rw (← start) within in
    rw start
    (⊎_elim (λ (same : j ≡ i). rw same (filled_row o n i k x y z row part inside len e filled d (rw (← same) l)))
    (λ (less : j < i). stays o n i k x y z row part inside rows j d less l)
    (eq-or-lt_of_le (le_of_suc-le-suc (rw add-one at h))))

pub rows_end : (o : Ops) (n at k : ℕ) (x y z t row part : List ℕ) → at ≡ triangle n n → at ≤ length row → Rows o n n x y z row →
    n ≤ length part → ((i : ℕ) → i < n → part ! i ≡ t ! i) → Monomials o n x y z t (put_mid at k row part)
rows_end o n at k x y z t row part start within rows long linear =
    record {
      quadratic_part = λ j d h l. rw start (stays o n n k x y z row part (rw (← start) within) rows j d h l);
      linear_part = λ i h. rw start (put_inside (triangle n n) k row part i (rw (← start) within) (omega arith) ∙ linear i h);
    }
