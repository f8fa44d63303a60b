-- The numbers with which an audit is refused before its rounds are judged. Assumes nothing.
use Prim.Native.Nat.{ℕ, zero, suc}
use mathlib.Core.Path.{◌≡◌, refl}
use mathlib.Core.Bool.{Bool}
use mathlib.Core.Logic.{◌⊎◌, inl, inr}
use mathlib.Core.List.{List}
use native.Mathlib.Omega.{arith}
use lib.Dec.{eqb}
use Rattle.slices.proofs.Booleans.{either}
use Rattle.refusal.specs.Refusal.{unless, ◌or_else◌, first_of}
use Rattle.scheme.specs.declared.Scheme.{Scheme}
use Rattle.scheme.specs.declared.Scheme.TheVariants.{ThreePass, FivePass}
use Rattle.system.specs.System.{system_refusal}
use Rattle.record_form.specs.declared.layout.Header.{Header}
use Rattle.record_form.specs.declared.form.Check.TheVariants.{FileOrder}
use Rattle.record_form.specs.Form.{exchange_refusal, exchanges_refusal}
use Rattle.record.specs.Reader.{record_refusal}
use Rattle.transcript.specs.Transcript.{fit_refusal}
use Rattle.comparable.specs.Comparable.{audited_refusal, difference_refusal, of_fourth, comparable_refusal}
use Rattle.findings.specs.Findings.{other_numbers, OneOf}

-- ---- each number

abbrev Number : ℕ → Type 0
Number = OneOf other_numbers

one : Number 1
one = record { place = 0; inside = omega arith; is = refl }

two : Number 2
two = record { place = 1; inside = omega arith; is = refl }

three : Number 3
three = record { place = 2; inside = omega arith; is = refl }

four : Number 4
four = record { place = 3; inside = omega arith; is = refl }

six : Number 6
six = record { place = 4; inside = omega arith; is = refl }

seven : Number 7
seven = record { place = 5; inside = omega arith; is = refl }

-- no round has a full set
pub nine : Number 9
nine = record { place = 6; inside = omega arith; is = refl }

-- ---- none, or one of them

abbrev Known : ℕ → Type 0
Known x = (x ≡ 0) ⊎ Number x

unless_known : (test : Bool) (k : ℕ) → Number k → Known (unless test k)
unfolding unless
unless_known test k is = either Known test 0 k (inl refl) (inr is)

or_else_known : (a b : ℕ) → Known a → Known b → Known (a or_else b)
unfolding ◌or_else◌
or_else_known a b ha hb = either Known (eqb a 0) b a hb ha

first_of_known : (n : ℕ) (refusal : ℕ → ℕ) → ((i : ℕ) → Known (refusal i)) → Known (first_of n refusal)
unfolding first_of
first_of_known zero refusal each = inl refl
first_of_known (suc n) refusal each = or_else_known _ _ (first_of_known n refusal each) (each n)

some_number : (x : ℕ) → (x ≡ 0 → ⊥) → Known x → Number x
some_number x some (inl none) = absurd (some none)
some_number x some (inr is) = is

-- ---- each check

system_known : (system : List ℕ) → Known (system_refusal system)
unfolding system_refusal
system_known system =
    or_else_known _ _ (unless_known _ 2 two) (or_else_known _ _ (unless_known _ 1 one) (or_else_known _ _ (unless_known _ 2 two) (unless_known _ 3 three)))

exchange_known : (h : Header) (x : List ℕ) → Known (exchange_refusal FileOrder h x)
unfolding exchange_refusal
exchange_known h x = or_else_known _ _ (unless_known _ 3 three) (or_else_known _ _ (unless_known _ 4 four) (unless_known _ 3 three))

exchanges_known : (h : Header) (exchanges : List ℕ) → Known (exchanges_refusal FileOrder h exchanges)
unfolding exchanges_refusal
exchanges_known h exchanges = first_of_known h.rounds _ (λ r. exchange_known h _)

record_known : (b : List ℕ) → Known (record_refusal b)
unfolding record_refusal
record_known b =
    or_else_known _ _ (unless_known _ 6 six)
    (or_else_known _ _ (unless_known _ 6 six)
    (or_else_known _ _ (unless_known _ 1 one)
    (or_else_known _ _ (unless_known _ 1 one)
    (or_else_known _ _ (unless_known _ 6 six)
    (or_else_known _ _ (unless_known _ 6 six) (or_else_known _ _ (unless_known _ 3 three) (exchanges_known _ _)))))))

audited_known : (scheme : Scheme) (b : List ℕ) → Known (audited_refusal scheme b)
unfolding audited_refusal
audited_known scheme b = or_else_known _ _ (record_known b) (unless_known _ 1 one)

fit_known : (system b : List ℕ) → Known (fit_refusal system b)
unfolding fit_refusal
fit_known system b = unless_known _ 7 seven

difference_known : (a b : List ℕ) → Known (difference_refusal a b)
unfolding difference_refusal
difference_known a b = or_else_known _ _ (unless_known _ 7 seven) (or_else_known _ _ (unless_known _ 7 seven) (unless_known _ 7 seven))

fourth_known : (scheme : Scheme) (k : ℕ) → Known k → Known (of_fourth scheme k)
unfolding of_fourth
fourth_known ThreePass k is = inl refl
fourth_known FivePass k is = is

comparable_known : (scheme : Scheme) (system a b c d : List ℕ) → Known (comparable_refusal scheme system a b c d)
unfolding comparable_refusal
comparable_known scheme system a b c d =
    or_else_known _ _ (system_known system)
    (or_else_known _ _ (audited_known scheme a)
    (or_else_known _ _ (audited_known scheme b)
    (or_else_known _ _ (audited_known scheme c)
    (or_else_known _ _ (fourth_known scheme _ (audited_known scheme d))
    (or_else_known _ _ (fit_known system a)
    (or_else_known _ _ (difference_known a b) (or_else_known _ _ (difference_known a c) (fourth_known scheme _ (difference_known a d)))))))))

-- what is refused there is refused with one of these numbers
pub comparable_number : (scheme : Scheme) (system a b c d : List ℕ) → (comparable_refusal scheme system a b c d ≡ 0 → ⊥) →
    Number (comparable_refusal scheme system a b c d)
comparable_number scheme system a b c d some = some_number _ some (comparable_known scheme system a b c d)
