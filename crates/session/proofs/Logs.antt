-- What was given by the round: a message that is put stands there, and one that was given stays. Assumes nothing.
use Prim.Native.Nat.{ℕ, ◌+◌, ◌≤◌, ◌<◌}
use mathlib.Core.Path.{◌≡◌, refl, sym, ap, ◌∙◌}
use mathlib.Core.Bool.{Bool, true, false, false≢true}
use mathlib.Core.Option.{Option, some, none}
use native.Mathlib.Omega.{arith}
use native.Mathlib.Nat.{le_refl, lt_of_not-le}
use native.Mathlib.Decide.{dec_le, ℕ_discrete}
use borrow.Author.Tests.{eq-eqb, ne_eqb}
use Rattle.session.specs.Session.{Log, put}

-- ---- a message or none

is_given : {A : Type 0} → Option A → Bool
is_given none = false
is_given (some x) = true

message_or : {A : Type 0} → A → Option A → A
message_or x none = x
message_or x (some y) = y

pub none_given : {A : Type 0} (x : A) → none ≡ some x → ⊥
unfolding is_given
none_given x e = false≢true (ap is_given e)

pub same_message : {A : Type 0} (x y : A) → some x ≡ some y → x ≡ y
unfolding message_or
same_message x y e = ap (message_or x) e

-- ---- logs

-- nothing was given from a round on
abbrev pub Clear : {A : Type 0} → Log A → ℕ → Type 0
Clear log r = (k : ℕ) → r ≤ k → log k ≡ none

-- what was given is still there
abbrev pub Stays : {A : Type 0} → Log A → Log A → Type 0
Stays {A = A} old new = (k : ℕ) (x : A) → old k ≡ some x → new k ≡ some x

pub put_there : {A : Type 0} (log : Log A) (r : ℕ) (x : A) → put log r x r ≡ some x
unfolding put
put_there log r x = rw (eq-eqb r r refl)

pub put_other : {A : Type 0} (log : Log A) (r : ℕ) (x : A) (k : ℕ) → (k ≡ r → ⊥) → put log r x k ≡ log k
unfolding put
put_other log r x k other = rw (ne_eqb k r other)

pub put_stays : {A : Type 0} (log : Log A) (r : ℕ) (x : A) → Clear log r → Stays log (put log r x)
put_stays log r x clear k y e = put_other log r x k (λ same. none_given y (sym (clear k (rw same (le_refl r))) ∙ e)) ∙ e

pub clear_next : {A : Type 0} (log : Log A) (r : ℕ) → Clear log r → Clear log (r + 1)
clear_next log r clear k h = clear k (omega arith)

pub put_clear : {A : Type 0} (log : Log A) (r : ℕ) (x : A) → Clear log r → Clear (put log r x) (r + 1)
put_clear log r x clear k h = put_other log r x k (λ same. absurd (omega arith)) ∙ clear k (omega arith)

pub stays_on : {A : Type 0} (old mid new : Log A) → Stays old mid → Stays mid new → Stays old new
stays_on old mid new first then k x e = then k x (first k x e)

-- a log stays within another where what is put stands there too
pub put_within : {A : Type 0} (log other : Log A) (r : ℕ) (x : A) → Stays log other → other r ≡ some x → Stays (put log r x) other
put_within log other r x within there k y e =
    elim (ℕ_discrete k r) [
      | yes same ↦ ap other same ∙ there ∙ ap some (same_message x y (sym (ap (put log r x) same ∙ put_there log r x) ∙ e))
      | no differs ↦ within k y (sym (put_other log r x k differs) ∙ e)
    ]

-- what was given for a round is given before the first round for which nothing is
pub given_before : {A : Type 0} (log : Log A) (r k : ℕ) (x : A) → Clear log r → log k ≡ some x → k < r
given_before log r k x clear e =
    elim (dec_le r k) [
      | yes h ↦ absurd (none_given x (sym (clear k h) ∙ e))
      | no h ↦ lt_of_not-le h
    ]
