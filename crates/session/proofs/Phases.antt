-- Phases by their numbers, and the next call in a round's order. Assumes nothing.
use Prim.Native.Nat.{ℕ, zero, suc}
use mathlib.Core.Path.{◌≡◌, refl, sym, ap, ◌∙◌}
use mathlib.Core.List.{List}
use native.Mathlib.Omega.{arith}
use Rattle.session_state.specs.declared.Verdict.{Verdict}
use Rattle.session_state.specs.declared.Verdict.TheVariants.{None, Accepted, Rejected}
use Rattle.card_state.specs.declared.session.CardPhase.{CardPhase}
use Rattle.card_state.specs.declared.session.CardPhase.TheVariants as CardPhases
use Rattle.card_state.specs.Card as CardCalls
use Rattle.carrier_state.specs.declared.session.CarrierPhase.{CarrierPhase}
use Rattle.carrier_state.specs.declared.session.CarrierPhase.TheVariants as CarrierPhases
use Rattle.carrier_state.specs.Carrier as CarrierCalls
use Rattle.session.specs.Histories.{Next, here, later}

-- ---- an open phase is told by its number

card_phase : ℕ → CardPhase
card_phase zero = CardPhases.Closed None
card_phase (suc zero) = CardPhases.Commit
card_phase (suc (suc zero)) = CardPhases.AnswerAlpha
card_phase (suc (suc (suc k))) = CardPhases.Reply

card_phase_back : (p : CardPhase) → (CardCalls.phase_number p ≡ 0 → ⊥) → card_phase (CardCalls.phase_number p) ≡ p
unfolding card_phase CardCalls.phase_number
card_phase_back (CardPhases.Closed verdict) nonzero = absurd (nonzero refl)
card_phase_back CardPhases.Commit nonzero = refl
card_phase_back CardPhases.AnswerAlpha nonzero = refl
card_phase_back CardPhases.Reply nonzero = refl

pub same_card_phase : (p q : CardPhase) → (CardCalls.phase_number q ≡ 0 → ⊥) → CardCalls.phase_number p ≡ CardCalls.phase_number q → p ≡ q
same_card_phase p q nonzero e = sym (card_phase_back p (λ none. nonzero (sym e ∙ none))) ∙ ap card_phase e ∙ card_phase_back q nonzero

carrier_phase : ℕ → CarrierPhase
carrier_phase zero = CarrierPhases.Closed None
carrier_phase (suc zero) = CarrierPhases.TakeCommitments
carrier_phase (suc (suc zero)) = CarrierPhases.SetAlpha
carrier_phase (suc (suc (suc zero))) = CarrierPhases.TakeMiddle
carrier_phase (suc (suc (suc (suc zero)))) = CarrierPhases.SetChallenge
carrier_phase (suc (suc (suc (suc (suc k))))) = CarrierPhases.TakeReply

carrier_phase_back : (p : CarrierPhase) → (CarrierCalls.phase_number p ≡ 0 → ⊥) → carrier_phase (CarrierCalls.phase_number p) ≡ p
unfolding carrier_phase CarrierCalls.phase_number
carrier_phase_back (CarrierPhases.Closed verdict) nonzero = absurd (nonzero refl)
carrier_phase_back CarrierPhases.TakeCommitments nonzero = refl
carrier_phase_back CarrierPhases.SetAlpha nonzero = refl
carrier_phase_back CarrierPhases.TakeMiddle nonzero = refl
carrier_phase_back CarrierPhases.SetChallenge nonzero = refl
carrier_phase_back CarrierPhases.TakeReply nonzero = refl

pub same_carrier_phase : (p q : CarrierPhase) → (CarrierCalls.phase_number q ≡ 0 → ⊥) → CarrierCalls.phase_number p ≡ CarrierCalls.phase_number q → p ≡ q
same_carrier_phase p q nonzero e = sym (carrier_phase_back p (λ none. nonzero (sym e ∙ none))) ∙ ap carrier_phase e ∙ carrier_phase_back q nonzero

-- ---- accepted is not rejected

verdict_number : Verdict → ℕ
verdict_number None = 0
verdict_number Accepted = 1
verdict_number Rejected = 2

closed_number : CarrierPhase → ℕ
closed_number (CarrierPhases.Closed verdict) = verdict_number verdict
closed_number CarrierPhases.TakeCommitments = 0
closed_number CarrierPhases.SetAlpha = 0
closed_number CarrierPhases.TakeMiddle = 0
closed_number CarrierPhases.SetChallenge = 0
closed_number CarrierPhases.TakeReply = 0

pub not_both : CarrierPhases.Closed Accepted ≡ CarrierPhases.Closed Rejected → ⊥
unfolding closed_number verdict_number
not_both e = absurd (omega (arith, ap closed_number e))

-- ---- one call is next

pub next_unique : {A : Type 0} {Made : A → Type 0} (order : List A) (a b : A) → Next Made order a → Next Made order b → a ≡ b
next_unique order a b (here c cs new) (here d ds new') = refl
next_unique order a b (here c cs new) (later d e ds made n) = absurd (new made)
next_unique order a b (later c e cs made n) (here d ds new) = absurd (new made)
next_unique order a b (later c e cs made n) (later d f ds made' n') = next_unique cs e f n n'
