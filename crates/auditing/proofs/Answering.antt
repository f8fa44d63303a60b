-- Outcomes and the answers that hold them. Assumes nothing.
use Prim.Native.Nat.{ℕ}
use mathlib.Core.Path.{◌≡◌, refl, ap, ap₂, ◌∙◌}
use mathlib.Core.List.{List, []}
use Rattle.slices.specs.Slices.{zeros}
use Rattle.commitment.specs.declared.Text.{Text}
use Rattle.commitment.specs.Texts.{text, TextOf}
use Rattle.commitment.proofs.Texts.{content_is}
use Rattle.auditing.specs.declared.Finding.TheVariants.{Secret, Refused}
use Rattle.auditing.specs.declared.Audited.{Audited}
use Rattle.auditing.specs.Outcome.{Outcome, secret, clash, refused, clashed, answer_of, outcome_by, outcome_of, Answers}

-- the same outcome by another name
pub answers_by : (r : Audited) (o p : Outcome) → Answers r o → o ≡ p → Answers r p
answers_by r o p k e = record { is = k.is ∙ ap answer_of e; says = k.says ∙ e }

pub answers_refused : (number whose round : ℕ) (s : List ℕ) (x y : Text) → s ≡ zeros 96 → x ≡ text [] → y ≡ text [] →
    Answers (record { finding = Refused number whose round; secret = s; first = x; second = y }) (refused number whose round)
unfolding answer_of outcome_of outcome_by
answers_refused number whose round s x y no_secret no_first no_second =
    record { is = λ i. record { finding = Refused number whose round; secret = no_secret i; first = no_first i; second = no_second i }; says = refl }

pub answers_secret : (s t : List ℕ) (x y : Text) → s ≡ t → x ≡ text [] → y ≡ text [] →
    Answers (record { finding = Secret; secret = s; first = x; second = y }) (secret t)
unfolding answer_of outcome_of outcome_by
answers_secret s t x y is no_first no_second =
    record { is = λ i. record { finding = Secret; secret = is i; first = no_first i; second = no_second i }; says = ap secret is }

pub answers_clash : (r : Audited) (k : ℕ) (x y : Text) (l m : List ℕ) → r ≡ clashed k x y → TextOf l 0 x → TextOf m 0 y → Answers r (clash k l m)
unfolding answer_of outcome_of outcome_by clashed
answers_clash r k x y l m is first second =
    record {
      is = is ∙ ap₂ (clashed k) first.is second.is;
      says = ap outcome_of is ∙ ap₂ (clash k) (content_is l 0 x first) (content_is m 0 y second);
    }
